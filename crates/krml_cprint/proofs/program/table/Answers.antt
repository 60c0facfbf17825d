use Rattle.std.proofs.Common.{◌≡◌, ◌++◌, length, map, codes, ap, ◌∙◌}
use Rattle.std.specs.Fmt.{decimal}
use Rattle.krml_ctree.specs.Text.{as_text, number, separated}
use Rattle.krml_cprint.proofs.Printed.{table_printed}
use Rattle.krml_cprint.proofs.program.table.Goals as goal

pub returns : goal.returns
returns c =
    let t = c.args.t.now in
    let len : c.counted.new.out.items ≡ c.table_words.new.out.items ++ ((codes "[" ++ decimal (length t.nums)) ++ codes "] = {") =
    c.in_ok-counted.ensures ∙ ap (λ n. c.table_words.new.out.items ++ ((codes "[" ++ decimal n) ++ codes "] = {")) c.len.ensures in
    let nums : c.numbers.new.out.items ≡ c.counted.new.out.items ++ separated as_text (map (number t.width) t.nums) =
    c.in_ok-numbers.ensures ∙ ap (λ ns. c.counted.new.out.items ++ separated as_text (map (number t.width) ns)) c.as_slice.ensures in
    table_printed c.args.out.now.items c.extend_from_slice.new.self.items t
    (c.in_ok-extend_from_slice.ensures.items ∙ ap (λ xs. xs ++ codes "};\n") (nums ∙ ap (λ xs. xs ++ separated as_text (map (number t.width) t.nums)) (len ∙ ap (λ xs. xs ++ ((codes "[" ++ decimal (length t.nums)) ++ codes "] = {")) c.in_ok-table_words.ensures)))
