use Rattle.std.proofs.Common.{rules, ◌≡◌, ◌<◌, length, get_or, sym, ap, ◌∙◌}
use Rattle.krml_ast.specs.Places.{is_among, names_in, place_or}
use Rattle.krml_ast.proofs.Firsts.{place_more}
use Rattle.krml_ast.proofs.names.Names.new.Goals as goal

pub loop-k-preserved : goal.loop-k-preserved
loop-k-preserved c = λ kind x.
    let def = c.index-defs-k.result in
    let within : c.loop-k.k < length c.args.defs.now = search rules in
    let here : def ≡ get_or c.args.defs.now c.loop-k.k def = search rules in
    c.in_ok-add.ensures kind x ∙ ap (λ o. place_or o (is_among (names_in kind def) x) c.loop-k.k) (c.loop-k.invariant kind x)
    ∙ sym (place_more kind c.args.defs.now c.loop-k.k def x within here)
