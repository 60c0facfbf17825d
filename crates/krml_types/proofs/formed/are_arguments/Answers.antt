use Rattle.std.proofs.Common.{rules, ◌≡◌, take, ap, ◌∙◌}
use Rattle.std.proofs.lemmas.List.{take_all}
use Rattle.krml_ast.specs.Names.{type_named}
use Rattle.krml_types.specs.Types.{is_flat, are_arguments_by, are_arguments}
use Rattle.krml_types.proofs.formed.are_arguments.Goals as goal

pub returns : goal.returns
unfolding are_arguments
returns c =
    let whole : take c.len.result c.args.index.now ≡ c.args.index.now =
    take_all c.len.result c.args.index.now (search rules) in
    c.are_arguments_before.ensures ∙ ap (λ defs. are_arguments_by (type_named defs) (is_flat c.args.index.now) c.args.tvars.now c.args.args.now) whole
