use Rattle.std.proofs.Common.{◌≡◌, map, take}
use Rattle.krml_syntax.specs.Types.{type_at}
use Rattle.krml_ast.proofs.labels.Labels.make_parts.Given as goal

abbrev pub invariant-loop-field : goal.invariant-loop-field
invariant-loop-field l = l.types ≡ map (λ f. type_at l.def.vars.now l.args f.ty) (take l.field-index l.def.fields.now)
