use Rattle.std.proofs.Common.{◌≡◌, take}
use Rattle.krml_ast.specs.Labelled.{vars_of_fields}
use Rattle.krml_ast.proofs.labels.vars_of.Given as goal

abbrev pub invariant-loop-field : goal.invariant-loop-field
invariant-loop-field l = l.vars ≡ vars_of_fields (take l.field-index l.scope)
