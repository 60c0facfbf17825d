use Rattle.std.proofs.Common.{◌≡◌, drop}
use Rattle.krml_ast.specs.WellTyped.{names_of}
use Rattle.krml_types.specs.Definitions.{is_fresh}
use Rattle.krml_types.proofs.names.is_fresh_field.Given as goal

abbrev pub invariant-loop-field : goal.invariant-loop-field
invariant-loop-field l = is_fresh (names_of (drop l.field-index l.fields)) l.x ≡ is_fresh (names_of l.fields) l.x
