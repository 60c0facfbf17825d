use Rattle.std.proofs.Common.{◌≡◌, map, take}
use Rattle.krml_writer.specs.Written.{form_of_field}
use Rattle.krml_writer.proofs.definition.forms_of_fields.Given as goal

abbrev pub invariant-loop-field : goal.invariant-loop-field
invariant-loop-field l = l.forms ≡ map form_of_field (take l.field-index l.fields)
