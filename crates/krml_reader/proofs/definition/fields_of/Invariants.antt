use Rattle.std.proofs.Common.{◌≡◌, drop}
use Rattle.krml_reader.specs.Each.{each_after}
use Rattle.krml_reader.specs.Definition.{field_at, fields_of}
use Rattle.krml_reader.proofs.definition.fields_of.Given as goal

abbrev pub invariant-loop-form : goal.invariant-loop-form
invariant-loop-form l = each_after (field_at l.levels) l.fields (drop l.form-index l.forms) ≡ fields_of l.levels l.forms
