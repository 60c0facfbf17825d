use Rattle.std.proofs.Common.{◌≡◌, drop}
use Rattle.krml_reader.specs.Each.{each_after, each_of}
use Rattle.krml_reader.specs.Words.{number_of_width}
use Rattle.krml_reader.proofs.definition.numbers_of.Given as goal

abbrev pub invariant-loop-form : goal.invariant-loop-form
invariant-loop-form l = each_after (number_of_width l.width) l.numbers (drop l.form-index l.forms) ≡ each_of (number_of_width l.width) l.forms
