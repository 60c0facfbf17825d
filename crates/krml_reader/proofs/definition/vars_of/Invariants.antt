use Rattle.std.proofs.Common.{◌≡◌, drop}
use Rattle.krml_reader.specs.Each.{each_after}
use Rattle.krml_reader.specs.Words.{var_at}
use Rattle.krml_reader.specs.Definition.{vars_of}
use Rattle.krml_reader.proofs.definition.vars_of.Given as goal

abbrev pub invariant-loop-form : goal.invariant-loop-form
invariant-loop-form l = each_after var_at l.vars (drop l.form-index l.forms) ≡ vars_of l.forms
