use Rattle.std.proofs.Common.{◌≡◌, drop}
use Rattle.krml_reader.specs.Each.{each_after}
use Rattle.krml_reader.specs.Definition.{con_at, cons_of}
use Rattle.krml_reader.proofs.definition.cons_of.Given as goal

abbrev pub invariant-loop-form : goal.invariant-loop-form
invariant-loop-form l = each_after (con_at l.levels) l.cons (drop l.form-index l.forms) ≡ cons_of l.levels l.forms
