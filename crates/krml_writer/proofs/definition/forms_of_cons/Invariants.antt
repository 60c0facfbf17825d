use Rattle.std.proofs.Common.{◌≡◌, map, take}
use Rattle.krml_writer.specs.Written.{form_of_con}
use Rattle.krml_writer.proofs.definition.forms_of_cons.Given as goal

abbrev pub invariant-loop-con : goal.invariant-loop-con
invariant-loop-con l = l.forms ≡ map form_of_con (take l.con-index l.cons)
