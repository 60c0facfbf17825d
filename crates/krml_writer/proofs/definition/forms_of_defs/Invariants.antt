use Rattle.std.proofs.Common.{◌≡◌, map, take}
use Rattle.krml_writer.specs.Written.{form_of_def}
use Rattle.krml_writer.proofs.definition.forms_of_defs.Given as goal

abbrev pub invariant-loop-def : goal.invariant-loop-def
invariant-loop-def l = l.forms ≡ map form_of_def (take l.def-index l.defs)
