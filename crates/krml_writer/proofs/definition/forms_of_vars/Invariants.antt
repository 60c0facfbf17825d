use Rattle.std.proofs.Common.{◌≡◌, map, take}
use Rattle.krml_writer.specs.Written.{form_of_var}
use Rattle.krml_writer.proofs.definition.forms_of_vars.Given as goal

abbrev pub invariant-loop-var : goal.invariant-loop-var
invariant-loop-var l = l.forms ≡ map form_of_var (take l.var-index l.vars)
