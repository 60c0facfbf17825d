use Rattle.std.proofs.Common.{◌≡◌, map, take}
use Rattle.krml_writer.specs.Written.{form_of_pat}
use Rattle.krml_writer.proofs.types.+pat.Given as goal

abbrev pub invariant-forms_of_pats-loop-pat : goal.invariant-forms_of_pats-loop-pat
invariant-forms_of_pats-loop-pat l = l.forms ≡ map form_of_pat (take l.pat-index l.pats)
