use Rattle.std.proofs.Common.{◌≡◌, ◌+◌, ◌*◌, drop}
use Rattle.krml_reader.specs.Each.{each_after}
use Rattle.krml_reader.specs.Pattern.{pat_at, pats_of}
use Rattle.krml_reader.proofs.pattern.+pattern.Given as goal

abbrev pub decreases-pat_at : goal.decreases-pat_at
decreases-pat_at l = 8 * l.levels + 1

abbrev pub decreases-list_at : goal.decreases-list_at
decreases-list_at l = 8 * l.levels

abbrev pub decreases-pats_of : goal.decreases-pats_of
decreases-pats_of l = 8 * l.levels + 3

abbrev pub decreases-parts : goal.decreases-parts
decreases-parts l = 8 * l.levels + 4

abbrev pub decreases-con : goal.decreases-con
decreases-con l = 8 * l.levels + 5

abbrev pub decreases-make : goal.decreases-make
decreases-make l = 8 * l.levels + 5

abbrev pub invariant-pats_of-loop-form : goal.invariant-pats_of-loop-form
invariant-pats_of-loop-form l = each_after (pat_at l.levels) l.pats (drop l.form-index l.forms) ≡ pats_of l.levels l.forms
