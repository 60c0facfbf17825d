use Rattle.std.proofs.Common.{◌≡◌, ◌+◌, ◌*◌, drop}
use Rattle.krml_reader.specs.Each.{each_after}
use Rattle.krml_reader.specs.Types.{ty_at, tys_of}
use Rattle.krml_reader.proofs.types.+ty.Given as goal

abbrev pub decreases-ty_at : goal.decreases-ty_at
decreases-ty_at l = 8 * l.levels + 1

abbrev pub decreases-list_at : goal.decreases-list_at
decreases-list_at l = 8 * l.levels

abbrev pub decreases-buffer : goal.decreases-buffer
decreases-buffer l = 8 * l.levels + 2

abbrev pub decreases-applied : goal.decreases-applied
decreases-applied l = 8 * l.levels + 4

abbrev pub decreases-tys_of : goal.decreases-tys_of
decreases-tys_of l = 8 * l.levels + 3

abbrev pub invariant-tys_of-loop-form : goal.invariant-tys_of-loop-form
invariant-tys_of-loop-form l = each_after (ty_at l.levels) l.tys (drop l.form-index l.forms) ≡ tys_of l.levels l.forms
