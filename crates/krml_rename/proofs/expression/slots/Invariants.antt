use Rattle.std.proofs.Common.{◌≡◌, map, take}
use Rattle.krml_rename.specs.Renaming.{slot_renamed}
use Rattle.krml_rename.proofs.expression.slots.Given as goal

abbrev pub invariant-loop-slot : goal.invariant-loop-slot
invariant-loop-slot g l = l.all ≡ map (slot_renamed (g.R.Rename.renaming l.rename)) (take l.slot-index l.slots)
