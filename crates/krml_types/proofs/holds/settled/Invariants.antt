use Rattle.std.proofs.Common.{◌≡◌}
use Rattle.krml_types.specs.Holds.{rounds, holders}
use Rattle.krml_types.proofs.holds.settled.Given as goal

abbrev pub invariant-loop-left : goal.invariant-loop-left
invariant-loop-left l = rounds l.left l.names l.table ≡ holders l.names

abbrev pub decreases-loop-left : goal.decreases-loop-left
decreases-loop-left l = l.left
