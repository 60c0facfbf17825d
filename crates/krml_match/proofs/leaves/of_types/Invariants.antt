use Rattle.std.proofs.Common.{◌≡◌, take}
use Rattle.std.specs.List.{sum_by}
use Rattle.krml_match.specs.Counted.{counted}
use Rattle.krml_match.proofs.leaves.of_types.Given as goal

abbrev pub invariant-loop-a : goal.invariant-loop-a
invariant-loop-a l = l.all ≡ sum_by (counted l.counts l.names) (take l.a-index l.types)
