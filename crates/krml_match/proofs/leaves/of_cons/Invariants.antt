use Rattle.std.proofs.Common.{◌≡◌, flat_map, take}
use Rattle.std.specs.List.{sum_by}
use Rattle.krml_match.specs.Counted.{counted}
use Rattle.krml_match.proofs.leaves.of_cons.Given as goal

abbrev pub invariant-loop-con : goal.invariant-loop-con
invariant-loop-con l = l.all ≡ sum_by (counted l.counts l.names) (flat_map (λ c. c.args) (take l.con-index l.cons))
