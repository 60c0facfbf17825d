use Rattle.std.proofs.Common.{◌≡◌, drop}
use Rattle.krml_types.specs.Check.{fault_from, first_fault}
use Rattle.krml_types.proofs.judge.Judge.first_fault.Given as goal

abbrev pub invariant-loop-k : goal.invariant-loop-k
invariant-loop-k l = (l.self.place.defs ≡ l.defs) × (fault_from l.defs l.k (drop l.k l.defs) ≡ first_fault l.defs)
