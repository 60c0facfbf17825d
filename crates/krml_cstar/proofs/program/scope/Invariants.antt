use Rattle.std.proofs.Common.{◌≡◌, ◌≤◌, drop, length}
use Rattle.krml_cstar.specs.Translation.{params_from}
use Rattle.krml_cstar.proofs.program.scope.Given as goal

abbrev pub invariant-loop-k : goal.invariant-loop-k
invariant-loop-k l = record {
  within : l.k ≤ length l.params;
  is : l.scope ≡ params_from l.k (drop l.k l.params);
}

abbrev pub decreases-loop-k : goal.decreases-loop-k
decreases-loop-k l = l.k
