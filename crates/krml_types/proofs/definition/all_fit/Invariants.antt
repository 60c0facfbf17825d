use Rattle.std.proofs.Common.{◌≡◌, drop}
use Rattle.krml_types.specs.Definitions.{all_fit}
use Rattle.krml_types.proofs.definition.all_fit.Given as goal

abbrev pub invariant-loop-n : goal.invariant-loop-n
invariant-loop-n l = all_fit l.i (drop l.n-index l.nums) ≡ all_fit l.i l.nums
