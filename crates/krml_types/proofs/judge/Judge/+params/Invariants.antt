use Rattle.std.proofs.Common.{length}
use Rattle.krml_types.proofs.judge.Judge.+params.Given as goal

abbrev pub decreases-params : goal.decreases-params
decreases-params l = length l.params.now
