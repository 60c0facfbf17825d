use Rattle.std.proofs.Common.{◌≡◌, ◌++◌, drop}
use Rattle.krml_cstar.specs.Translation.{params_from, cvars}
use Rattle.krml_cstar.proofs.program.variables.Given as goal

abbrev pub invariant-loop-k : goal.invariant-loop-k
invariant-loop-k l = l.all ++ cvars (params_from l.k (drop l.k l.params)) ≡ cvars (params_from 0 l.params)
