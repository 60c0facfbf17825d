use Rattle.krml_ast.specs.WellTyped.{AreWellTyped}
use Rattle.krml_match.proofs.Walk.{Walked}
use Rattle.krml_match.proofs.wide.first_wide.Given as goal

abbrev pub invariant-loop-def : goal.invariant-loop-def
invariant-loop-def l = AreWellTyped l.defs → Walked l.defs l.def-index l.counts
