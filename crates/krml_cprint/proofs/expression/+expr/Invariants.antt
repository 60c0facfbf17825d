use Rattle.std.proofs.Common.{◌≡◌, ◌++◌, drop, map}
use Rattle.krml_ctree.specs.Text.{as_text, expr, separated}
use Rattle.krml_cprint.proofs.Listed.{remaining}
use Rattle.krml_cprint.proofs.expression.+expr.Given as goal

abbrev pub invariant-exprs-loop-i : goal.invariant-exprs-loop-i
invariant-exprs-loop-i l = l.out.items ++ remaining l.i (map (expr as_text) (drop l.i l.es)) ≡ l.initial.out.items ++ separated as_text (map (expr as_text) l.es)
