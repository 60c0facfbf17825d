use Rattle.std.proofs.Common.{◌≡◌, ◌++◌, drop, map}
use Rattle.krml_ctree.specs.Text.{as_text, declarator, separated}
use Rattle.krml_cprint.proofs.Listed.{remaining}
use Rattle.krml_cprint.proofs.function.parameters.Given as goal

abbrev pub invariant-loop-i : goal.invariant-loop-i
invariant-loop-i l = l.out.items ++ remaining l.i (map (declarator as_text) (drop l.i l.params)) ≡ l.initial.out.items ++ separated as_text (map (declarator as_text) l.params)
