use Rattle.std.proofs.Common.{◌≡◌, ◌++◌, drop, map}
use Rattle.krml_ctree.specs.Text.{as_text, number, separated}
use Rattle.krml_cprint.proofs.Listed.{remaining}
use Rattle.krml_cprint.proofs.program.numbers.Given as goal

abbrev pub invariant-loop-i : goal.invariant-loop-i
invariant-loop-i l = l.out.items ++ remaining l.i (map (number l.width) (drop l.i l.nums)) ≡ l.initial.out.items ++ separated as_text (map (number l.width) l.nums)
