use Rattle.std.proofs.Common.{◌≡◌, ◌++◌, drop, map}
use Rattle.krml_ctree.specs.Text.{as_text, statements, ifs}
use Rattle.krml_cprint.specs.Printing.{arm_of}
use Rattle.krml_cprint.proofs.Listed.{remaining_ifs}
use Rattle.krml_cprint.proofs.statement.+statement.Given as goal

abbrev pub invariant-block-loop-s : goal.invariant-block-loop-s
invariant-block-loop-s l = l.out.items ++ statements as_text (drop l.s-index l.body) l.level ≡ l.initial.out.items ++ statements as_text l.body l.level

abbrev pub invariant-ifs-loop-i : goal.invariant-ifs-loop-i
invariant-ifs-loop-i l = l.out.items ++ remaining_ifs l.i (map arm_of (drop l.i l.arms)) l.level ≡ l.initial.out.items ++ ifs as_text (map arm_of l.arms) l.level
