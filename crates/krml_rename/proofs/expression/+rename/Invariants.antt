use Rattle.std.proofs.Common.{◌≡◌, map, take}
use Rattle.krml_rename.specs.Pass.{item_passed, arm_passed, case_passed}
use Rattle.krml_rename.specs.Renaming.{renaming, expr_renamed}
use Rattle.krml_rename.proofs.expression.+rename.Given as goal

abbrev pub invariant-each-loop-e : goal.invariant-each-loop-e
invariant-each-loop-e g l = l.all ≡ map (expr_renamed (g.R.Rename.renaming l.rename)) (take l.e-index l.es)

abbrev pub invariant-each_item-loop-i : goal.invariant-each_item-loop-i
invariant-each_item-loop-i g l = l.all ≡ map (item_passed (renaming (g.R.Rename.renaming l.rename))) (take l.i-index l.items)

abbrev pub invariant-each_arm-loop-a : goal.invariant-each_arm-loop-a
invariant-each_arm-loop-a g l = l.all ≡ map (arm_passed (renaming (g.R.Rename.renaming l.rename))) (take l.a-index l.arms)

abbrev pub invariant-each_case-loop-c : goal.invariant-each_case-loop-c
invariant-each_case-loop-c g l = l.all ≡ map (case_passed (renaming (g.R.Rename.renaming l.rename))) (take l.c-index l.list)
