-- The arms of a chain, as they are laid out.
use Rattle.std.proofs.Common.{◌≡◌, ℕ, List}
use Rattle.krml_ctree.specs.declared.tree.CStatement.TheFolds.{fold-CArm, fold_out-CArm}
use Rattle.krml_ctree.specs.declared.tree.CArm.{CArm, out-CArm}
use Rattle.krml_ctree.specs.Text.{Layout, expr, Arm, statement_step, arm_step, statements}

module _ {A : Type 0} (to : Layout A) where
  -- an arm laid out
  abbrev pub arm_of : CArm → Arm to
  arm_of = fold-CArm (ℕ → List A) (Arm to) (statement_step to) (arm_step to)

  -- its test and its body laid out
  abbrev pub opened : CArm → Arm to
  opened x = record { test = expr to (out-CArm x).test; body = statements to (out-CArm x).body }

  -- which is the same
  pub arm_is : (x : CArm) → arm_of x ≡ opened x
  arm_is x = fold_out-CArm (ℕ → List A) (Arm to) (statement_step to) (arm_step to) x
