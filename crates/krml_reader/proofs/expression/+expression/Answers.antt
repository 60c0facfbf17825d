use Rattle.std.proofs.Common.{◌≡◌, ℕ, zero, suc, ◌-◌, ◌≤◌, List, ap, subst, arith}
use Rattle.krml_forms.specs.declared.form.Form.{Form}
use Rattle.krml_trace.specs.Gives.{Gives}
use Rattle.krml_reader.specs.Expression.{expr_at, arm_by, arm_list_at}
use Rattle.krml_reader.proofs.expression.+expression.Goals as goal

one_down : (n : ℕ) (fs : List Form) → 1 ≤ n → arm_by (n - 1) (expr_at (n - 1)) fs ≡ arm_list_at n fs
unfolding arm_list_at
one_down zero fs l = absurd (omega arith)
one_down (suc n) fs l = let e : suc n - 1 ≡ n = omega arith in ap (λ m. arm_by m (expr_at m) fs) e

pub arm_list_at-returns : goal.arm_list_at-returns
arm_list_at-returns n c = subst (Gives c.arm.result) (one_down c.args.levels c.args.forms.now (omega (arith, c.if-levels-eq0.false))) c.arm.ensures
