-- Numbers in C that are well formed: literals, operands at the width that is computed at, and masks.
use Rattle.std.proofs.Common.{ℕ, ◌-◌, ◌<◌, ◌^◌, Bool, true, false, arith}
use Rattle.krml_trace.specs.declared.width.Width.{Width}
use Rattle.krml_trace.specs.declared.width.Width.TheVariants.{W8, W32, W64}
use Rattle.krml_trace.specs.Width.{bits}
use Rattle.krml_syntax.specs.declared.tree.IntTy.{IntTy}
use Rattle.krml_ctree.specs.declared.tree.CBin.TheVariants as cop
use Rattle.krml_ctree.specs.declared.tree.CExpr.{CExpr}
use Rattle.krml_ctree.specs.declared.tree.CExpr.TheVariants as c
use Rattle.krml_ctree.specs.declared.tree.CProgram.{CProgram}
use Rattle.krml_ctree.specs.Text.{width_type}
use Rattle.krml_ctree.specs.Shape.{IsPlain, TypeKeeps, IsLiteral, ExprKeeps}
use Rattle.krml_ctree.specs.WellFormed.{Scope, IsKnown, IsArithmetic, IsPlainOperator, IsShift, HasType}
use Rattle.krml_cstar.specs.Numbers.{widen, narrow, work, literal, truth, spread, shift_op}
use Rattle.krml_cstar.specs.Translation.{nothing}
use Rattle.krml_cstar.proofs.WellFormedCode.{TypeFits}

-- ---- shapes

width_keeps : (w : Width) → TypeKeeps (width_type w)
width_keeps W8 = TypeKeeps.plain IsPlain.u8
width_keeps W32 = TypeKeeps.plain IsPlain.u32
width_keeps W64 = TypeKeeps.plain IsPlain.u64

-- a number at the width that is computed at
work_keeps : (w : Width) (n : ℕ) → n < 2 ^ 32 → ExprKeeps (c.Lit (work w) n)
work_keeps W8 n small = ExprKeeps.lit (IsLiteral.short small)
work_keeps W32 n small = ExprKeeps.lit (IsLiteral.short small)
work_keeps W64 n small = ExprKeeps.lit (IsLiteral.long (omega (arith, small)))

pub literal_keeps : (w : Width) (n : ℕ) → n < 2 ^ bits w → ExprKeeps (literal w n)
literal_keeps W8 n small = ExprKeeps.cast (ExprKeeps.lit (IsLiteral.short (omega (arith, small))))
literal_keeps W32 n small = ExprKeeps.lit (IsLiteral.short small)
literal_keeps W64 n small = ExprKeeps.lit (IsLiteral.long small)

pub truth_keeps : (b : Bool) → ExprKeeps (truth b)
truth_keeps true = literal_keeps W8 1 (omega arith)
truth_keeps false = literal_keeps W8 0 (omega arith)

pub nothing_keeps : ExprKeeps nothing
nothing_keeps = ExprKeeps.lit (IsLiteral.short (omega arith))

pub widen_keeps : (w : Width) (e : CExpr) → ExprKeeps e → ExprKeeps (widen w e)
widen_keeps W8 e h = ExprKeeps.cast h
widen_keeps W32 e h = h
widen_keeps W64 e h = h

pub narrow_keeps : (w : Width) (e : CExpr) → ExprKeeps e → ExprKeeps (narrow w e)
narrow_keeps W8 e h = ExprKeeps.cast h
narrow_keeps W32 e h = h
narrow_keeps W64 e h = h

shift_count : (w : Width) → bits (work w) - 1 < 2 ^ 32
shift_count W8 = omega arith
shift_count W32 = omega arith
shift_count W64 = omega arith

pub spread_keeps : (i : IntTy) (e : CExpr) → ExprKeeps e → ExprKeeps (spread i e)
spread_keeps i e h = narrow_keeps i.width (c.Bin cop.Sub (c.Bin cop.Shr e (c.Lit W32 (bits (work i.width) - 1))) (c.Lit (work i.width) 1))
    (ExprKeeps.bin (ExprKeeps.bin h (ExprKeeps.lit (IsLiteral.short (shift_count i.width)))) (work_keeps i.width 1 (omega arith)))

pub zero_keeps : (w : Width) → ExprKeeps (c.Lit (work w) 0)
zero_keeps w = work_keeps w 0 (omega arith)

-- ---- types

pub work_arithmetic : (w : Width) → IsArithmetic (width_type (work w))
work_arithmetic W8 = IsArithmetic.short
work_arithmetic W32 = IsArithmetic.short
work_arithmetic W64 = IsArithmetic.long

pub shift_is : (left : Bool) → IsShift (shift_op left)
shift_is true = IsShift.left
shift_is false = IsShift.right

module _ (p : CProgram) where
  pub width_fits : (w : Width) → TypeFits p (width_type w)
  width_fits w = record { keeps = width_keeps w; known = IsKnown.number w }

  module _ (g : Scope) where
    pub literal_typed : (w : Width) (n : ℕ) → HasType p g (literal w n) (width_type w)
    literal_typed W8 n = HasType.cast W8 W32 (HasType.lit W32 n)
    literal_typed W32 n = HasType.lit W32 n
    literal_typed W64 n = HasType.lit W64 n

    pub widen_typed : (w : Width) (e : CExpr) → HasType p g e (width_type w) → HasType p g (widen w e) (width_type (work w))
    widen_typed W8 e h = HasType.cast W32 W8 h
    widen_typed W32 e h = h
    widen_typed W64 e h = h

    pub narrow_typed : (w : Width) (e : CExpr) → HasType p g e (width_type (work w)) → HasType p g (narrow w e) (width_type w)
    narrow_typed W8 e h = HasType.cast W8 W32 h
    narrow_typed W32 e h = h
    narrow_typed W64 e h = h

    pub spread_typed : (i : IntTy) (e : CExpr) → HasType p g e (width_type (work i.width)) → HasType p g (spread i e) (width_type i.width)
    spread_typed i e h = narrow_typed i.width (c.Bin cop.Sub (c.Bin cop.Shr e (c.Lit W32 (bits (work i.width) - 1))) (c.Lit (work i.width) 1))
        (HasType.bin IsPlainOperator.sub (work_arithmetic i.width)
        (HasType.shift IsShift.right (work_arithmetic i.width) h (HasType.lit W32 (bits (work i.width) - 1))) (HasType.lit (work i.width) 1))
