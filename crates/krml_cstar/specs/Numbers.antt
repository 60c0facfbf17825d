-- Expressions of C on numbers. Those of 8 bits are computed with at 32 bits.
use Rattle.std.specs.Prelude.{ℕ, ◌-◌, Bool, true, false, if◌then◌else◌}
use Rattle.krml_trace.specs.declared.width.Width.{Width}
use Rattle.krml_trace.specs.declared.width.Width.TheVariants.{W8, W32, W64}
use Rattle.krml_trace.specs.Width.{bits}
use Rattle.krml_syntax.specs.declared.tree.IntTy.{IntTy}
use Rattle.krml_syntax.specs.declared.tree.CmpOp.{CmpOp}
use Rattle.krml_syntax.specs.declared.tree.CmpOp.TheVariants as cmp
use Rattle.krml_ctree.specs.declared.tree.CBin.{CBin}
use Rattle.krml_ctree.specs.declared.tree.CBin.TheVariants as cop
use Rattle.krml_ctree.specs.declared.tree.CmpKind.{CmpKind}
use Rattle.krml_ctree.specs.declared.tree.CmpKind.TheVariants as ck
use Rattle.krml_ctree.specs.declared.tree.CExpr.{CExpr}
use Rattle.krml_ctree.specs.declared.tree.CExpr.TheVariants as c

-- computed with at width 32 or 64
abbrev pub widen : Width → CExpr → CExpr
widen W8 e = c.Cast W32 e
widen W32 e = e
widen W64 e = e

abbrev pub narrow : Width → CExpr → CExpr
narrow W8 e = c.Cast W8 e
narrow W32 e = e
narrow W64 e = e

abbrev pub work : Width → Width
work W8 = W32
work W32 = W32
work W64 = W64

abbrev pub literal : Width → ℕ → CExpr
literal W8 n = c.Cast W8 (c.Lit W32 n)
literal W32 n = c.Lit W32 n
literal W64 n = c.Lit W64 n

abbrev pub truth : Bool → CExpr
truth b = literal W8 (if b then 1 else 0)

-- the highest bit, shifted down, less one: all ones where it is 0
abbrev pub spread : IntTy → CExpr → CExpr
spread i e = narrow i.width (c.Bin cop.Sub (c.Bin cop.Shr e (c.Lit W32 (bits (work i.width) - 1))) (c.Lit (work i.width) 1))

abbrev pub shift_op : Bool → CBin
shift_op true = cop.Shl
shift_op false = cop.Shr

abbrev pub kind : CmpOp → CmpKind
kind cmp.Eq = ck.Eq
kind cmp.Ne = ck.Ne
kind cmp.Lt = ck.Lt
kind cmp.Le = ck.Le
kind cmp.Gt = ck.Gt
kind cmp.Ge = ck.Ge
