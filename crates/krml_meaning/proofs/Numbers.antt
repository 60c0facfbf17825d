-- Results of operators fit their widths.
use Rattle.std.proofs.Common.{◌≡◌, ℕ, ◌+◌, ◌-◌, ◌*◌, ◌^◌, ◌<◌, ◌==◌, nat_le, Bool, true, false, arith, pow_pos, lt_of_le_of_lt, div-le_self}
use Rattle.std.proofs.lemmas.Nat.{mod_below, or_lt, xor_lt, and_le_l}
use Rattle.std.proofs.lemmas.Bool.{ltb-true}
use Rattle.krml_trace.specs.declared.width.Width.{Width}
use Rattle.krml_trace.specs.Width.{bits}
use Rattle.krml_syntax.specs.declared.tree.BinOp.{BinOp}
use Rattle.krml_syntax.specs.declared.tree.BinOp.TheVariants as op
use Rattle.krml_meaning.specs.Meaning.{wrap, mask, result_of, has_result, shifted}

pub wrap_fits : (w : Width) (n : ℕ) → wrap w n < 2 ^ bits w
wrap_fits w n = mod_below n (2 ^ bits w) (pow_pos (bits w))

mask_fits : (b : Bool) (w : Width) → mask b w < 2 ^ bits w
mask_fits true w = let p = pow_pos (bits w) in omega (arith, p)
mask_fits false w = pow_pos (bits w)

pub result_fits : (o : BinOp) (w : Width) (m n : ℕ) → m < 2 ^ bits w → n < 2 ^ bits w → has_result o n ≡ true → result_of o w m n < 2 ^ bits w
result_fits op.Add w m n lm ln h = wrap_fits w (m + n)
result_fits op.Sub w m n lm ln h = wrap_fits w ((m + 2 ^ bits w) - n)
result_fits op.Mul w m n lm ln h = wrap_fits w (m * n)
result_fits op.Div w m n lm ln h = lt_of_le_of_lt (div-le_self m n) lm
result_fits op.Rem w m n lm ln h = let p = mod_below m n (ltb-true 0 n h) in omega (arith, p, ln)
result_fits op.And w m n lm ln h = lt_of_le_of_lt (and_le_l m n) lm
result_fits op.Or w m n lm ln h = or_lt (bits w) m n lm ln
result_fits op.Xor w m n lm ln h = xor_lt (bits w) m n lm ln
result_fits op.EqMask w m n lm ln h = mask_fits (m == n) w
result_fits op.GteMask w m n lm ln h = mask_fits (nat_le n m) w

pub shifted_fits : (left : Bool) (w : Width) (m n : ℕ) → m < 2 ^ bits w → shifted left w m n < 2 ^ bits w
shifted_fits true w m n lm = wrap_fits w (m * 2 ^ n)
shifted_fits false w m n lm = lt_of_le_of_lt (div-le_self m (2 ^ n)) lm
