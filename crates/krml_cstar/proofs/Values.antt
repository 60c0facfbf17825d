-- What the C expressions of operators compute: those of the source, computed at width 32 or 64.
use Rattle.std.proofs.Common.{◌≡◌, ℕ, ◌+◌, ◌-◌, ◌*◌, ◌%◌, ◌^◌, ◌<◌, ◌≤◌, Bool, true, false, not, if◌then◌else◌, nat_lt, bit_xor, List, Option, Some, None, refl, sym, ap, ◌∙◌, arith, pow_pos, pow_mono, lt_of_lt_of_le, lt_of_le_of_lt, div-le_self, mod-eq_of_lt}
use Rattle.std.proofs.lemmas.Nat.{mod_below, or_lt, xor_lt, and_le_l}
use Rattle.std.proofs.lemmas.Bool.{lt-ltb}
use native.Mathlib.Nat.{mod-le}
use Rattle.krml_trace.specs.declared.width.Width.{Width}
use Rattle.krml_trace.specs.declared.width.Width.TheVariants.{W8, W32, W64}
use Rattle.krml_trace.specs.Width.{bits, same_width}
use Rattle.krml_syntax.specs.declared.tree.BinOp.{BinOp}
use Rattle.krml_syntax.specs.declared.tree.BinOp.TheVariants as op
use Rattle.krml_syntax.specs.declared.tree.CmpOp.{CmpOp}
use Rattle.krml_syntax.specs.declared.tree.CmpOp.TheVariants as cmp
use Rattle.krml_meaning.specs.Meaning as src
use Rattle.krml_meaning.proofs.Shapes.{same_width_is}
use Rattle.krml_ctree.specs.declared.value.CValue.{CValue}
use Rattle.krml_ctree.specs.declared.value.CValue.TheVariants as v
use Rattle.krml_ctree.specs.declared.tree.CBin.{CBin}
use Rattle.krml_ctree.specs.declared.tree.CBin.TheVariants as cop
use Rattle.krml_ctree.specs.declared.tree.CExpr.{CExpr}
use Rattle.krml_ctree.specs.declared.tree.CExpr.TheVariants as c
use Rattle.krml_ctree.specs.declared.tree.CProgram.{CProgram}
use Rattle.krml_ctree.specs.Parts.{CBlock, Locals, as_number, as_pointer}
use Rattle.krml_ctree.specs.Meaning.{CSem, value_of, both, numbers, bin_value, is_wide, number_of, compared, divided, where_true}
use Rattle.krml_ctree.proofs.Forms.{lit_is, cast_is, bin_is, cmp_is}
use Rattle.krml_cstar.specs.Numbers.{widen, narrow, work, literal, truth, shift_op, kind}

-- ---- values that are numbers

pub number_is : (w : Width) (n : ℕ) → as_number (v.Num w n) ≡ Some (w, n)
number_is w n = rw (v.outs-Num) refl

pub no_pointer : (w : Width) (n : ℕ) → as_pointer (v.Num w n) ≡ None
no_pointer w n = rw (v.outs-Num) refl

-- two values, and what comes of them
pub both_is : (a b : CSem) (f : CValue → CValue → Option CValue) (m : List CBlock) (locals : Locals) (x y : CValue) → a m locals ≡ Some x → b m locals ≡ Some y
    → both a b f m locals ≡ f x y
both_is a b f m locals x y ha hb = rw (ha, hb) refl

-- two numbers of one width, 32 or 64
pub numbers_is : (f : Width → ℕ → ℕ → Option CValue) (w : Width) (x y : ℕ) → is_wide w ≡ true → numbers f (v.Num w x) (v.Num w y) ≡ f w x y
numbers_is f w x y wide = rw (number_is w x, number_is w y, wide, same_width_is w) refl

-- ---- widths

pub work_is_wide : (w : Width) → is_wide (work w) ≡ true
work_is_wide W8 = refl
work_is_wide W32 = refl
work_is_wide W64 = refl

pub bits_le_work : (w : Width) → bits w ≤ bits (work w)
bits_le_work W8 = omega arith
bits_le_work W32 = omega arith
bits_le_work W64 = omega arith

-- a number of a width fits the one that it is computed with
pub fits_work : (w : Width) (n : ℕ) → n < 2 ^ bits w → n < 2 ^ bits (work w)
fits_work w n l = lt_of_lt_of_le l (pow_mono (bits_le_work w))

-- the number modulo 2 to the greater width, modulo 2 to the smaller one
pub wrap_work : (w : Width) (n : ℕ) → n % 2 ^ bits (work w) % 2 ^ bits w ≡ n % 2 ^ bits w
wrap_work W8 n = omega arith
wrap_work W32 n = omega arith
wrap_work W64 n = omega arith

pub wrap_same : (w : Width) (n : ℕ) → n < 2 ^ bits w → src.wrap w n ≡ n
wrap_same w n l = mod-eq_of_lt l

-- ---- operators on numbers

-- the operators that C computes as they are
abbrev pub c_op : BinOp → Option CBin
c_op op.Add = Some cop.Add
c_op op.Sub = Some cop.Sub
c_op op.Mul = Some cop.Mul
c_op op.And = Some cop.And
c_op op.Or = Some cop.Or
c_op op.Xor = Some cop.Xor
c_op _ = None

-- the operator of C, as the number comes back to its width, computes that of the source
pub c_number_is : (o : BinOp) (co : CBin) (w : Width) (x y : ℕ) → c_op o ≡ Some co → x < 2 ^ bits w → y < 2 ^ bits w
    → number_of co (work w) x y % 2 ^ bits w ≡ src.result_of o w x y
c_number_is op.Add co w x y e lx ly = let is : cop.Add ≡ co = cc in rw (sym is) (wrap_work w (x + y))
c_number_is op.Sub co w x y e lx ly = let is : cop.Sub ≡ co = cc in rw (sym is) (less w x y ly)
  where
    -- a whole turn of the greater width is one of the smaller
    less : (w : Width) (x y : ℕ) → y < 2 ^ bits w → ((x + 2 ^ bits (work w)) - y) % 2 ^ bits (work w) % 2 ^ bits w ≡ ((x + 2 ^ bits w) - y) % 2 ^ bits w
    less W8 x y l = omega (arith, l)
    less W32 x y l = wrap_work W32 ((x + 2 ^ 32) - y)
    less W64 x y l = wrap_work W64 ((x + 2 ^ 64) - y)
c_number_is op.Mul co w x y e lx ly = let is : cop.Mul ≡ co = cc in rw (sym is) (wrap_work w (x * y))
c_number_is op.And co w x y e lx ly = let is : cop.And ≡ co = cc in rw (sym is) (wrap_same w _ (lt_of_le_of_lt (and_le_l x y) lx))
c_number_is op.Or co w x y e lx ly = let is : cop.Or ≡ co = cc in rw (sym is) (wrap_same w _ (or_lt (bits w) x y lx ly))
c_number_is op.Xor co w x y e lx ly = let is : cop.Xor ≡ co = cc in rw (sym is) (wrap_same w _ (xor_lt (bits w) x y lx ly))
c_number_is op.Div co w x y e lx ly = cc
c_number_is op.Rem co w x y e lx ly = cc
c_number_is op.EqMask co w x y e lx ly = cc
c_number_is op.GteMask co w x y e lx ly = cc

-- what C computes fits the width
pub number_fits : (o : CBin) (w : Width) (x y : ℕ) → x < 2 ^ bits w → y < 2 ^ bits w → number_of o w x y < 2 ^ bits w
number_fits cop.Add w x y lx ly = mod_below _ _ (pow_pos (bits w))
number_fits cop.Sub w x y lx ly = mod_below _ _ (pow_pos (bits w))
number_fits cop.Mul w x y lx ly = mod_below _ _ (pow_pos (bits w))
number_fits cop.And w x y lx ly = lt_of_le_of_lt (and_le_l x y) lx
number_fits cop.Or w x y lx ly = or_lt (bits w) x y lx ly
number_fits cop.Xor w x y lx ly = xor_lt (bits w) x y lx ly
number_fits cop.Shl w x y lx ly = mod_below _ _ (pow_pos (bits w))
number_fits cop.Shr w x y lx ly = lt_of_le_of_lt (div-le_self x (2 ^ y)) lx

pub shift_number_is : (left : Bool) (w : Width) (x y : ℕ) → x < 2 ^ bits w → number_of (shift_op left) (work w) x y % 2 ^ bits w ≡ src.shifted left w x y
shift_number_is true w x y lx = wrap_work w (x * 2 ^ y)
shift_number_is false w x y lx = wrap_same w _ (lt_of_le_of_lt (div-le_self x (2 ^ y)) lx)

pub shift_fits : (left : Bool) (w : Width) (x y : ℕ) → x < 2 ^ bits w → number_of (shift_op left) w x y < 2 ^ bits w
shift_fits true w x y lx = mod_below _ _ (pow_pos (bits w))
shift_fits false w x y lx = lt_of_le_of_lt (div-le_self x (2 ^ y)) lx

pub compared_is : (o : CmpOp) (x y : ℕ) → compared (kind o) x y ≡ src.compared o x y
compared_is cmp.Eq x y = refl
compared_is cmp.Ne x y = refl
compared_is cmp.Lt x y = refl
compared_is cmp.Le x y = refl
compared_is cmp.Gt x y = refl
compared_is cmp.Ge x y = refl

pub divided_fits : (quotient : Bool) (w : Width) (x y : ℕ) → x < 2 ^ bits w → divided quotient x y < 2 ^ bits w
divided_fits true w x y lx = lt_of_le_of_lt (div-le_self x y) lx
divided_fits false w x y lx = lt_of_le_of_lt (mod-le x y) lx

-- a truth value as a number
pub truth_fits : (b : Bool) → (if b then 1 else 0) < 2 ^ 8
truth_fits true = omega arith
truth_fits false = omega arith

-- ---- the values of expressions, among blocks and variables

abbrev pub is_shift : CBin → Bool
is_shift cop.Shl = true
is_shift cop.Shr = true
is_shift _ = false

module _ (p : CProgram) (m : List CBlock) (locals : Locals) where
  abbrev pub val : CExpr → Option CValue
  val e = value_of p e m locals

  pub lit_value : (w : Width) (n : ℕ) → is_wide w ≡ true → n < 2 ^ bits w → val (c.Lit w n) ≡ Some (v.Num w n)
  lit_value w n wide l = rw (lit_is p w n, wide, lt-ltb n (2 ^ bits w) l) refl

  pub cast_value : (u w : Width) (a : CExpr) (x : ℕ) → val a ≡ Some (v.Num w x) → val (c.Cast u a) ≡ Some (v.Num u (src.wrap u x))
  cast_value u w a x ha = rw (cast_is p u a, ha, number_is w x) refl

  bin_number : (o : CBin) (w : Width) (x y : ℕ) → is_shift o ≡ false → is_wide w ≡ true → bin_value m o (v.Num w x) (v.Num w y) ≡ Some (v.Num w (number_of o w x y))
  bin_number cop.Add w x y e wide = rw (no_pointer w x) (numbers_is _ w x y wide)
  bin_number cop.Sub w x y e wide = numbers_is _ w x y wide
  bin_number cop.Mul w x y e wide = numbers_is _ w x y wide
  bin_number cop.And w x y e wide = numbers_is _ w x y wide
  bin_number cop.Or w x y e wide = numbers_is _ w x y wide
  bin_number cop.Xor w x y e wide = numbers_is _ w x y wide
  bin_number cop.Shl w x y e wide = cc
  bin_number cop.Shr w x y e wide = cc

  -- an operator other than a shift, on two numbers of one width, 32 or 64
  pub bin_value_is : (o : CBin) (w : Width) (a b : CExpr) (x y : ℕ) → is_shift o ≡ false → is_wide w ≡ true → val a ≡ Some (v.Num w x) → val b ≡ Some (v.Num w y)
      → val (c.Bin o a b) ≡ Some (v.Num w (number_of o w x y))
  bin_value_is o w a b x y e wide ha hb =
      rw (bin_is p o a b) (both_is (value_of p a) (value_of p b) (bin_value m o) m locals _ _ ha hb ∙ bin_number o w x y e wide)

  shift_number : (left : Bool) (w : Width) (x y : ℕ) → is_wide w ≡ true → y < bits w
      → bin_value m (shift_op left) (v.Num w x) (v.Num W32 y) ≡ Some (v.Num w (number_of (shift_op left) w x y))
  shift_number true w x y wide l = rw (number_is w x, number_is W32 y, wide, lt-ltb y (bits w) l) refl
  shift_number false w x y wide l = rw (number_is w x, number_is W32 y, wide, lt-ltb y (bits w) l) refl

  -- a shift of a number of width 32 or 64
  pub shift_value_is : (left : Bool) (w : Width) (a b : CExpr) (x y : ℕ) → is_wide w ≡ true → y < bits w → val a ≡ Some (v.Num w x) → val b ≡ Some (v.Num W32 y)
      → val (c.Bin (shift_op left) a b) ≡ Some (v.Num w (number_of (shift_op left) w x y))
  shift_value_is left w a b x y wide l ha hb =
      rw (bin_is p (shift_op left) a b) (both_is (value_of p a) (value_of p b) (bin_value m (shift_op left)) m locals _ _ ha hb ∙ shift_number left w x y wide l)

  -- ---- literals, and operands at the width that they are computed with

  pub literal_value : (w : Width) (n : ℕ) → n < 2 ^ bits w → val (literal w n) ≡ Some (v.Num w n)
  literal_value W8 n l = cast_value W8 W32 (c.Lit W32 n) n (lit_value W32 n refl (fits_work W8 n l)) ∙ ap (λ k. Some (v.Num W8 k)) (wrap_same W8 n l)
  literal_value W32 n l = lit_value W32 n refl l
  literal_value W64 n l = lit_value W64 n refl l

  pub truth_value : (b : Bool) → val (truth b) ≡ Some (v.Num W8 (if b then 1 else 0))
  truth_value b = literal_value W8 (if b then 1 else 0) (truth_fits b)

  pub widen_value : (w : Width) (a : CExpr) (x : ℕ) → x < 2 ^ bits w → val a ≡ Some (v.Num w x) → val (widen w a) ≡ Some (v.Num (work w) x)
  widen_value W8 a x l ha = cast_value W32 W8 a x ha ∙ ap (λ k. Some (v.Num W32 k)) (wrap_same W32 x (fits_work W8 x l))
  widen_value W32 a x l ha = ha
  widen_value W64 a x l ha = ha

  pub narrow_value : (w : Width) (a : CExpr) (x : ℕ) → x < 2 ^ bits (work w) → val a ≡ Some (v.Num (work w) x) → val (narrow w a) ≡ Some (v.Num w (src.wrap w x))
  narrow_value W8 a x l ha = cast_value W8 W32 a x ha
  narrow_value W32 a x l ha = ha ∙ ap (λ k. Some (v.Num W32 k)) (sym (wrap_same W32 x l))
  narrow_value W64 a x l ha = ha ∙ ap (λ k. Some (v.Num W64 k)) (sym (wrap_same W64 x l))

  -- a number that fits stays as it is
  pub narrow_same : (w : Width) (a : CExpr) (x : ℕ) → x < 2 ^ bits w → val a ≡ Some (v.Num (work w) x) → val (narrow w a) ≡ Some (v.Num w x)
  narrow_same w a x l ha = narrow_value w a x (fits_work w x l) ha ∙ ap (λ k. Some (v.Num w k)) (wrap_same w x l)

  -- ---- the operators

  plain : (o : BinOp) (co : CBin) → c_op o ≡ Some co → is_shift co ≡ false
  plain op.Add co e = let is : cop.Add ≡ co = cc in rw (sym is) refl
  plain op.Sub co e = let is : cop.Sub ≡ co = cc in rw (sym is) refl
  plain op.Mul co e = let is : cop.Mul ≡ co = cc in rw (sym is) refl
  plain op.And co e = let is : cop.And ≡ co = cc in rw (sym is) refl
  plain op.Or co e = let is : cop.Or ≡ co = cc in rw (sym is) refl
  plain op.Xor co e = let is : cop.Xor ≡ co = cc in rw (sym is) refl
  plain op.Div co e = cc
  plain op.Rem co e = cc
  plain op.EqMask co e = cc
  plain op.GteMask co e = cc

  pub arithmetic_value : (o : BinOp) (co : CBin) (w : Width) (a b : CExpr) (x y : ℕ) → c_op o ≡ Some co → x < 2 ^ bits w → y < 2 ^ bits w
      → val a ≡ Some (v.Num w x) → val b ≡ Some (v.Num w y) → val (narrow w (c.Bin co (widen w a) (widen w b))) ≡ Some (v.Num w (src.result_of o w x y))
  arithmetic_value o co w a b x y e lx ly ha hb =
      let h = bin_value_is co (work w) (widen w a) (widen w b) x y (plain o co e) (work_is_wide w) (widen_value w a x lx ha) (widen_value w b y ly hb) in
      narrow_value w _ _ (number_fits co (work w) x y (fits_work w x lx) (fits_work w y ly)) h ∙ ap (λ k. Some (v.Num w k)) (c_number_is o co w x y e lx ly)

  -- a shift by less than the width
  pub shifted_value : (left : Bool) (w : Width) (a b : CExpr) (x y : ℕ) → x < 2 ^ bits w → y < bits w → val a ≡ Some (v.Num w x) → val b ≡ Some (v.Num W32 y)
      → val (narrow w (c.Bin (shift_op left) (widen w a) b)) ≡ Some (v.Num w (src.shifted left w x y))
  shifted_value left w a b x y lx ly ha hb =
      let h = shift_value_is left (work w) (widen w a) b x y (work_is_wide w) (lt_of_lt_of_le ly (bits_le_work w)) (widen_value w a x lx ha) hb in
      narrow_value w _ _ (shift_fits left (work w) x y (fits_work w x lx)) h ∙ ap (λ k. Some (v.Num w k)) (shift_number_is left w x y lx)

  pub compared_value : (o : CmpOp) (w : Width) (a b : CExpr) (x y : ℕ) → x < 2 ^ bits w → y < 2 ^ bits w → val a ≡ Some (v.Num w x) → val b ≡ Some (v.Num w y)
      → val (c.Cmp W8 (kind o) (widen w a) (widen w b)) ≡ Some (v.Num W8 (if src.compared o x y then 1 else 0))
  compared_value o w a b x y lx ly ha hb =
      rw (cmp_is p W8 (kind o) (widen w a) (widen w b))
      (both_is (value_of p (widen w a)) (value_of p (widen w b)) _ m locals _ _ (widen_value w a x lx ha) (widen_value w b y ly hb)
      ∙ numbers_is _ (work w) x y (work_is_wide w) ∙ ap (λ t. Some (v.Num W8 (if t then 1 else 0))) (compared_is o x y))

  -- a truth value, the other way
  pub opposite_value : (a : CExpr) (t : Bool) → val a ≡ Some (v.Num W8 (if t then 1 else 0))
      → val (c.Cast W8 (c.Bin cop.Xor (c.Cast W32 a) (c.Lit W32 1))) ≡ Some (v.Num W8 (if not t then 1 else 0))
  opposite_value a t ha =
      let one : val (c.Lit W32 1) ≡ Some (v.Num W32 1) = lit_value W32 1 refl (omega arith) in
      cast_value W8 W32 _ _ (bin_value_is cop.Xor W32 (c.Cast W32 a) (c.Lit W32 1) _ 1 refl refl (cast_value W32 W8 a _ ha) one) ∙ ap (λ k. Some (v.Num W8 k)) (turned t)
    where
      turned : (t : Bool) → src.wrap W8 (bit_xor (src.wrap W32 (if t then 1 else 0)) 1) ≡ (if not t then 1 else 0)
      turned true = refl
      turned false = refl

  -- ---- casts

  -- where the type of C is the same, the operand as it is
  pub same_value : (w u : Width) (a : CExpr) (x : ℕ) → same_width w u ≡ true → x < 2 ^ bits w → val a ≡ Some (v.Num w x) → val a ≡ Some (v.Num u (src.wrap u x))
  same_value W8 W8 a x e l ha = ha ∙ ap (λ k. Some (v.Num W8 k)) (sym (wrap_same W8 x l))
  same_value W32 W32 a x e l ha = ha ∙ ap (λ k. Some (v.Num W32 k)) (sym (wrap_same W32 x l))
  same_value W64 W64 a x e l ha = ha ∙ ap (λ k. Some (v.Num W64 k)) (sym (wrap_same W64 x l))
  same_value W8 W32 a x e l ha = cc
  same_value W8 W64 a x e l ha = cc
  same_value W32 W8 a x e l ha = cc
  same_value W32 W64 a x e l ha = cc
  same_value W64 W8 a x e l ha = cc
  same_value W64 W32 a x e l ha = cc

  pub converted_value : (w u : Width) (a : CExpr) (x : ℕ) → x < 2 ^ bits w → val a ≡ Some (v.Num w x)
      → val (if same_width w u then a else c.Cast u a) ≡ Some (v.Num u (src.wrap u x))
  converted_value w u a x l ha = at (same_width w u) refl
    where
      at : (b : Bool) → same_width w u ≡ b → val (if b then a else c.Cast u a) ≡ Some (v.Num u (src.wrap u x))
      at true e = same_value w u a x e l ha
      at false e = cast_value u w a x ha

  -- ---- division, into a variable of the width that it is computed with

  -- what goes into the variable, where the divisor is not 0
  pub divided_is : (quotient : Bool) (w : Width) (a b : CExpr) (x y : ℕ) → x < 2 ^ bits w → y < 2 ^ bits w → 0 < y → val a ≡ Some (v.Num w x) → val b ≡ Some (v.Num w y)
      → both (value_of p (widen w a)) (value_of p (widen w b)) (numbers (λ u i j. where_true (nat_lt 0 j) (v.Num u (divided quotient i j)))) m locals
      ≡ Some (v.Num (work w) (divided quotient x y))
  divided_is quotient w a b x y lx ly some ha hb =
      both_is (value_of p (widen w a)) (value_of p (widen w b)) _ m locals _ _ (widen_value w a x lx ha) (widen_value w b y ly hb)
      ∙ numbers_is _ (work w) x y (work_is_wide w) ∙ ap (λ t. where_true t (v.Num (work w) (divided quotient x y))) (lt-ltb 0 y some)

  -- and the variable as the result
  pub divided_value : (quotient : Bool) (w : Width) (z : List ℕ) (x y : ℕ) → x < 2 ^ bits w → val (c.Var z) ≡ Some (v.Num (work w) (divided quotient x y))
      → val (narrow w (c.Var z)) ≡ Some (v.Num w (divided quotient x y))
  divided_value quotient w z x y lx hz = narrow_same w (c.Var z) (divided quotient x y) (divided_fits quotient w x y lx) hz
