-- What the C expressions of masks compute. The highest bit of a number tells the test, and less one it is the mask.
use Rattle.std.proofs.Common.{◌≡◌, ℕ, suc, ◌+◌, ◌-◌, ◌*◌, ◌/◌, ◌%◌, ◌^◌, ◌<◌, ◌≤◌, ◌==◌, Bool, true, false, if◌then◌else◌, nat_le, bit_or, bit_xor, List, Option, Some, refl, sym, ap, ◌∙◌, arith, pow_pos, pow-suc, mod-eq_of_lt, ⊎_elim}
use Rattle.std.proofs.lemmas.Nat.{mod_below, mod_low, shr_high, or_shr, xor_shr, or_lt, xor_lt, le_or_l, le_or_r}
use Rattle.std.proofs.lemmas.Bool.{cases_lt, eq-eqb, ne_eqb, le-leb, lt-leb, cases_eq}
use native.Mathlib.Nat.{div-eq_of_lt}
use lib.Bits.{xor_assoc, xor_self, xor_zero_l, xor_zero_r}
use Rattle.krml_trace.specs.declared.width.Width.{Width}
use Rattle.krml_trace.specs.declared.width.Width.TheVariants.{W8, W32, W64}
use Rattle.krml_trace.specs.Width.{bits}
use Rattle.krml_syntax.specs.declared.tree.IntTy.{IntTy}
use Rattle.krml_meaning.specs.Meaning as src
use Rattle.krml_ctree.specs.declared.value.CValue.{CValue}
use Rattle.krml_ctree.specs.declared.value.CValue.TheVariants as v
use Rattle.krml_ctree.specs.declared.tree.CBin.TheVariants as cop
use Rattle.krml_ctree.specs.declared.tree.CExpr.{CExpr}
use Rattle.krml_ctree.specs.declared.tree.CExpr.TheVariants as c
use Rattle.krml_ctree.specs.declared.tree.CProgram.{CProgram}
use Rattle.krml_ctree.specs.Parts.{CBlock, Locals}
use Rattle.krml_ctree.specs.Meaning.{value_of, number_of}
use Rattle.krml_cstar.specs.Numbers.{widen, work, spread}
use Rattle.krml_cstar.proofs.Values.{work_is_wide, fits_work, number_fits, lit_value, bin_value_is, shift_value_is, widen_value, narrow_value}

-- ---- the highest of suc k bits

-- x ^ ((x ^ y) | (d ^ y)), from whose highest bit it is told which of x and y is less, where d is the difference
abbrev pub borrow : ℕ → ℕ → ℕ → ℕ
borrow x y d = bit_xor x (bit_or (bit_xor x y) (bit_xor d y))

module _ (k : ℕ) where
  twice : 2 ^ suc k ≡ 2 ^ k + 2 ^ k
  twice = omega (arith, pow-suc 2 k)

  high_is_set : (n : ℕ) → 2 ^ k ≤ n → n < 2 ^ suc k → n / 2 ^ k ≡ 1
  high_is_set n from below =
      let split : n ≡ 1 * 2 ^ k + (n - 2 ^ k) = omega arith in
      ap (λ x. x / 2 ^ k) split ∙ shr_high 1 k (n - 2 ^ k) (omega (arith, twice))

  -- a number is 0 exactly where neither it nor 0 less it has the highest bit
  pub high_of_opposite : (z : ℕ) → z < 2 ^ suc k → bit_or z (((0 + 2 ^ suc k) - z) % 2 ^ suc k) / 2 ^ k ≡ (if z == 0 then 0 else 1)
  high_of_opposite z l = ⊎_elim is_zero is_other (cases_eq z 0)
    where
      is_zero : z ≡ 0 → bit_or z (((0 + 2 ^ suc k) - z) % 2 ^ suc k) / 2 ^ k ≡ (if z == 0 then 0 else 1)
      is_zero e =
          let whole : (0 + 2 ^ suc k) - z ≡ 1 * 2 ^ suc k + 0 = omega (arith, e) in
          let none : ((0 + 2 ^ suc k) - z) % 2 ^ suc k ≡ 0 = ap (λ x. x % 2 ^ suc k) whole ∙ mod_low 1 (suc k) 0 (pow_pos (suc k)) in
          rw (none, e) (div-eq_of_lt (pow_pos k))

      is_other : (z ≡ 0 → ⊥) → bit_or z (((0 + 2 ^ suc k) - z) % 2 ^ suc k) / 2 ^ k ≡ (if z == 0 then 0 else 1)
      is_other ne =
          let some : 0 < z = omega (arith, ne) in
          let rest : ((0 + 2 ^ suc k) - z) % 2 ^ suc k ≡ (0 + 2 ^ suc k) - z = mod-eq_of_lt (omega (arith, some, l)) in
          let less : (0 + 2 ^ suc k) - z < 2 ^ suc k = omega (arith, some, l) in
          let from : 2 ^ k ≤ bit_or z ((0 + 2 ^ suc k) - z) = omega (arith, l, twice, le_or_l z ((0 + 2 ^ suc k) - z), le_or_r z ((0 + 2 ^ suc k) - z)) in
          rw (rest, ne_eqb z 0 ne) (high_is_set _ from (or_lt (suc k) z _ l less))

  -- its highest bit is that of the parts
  from_parts : (x y d a b e : ℕ) → x / 2 ^ k ≡ a → y / 2 ^ k ≡ b → d / 2 ^ k ≡ e → borrow x y d / 2 ^ k ≡ borrow a b e
  from_parts x y d a b e ha hb he =
      let parts : borrow x y d / 2 ^ k ≡ borrow (x / 2 ^ k) (y / 2 ^ k) (d / 2 ^ k) =
      rw (xor_shr x (bit_or (bit_xor x y) (bit_xor d y)) k, or_shr (bit_xor x y) (bit_xor d y) k, xor_shr x y k, xor_shr d y k) refl in
      parts ∙ rw (ha, hb, he) refl

  module _ (x y d t : ℕ) (lx : x < 2 ^ suc k) (ly : y < 2 ^ suc k) (ld : d < 2 ^ suc k) (over : y ≤ x → (d ≡ x - y) × (t ≡ 0)) (under : x < y → (d ≡ (x + 2 ^ suc k) - y) × (t ≡ 1)) where
    both_low : x < 2 ^ k → y < 2 ^ k → borrow x y d / 2 ^ k ≡ t
    both_low p q =
        ⊎_elim
        (λ l. let h = under l in from_parts x y d 0 0 1 (div-eq_of_lt p) (div-eq_of_lt q) (high_is_set d (omega (arith, h.0, twice)) ld) ∙ sym h.1)
        (λ l. let h = over l in from_parts x y d 0 0 0 (div-eq_of_lt p) (div-eq_of_lt q) (div-eq_of_lt (omega (arith, h.0, p))) ∙ sym h.1)
        (cases_lt x y)

    both_high : 2 ^ k ≤ x → 2 ^ k ≤ y → borrow x y d / 2 ^ k ≡ t
    both_high p q =
        ⊎_elim
        (λ l. let h = under l in from_parts x y d 1 1 1 (high_is_set x p lx) (high_is_set y q ly) (high_is_set d (omega (arith, h.0, twice)) ld) ∙ sym h.1)
        (λ l. let h = over l in from_parts x y d 1 1 0 (high_is_set x p lx) (high_is_set y q ly) (div-eq_of_lt (omega (arith, h.0, twice))) ∙ sym h.1)
        (cases_lt x y)

    y_high : x < 2 ^ k → 2 ^ k ≤ y → borrow x y d / 2 ^ k ≡ t
    y_high p q =
        let less : t ≡ 1 = (under (omega arith)).1 in
        ⊎_elim
        (λ l. from_parts x y d 0 1 0 (div-eq_of_lt p) (high_is_set y q ly) (div-eq_of_lt l) ∙ sym less)
        (λ l. from_parts x y d 0 1 1 (div-eq_of_lt p) (high_is_set y q ly) (high_is_set d l ld) ∙ sym less)
        (cases_lt d (2 ^ k))

    x_high : 2 ^ k ≤ x → y < 2 ^ k → borrow x y d / 2 ^ k ≡ t
    x_high p q =
        let not_less : t ≡ 0 = (over (omega arith)).1 in
        ⊎_elim
        (λ l. from_parts x y d 1 0 0 (high_is_set x p lx) (div-eq_of_lt q) (div-eq_of_lt l) ∙ sym not_less)
        (λ l. from_parts x y d 1 0 1 (high_is_set x p lx) (div-eq_of_lt q) (high_is_set d l ld) ∙ sym not_less)
        (cases_lt d (2 ^ k))

    by_highest : borrow x y d / 2 ^ k ≡ t
    by_highest =
        ⊎_elim
        (λ p. ⊎_elim (both_low p) (y_high p) (cases_lt y (2 ^ k)))
        (λ p. ⊎_elim (x_high p) (both_high p) (cases_lt y (2 ^ k)))
        (cases_lt x (2 ^ k))

  -- it is set exactly where x is less than y
  pub high_of_borrow : (x y : ℕ) → x < 2 ^ suc k → y < 2 ^ suc k → borrow x y (((x + 2 ^ suc k) - y) % 2 ^ suc k) / 2 ^ k ≡ (if nat_le y x then 0 else 1)
  high_of_borrow x y lx ly =
      by_highest x y (((x + 2 ^ suc k) - y) % 2 ^ suc k) (if nat_le y x then 0 else 1) lx ly (mod_below _ _ (pow_pos (suc k)))
      (λ l. (over l, ap (λ b. if b then 0 else 1) (le-leb y x l)))
      (λ l. (mod-eq_of_lt (omega (arith, l, lx)), ap (λ b. if b then 0 else 1) (lt-leb y x l)))
    where
      over : y ≤ x → ((x + 2 ^ suc k) - y) % 2 ^ suc k ≡ x - y
      over l =
          let whole : (x + 2 ^ suc k) - y ≡ 1 * 2 ^ suc k + (x - y) = omega (arith, l) in
          ap (λ n. n % 2 ^ suc k) whole ∙ mod_low 1 (suc k) (x - y) (omega (arith, lx))

-- ---- the same at the widths that are computed with

pub opposite_highest : (w : Width) (z : ℕ) → z < 2 ^ bits (work w) → bit_or z (number_of cop.Sub (work w) 0 z) / 2 ^ (bits (work w) - 1) ≡ (if z == 0 then 0 else 1)
opposite_highest W8 z l = high_of_opposite 31 z l
opposite_highest W32 z l = high_of_opposite 31 z l
opposite_highest W64 z l = high_of_opposite 63 z l

pub borrow_highest : (w : Width) (x y : ℕ) → x < 2 ^ bits (work w) → y < 2 ^ bits (work w)
    → bit_xor x (bit_or (bit_xor x y) (bit_xor (number_of cop.Sub (work w) x y) y)) / 2 ^ (bits (work w) - 1) ≡ (if nat_le y x then 0 else 1)
borrow_highest W8 x y lx ly = high_of_borrow 31 x y lx ly
borrow_highest W32 x y lx ly = high_of_borrow 31 x y lx ly
borrow_highest W64 x y lx ly = high_of_borrow 63 x y lx ly

-- numbers are the same exactly where none of their bits differ
xor_is_zero : (x y : ℕ) → (bit_xor x y == 0) ≡ (x == y)
xor_is_zero x y = ⊎_elim same other (cases_eq x y)
  where
    same : x ≡ y → (bit_xor x y == 0) ≡ (x == y)
    same e = eq-eqb (bit_xor x y) 0 (ap (λ z. bit_xor z y) e ∙ xor_self y) ∙ sym (eq-eqb x y e)

    other : (x ≡ y → ⊥) → (bit_xor x y == 0) ≡ (x == y)
    other ne =
        let back : bit_xor x y ≡ 0 → x ≡ y = λ e. sym (xor_zero_r x) ∙ ap (bit_xor x) (sym (xor_self y)) ∙ sym (xor_assoc x y y) ∙ ap (λ z. bit_xor z y) e ∙ xor_zero_l y in
        ne_eqb (bit_xor x y) 0 (λ e. ne (back e)) ∙ sym (ne_eqb x y ne)

-- ---- the values of expressions

-- the highest bit less one, at the width of the operands: all ones where it is 0
spread_number : (b : Bool) (w : Width) → src.wrap w (number_of cop.Sub (work w) (if b then 0 else 1) 1) ≡ src.mask b w
spread_number true W8 = refl
spread_number true W32 = refl
spread_number true W64 = refl
spread_number false W8 = refl
spread_number false W32 = refl
spread_number false W64 = refl

highest_place : (w : Width) → (bits (work w) - 1 < bits (work w)) × (bits (work w) - 1 < 2 ^ 32)
highest_place W8 = (omega arith, omega arith)
highest_place W32 = (omega arith, omega arith)
highest_place W64 = (omega arith, omega arith)

small_fits : (b : Bool) (w : Width) → (if b then 0 else 1) < 2 ^ bits w
small_fits true w = pow_pos (bits w)
small_fits false W8 = omega arith
small_fits false W32 = omega arith
small_fits false W64 = omega arith

module _ (p : CProgram) (m : List CBlock) (locals : Locals) where
  abbrev pub val : CExpr → Option CValue
  val e = value_of p e m locals

  pub spread_value : (i : IntTy) (a : CExpr) (n : ℕ) (b : Bool) → val a ≡ Some (v.Num (work i.width) n) → n / 2 ^ (bits (work i.width) - 1) ≡ (if b then 0 else 1)
      → val (spread i a) ≡ Some (v.Num i.width (src.mask b i.width))
  spread_value i a n b ha highest =
      let w = i.width in
      let wide = work_is_wide w in
      let place = highest_place w in
      let one : 1 < 2 ^ bits (work w) = small_fits false (work w) in
      let high : val (c.Bin cop.Shr a (c.Lit W32 (bits (work w) - 1))) ≡ Some (v.Num (work w) (if b then 0 else 1)) =
      shift_value_is p m locals false (work w) a (c.Lit W32 (bits (work w) - 1)) n (bits (work w) - 1) wide place.0 ha (lit_value p m locals W32 (bits (work w) - 1) refl place.1)
      ∙ ap (λ t. Some (v.Num (work w) t)) highest in
      let less = bin_value_is p m locals cop.Sub (work w) _ (c.Lit (work w) 1) _ 1 refl wide high (lit_value p m locals (work w) 1 wide one) in
      narrow_value p m locals w _ _ (number_fits cop.Sub (work w) (if b then 0 else 1) 1 (small_fits b (work w)) one) less ∙ ap (λ t. Some (v.Num w t)) (spread_number b w)

  -- the bits in which two operands differ
  pub difference_value : (w : Width) (a b : CExpr) (x y : ℕ) → x < 2 ^ bits w → y < 2 ^ bits w → val a ≡ Some (v.Num w x) → val b ≡ Some (v.Num w y)
      → val (c.Bin cop.Xor (widen w a) (widen w b)) ≡ Some (v.Num (work w) (bit_xor x y))
  difference_value w a b x y lx ly ha hb =
      bin_value_is p m locals cop.Xor (work w) (widen w a) (widen w b) x y refl (work_is_wide w) (widen_value p m locals w a x lx ha) (widen_value p m locals w b y ly hb)

  -- all ones where the numbers are the same, from a variable with the bits in which they differ
  pub eq_mask_value : (i : IntTy) (z : List ℕ) (x y : ℕ) → x < 2 ^ bits i.width → y < 2 ^ bits i.width → val (c.Var z) ≡ Some (v.Num (work i.width) (bit_xor x y))
      → val (spread i (c.Bin cop.Or (c.Var z) (c.Bin cop.Sub (c.Lit (work i.width) 0) (c.Var z)))) ≡ Some (v.Num i.width (src.mask (x == y) i.width))
  eq_mask_value i z x y lx ly hz =
      let w = i.width in
      let wide = work_is_wide w in
      let zero = lit_value p m locals (work w) 0 wide (pow_pos (bits (work w))) in
      let opposite = bin_value_is p m locals cop.Sub (work w) (c.Lit (work w) 0) (c.Var z) 0 (bit_xor x y) refl wide zero hz in
      let either = bin_value_is p m locals cop.Or (work w) (c.Var z) _ (bit_xor x y) _ refl wide hz opposite in
      let fits = xor_lt (bits (work w)) x y (fits_work w x lx) (fits_work w y ly) in
      spread_value i _ _ (x == y) either (opposite_highest w (bit_xor x y) fits ∙ ap (λ b. if b then 0 else 1) (xor_is_zero x y))

  -- all ones where the first number is at least the second, from variables with both
  pub gte_mask_value : (i : IntTy) (zx zy : List ℕ) (x y : ℕ) → x < 2 ^ bits i.width → y < 2 ^ bits i.width
      → val (c.Var zx) ≡ Some (v.Num (work i.width) x) → val (c.Var zy) ≡ Some (v.Num (work i.width) y)
      → val (spread i (c.Bin cop.Xor (c.Var zx) (c.Bin cop.Or (c.Bin cop.Xor (c.Var zx) (c.Var zy)) (c.Bin cop.Xor (c.Bin cop.Sub (c.Var zx) (c.Var zy)) (c.Var zy)))))
      ≡ Some (v.Num i.width (src.mask (nat_le y x) i.width))
  gte_mask_value i zx zy x y lx ly hx hy =
      let w = i.width in
      let wide = work_is_wide w in
      let less = bin_value_is p m locals cop.Sub (work w) (c.Var zx) (c.Var zy) x y refl wide hx hy in
      let right = bin_value_is p m locals cop.Xor (work w) (c.Bin cop.Sub (c.Var zx) (c.Var zy)) (c.Var zy) _ y refl wide less hy in
      let left = bin_value_is p m locals cop.Xor (work w) (c.Var zx) (c.Var zy) x y refl wide hx hy in
      let either = bin_value_is p m locals cop.Or (work w) _ _ _ _ refl wide left right in
      let all = bin_value_is p m locals cop.Xor (work w) (c.Var zx) _ x _ refl wide hx either in
      spread_value i _ _ (nat_le y x) all (borrow_highest w x y (fits_work w x lx) (fits_work w y ly))
