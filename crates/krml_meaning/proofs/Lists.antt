-- Lists: lengths, and what holds of each element.
use Rattle.std.proofs.Common.{◌≡◌, ℕ, zero, suc, ◌<◌, ◌≤◌, List, [], ◌∷◌, length, Option, Some, None, slice_get, Contains, refl, sym, ap, ◌∙◌, subst, arith}
use Rattle.std.specs.List.{AllByRecursion}
pub use Rattle.krml_trace.proofs.Lists.{map_length, map_twice, map_same, each_append, each_left, each_right, each_so}
use Rattle.krml_meaning.specs.State.{set_or_add}

abbrev or_else : {A : Type 0} → A → Option A → A
or_else d None = d
or_else d (Some a) = a

pub same_some : {A : Type 0} (a b : A) → Some a ≡ Some b → a ≡ b
same_some a b e = ap (or_else a) e

pub no_some : {A : Type 0} (a : A) → None ≡ Some a → ⊥
no_some a e = cc

-- the same look-up has one answer
pub same_answer : {A : Type 0} (o : Option A) (a b : A) → o ≡ Some a → o ≡ Some b → a ≡ b
same_answer o a b p q = same_some a b (sym p ∙ q)

-- ---- lengths

pub length_set : {A : Type 0} (m : List A) (n : ℕ) (a : A) → n < length m → length (set_or_add n a m) ≡ length m
length_set [] n a h = absurd (omega (arith, h))
length_set (x ∷ m) zero a h = refl
length_set (x ∷ m) (suc n) a h = ap suc (length_set m n a (omega (arith, h)))

pub length_add : {A : Type 0} (m : List A) (n : ℕ) (a : A) → n ≡ length m → length (set_or_add n a m) ≡ suc n
length_add [] n a h = let e : n ≡ 0 = h in rw e
length_add (x ∷ m) zero a h = absurd (omega (arith, h))
length_add (x ∷ m) (suc n) a h = ap suc (length_add m n a (omega (arith, h)))

pub set_more : {A : Type 0} (m : List A) (n : ℕ) (a : A) → n ≤ length m → suc n ≤ length (set_or_add n a m)
set_more [] n a h = omega (arith, h)
set_more (x ∷ m) zero a h = omega arith
set_more (x ∷ m) (suc n) a h = let ih = set_more m n a (omega (arith, h)) in omega (arith, ih)

-- ---- each element

module _ {A : Type 0} (P : A → Type 0) where
  pub each_get : (m : List A) (n : ℕ) (a : A) → AllByRecursion P m → slice_get m n ≡ Some a → P a
  each_get [] n a h e = absurd (no_some a e)
  each_get (x ∷ m) zero a h e = subst P (same_some x a e) h.0
  each_get (x ∷ m) (suc n) a h e = each_get m n a h.1 e

  pub each_set : (m : List A) (n : ℕ) (a : A) → AllByRecursion P m → P a → AllByRecursion P (set_or_add n a m)
  each_set [] n a h p = (p, tt)
  each_set (x ∷ m) zero a h p = (p, h.1)
  each_set (x ∷ m) (suc n) a h p = (h.0, each_set m n a h.1 p)

  pub each_contains : (xs : List A) (x : A) → AllByRecursion P xs → Contains xs x → P x
  each_contains [] x h k = absurd (omega (arith, k.1))
  each_contains (y ∷ ys) x h (zero, k, e) = subst P e h.0
  each_contains (y ∷ ys) x h (suc i, k, e) = each_contains ys x h.1 (i, omega (arith, k), e)

  pub each_among : (xs : List A) → ((x : A) → Contains xs x → P x) → AllByRecursion P xs
  each_among [] h = tt
  each_among (x ∷ xs) h = (h x (0, omega arith, refl), each_among xs (λ y k. h y (suc k.0, omega (arith, k.1), k.2)))
