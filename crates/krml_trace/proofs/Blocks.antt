-- What holds of numbered blocks: look-ups after an update, after more blocks, and after the end of some.
use Rattle.std.proofs.Common.{◌≡◌, ℕ, zero, suc, ◌+◌, ◌<◌, ◌≤◌, List, [], ◌∷◌, ◌++◌, map, length, Some, None, option_map, slice_get, refl, ap, ◌∙◌, arith}
use Rattle.std.specs.List.{AllByRecursion}
use Rattle.krml_trace.specs.Blocks.{update, close_from}

no_block : {A : Type 0} (a : A) → None ≡ Some a → ⊥
no_block a e = cc

-- ---- look-ups

pub get_left : {A : Type 0} (m l : List A) (n : ℕ) (a : A) → slice_get m n ≡ Some a → slice_get (m ++ l) n ≡ Some a
get_left [] l n a h = absurd (no_block a h)
get_left (x ∷ m) l zero a h = h
get_left (x ∷ m) l (suc n) a h = get_left m l n a h

pub get_right : {A : Type 0} (m l : List A) (k : ℕ) → slice_get (m ++ l) (length m + k) ≡ slice_get l k
get_right [] l k = let e : 0 + k ≡ k = omega arith in ap (slice_get l) e
get_right (x ∷ m) l k = let e : suc (length m) + k ≡ suc (length m + k) = omega arith in ap (slice_get (x ∷ m ++ l)) e ∙ get_right m l k

pub get_below : {A : Type 0} (m : List A) (n : ℕ) (a : A) → slice_get m n ≡ Some a → n < length m
get_below [] n a h = absurd (no_block a h)
get_below (x ∷ m) zero a h = omega arith
get_below (x ∷ m) (suc n) a h = let ih = get_below m n a h in omega (arith, ih)

pub get_in : {A : Type 0} (m : List A) (n : ℕ) → n < length m → (a : A) × (slice_get m n ≡ Some a)
get_in [] n h = absurd (omega (arith, h))
get_in (x ∷ m) zero h = (x, refl)
get_in (x ∷ m) (suc n) h = get_in m n (omega (arith, h))

-- ---- an update

pub get_update_same : {A : Type 0} (m : List A) (n : ℕ) (a b : A) → slice_get m n ≡ Some b → slice_get (update n a m) n ≡ Some a
get_update_same [] n a b h = absurd (no_block b h)
get_update_same (x ∷ m) zero a b h = refl
get_update_same (x ∷ m) (suc n) a b h = get_update_same m n a b h

pub get_update_other : {A : Type 0} (m : List A) (n k : ℕ) (a : A) → (n ≡ k → ⊥) → slice_get (update n a m) k ≡ slice_get m k
get_update_other [] n k a h = refl
get_update_other (x ∷ m) zero zero a h = absurd (h refl)
get_update_other (x ∷ m) zero (suc k) a h = refl
get_update_other (x ∷ m) (suc n) zero a h = refl
get_update_other (x ∷ m) (suc n) (suc k) a h = get_update_other m n k a (λ e. h (ap suc e))

pub length_update : {A : Type 0} (m : List A) (n : ℕ) (a : A) → length (update n a m) ≡ length m
length_update [] n a = refl
length_update (x ∷ m) zero a = refl
length_update (x ∷ m) (suc n) a = ap suc (length_update m n a)

pub map_update : {A A' : Type 0} (f : A → A') (n : ℕ) (a : A) (m : List A) → map f (update n a m) ≡ update n (f a) (map f m)
map_update f n a [] = refl
map_update f zero a (x ∷ m) = refl
map_update f (suc n) a (x ∷ m) = ap (λ z. f x ∷ z) (map_update f n a m)

pub each_update : {A : Type 0} (P : A → Type 0) (m : List A) (n : ℕ) (a : A) → AllByRecursion P m → P a → AllByRecursion P (update n a m)
each_update P [] n a h p = tt
each_update P (x ∷ m) zero a h p = (p, h.1)
each_update P (x ∷ m) (suc n) a h p = (h.0, each_update P m n a h.1 p)

-- ---- the end of blocks

module _ {B : Type 0} (dead : B → B) where
  pub get_close_below : (m : List B) (n k : ℕ) → k < n → slice_get (close_from dead n m) k ≡ slice_get m k
  get_close_below [] n k h = refl
  get_close_below (b ∷ m) zero k h = absurd (omega (arith, h))
  get_close_below (b ∷ m) (suc n) zero h = refl
  get_close_below (b ∷ m) (suc n) (suc k) h = get_close_below m n k (omega (arith, h))

  pub get_close_from : (m : List B) (n k : ℕ) (b : B) → n ≤ k → slice_get m k ≡ Some b → slice_get (close_from dead n m) k ≡ Some (dead b)
  get_close_from [] n k b h e = absurd (no_block b e)
  get_close_from (x ∷ m) zero zero b h e = ap (option_map dead) e
  get_close_from (x ∷ m) zero (suc k) b h e = get_close_from m zero k b (omega arith) e
  get_close_from (x ∷ m) (suc n) zero b h e = absurd (omega (arith, h))
  get_close_from (x ∷ m) (suc n) (suc k) b h e = get_close_from m n k b (omega (arith, h)) e

  pub length_close : (m : List B) (n : ℕ) → length (close_from dead n m) ≡ length m
  length_close [] n = refl
  length_close (b ∷ m) zero = ap suc (length_close m zero)
  length_close (b ∷ m) (suc n) = ap suc (length_close m n)

  -- what holds of a block holds once it ended
  pub each_close : (P : B → Type 0) → ((b : B) → P b → P (dead b)) → (n : ℕ) (m : List B) → AllByRecursion P m → AllByRecursion P (close_from dead n m)
  each_close P keeps n [] h = tt
  each_close P keeps zero (b ∷ m) h = (keeps b h.0, each_close P keeps zero m h.1)
  each_close P keeps (suc n) (b ∷ m) h = (h.0, each_close P keeps n m h.1)

  -- an image of blocks that keeps their end
  pub map_close : {B' : Type 0} (dead' : B' → B') (f : B → B') → ((b : B) → f (dead b) ≡ dead' (f b)) → (n : ℕ) (m : List B)
      → map f (close_from dead n m) ≡ close_from dead' n (map f m)
  map_close dead' f keeps n [] = refl
  map_close dead' f keeps zero (b ∷ m) = ap (λ z. z ∷ map f (close_from dead zero m)) (keeps b) ∙ ap (λ z. dead' (f b) ∷ z) (map_close dead' f keeps zero m)
  map_close dead' f keeps (suc n) (b ∷ m) = ap (λ z. f b ∷ z) (map_close dead' f keeps n m)
