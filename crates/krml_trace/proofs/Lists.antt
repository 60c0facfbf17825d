-- Lists: the front of one, what it contains, a function of each element, and what holds of each.
use Rattle.std.proofs.Common.{◌≡◌, ℕ, zero, suc, List, [], ◌∷◌, ◌++◌, map, length, take, slice_get, flat_map, Some, Contains, refl, sym, ap, ◌∙◌, subst, arith}
use Rattle.std.specs.List.{AllByRecursion}
use Rattle.std.proofs.lemmas.List.Elements.{Contains-append_left, Contains-append_right}
use Rattle.std.proofs.lemmas.Option.{same_Some}

pub take_front : {A : Type 0} (before rest : List A) → take (length before) (before ++ rest) ≡ before
take_front [] rest = refl
take_front (x ∷ before) rest = ap (λ z. x ∷ z) (take_front before rest)

pub at_front : {A : Type 0} (before : List A) (x : A) (rest : List A) → slice_get (before ++ x ∷ rest) (length before) ≡ Some x
at_front [] x rest = refl
at_front (y ∷ before) x rest = at_front before x rest

pub contains_first : {A : Type 0} (x : A) (xs : List A) → Contains (x ∷ xs) x
contains_first x xs = (0, omega arith, refl)

pub contains_later : {A : Type 0} (y x : A) (xs : List A) → Contains xs x → Contains (y ∷ xs) x
contains_later y x xs k = (suc k.0, let l = k.1 in omega (arith, l), k.2)

pub contains_flat : {A B : Type 0} (f : A → List B) (xs : List A) (k : ℕ) (a : A) (b : B) → slice_get xs k ≡ Some a → Contains (f a) b → Contains (flat_map f xs) b
contains_flat f [] k a b e c = absurd (cc)
contains_flat f (x ∷ xs) zero a b e c = Contains-append_left (f x) (flat_map f xs) b (subst (λ z. Contains (f z) b) (sym (same_Some x a e)) c)
contains_flat f (x ∷ xs) (suc k) a b e c = Contains-append_right (f x) (flat_map f xs) b (contains_flat f xs k a b e c)

-- ---- a function of each element

pub map_length : {A B : Type 0} (f : A → B) (xs : List A) → length (map f xs) ≡ length xs
map_length f [] = refl
map_length f (x ∷ xs) = ap suc (map_length f xs)

pub map_twice : {A B C : Type 0} (f : A → B) (g : B → C) (xs : List A) → map g (map f xs) ≡ map (λ x. g (f x)) xs
map_twice f g [] = refl
map_twice f g (x ∷ xs) = ap (λ z. g (f x) ∷ z) (map_twice f g xs)

pub map_same : {A B : Type 0} (f g : A → B) (xs : List A) → ((x : A) → f x ≡ g x) → map f xs ≡ map g xs
map_same f g [] h = refl
map_same f g (x ∷ xs) h = ap (λ z. z ∷ map f xs) (h x) ∙ ap (λ z. g x ∷ z) (map_same f g xs h)

-- ---- what holds of each element

module _ {A : Type 0} (P : A → Type 0) where
  pub each_append : (m l : List A) → AllByRecursion P m → AllByRecursion P l → AllByRecursion P (m ++ l)
  each_append [] l h k = k
  each_append (x ∷ m) l h k = (h.0, each_append m l h.1 k)

  pub each_left : (m l : List A) → AllByRecursion P (m ++ l) → AllByRecursion P m
  each_left [] l h = tt
  each_left (x ∷ m) l h = (h.0, each_left m l h.1)

  pub each_right : (m l : List A) → AllByRecursion P (m ++ l) → AllByRecursion P l
  each_right [] l h = h
  each_right (x ∷ m) l h = each_right m l h.1

pub each_so : {A : Type 0} (P Q : A → Type 0) (xs : List A) → ((x : A) → P x → Q x) → AllByRecursion P xs → AllByRecursion Q xs
each_so P Q [] f h = tt
each_so P Q (x ∷ xs) f h = (f x h.0, each_so P Q xs f h.1)

pub each_both : {A : Type 0} (P Q R : A → Type 0) (xs : List A) → ((x : A) → P x → Q x → R x) → AllByRecursion P xs → AllByRecursion Q xs → AllByRecursion R xs
each_both P Q R [] f h k = tt
each_both P Q R (x ∷ xs) f h k = (f x h.0 k.0, each_both P Q R xs f h.1 k.1)
