-- The first item of a list that has an answer: where it stands, and the same look-up in other lists and by other answers.
use Rattle.std.proofs.Common.{◌≡◌, ℕ, zero, suc, ◌+◌, Bool, true, false, if◌then◌else◌, List, [], ◌∷◌, ◌++◌, map, take, slice_get, flat_map, Option, Some, None, ◌⊎◌, inl, inr, option_map, option_and_then, refl, sym, ap, ◌∙◌, arith}
use Rattle.std.specs.Option.{option_or}
use Rattle.std.proofs.lemmas.Option.{same_Some}
use Rattle.krml_trace.specs.First.{first, numbered, place_if, first_place}

-- ---- answers

-- two answers of a kind, or none
abbrev pub Alike : {X Y : Type 0} → (X → Y → Type 0) → Option X → Option Y → Type 0
Alike R (Some v) (Some w) = R v w
Alike R (Some v) None = ⊥
Alike R None (Some w) = ⊥
Alike R None None = Unit {0}

pub or_none : {X : Type 0} (o : Option X) → option_or o None ≡ o
or_none (Some v) = refl
or_none None = refl

pub or_or : {X : Type 0} (o p q : Option X) → option_or (option_or o p) q ≡ option_or o (option_or p q)
or_or (Some v) p q = refl
or_or None p q = refl

pub or_map : {X Y : Type 0} (f : X → Y) (o p : Option X) → option_map f (option_or o p) ≡ option_or (option_map f o) (option_map f p)
or_map f (Some v) p = refl
or_map f None p = refl

-- a test that gives no answer gives none of another kind
pub not_if : {X Y : Type 0} (b : Bool) (v : X) (w : Y) → (if b then Some v else None) ≡ None → (if b then Some w else None) ≡ None
not_if true v w e = absurd (cc)
not_if false v w e = refl

pub not_map : {X Y : Type 0} (f : X → Y) (o : Option X) → option_map f o ≡ None → o ≡ None
not_map f (Some v) e = absurd (cc)
not_map f None e = refl

-- ---- the item that answers

module _ {A X : Type 0} (give : A → Option X) where
  -- The item of an answer, with its place. None before it answers.
  pub record Answers (xs : List A) (v : X) : Type 0 where
    pub place : ℕ
    pub item : A
    pub there : slice_get xs place ≡ Some item
    pub gives : give item ≡ Some v
    pub earlier : first give (take place xs) ≡ None

  pub answers : (xs : List A) (v : X) → first give xs ≡ Some v → Answers xs v
  answers [] v e = absurd (cc)
  answers (a ∷ xs) v e = go (give a) refl e (answers xs v)
    where
      go : (o : Option X) → give a ≡ o → option_or o (first give xs) ≡ Some v → (first give xs ≡ Some v → Answers xs v) → Answers (a ∷ xs) v
      go (Some w) q e' later = record { place = 0; item = a; there = refl; gives = q ∙ e'; earlier = refl }
      go None q e' later =
          let l = later e' in
          record { place = suc l.place; item = l.item; there = l.there; gives = l.gives; earlier = ap (λ o. option_or o (first give (take l.place xs))) q ∙ l.earlier }

  -- where no item answers, there is no answer
  pub no_answer : (xs : List A) → ((k : ℕ) (a : A) → slice_get xs k ≡ Some a → give a ≡ None) → first give xs ≡ None
  no_answer [] h = refl
  no_answer (a ∷ xs) h = ap (λ o. option_or o (first give xs)) (h 0 a refl) ∙ no_answer xs (λ k b e. h (suc k) b e)

  -- the answers of two lists, one behind the other
  pub first_more : (before after : List A) → first give (before ++ after) ≡ option_or (first give before) (first give after)
  first_more [] after = refl
  first_more (a ∷ before) after = ap (option_or (give a)) (first_more before after) ∙ sym (or_or (give a) (first give before) (first give after))

  pub first_kept : (before after : List A) (v : X) → first give before ≡ Some v → first give (before ++ after) ≡ Some v
  first_kept before after v e = first_more before after ∙ ap (λ o. option_or o (first give after)) e

  pub first_later : (before after : List A) → first give before ≡ None → first give (before ++ after) ≡ first give after
  first_later before after e = first_more before after ∙ ap (λ o. option_or o (first give after)) e

  -- an answer is one of earlier items, or of the last one where they have none
  pub first_last : (before : List A) (a : A) (v : X) → first give (before ++ a ∷ []) ≡ Some v → (first give before ≡ Some v) ⊎ ((first give before ≡ None) × (give a ≡ Some v))
  first_last before a v e = go (first give before) (sym (first_more before (a ∷ [])) ∙ e)
    where
      go : (o : Option X) → option_or o (option_or (give a) None) ≡ Some v → (o ≡ Some v) ⊎ ((o ≡ None) × (give a ≡ Some v))
      go (Some w) e' = inl e'
      go None e' = inr (refl, sym (or_none (give a)) ∙ e')

-- where another function answers at no earlier item, its answer at that item is its first
module _ {A X Y : Type 0} (give : A → Option X) (other : A → Option Y) (silent : (a : A) → give a ≡ None → other a ≡ None) where
  pub silent_too : (xs : List A) → first give xs ≡ None → first other xs ≡ None
  silent_too [] e = refl
  silent_too (a ∷ xs) e = go (give a) refl e (silent_too xs)
    where
      go : (o : Option X) → give a ≡ o → option_or o (first give xs) ≡ None → (first give xs ≡ None → first other xs ≡ None) → option_or (other a) (first other xs) ≡ None
      go (Some v) q e' later = absurd (cc)
      go None q e' later = ap (λ o. option_or o (first other xs)) (silent a q) ∙ later e'

  at_item : (xs : List A) (k : ℕ) (a : A) (w : Y) → slice_get xs k ≡ Some a → first give (take k xs) ≡ None → other a ≡ Some w → first other xs ≡ Some w
  at_item [] k a w e none is = absurd (cc)
  at_item (b ∷ xs) zero a w e none is = ap (λ o. option_or o (first other xs)) (ap other (same_Some b a e) ∙ is)
  at_item (b ∷ xs) (suc k) a w e none is = go (give b) refl none (λ n. at_item xs k a w e n is)
    where
      go : (o : Option X) → give b ≡ o → option_or o (first give (take k xs)) ≡ None → (first give (take k xs) ≡ None → first other xs ≡ Some w)
          → option_or (other b) (first other xs) ≡ Some w
      go (Some v) q n later = absurd (cc)
      go None q n later = ap (λ o. option_or o (first other xs)) (silent b q) ∙ later n

  pub same_item : (xs : List A) (v : X) (s : Answers give xs v) (w : Y) → other s.item ≡ Some w → first other xs ≡ Some w
  same_item xs v s w = at_item xs s.place s.item w s.there s.earlier

-- ---- other lists, and other answers

pub first_map : {A B X : Type 0} (give : B → Option X) (f : A → B) (xs : List A) → first give (map f xs) ≡ first (λ a. give (f a)) xs
first_map give f [] = refl
first_map give f (a ∷ xs) = ap (option_or (give (f a))) (first_map give f xs)

pub map_first : {A X Y : Type 0} (f : X → Y) (give : A → Option X) (xs : List A) → option_map f (first give xs) ≡ first (λ a. option_map f (give a)) xs
map_first f give [] = refl
map_first f give (a ∷ xs) = or_map f (give a) (first give xs) ∙ ap (option_or (option_map f (give a))) (map_first f give xs)

pub first_same : {A X : Type 0} (give take : A → Option X) (xs : List A) → ((a : A) → give a ≡ take a) → first give xs ≡ first take xs
first_same give take [] h = refl
first_same give take (a ∷ xs) h = ap (λ o. option_or o (first give xs)) (h a) ∙ ap (option_or (take a)) (first_same give take xs h)

pub first_flat : {A B X : Type 0} (give : B → Option X) (f : A → List B) (xs : List A) → first give (flat_map f xs) ≡ first (λ a. first give (f a)) xs
first_flat give f [] = refl
first_flat give f (a ∷ xs) = first_more give (f a) (flat_map f xs) ∙ ap (option_or (first give (f a))) (first_flat give f xs)

pub map_if : {X Y : Type 0} (f : X → Y) (b : Bool) (v : X) → (if b then Some (f v) else None) ≡ option_map f (if b then Some v else None)
map_if f true v = refl
map_if f false v = refl

-- items under a map, whose answers are mapped too
pub first_moved : {A B X Y : Type 0} (f : A → B) (g : X → Y) (give : B → Option Y) (other : A → Option X) → ((a : A) → give (f a) ≡ option_map g (other a))
    → (xs : List A) → first give (map f xs) ≡ option_map g (first other xs)
first_moved f g give other h xs = first_map give f xs ∙ first_same (λ a. give (f a)) (λ a. option_map g (other a)) xs h ∙ sym (map_first g other xs)

pub map_numbered : {A B : Type 0} (f : A → B) (k : ℕ) (xs : List A) → numbered k (map f xs) ≡ map (λ p. (p.0, f p.1)) (numbered k xs)
map_numbered f k [] = refl
map_numbered f k (a ∷ xs) = ap (λ z. (k, f a) ∷ z) (map_numbered f (suc k) xs)

-- items that are asked without their places
pub first_numbered : {A X : Type 0} (give : A → Option X) (k : ℕ) (xs : List A) → first (λ p. give p.1) (numbered k xs) ≡ first give xs
first_numbered give k [] = refl
first_numbered give k (a ∷ xs) = ap (option_or (give a)) (first_numbered give (suc k) xs)

pub get_numbered : {A : Type 0} (k : ℕ) (xs : List A) (n : ℕ) (p : ℕ × A) → slice_get (numbered k xs) n ≡ Some p → (p.0 ≡ k + n) × (slice_get xs n ≡ Some p.1)
get_numbered k [] n p e = absurd (cc)
get_numbered k (a ∷ xs) zero p e = (ap (λ z. z.0) (sym (same_Some (k, a) p e)) ∙ omega arith, ap (λ z. Some z.1) (same_Some (k, a) p e))
get_numbered k (a ∷ xs) (suc n) p e = let h = get_numbered (suc k) xs n p e in (let l = h.0 in omega (arith, l), h.1)

-- answers alike of each item
module _ {A X Y : Type 0} (R : X → Y → Type 0) (give : A → Option X) (take : A → Option Y) (alike : (a : A) → Alike R (give a) (take a)) where
  pub first_alike : (xs : List A) → Alike R (first give xs) (first take xs)
  first_alike [] = tt
  first_alike (a ∷ xs) = go (give a) (take a) (alike a) (first_alike xs)
    where
      go : (o : Option X) (p : Option Y) → Alike R o p → Alike R (first give xs) (first take xs) → Alike R (option_or o (first give xs)) (option_or p (first take xs))
      go (Some v) (Some w) r later = r
      go (Some v) None r later = absurd r
      go None (Some w) r later = absurd r
      go None None r later = later

module _ {X Y Z : Type 0} (f : X → Option Z) (g : Y → Option Z) where
  pub alike_then : (o : Option X) (p : Option Y) → Alike (λ v w. f v ≡ g w) o p → option_and_then f o ≡ option_and_then g p
  alike_then (Some v) (Some w) r = r
  alike_then (Some v) None r = absurd r
  alike_then None (Some w) r = absurd r
  alike_then None None r = refl

pub alike_is : {X Y : Type 0} (g : Y → Option X) (o : Option X) (p : Option Y) → Alike (λ v w. Some v ≡ g w) o p → o ≡ option_and_then g p
alike_is g (Some v) (Some w) r = r
alike_is g (Some v) None r = absurd r
alike_is g None (Some w) r = absurd r
alike_is g None None r = refl

-- ---- places

module _ {A : Type 0} (here : A → Bool) where
  one_later : (k : ℕ) (xs : List A) → first (place_if here) (numbered (suc k) xs) ≡ option_map suc (first (place_if here) (numbered k xs))
  one_later k [] = refl
  one_later k (a ∷ xs) = go (here a) (one_later (suc k) xs)
    where
      go : (b : Bool) → first (place_if here) (numbered (suc (suc k)) xs) ≡ option_map suc (first (place_if here) (numbered (suc k) xs))
          → option_or (if b then Some (suc k) else None) (first (place_if here) (numbered (suc (suc k)) xs))
          ≡ option_map suc (option_or (if b then Some k else None) (first (place_if here) (numbered (suc k) xs)))
      go true later = refl
      go false later = later

  pub place_next : (a : A) (xs : List A) → first_place here (a ∷ xs) ≡ (if here a then Some 0 else option_map suc (first_place here xs))
  place_next a xs = go (here a)
    where
      go : (b : Bool) → option_or (if b then Some 0 else None) (first (place_if here) (numbered 1 xs)) ≡ (if b then Some 0 else option_map suc (first_place here xs))
      go true = refl
      go false = one_later 0 xs

  -- what stands at the first place
  pub place_stands : (xs : List A) → option_and_then (slice_get xs) (first_place here xs) ≡ first (λ a. if here a then Some a else None) xs
  place_stands [] = refl
  place_stands (a ∷ xs) = ap (option_and_then (slice_get (a ∷ xs))) (place_next a xs) ∙ go (here a) (next (first_place here xs) ∙ place_stands xs)
    where
      next : (o : Option ℕ) → option_and_then (slice_get (a ∷ xs)) (option_map suc o) ≡ option_and_then (slice_get xs) o
      next (Some k) = refl
      next None = refl

      go : (b : Bool) → option_and_then (slice_get (a ∷ xs)) (option_map suc (first_place here xs)) ≡ first (λ a. if here a then Some a else None) xs
          → option_and_then (slice_get (a ∷ xs)) (if b then Some 0 else option_map suc (first_place here xs)) ≡ option_or (if b then Some a else None) (first (λ a. if here a then Some a else None) xs)
      go true later = refl
      go false later = later
