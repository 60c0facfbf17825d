-- The first item of a list that has an answer.
use Rattle.std.specs.Prelude.{ℕ, suc, Bool, if◌then◌else◌, List, [], ◌∷◌, Option, Some, None}
use Rattle.std.specs.Option.{option_or}

-- the answer of the first item that has one
abbrev pub first : {A X : Type 0} → (A → Option X) → List A → Option X
first give [] = None
first give (a ∷ rest) = option_or (give a) (first give rest)

-- items with their places, counted from k
abbrev pub numbered : {A : Type 0} → ℕ → List A → List (ℕ × A)
numbered k [] = []
numbered k (a ∷ rest) = (k, a) ∷ numbered (suc k) rest

-- the place of the first item of which something holds
abbrev pub place_if : {A : Type 0} → (A → Bool) → ℕ × A → Option ℕ
place_if here p = if here p.1 then Some p.0 else None

abbrev pub first_place : {A : Type 0} → (A → Bool) → List A → Option ℕ
first_place here xs = first (place_if here) (numbered 0 xs)
