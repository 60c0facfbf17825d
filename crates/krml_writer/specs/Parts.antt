-- Results that a list is made of.
use Rattle.std.specs.Prelude.{List, [], ◌∷◌, Result, Ok, Err}

-- Each has a value, and this holds of the values.
abbrev pub AllOkAnd : {A E : Type 0} → List (Result A E) → (List A → Type 0) → Type 0
AllOkAnd [] holds = holds []
AllOkAnd (Ok a ∷ results) holds = AllOkAnd results (λ more. holds (a ∷ more))
AllOkAnd (Err e ∷ results) holds = ⊥
