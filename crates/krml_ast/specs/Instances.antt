-- Names of instances: NAME'k is the k-th instance of what is called NAME.
use Rattle.std.specs.Prelude.{ℕ, ◌==◌, if◌then◌else◌, List, [], ◌∷◌, Option, Some, None, option_map}

-- what stands before the first quote, and behind it
abbrev pub at_quote : List ℕ → Option (List ℕ × List ℕ)
at_quote [] = None
at_quote (b ∷ bs) = if b == 39 then Some ([], bs) else option_map (λ p. (b ∷ p.0, p.1)) (at_quote bs)

-- the name that the source has
abbrev pub source_from : List ℕ → Option (List ℕ × List ℕ) → List ℕ
source_from x None = x
source_from x (Some p) = p.0

abbrev pub source_name : List ℕ → List ℕ
source_name x = source_from x (at_quote x)
