-- The tokens of a text.
use Rattle.std.specs.Prelude.{ℕ, Bool, true, ◌||◌, ◌&&◌, if◌then◌else◌, ◌==◌, List, [], ◌∷◌}
use Rattle.krml_trace.specs.Byte.{is_white, is_name_byte}

-- `<<`, `>>`, `==`, `!=`, `<=` and `>=`
abbrev pub is_pair : ℕ → ℕ → Bool
is_pair b c = (b == c && (b == 60 || b == 62 || b == 61)) || (c == 61 && (b == 33 || b == 60 || b == 62))

-- A byte of a run stands in the run that goes on behind it, or is a run of its own.
abbrev pub join_run : Bool → ℕ → List (List ℕ) → List (List ℕ)
join_run true b (w ∷ ts) = (b ∷ w) ∷ ts
join_run _ b ts = (b ∷ []) ∷ ts

-- A token is a longest run of letters, digits and `_`, one of the pairs, or one other byte that is no white space.
abbrev pub tokens : List ℕ → List (List ℕ)
tokens [] = []
tokens (b ∷ []) = if is_white b then [] else (b ∷ []) ∷ []
tokens (b ∷ c ∷ bs) =
    if is_name_byte b then join_run (is_name_byte c) b (tokens (c ∷ bs))
    else (if is_pair b c then (b ∷ c ∷ []) ∷ tokens bs
    else (if is_white b then tokens (c ∷ bs) else (b ∷ []) ∷ tokens (c ∷ bs)))
