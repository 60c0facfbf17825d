-- Names of the source language.
use Rattle.std.specs.Prelude.{◌≡◌, ℕ, Bool, true, false, not, ◌&&◌, List, [], ◌∷◌, codes}
use Rattle.std.specs.List.{list_all, list_any}
use Rattle.std.specs.Str.{bytes_eq}
use Rattle.krml_trace.specs.Byte.{is_letter, is_name_byte}

-- the words that are no names
abbrev pub reserved : List (List ℕ)
reserved =
    codes "bool" ∷ codes "unit" ∷ codes "buf" ∷ codes "true" ∷ codes "false" ∷ codes "u8" ∷ codes "u16" ∷ codes "u32" ∷ codes "u64" ∷ codes "su8" ∷ codes "su16" ∷ codes "su32" ∷ codes "su64" ∷ []

unfoldable pub is_reserved : List ℕ → Bool
is_reserved w = list_any (bytes_eq w) reserved

-- A letter and then letters, digits and `_`, and no reserved word.
unfoldable pub is_name : List ℕ → Bool
is_name [] = false
is_name (b ∷ bs) = is_letter b && list_all is_name_byte bs && not (is_reserved (b ∷ bs))

abbrev pub IsName : List ℕ → Type 0
IsName w = is_name w ≡ true
