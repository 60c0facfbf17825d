-- The names that C has for those of a file.
use Rattle.std.specs.Prelude.{ℕ, Bool, false, ◌&&◌, if◌then◌else◌, List, [], ◌∷◌, ◌++◌, codes, Option, Some, None}
use Rattle.std.specs.List.{list_all}
use Rattle.krml_trace.specs.Byte.{is_digit}
use Rattle.krml_ast.specs.Instances.{at_quote}

-- one decimal digit or more
abbrev pub is_number : List ℕ → Bool
is_number [] = false
is_number (b ∷ bs) = is_digit b && list_all is_digit bs

-- PREFIX_NAME
abbrev pub with_prefix : List ℕ → List ℕ → List ℕ
with_prefix prefix x = prefix ++ codes "_" ++ x

-- PREFIX_NAME, and PREFIXk_NAME for NAME'k, which is the k-th instance of what is called NAME
abbrev pub emitted_as : List ℕ → List ℕ → List ℕ → Option (List ℕ × List ℕ) → List ℕ
emitted_as plain numbered x None = with_prefix plain x
emitted_as plain numbered x (Some p) = if is_number p.1 then numbered ++ p.1 ++ codes "_" ++ p.0 else with_prefix plain x

abbrev pub emitted : List ℕ → List ℕ → List ℕ → List ℕ
emitted plain numbered x = emitted_as plain numbered x (at_quote x)

abbrev pub emitted_fun : List ℕ → List ℕ
emitted_fun = emitted (codes "f") (codes "g")

-- a struct or a sum
abbrev pub emitted_type : List ℕ → List ℕ
emitted_type = emitted (codes "s") (codes "s")

abbrev pub emitted_table : List ℕ → List ℕ
emitted_table = with_prefix (codes "t")

abbrev pub emitted_field : List ℕ → List ℕ
emitted_field = with_prefix (codes "m")
