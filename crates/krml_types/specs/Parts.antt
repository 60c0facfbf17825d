-- What types have, where they are of the right kind.
use Rattle.std.specs.Prelude.{ℕ, Bool, not, if◌then◌else◌, List, Option, Some, None}
use Rattle.std.specs.Str.{bytes_eq}
use Rattle.krml_syntax.specs.declared.tree.Ty.{Ty, out-Ty}
use Rattle.krml_syntax.specs.declared.tree.Ty.TheOpen.{Ty-F}
use Rattle.krml_syntax.specs.Types.{is_unit_in}

-- something, where a test holds
abbrev pub demand : Bool → Option (Unit {0})
demand b = if b then Some tt else None

-- ---- types

abbrev pub is_value : Ty → Bool
is_value a = not (is_unit_in (out-Ty a))

-- the type arguments of the struct or sum of a name
abbrev pub args_of : List ℕ → Ty-F Ty → Option (List Ty)
args_of x (Ty-F.Named y args) = if bytes_eq y x then Some args else None
args_of x _ = None
