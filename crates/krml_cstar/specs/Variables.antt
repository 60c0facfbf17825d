-- Variables: their names in C, and those in scope.
use Rattle.std.specs.Prelude.{ℕ, ◌==◌, if◌then◌else◌, List, [], ◌∷◌, ◌++◌, codes, Option, Some, None}
use Rattle.std.specs.Fmt.{decimal}
use Rattle.std.specs.Str.{bytes_eq}
use Rattle.krml_syntax.specs.declared.tree.Ty.{Ty}
use Rattle.krml_ctree.specs.declared.tree.CType.{CType}
use Rattle.krml_ctree.specs.declared.tree.CVar.{CVar}

-- vk
abbrev pub plain : ℕ → List ℕ
plain k = codes "v" ++ decimal k

-- vk_NAME for a variable of the source, and vk for one that a pass made, whose name begins with a quote
abbrev pub named : ℕ → List ℕ → List ℕ
named k [] = plain k
named k (b ∷ bs) = if b == 39 then plain k else plain k ++ codes "_" ++ (b ∷ bs)

-- A variable in scope: as the source names it, as C names it, and its type.
pub record Known : Type 0 where
  pub name : List ℕ
  pub emitted : List ℕ
  pub ty : Ty

-- the variables in scope, the newest first
abbrev pub KnownVars : Type 0
KnownVars = List Known

abbrev pub look : List Known → List ℕ → Option Known
look [] x = None
look (k ∷ vars) x = if bytes_eq k.name x then Some k else look vars x

-- a variable that the source does not have
abbrev pub var : ℕ → CType → CVar
var k a = record { ty = a; name = plain k }
