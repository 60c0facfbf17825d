-- Types whose labels are erased.
use Rattle.std.specs.Prelude.{◌≡◌, ℕ, List, [], ◌∷◌}
use Rattle.krml_syntax.specs.declared.tree.Ty.{Ty}
use Rattle.krml_syntax.specs.Types.{erased}
use Rattle.krml_intern.specs.Table.{Table, Means, AllMean}

abbrev pub NoLabels : List Ty → Type 0
NoLabels [] = Unit {0}
NoLabels (a ∷ types) = (erased a ≡ a) × NoLabels types

-- A number is that of a type without labels.
pub record IsErased (t : Table) (k : ℕ) (a : Ty) : Type 0 where
  pub means : Means t k a
  pub plain : erased a ≡ a

-- Numbers are those of types without labels.
pub record AllErased (t : Table) (ks : List ℕ) (types : List Ty) : Type 0 where
  pub mean : AllMean t ks types
  pub erased : NoLabels types

-- Each number is that of a type without labels.
pub record AreErased (t : Table) (ks : List ℕ) : Type 0 where
  pub types : List Ty
  pub all : AllErased t ks types
