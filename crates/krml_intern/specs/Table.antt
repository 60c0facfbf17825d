-- Types by number.
use Rattle.std.specs.Prelude.{◌≡◌, ℕ, ◌<◌, List, [], ◌∷◌, ◌++◌, get_or, Option, Some, None, slice_get}
use Rattle.std.specs.List.{AllByRecursion}
use Rattle.krml_syntax.specs.declared.tree.Ty.{Ty, out-Ty}
use Rattle.krml_syntax.specs.declared.tree.Ty.TheVariants as ty
use Rattle.krml_syntax.specs.declared.tree.Ty.TheOpen.{Ty-F}
use Rattle.krml_intern.specs.declared.node.Node.{Node}
use Rattle.krml_intern.specs.declared.node.Node.TheVariants as n

-- names and types by their numbers
pub record Table : Type 0 where
  pub names : List (List ℕ)
  pub types : List Ty

-- a number is that of a type
abbrev pub Means : Table → ℕ → Ty → Type 0
Means t k a = slice_get t.types k ≡ Some a

abbrev pub Names : Table → ℕ → List ℕ → Type 0
Names t k x = slice_get t.names k ≡ Some x

-- What had a number keeps it.
pub record Grows (old new : Table) : Type 0 where
  pub names : (k : ℕ) (x : List ℕ) → Names old k x → Names new k x
  pub types : (k : ℕ) (a : Ty) → Means old k a → Means new k a

-- a node is the first layer of a type
abbrev pub Stands : Table → Node → Ty → Type 0
Stands t n.Bool b = b ≡ ty.Bool
Stands t n.Unit b = b ≡ ty.Unit
Stands t (n.Int i) b = b ≡ ty.Int i
Stands t (n.Buf k) b = (a : Ty) × Means t k a × (b ≡ ty.Buf a)
Stands t (n.Var k) b = (x : List ℕ) × Names t k x × (b ≡ ty.Var x)
Stands t (n.Head k) b = (x : List ℕ) × Names t k x × (b ≡ ty.Named x [])
Stands t (n.App f k) b = (x : List ℕ) × (args : List Ty) × (a : Ty) × Means t f (ty.Named x args) × Means t k a × (b ≡ ty.Named x (args ++ a ∷ []))

-- ---- the types of nodes in order

abbrev pub applied : Ty-F Ty → Ty → Ty
applied (Ty-F.Named x args) a = ty.Named x (args ++ a ∷ [])
applied _ a = ty.Unit

abbrev pub level : List (List ℕ) → List Ty → Node → Ty
level names types n.Bool = ty.Bool
level names types n.Unit = ty.Unit
level names types (n.Int i) = ty.Int i
level names types (n.Buf k) = ty.Buf (get_or types k ty.Unit)
level names types (n.Var k) = ty.Var (get_or names k [])
level names types (n.Head k) = ty.Named (get_or names k []) []
level names types (n.App f k) = applied (out-Ty (get_or types f ty.Unit)) (get_or types k ty.Unit)

abbrev pub types_from : List (List ℕ) → List Ty → List Node → List Ty
types_from names types [] = types
types_from names types (x ∷ nodes) = types_from names (types ++ level names types x ∷ []) nodes

abbrev pub types_of : List (List ℕ) → List Node → List Ty
types_of names nodes = types_from names [] nodes

-- ---- what is kept

-- no two numbers are of the same
abbrev pub Apart : {A : Type 0} → List A → Type 0
Apart {A} xs = (m n : ℕ) (a : A) → slice_get xs m ≡ Some a → slice_get xs n ≡ Some a → m ≡ n

-- a name that a node has is there
abbrev pub HasName : List (List ℕ) → Node → Type 0
HasName names (n.Var k) = (x : List ℕ) × (slice_get names k ≡ Some x)
HasName names (n.Head k) = (x : List ℕ) × (slice_get names k ≡ Some x)
HasName names _ = Unit {0}

-- the parts of a node have smaller numbers
abbrev pub IsBelow : ℕ → Node → Type 0
IsBelow k (n.Buf j) = j < k
IsBelow k (n.App f j) = (f < k) × (j < k)
IsBelow k _ = Unit {0}

pub record AreTypes (names : List (List ℕ)) (nodes : List Node) (types : List Ty) : Type 0 where
  pub named : AllByRecursion (HasName names) nodes
  pub names_apart : Apart names
  pub types_apart : Apart types
  pub below : (k : ℕ) (x : Node) → slice_get nodes k ≡ Some x → IsBelow k x
  pub stand : (k : ℕ) (b : Ty) → slice_get types k ≡ Some b → (x : Node) × (slice_get nodes k ≡ Some x) × Stands (record { names = names; types = types }) x b

abbrev pub IsTable : List (List ℕ) → List Node → Type 0
IsTable names nodes = AreTypes names nodes (types_of names nodes)

-- numbers are those of types
abbrev pub AllMean : Table → List ℕ → List Ty → Type 0
AllMean t [] [] = Unit {0}
AllMean t (k ∷ ks) (a ∷ types) = Means t k a × AllMean t ks types
AllMean t _ _ = ⊥

-- Each number is that of a type.
pub record AreKnown (t : Table) (ks : List ℕ) : Type 0 where
  pub types : List Ty
  pub mean : AllMean t ks types

-- a number of a type, where there is a type
abbrev pub IsNumber : Table → Option ℕ → Option Ty → Type 0
IsNumber t (Some k) r = (a : Ty) × (r ≡ Some a) × Means t k a
IsNumber t None r = r ≡ None

-- the name of a struct or a sum
abbrev pub head_of : Ty-F Ty → Option (List ℕ)
head_of (Ty-F.Named x args) = Some x
head_of _ = None

-- A number is that of a struct or a sum.
pub record IsNamed (t : Table) (k : ℕ) : Type 0 where
  pub name : List ℕ
  pub args : List Ty
  pub means : Means t k (ty.Named name args)
