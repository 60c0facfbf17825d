-- Definitions whose structs and sums are made of earlier ones, and are not large.
use Rattle.std.specs.Prelude.{◌≡◌, ℕ, ◌≤◌, true, false, is_some, List, [], ◌∷◌, ◌++◌, Option, Some, None}
use Rattle.std.specs.List.{AllByRecursion}
use Rattle.krml_syntax.specs.declared.tree.Ty.{Ty, out-Ty}
use Rattle.krml_syntax.specs.declared.tree.Ty.TheOpen.{Ty-F}
use Rattle.krml_syntax.specs.declared.tree.Def.{Def}
use Rattle.krml_ast.specs.Names.{Composite, type_here, type_named}
use Rattle.krml_ast.specs.Leaves.{member_types, composite_of}
use Rattle.krml_layout.specs.Layout.{layout_of, type_layout}
use Rattle.krml_layout.specs.Bounds.{max_bytes}

-- a type whose struct or sum, if it names one, is one of these
abbrev pub KnownIn : List Def → Ty-F Ty → Type 0
KnownIn defs (Ty-F.Named x args) = is_some (type_named defs x) ≡ true
KnownIn defs _ = Unit {0}

abbrev pub IsKnown : List Def → Ty → Type 0
IsKnown defs a = KnownIn defs (out-Ty a)

abbrev pub types_of : Option Composite → List Ty
types_of None = []
types_of (Some c) = member_types c

-- What is known of a definition, behind the ones before it: its name is new, its members are of earlier types, and it is not large.
pub record IsInOrder (before : List Def) (def : Def) : Type 0 where
  pub new : (x : List ℕ) → is_some (type_here x def) ≡ true → is_some (type_named before x) ≡ false
  pub made : AllByRecursion (IsKnown before) (types_of (composite_of def))
  pub small : (layout_of (type_layout before) (composite_of def)).size ≤ max_bytes

abbrev pub AreInOrder : List Def → Type 0
AreInOrder defs = (before : List Def) (def : Def) (after : List Def) → before ++ def ∷ after ≡ defs → IsInOrder before def

-- no type is large
abbrev pub AreSmall : List Def → Type 0
AreSmall defs = (a : Ty) → (type_layout defs a).size ≤ max_bytes

-- a definition of the struct or sum of a name, and the definitions before it
pub record Defines (defs : List Def) (x : List ℕ) (before : List Def) (def : Def) : Type 0 where
  pub here : is_some (type_here x def) ≡ true
  pub after : List Def
  pub is : before ++ def ∷ after ≡ defs
