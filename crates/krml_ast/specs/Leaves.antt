-- The leaves of types: the scalars and buffers that a value is made of.
use Rattle.std.specs.Prelude.{ℕ, zero, suc, ◌≤◌, false, List, ◌∷◌, map, length, Option, Some, None}
use Rattle.std.specs.List.{AllByRecursion, flat_map, sum_by}
use Rattle.krml_trace.specs.declared.width.Width.TheVariants.{W8}
use Rattle.krml_syntax.specs.declared.tree.Ty.{Ty, out-Ty}
use Rattle.krml_syntax.specs.declared.tree.Ty.TheVariants as t
use Rattle.krml_syntax.specs.declared.tree.Ty.TheOpen.{Ty-F}
use Rattle.krml_syntax.specs.declared.tree.Def.{Def}
use Rattle.krml_syntax.specs.declared.tree.Def.TheVariants as d
use Rattle.krml_ast.specs.Names.{Composite, Struct, Sum, type_named}

-- ---- leaves

-- the type of a constructor's number
abbrev pub tag_type : Ty
tag_type = t.Int (record { width = W8; secret = false })

-- What a value of a struct or a sum is laid out as: its fields, or the number of its constructor and then the arguments of
-- each constructor.
abbrev pub member_types : Composite → List Ty
member_types (Struct vars fields) = map (λ f. f.ty) fields
member_types (Sum vars cons) = tag_type ∷ flat_map (λ c. c.args) cons

abbrev pub leaves_of : (Ty → ℕ) → Option Composite → ℕ
leaves_of leaves None = 0
leaves_of leaves (Some c) = sum_by leaves (member_types c)

-- a scalar is one leaf, and a buffer is one
abbrev pub leaves_in : (Ty → ℕ) → List Def → Ty-F Ty → ℕ
leaves_in leaves defs Ty-F.Bool = 1
leaves_in leaves defs Ty-F.Unit = 0
leaves_in leaves defs (Ty-F.Int i) = 1
leaves_in leaves defs (Ty-F.Buf a) = 1
leaves_in leaves defs (Ty-F.Var x) = 0
leaves_in leaves defs (Ty-F.Named x args) = leaves_of leaves (type_named defs x)

abbrev pub leaves_within : ℕ → List Def → Ty → ℕ
leaves_within zero defs a = 0
leaves_within (suc n) defs a = leaves_in (leaves_within n defs) defs (out-Ty a)

-- The leaves of a type, in a file without type variables: there a struct or a sum is made of earlier ones, so no more of them
-- stand in one another than the file has definitions.
abbrev pub leaves : List Def → Ty → ℕ
leaves defs a = leaves_within (suc (length defs)) defs a

-- ---- wide types

-- the leaves that a type may have
abbrev pub max_leaves : ℕ
max_leaves = 24

-- the struct or sum that a definition defines
abbrev pub composite_of : Def → Option Composite
composite_of (d.Struct x vars fields) = Some (Struct vars fields)
composite_of (d.Sum x vars cons) = Some (Sum vars cons)
composite_of _ = None

-- the leaves of what a definition defines
abbrev pub leaves_of_def : List Def → Def → ℕ
leaves_of_def defs def = leaves_of (leaves defs) (composite_of def)

-- No type of the file has more leaves than it may have.
abbrev pub AreNarrow : List Def → Type 0
AreNarrow defs = AllByRecursion (λ def. leaves_of_def defs def ≤ max_leaves) defs
