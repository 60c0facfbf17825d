-- Types: what they have, with labels erased, and at type arguments.
use Rattle.std.specs.Prelude.{ℕ, Bool, true, false, if◌then◌else◌, List, [], ◌∷◌, Option, Some, None}
use Rattle.std.specs.Str.{bytes_eq}
use Rattle.krml_trace.specs.declared.width.Width.TheVariants.{W32}
use Rattle.krml_syntax.specs.declared.tree.IntTy.{IntTy}
use Rattle.krml_syntax.specs.declared.tree.Ty.{Ty}
use Rattle.krml_syntax.specs.declared.tree.Ty.TheVariants as t
use Rattle.krml_syntax.specs.declared.tree.Ty.TheOpen.{Ty-F}
use Rattle.krml_syntax.specs.declared.tree.Ty.TheFolds.{fold-Ty}

-- ---- what a type has, where it is of the right kind

abbrev pub is_unit_in : Ty-F Ty → Bool
is_unit_in Ty-F.Unit = true
is_unit_in _ = false

-- the elements of a buffer
abbrev pub element_of : Ty-F Ty → Option Ty
element_of (Ty-F.Buf a) = Some a
element_of _ = None

-- the name and the type arguments of a struct or a sum
abbrev pub name_of : Ty-F Ty → Option (List ℕ × List Ty)
name_of (Ty-F.Named x args) = Some (x, args)
name_of _ = None

-- the type arguments of a struct or a sum
abbrev pub arguments_of : Ty-F Ty → List Ty
arguments_of (Ty-F.Named x args) = args
arguments_of _ = []

-- ---- labels erased

abbrev pub public : IntTy → IntTy
public i = record { width = i.width; secret = false }

abbrev pub level_erased : Ty-F Ty → Ty
level_erased Ty-F.Bool = t.Bool
level_erased Ty-F.Unit = t.Unit
level_erased (Ty-F.Int i) = t.Int (public i)
level_erased (Ty-F.Buf a) = t.Buf a
level_erased (Ty-F.Var x) = t.Var x
level_erased (Ty-F.Named x ts) = t.Named x ts

-- the type with each integer type as the public one of its width
abbrev pub erased : Ty → Ty
erased = fold-Ty Ty level_erased

abbrev pub int_ty : IntTy → Ty
int_ty i = t.Int (public i)

-- the type of an index
abbrev pub u32 : Ty
u32 = t.Int (record { width = W32; secret = false })

-- ---- type arguments

-- the argument of a type variable; a variable that has none stays
abbrev pub argument_of : List (List ℕ) → List Ty → List ℕ → Ty
argument_of (v ∷ vars) (a ∷ args) x = if bytes_eq v x then a else argument_of vars args x
argument_of _ _ x = t.Var x

abbrev pub level_at : List (List ℕ) → List Ty → Ty-F Ty → Ty
level_at vars args Ty-F.Bool = t.Bool
level_at vars args Ty-F.Unit = t.Unit
level_at vars args (Ty-F.Int i) = t.Int i
level_at vars args (Ty-F.Buf a) = t.Buf a
level_at vars args (Ty-F.Var x) = argument_of vars args x
level_at vars args (Ty-F.Named x ts) = t.Named x ts

-- a type with arguments in place of type variables
abbrev pub type_at : List (List ℕ) → List Ty → Ty → Ty
type_at vars args = fold-Ty Ty (level_at vars args)
