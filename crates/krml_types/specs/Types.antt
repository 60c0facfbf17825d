-- Whether types are the same, flat or well formed, computed.
use Rattle.std.specs.Prelude.{ℕ, ◌==◌, Bool, true, false, not, ◌&&◌, List, [], ◌∷◌, map, length, Option, Some, None}
use Rattle.std.specs.Str.{bytes_eq}
use Rattle.krml_trace.specs.Width.{same_width}
use Rattle.krml_syntax.specs.declared.tree.IntTy.{IntTy}
use Rattle.krml_syntax.specs.declared.tree.Ty.{Ty, out-Ty}
use Rattle.krml_syntax.specs.declared.tree.Ty.TheOpen.{Ty-F}
use Rattle.krml_syntax.specs.declared.tree.Ty.TheFolds.{fold-Ty, para-Ty}
use Rattle.krml_syntax.specs.declared.tree.Def.{Def}
use Rattle.krml_ast.specs.Names.{Composite, type_named, vars_of}
use Rattle.krml_ast.specs.Places.{is_among}
use Rattle.krml_types.specs.Holds.{same_bool, holds_by, holders}
use Rattle.krml_types.specs.Parts.{is_value}

-- ---- the same

abbrev pub same_int : IntTy → IntTy → Bool
same_int i j = same_width i.width j.width && same_bool i.secret j.secret

abbrev pub all_same : List (Ty → Bool) → List Ty → Bool
all_same [] [] = true
all_same (f ∷ fs) (a ∷ types) = f a && all_same fs types
all_same _ _ = false

abbrev pub same_in : Ty-F (Ty → Bool) → Ty-F Ty → Bool
same_in Ty-F.Bool Ty-F.Bool = true
same_in Ty-F.Unit Ty-F.Unit = true
same_in (Ty-F.Int i) (Ty-F.Int j) = same_int i j
same_in (Ty-F.Buf f) (Ty-F.Buf a) = f a
same_in (Ty-F.Var x) (Ty-F.Var y) = bytes_eq x y
same_in (Ty-F.Named x fs) (Ty-F.Named y types) = bytes_eq x y && all_same fs types
same_in _ _ = false

abbrev pub ty_same : Ty → Ty → Bool
ty_same = fold-Ty (Ty → Bool) (λ x a. same_in x (out-Ty a))

unfoldable pub same_ty : Ty → Ty → Bool
same_ty a b = ty_same a b

-- ---- flat

-- a type of values that holds no buffer
unfoldable pub is_flat : List Def → Ty → Bool
is_flat defs a = is_value a && not (holds_by defs (holders defs) a)

-- ---- well formed

-- a struct or sum that has so many type variables
abbrev pub takes : Option Composite → ℕ → Bool
takes (Some c) n = n == length (vars_of c)
takes None n = false

-- each type argument is well formed and flat
abbrev pub all_serve : (Ty → Bool) → List (Ty × Bool) → Bool
all_serve flat [] = true
all_serve flat (p ∷ ps) = p.1 && flat p.0 && all_serve flat ps

abbrev pub is_type_in : (List ℕ → Option Composite) → (Ty → Bool) → List (List ℕ) → Ty-F (Ty × Bool) → Bool
is_type_in find flat vars Ty-F.Bool = true
is_type_in find flat vars Ty-F.Unit = true
is_type_in find flat vars (Ty-F.Int i) = true
is_type_in find flat vars (Ty-F.Buf p) = p.1 && flat p.0
is_type_in find flat vars (Ty-F.Var x) = is_among vars x
is_type_in find flat vars (Ty-F.Named x ps) = takes (find x) (length ps) && all_serve flat ps

-- by what the names mean and by which types are flat
abbrev pub is_type_by : (List ℕ → Option Composite) → (Ty → Bool) → List (List ℕ) → Ty → Bool
is_type_by find flat vars = para-Ty Bool (is_type_in find flat vars)

abbrev pub are_arguments_by : (List ℕ → Option Composite) → (Ty → Bool) → List (List ℕ) → List Ty → Bool
are_arguments_by find flat vars args = all_serve flat (map (λ a. (a, is_type_by find flat vars a)) args)

unfoldable pub is_type : List Def → List (List ℕ) → Ty → Bool
is_type defs vars a = is_type_by (type_named defs) (is_flat defs) vars a

unfoldable pub are_arguments : List Def → List (List ℕ) → List Ty → Bool
are_arguments defs vars args = are_arguments_by (type_named defs) (is_flat defs) vars args
