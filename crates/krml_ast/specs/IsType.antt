-- Types: which are well formed in a file, and which hold buffers.
use Rattle.std.specs.Prelude.{◌≡◌, ℕ, false, List, [], ◌∷◌, length, Some}
use Rattle.std.specs.List.{Contains}
use Rattle.krml_syntax.specs.declared.tree.IntTy.{IntTy}
use Rattle.krml_syntax.specs.declared.tree.Ty.{Ty, out-Ty}
use Rattle.krml_syntax.specs.declared.tree.Ty.TheVariants as t
use Rattle.krml_syntax.specs.declared.tree.Field.{Field}
use Rattle.krml_syntax.specs.declared.tree.Def.{Def}
use Rattle.krml_syntax.specs.Types.{is_unit_in}
use Rattle.krml_ast.specs.Names.{Composite, Struct, type_named, vars_of}

-- A type of values: any but `unit`.
abbrev pub IsValue : Ty → Type 0
IsValue a = is_unit_in (out-Ty a) ≡ false

-- A type holds a buffer where it is one, or a struct with a field that holds one.
pub data HoldsBuffer (defs : List Def) : Ty → Type 0 where
  buffer : (a : Ty) → HoldsBuffer defs (t.Buf a)
  field : {x : List ℕ} (args : List Ty) {vars : List (List ℕ)} {fields : List Field} {f : Field}
      → type_named defs x ≡ Some (Struct vars fields) → Contains fields f → HoldsBuffer defs f.ty → HoldsBuffer defs (t.Named x args)

-- A type of values that holds no buffer.
pub record IsFlat (defs : List Def) (a : Ty) : Type 0 where
  pub value : IsValue a
  pub flat : HoldsBuffer defs a → ⊥

mutual
  -- A type is well formed among definitions of a file, in a definition with these type variables.
  pub data IsType (defs : List Def) (vars : List (List ℕ)) : Ty → Type 0 where
    bool : IsType defs vars t.Bool
    unit : IsType defs vars t.Unit
    int : (i : IntTy) → IsType defs vars (t.Int i)
    -- the elements of a buffer are flat
    buf : (a : Ty) → IsType defs vars a → IsFlat defs a → IsType defs vars (t.Buf a)
    -- a type variable is one of the definition
    var : {x : List ℕ} → Contains vars x → IsType defs vars (t.Var x)
    -- a struct or sum of the file, with as many arguments as it has type variables
    named : {x : List ℕ} {c : Composite} {args : List Ty} → type_named defs x ≡ Some c → length args ≡ length (vars_of c) → AreArguments defs vars args
        → IsType defs vars (t.Named x args)

  -- type arguments are flat
  pub data AreArguments (defs : List Def) (vars : List (List ℕ)) : List Ty → Type 0 where
    none : AreArguments defs vars []
    one : {a : Ty} {args : List Ty} → IsType defs vars a → IsFlat defs a → AreArguments defs vars args → AreArguments defs vars (a ∷ args)
