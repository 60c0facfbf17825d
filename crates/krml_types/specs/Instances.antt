-- Structs, constructors and functions at type arguments.
use Rattle.std.specs.Prelude.{ℕ, ◌==◌, Bool, ◌&&◌, List, map, length, Option, Some, slice_get}
use Rattle.krml_syntax.specs.declared.tree.Ty.{Ty, out-Ty}
use Rattle.krml_syntax.specs.declared.tree.Ty.TheVariants as t
use Rattle.krml_syntax.specs.declared.tree.Def.{Def}
use Rattle.krml_syntax.specs.Read.{◌>>=◌}
use Rattle.krml_ast.specs.declared.component.Component.{Component}
use Rattle.krml_ast.specs.Components.{written}
use Rattle.krml_ast.specs.Names.{struct_named, con_named, fun_named, field_named}
use Rattle.krml_syntax.specs.Types.{erased, name_of}
use Rattle.krml_ast.specs.Typing.{at, fields_at}
use Rattle.krml_types.specs.Parts.{demand, args_of}
use Rattle.krml_types.specs.Types.{are_arguments}

-- What an instance takes and gives.
pub record Instance : Type 0 where
  pub takes : List Ty
  pub gives : Ty

-- whether type arguments serve for type variables
abbrev pub serve : List Def → List (List ℕ) → List (List ℕ) → List Ty → Bool
serve defs tvars vars args = (length args == length vars) && are_arguments defs tvars args

-- ---- at written type arguments

-- the struct or sum of a name
abbrev pub named_at : List ℕ → List Ty → Ty
named_at x args = t.Named x (map erased args)

abbrev pub make_at : List Def → List (List ℕ) → List ℕ → List Ty → Option Instance
make_at defs tvars x args = struct_named defs x >>= λ s. demand (serve defs tvars s.0 args) >>= λ u.
    Some (record { takes = fields_at s.0 args s.1; gives = named_at x args })

abbrev pub con_at : List Def → List (List ℕ) → List ℕ → List Ty → Option Instance
con_at defs tvars x args = con_named defs x >>= λ c. demand (serve defs tvars c.vars args) >>= λ u.
    Some (record { takes = map (at c.vars args) c.args; gives = named_at c.sum args })

abbrev pub call_at : List Def → List (List ℕ) → List ℕ → List Ty → Option Instance
call_at defs tvars x args = fun_named defs x >>= λ f. demand (serve defs tvars f.vars args) >>= λ u.
    Some (record { takes = fields_at f.vars args f.params; gives = at f.vars args f.result })

-- ---- at the type arguments of a type

-- a field of a struct
abbrev pub field_type : List Def → List ℕ → Ty → Option Ty
field_type defs y a = name_of (out-Ty a) >>= λ n. struct_named defs n.0 >>= λ s. field_named s.1 y >>= λ b. Some (at s.0 n.1 b)

-- the fields of the struct of a name
abbrev pub make_parts : List Def → List ℕ → Ty → Option (List Ty)
make_parts defs x a = struct_named defs x >>= λ s. args_of x (out-Ty a) >>= λ args. Some (fields_at s.0 args s.1)

-- the arguments of a constructor
abbrev pub con_parts : List Def → List ℕ → Ty → Option (List Ty)
con_parts defs x a = con_named defs x >>= λ c. args_of c.sum (out-Ty a) >>= λ args. Some (map (at c.vars args) c.args)

abbrev pub part_type : List Def → List ℕ → ℕ → Ty → Option Ty
part_type defs x j a = con_named defs x >>= λ c. args_of c.sum (out-Ty a) >>= λ args. slice_get c.args j >>= λ b. Some (at c.vars args b)

-- the test whether a value is of a constructor
abbrev pub tag_type : List Def → List ℕ → Ty → Option Ty
tag_type defs x a = con_named defs x >>= λ c. args_of c.sum (out-Ty a) >>= λ args. Some t.Bool

-- ---- by kind and place

-- a component of a definition at type arguments
abbrev pub part_at : List Def → Component → List ℕ → List Ty → ℕ → Option Ty
part_at defs kind x args j = written defs kind x j >>= λ w. Some (at w.0 args w.1)
