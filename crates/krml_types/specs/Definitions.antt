-- Which definitions are well typed, computed: behind the definitions before each, with buffers held as in the whole file.
use Rattle.std.specs.Prelude.{◌≡◌, ℕ, ◌++◌, Result, Ok, Err, ◌^◌, nat_lt, Bool, true, false, not, ◌&&◌, ◌||◌, List, [], ◌∷◌, map, Option, Some, None}
use Rattle.std.specs.Str.{bytes_eq}
use Rattle.krml_trace.specs.Width.{bits}
use Rattle.krml_syntax.specs.declared.tree.IntTy.{IntTy}
use Rattle.krml_syntax.specs.declared.tree.Ty.{Ty, out-Ty}
use Rattle.krml_syntax.specs.declared.tree.Ty.TheOpen.{Ty-F}
use Rattle.krml_syntax.specs.declared.tree.Field.{Field}
use Rattle.krml_syntax.specs.declared.tree.Con.{Con}
use Rattle.krml_syntax.specs.declared.tree.Expr.{Expr}
use Rattle.krml_syntax.specs.declared.tree.Def.{Def}
use Rattle.krml_syntax.specs.declared.tree.Def.TheVariants as d
use Rattle.krml_ast.specs.Names.{Signature, fun_named, type_named}
use Rattle.krml_syntax.specs.Types.{erased}
use Rattle.krml_ast.specs.Typing.{Vars, Scope}
use Rattle.krml_ast.specs.WellTyped.{names_of}
use Rattle.krml_ast.specs.declared.kind.NameKind.{NameKind}
use Rattle.krml_ast.specs.declared.kind.NameKind.TheVariants as k
use Rattle.krml_ast.specs.Places.{is_among, cons_of, names_in}
use Rattle.krml_types.specs.Types.{same_ty, is_flat, is_type_by, are_arguments_by}
use Rattle.krml_types.specs.Parts.{is_value}
use Rattle.krml_types.specs.Expressions.{is_result, type_of}
use Rattle.krml_types.specs.Judging.{Place, in_scope}
use Rattle.krml_trace.specs.declared.missing.Missing.{Missing}
use Rattle.krml_trace.specs.declared.missing.Missing.TheVariants.{Absent, NoMemory}

-- ---- names

-- none of the names is this one
abbrev pub is_fresh : List (List ℕ) → List ℕ → Bool
is_fresh [] x = true
is_fresh (y ∷ names) x = not (bytes_eq x y) && is_fresh names x

abbrev pub distinct_names : List (List ℕ) → Bool
distinct_names [] = true
distinct_names (x ∷ names) = is_fresh names x && distinct_names names

-- whether a definition gives a name
abbrev pub is_given : (Def → List (List ℕ)) → List Def → List ℕ → Bool
is_given names [] x = false
is_given names (def ∷ defs) x = is_among (names def) x || is_given names defs x

abbrev pub is_new : NameKind → List Def → List ℕ → Bool
is_new kind before x = not (is_given (names_in kind) before x)

abbrev pub all_new : NameKind → List Def → List (List ℕ) → Bool
all_new kind before [] = true
all_new kind before (x ∷ more) = is_new kind before x && all_new kind before more

-- ---- types

-- fields or parameters have well formed types of values
abbrev pub are_fields : List Def → List Def → List (List ℕ) → List Field → Bool
are_fields known defs vars [] = true
are_fields known defs vars (f ∷ fields) = is_type_by (type_named known) (is_flat defs) vars f.ty && is_value f.ty && are_fields known defs vars fields

-- the arguments of constructors have well formed flat types
abbrev pub are_cons : List Def → List Def → List (List ℕ) → List Con → Bool
are_cons known defs vars [] = true
are_cons known defs vars (c ∷ cons) = are_arguments_by (type_named known) (is_flat defs) vars c.args && are_cons known defs vars cons

-- numbers fit
abbrev pub all_fit : IntTy → List ℕ → Bool
all_fit i [] = true
all_fit i (n ∷ nums) = nat_lt n (2 ^ bits i.width) && all_fit i nums

-- ---- functions

abbrev pub param_vars : List Field → Vars
param_vars params = map (λ p. (p.name, erased p.ty)) params

abbrev pub body_scope : List Field → Scope
body_scope params = record { vars = param_vars params; frame = None }

abbrev pub is_of : Option Ty → Ty → Bool
is_of (Some a) r = same_ty a r
is_of None r = false

abbrev pub is_body : List Def → List (List ℕ) → List Field → Ty → Expr → Bool
is_body defs vars params result body = is_of (type_of defs vars body (body_scope params)) (erased result)

-- the parameters go into scope before the variables that stand there
abbrev pub ParamsGo : Result (Unit {0}) Missing → List Field → Place → Place → Type 0
ParamsGo (Ok u) params old new = new ≡ in_scope old (record { vars = param_vars params ++ old.scope.vars; frame = old.scope.frame })
ParamsGo (Err Absent) params old new = ⊥
ParamsGo (Err NoMemory) params old new = Unit {0}

-- type variables, parameters and result are well formed
abbrev pub is_head : List Def → List (List ℕ) → List Field → Ty → Bool
is_head defs vars params result = distinct_names vars && distinct_names (names_of params) && are_fields defs defs vars params
    && is_type_by (type_named defs) (is_flat defs) vars result && is_result defs result

-- ---- entries

abbrev pub is_int_in : Ty-F Ty → Bool
is_int_in (Ty-F.Int i) = true
is_int_in _ = false

abbrev pub is_outside_in : Ty-F Ty → Bool
is_outside_in Ty-F.Bool = true
is_outside_in (Ty-F.Int i) = true
is_outside_in (Ty-F.Buf a) = is_int_in (out-Ty a)
is_outside_in _ = false

abbrev pub are_outside : List Field → Bool
are_outside [] = true
are_outside (p ∷ params) = is_outside_in (out-Ty p.ty) && are_outside params

abbrev pub is_answer_in : Ty-F Ty → Bool
is_answer_in Ty-F.Unit = true
is_answer_in Ty-F.Bool = true
is_answer_in (Ty-F.Int i) = true
is_answer_in _ = false

abbrev pub no_vars : List (List ℕ) → Bool
no_vars [] = true
no_vars (v ∷ vars) = false

abbrev pub is_entry : Option Signature → Bool
is_entry (Some f) = no_vars f.vars && are_outside f.params && is_answer_in (out-Ty f.result)
is_entry None = false

-- ---- definitions

abbrev pub fun_ok : List Def → List (List ℕ) → List Field → Ty → Expr → Bool
fun_ok defs vars params result body = distinct_names vars && distinct_names (names_of params) && are_fields defs defs vars params
    && is_type_by (type_named defs) (is_flat defs) vars result && is_result defs result && is_body defs vars params result body

abbrev pub well_typed : List Def → List Def → Def → Bool
well_typed defs before (d.Struct x vars fields) = is_new k.Type before x && distinct_names vars && distinct_names (names_of fields) && are_fields before defs vars fields
well_typed defs before (d.Sum x vars cons) = is_new k.Type before x && (distinct_names (cons_of cons) && all_new k.Con before (cons_of cons)) && distinct_names vars
    && are_cons before defs vars cons
well_typed defs before (d.Table x i nums) = is_new k.Table before x && all_fit i nums
well_typed defs before (d.Fun x vars params result body) = is_new k.Fun before x && fun_ok defs vars params result body
well_typed defs before (d.Entry x) = is_new k.Entry before x && is_entry (fun_named defs x)
