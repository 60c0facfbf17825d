-- The labelled type of an expression: the one that the typing rules give it, with the labels of the types that are written in it.
-- It is computed along the parts that give the value: what else an expression has is not looked at.
-- Scopes have labelled types, and the slots of the innermost frame that stands inside of the expression.
use Rattle.std.specs.Prelude.{◌≡◌, ℕ, true, List, [], ◌∷◌, map, reverse, slice_get, Option, Some, None}
use Rattle.krml_syntax.specs.declared.tree.IntTy.{IntTy}
use Rattle.krml_syntax.specs.declared.tree.Ty.{Ty, out-Ty}
use Rattle.krml_syntax.specs.declared.tree.Ty.TheVariants as t
use Rattle.krml_syntax.specs.declared.tree.Field.{Field}
use Rattle.krml_syntax.specs.declared.tree.Pat.{Pat}
use Rattle.krml_syntax.specs.declared.tree.Pat.TheOpen.{Pat-F}
use Rattle.krml_syntax.specs.declared.tree.Pat.TheFolds.{fold-Pat}
use Rattle.krml_syntax.specs.declared.tree.Slot.{Slot}
use Rattle.krml_syntax.specs.declared.tree.Def.{Def}
use Rattle.krml_syntax.specs.declared.tree.Arm.{Arm}
use Rattle.krml_syntax.specs.declared.tree.Item.{Item}
use Rattle.krml_syntax.specs.declared.tree.Case.{Case}
use Rattle.krml_syntax.specs.declared.tree.Expr.{Expr}
use Rattle.krml_syntax.specs.declared.tree.Expr.TheOpen.{Expr-F, Arm-F, Item-F, Case-F}
use Rattle.krml_syntax.specs.declared.tree.Expr.TheFolds.{fold-Expr, fold-Arm, fold-Item, fold-Case}
use Rattle.krml_syntax.specs.Read.{◌>>=◌}
use Rattle.krml_ast.specs.Names.{Constructor, struct_named, con_named, table_named, fun_named, field_named}
use Rattle.krml_syntax.specs.Types.{erased, type_at, element_of, name_of, arguments_of}
use Rattle.krml_ast.specs.Typing.{Vars, look, Scope, with_vars, in_frame, HasType}

-- ---- types

-- the secret type of a width
abbrev pub hidden : IntTy → IntTy
hidden i = record { width = i.width; secret = true }

-- the types of arguments or fields at the type arguments of a type
abbrev pub con_parts : Option Constructor → Ty → List Ty
con_parts (Some c) a = map (type_at c.vars (arguments_of (out-Ty a))) c.args
con_parts None a = []

abbrev pub make_parts : Option (List (List ℕ) × List Field) → Ty → List Ty
make_parts (Some s) a = map (λ f. type_at s.0 (arguments_of (out-Ty a)) f.ty) s.1
make_parts None a = []

-- ---- patterns

-- the variables that a pattern binds at a place of a type, before those that were bound already
abbrev pub Binds : Type 0
Binds = Ty → Vars → Vars

abbrev pub parts_bind : List Binds → List Ty → Vars → Vars
parts_bind (q ∷ qs) (a ∷ types) vars = parts_bind qs types (q a vars)
parts_bind _ _ vars = vars

abbrev pub pat_step : List Def → Pat-F Binds → Binds
pat_step defs Pat-F.Any a vars = vars
pat_step defs (Pat-F.Bind x) a vars = (x, a) ∷ vars
pat_step defs (Pat-F.Bool b) a vars = vars
pat_step defs (Pat-F.Num i n) a vars = vars
pat_step defs (Pat-F.Con x qs) a vars = parts_bind qs (con_parts (con_named defs x) a) vars
pat_step defs (Pat-F.Make x qs) a vars = parts_bind qs (make_parts (struct_named defs x) a) vars

abbrev pub binds : List Def → Pat → Binds
binds defs = fold-Pat Binds (pat_step defs)

-- ---- expressions

-- the labelled type of an expression, or of a case
abbrev pub Comp : Type 0
Comp = Scope → Option Ty

-- of a branch of a match on a value of a type
abbrev pub ArmComp : Type 0
ArmComp = Ty → Comp

-- the variables behind an item
abbrev pub ItemComp : Type 0
ItemComp = Vars → Vars

abbrev pub tab_type : List Def → List ℕ → Option Ty
tab_type defs x = table_named defs x >>= λ i. Some (t.Int i)

abbrev pub con_type : List Def → List ℕ → List Ty → Option Ty
con_type defs x args = con_named defs x >>= λ c. Some (t.Named c.sum args)

abbrev pub call_type : List Def → List ℕ → List Ty → Option Ty
call_type defs x args = fun_named defs x >>= λ f. Some (type_at f.vars args f.result)

-- a field of a value
abbrev pub field_type : List Def → List ℕ → Ty → Option Ty
field_type defs y a = name_of (out-Ty a) >>= λ n. struct_named defs n.0 >>= λ s. field_named s.1 y >>= λ b. Some (type_at s.0 n.1 b)

-- an argument of a constructor
abbrev pub part_type : List Def → List ℕ → ℕ → Ty → Option Ty
part_type defs x j a = con_named defs x >>= λ c. slice_get c.args j >>= λ b. Some (type_at c.vars (arguments_of (out-Ty a)) b)

-- the buffer of a slot: of a frame inside of the expression, or else of one around it, whose elements have the type of the first one
abbrev pub fill_type : Option (List Slot) → ℕ → Option Ty → Option Ty
fill_type (Some slots) k a = slice_get slots k >>= λ s. Some (t.Buf s.ty)
fill_type None k a = a >>= λ b. Some (t.Buf b)

abbrev pub first_arm : List ArmComp → ArmComp
first_arm [] a g = None
first_arm (c ∷ cs) a g = c a g

abbrev pub first_case : List Comp → Comp
first_case [] g = None
first_case (c ∷ cs) g = c g

-- the variables of items, before those that were bound already
abbrev pub items_bind : List ItemComp → Vars → Vars
items_bind [] vars = vars
items_bind (i ∷ is) vars = items_bind is (i vars)

abbrev pub type_step : List Def → Expr-F Comp ItemComp ArmComp Comp → Comp
type_step defs (Expr-F.Var x) g = look g.vars x
type_step defs Expr-F.Unit g = Some t.Unit
type_step defs (Expr-F.Bool b) g = Some t.Bool
type_step defs (Expr-F.Num i n) g = Some (t.Int i)
type_step defs (Expr-F.Bin op i a b) g = Some (t.Int i)
type_step defs (Expr-F.Shift left i a n) g = Some (t.Int i)
type_step defs (Expr-F.Cmp op i a b) g = Some t.Bool
type_step defs (Expr-F.Not a) g = Some t.Bool
type_step defs (Expr-F.Cast i j a) g = Some (t.Int j)
type_step defs (Expr-F.Hide i a) g = Some (t.Int (hidden i))
type_step defs (Expr-F.Make x args es) g = Some (t.Named x args)
type_step defs (Expr-F.Get y a) g = a g >>= field_type defs y
type_step defs (Expr-F.Con x args es) g = con_type defs x args
type_step defs (Expr-F.Read a i) g = a g >>= λ b. element_of (out-Ty b)
type_step defs (Expr-F.Write a i v) g = Some t.Unit
type_step defs (Expr-F.Slice a i n) g = a g
type_step defs (Expr-F.Tab x a) g = tab_type defs x
type_step defs (Expr-F.If c a b) g = a g
type_step defs (Expr-F.Match a arms) g = a g >>= λ s. first_arm arms s g
type_step defs (Expr-F.Do items a) g = a (with_vars (items_bind items []) g)
type_step defs (Expr-F.Frame slots a) g = a (in_frame slots g)
type_step defs (Expr-F.Alloc b n a) g = Some (t.Buf b)
type_step defs (Expr-F.While c a) g = Some t.Unit
type_step defs (Expr-F.For x a b c) g = Some t.Unit
type_step defs (Expr-F.Call x args es) g = call_type defs x args
type_step defs (Expr-F.Cases cases) g = first_case cases g
type_step defs (Expr-F.TagIs x a) g = Some t.Bool
type_step defs (Expr-F.Part x j a) g = a g >>= part_type defs x j
type_step defs (Expr-F.Fill k a) g = fill_type g.frame k (a g)

abbrev pub item_step : Item-F Comp ItemComp ArmComp Comp → ItemComp
item_step (Item-F.Let x b a) vars = (x, b) ∷ vars
item_step (Item-F.Run a) vars = vars

-- the body stands in the scope with the variables of the pattern
abbrev pub arm_step : List Def → Arm-F Comp ItemComp ArmComp Comp → ArmComp
arm_step defs arm a g = arm.body (with_vars (binds defs arm.pat a []) g)

abbrev pub case_step : Case-F Comp ItemComp ArmComp Comp → Comp
case_step x g = x.body g

abbrev pub labelled_in : List Def → Expr → Comp
labelled_in defs = fold-Expr Comp ItemComp ArmComp Comp (type_step defs) item_step (arm_step defs) case_step

abbrev pub arm_labelled : List Def → Arm → ArmComp
arm_labelled defs = fold-Arm Comp ItemComp ArmComp Comp (type_step defs) item_step (arm_step defs) case_step

abbrev pub item_binds : List Def → Item → ItemComp
item_binds defs = fold-Item Comp ItemComp ArmComp Comp (type_step defs) item_step (arm_step defs) case_step

abbrev pub case_labelled : List Def → Case → Comp
case_labelled defs = fold-Case Comp ItemComp ArmComp Comp (type_step defs) item_step (arm_step defs) case_step

-- ---- in a scope whose variables are fields, of which the last one of a name counts

abbrev pub vars_of_fields : List Field → Vars
vars_of_fields fields = map (λ f. (f.name, f.ty)) (reverse fields)

abbrev pub labelled_type : List Def → List Field → Expr → Option Ty
labelled_type defs fields x = labelled_in defs x (record { vars = vars_of_fields fields; frame = None })

abbrev pub erased_vars : Vars → Vars
erased_vars vars = map (λ v. (v.0, erased v.1)) vars

-- the scope of the typing rules, in this frame or in none
abbrev pub field_scope : List Field → Option (List Slot) → Scope
field_scope fields frame = record { vars = erased_vars (vars_of_fields fields); frame = frame }

-- An expression has a type in a definition with these type variables and with this frame around it.
pub record IsTypedIn (defs : List Def) (fields : List Field) (x : Expr) : Type 0 where
  pub tvars : List (List ℕ)
  pub frame : Option (List Slot)
  pub ty : Ty
  pub has : HasType defs tvars (field_scope fields frame) x ty

-- A labelled type is each type that the expression has, when its labels are erased.
abbrev pub IsLabelled : List Def → List Field → Expr → Ty → Type 0
IsLabelled defs fields x a = (tvars : List (List ℕ)) (frame : Option (List Slot)) (r : Ty) → HasType defs tvars (field_scope fields frame) x r → erased a ≡ r
