-- The type of an expression in a scope, computed: one combinator a form.
use Rattle.std.specs.Prelude.{ℕ, ◌^◌, Bool, ◌&&◌, ◌||◌, nat_lt, nat_le, List, [], ◌∷◌, Option, Some, None}
use Rattle.krml_trace.specs.Width.{bits}
use Rattle.krml_trace.specs.Limits.{max_elements}
use Rattle.krml_syntax.specs.declared.tree.IntTy.{IntTy}
use Rattle.krml_syntax.specs.declared.tree.Ty.{Ty, out-Ty}
use Rattle.krml_syntax.specs.declared.tree.Ty.TheVariants as t
use Rattle.krml_syntax.specs.declared.tree.Pat.{Pat}
use Rattle.krml_syntax.specs.declared.tree.Slot.{Slot}
use Rattle.krml_syntax.specs.declared.tree.Def.{Def}
use Rattle.krml_syntax.specs.declared.tree.Arm.{Arm}
use Rattle.krml_syntax.specs.declared.tree.Item.{Item}
use Rattle.krml_syntax.specs.declared.tree.Case.{Case}
use Rattle.krml_syntax.specs.declared.tree.Expr.{Expr, out-Expr, map-Expr}
use Rattle.krml_syntax.specs.declared.tree.Expr.TheOpen.{Expr-F, Arm-F, Item-F, Case-F}
use Rattle.krml_syntax.specs.declared.tree.Expr.TheFolds.{fold-Expr, fold-Arm, fold-Item, fold-Case}
use Rattle.krml_syntax.specs.Read.{◌>>=◌}
use Rattle.krml_ast.specs.Names.{table_named}
use Rattle.krml_syntax.specs.Types.{erased, int_ty, u32, is_unit_in, element_of}
use Rattle.krml_ast.specs.Typing.{look, Scope, with_vars, in_loop, in_frame}
use Rattle.krml_intern.specs.Scope.{are_distinct}
use Rattle.krml_types.specs.Types.{same_ty, is_flat, is_type}
use Rattle.krml_types.specs.Parts.{demand, is_value}
use Rattle.krml_types.specs.Instances.{Instance, make_at, con_at, call_at, field_type, tag_type, part_type}
use Rattle.krml_types.specs.Scopes.{is_framed, slot_type}
use Rattle.krml_types.specs.Patterns.{binds}

-- the type of an expression, or of a case
abbrev pub Comp : Type 0
Comp = Scope → Option Ty

-- of a branch of a match on a value of a type
abbrev pub ArmComp : Type 0
ArmComp = Ty → Comp

-- the scope behind an item
abbrev pub ItemComp : Type 0
ItemComp = Scope → Option Scope

-- ---- operands

-- the expression has the type
abbrev pub has : Comp → Ty → Scope → Option (Unit {0})
has c a g = c g >>= λ b. demand (same_ty b a)

-- an operand of a type gives something, or operands of types do
abbrev pub one_type : Comp → Ty → Ty → Comp
one_type c a r g = has c a g >>= λ u. Some r

abbrev pub two_type : Comp → Comp → Ty → Ty → Ty → Comp
two_type c d a b r g = has c a g >>= λ u. has d b g >>= λ w. Some r

-- each expression has its type
abbrev pub each_has : List Comp → List Ty → Scope → Option (Unit {0})
each_has [] [] g = Some tt
each_has (c ∷ cs) (a ∷ types) g = has c a g >>= λ u. each_has cs types g
each_has _ _ g = None

abbrev pub apply_type : List Comp → Option Instance → Comp
apply_type es at g = at >>= λ i. each_has es i.takes g >>= λ u. Some i.gives

-- the tests of a case
abbrev pub are_tests : List Comp → Scope → Option (Unit {0})
are_tests [] g = Some tt
are_tests (c ∷ cs) g = has c t.Bool g >>= λ u. are_tests cs g

-- ---- parts in turn

abbrev pub items_from : List ItemComp → Scope → Option Scope
items_from [] g = Some g
items_from (i ∷ is) g = i g >>= λ h. items_from is h

-- the one type of branches
abbrev pub joined : Option Ty → Ty → Option Ty
joined None a = Some a
joined (Some r) a = demand (same_ty a r) >>= λ u. Some r

abbrev pub arms_from : List ArmComp → Ty → Scope → Option Ty → Option Ty
arms_from [] s g found = found
arms_from (c ∷ cs) s g found = c s g >>= λ a. joined found a >>= λ r. arms_from cs s g (Some r)

abbrev pub cases_from : List Comp → Scope → Option Ty → Option Ty
cases_from [] g found = found
cases_from (c ∷ cs) g found = c g >>= λ a. joined found a >>= λ r. cases_from cs g (Some r)

-- ---- forms

abbrev pub block_type : List ItemComp → Comp → Comp
block_type items c g = items_from items g >>= λ h. c h

abbrev pub num_type : IntTy → ℕ → Option Ty
num_type i n = demand (nat_lt n (2 ^ bits i.width)) >>= λ u. Some (int_ty i)

-- the elements of a buffer at an index
abbrev pub read_type : Comp → Comp → Comp
read_type c i g = c g >>= λ a. has i u32 g >>= λ u. element_of (out-Ty a)

abbrev pub write_type : Comp → Comp → Comp → Comp
write_type c i v g = read_type c i g >>= λ b. one_type v b t.Unit g

abbrev pub slice_type : Comp → Comp → Comp → Comp
slice_type c i n g = read_type c i g >>= λ b. one_type n u32 (t.Buf b) g

abbrev pub tab_type : List Def → List ℕ → Comp → Comp
tab_type defs x c g = table_named defs x >>= λ i. one_type c u32 (int_ty i) g

abbrev pub if_type : Comp → Comp → Comp → Comp
if_type c d e g = has c t.Bool g >>= λ u. d g >>= λ r. one_type e r r g

abbrev pub match_type : Comp → List ArmComp → Comp
match_type c arms g = c g >>= λ s. demand (is_value s) >>= λ u. arms_from arms s g None

abbrev pub is_result : List Def → Ty → Bool
is_result defs a = is_unit_in (out-Ty a) || is_flat defs a

abbrev pub frame_type : List Def → List Slot → Comp → Comp
frame_type defs slots c g = c (in_frame slots g) >>= λ a. demand (is_result defs a) >>= λ u. Some a

-- whether a buffer of so many elements of a type may be made
abbrev pub may_alloc : List Def → List (List ℕ) → Ty → ℕ → Bool
may_alloc defs tvars b n = is_type defs tvars b && is_flat defs b && nat_le 1 n && nat_le n max_elements

abbrev pub alloc_type : List Def → List (List ℕ) → Ty → ℕ → Comp → Comp
alloc_type defs tvars b n c g = demand (is_framed g.frame && may_alloc defs tvars b n) >>= λ u. one_type c (erased b) (t.Buf (erased b)) g

abbrev pub while_type : Comp → Comp → Comp
while_type c d g = two_type c d t.Bool t.Unit t.Unit (in_loop g)

-- a turn of a loop over a variable
abbrev pub turn_type : List ℕ → Comp → Comp
turn_type x c g = one_type c t.Unit t.Unit (with_vars ((x, u32) ∷ []) (in_loop g))

abbrev pub for_type : List ℕ → Comp → Comp → Comp → Comp
for_type x c d e g = has c u32 g >>= λ u. has d u32 g >>= λ w. turn_type x e g

abbrev pub fill_type : ℕ → Comp → Comp
fill_type k c g = slot_type g.frame k >>= λ a. one_type c a (t.Buf a) g

-- one layer of an expression: its form, with the types of its parts
abbrev pub Layer : Type 0
Layer = Expr-F Comp ItemComp ArmComp Comp

-- on two numbers
abbrev pub binary_step : Layer → Comp
binary_step (Expr-F.Bin op i a b) g = two_type a b (int_ty i) (int_ty i) (int_ty i) g
binary_step (Expr-F.Shift left i a n) g = two_type a n (int_ty i) u32 (int_ty i) g
binary_step (Expr-F.Cmp op i a b) g = two_type a b (int_ty i) (int_ty i) t.Bool g
binary_step _ g = None

-- on one number or truth value
abbrev pub unary_step : List Def → Layer → Comp
unary_step defs (Expr-F.Not a) g = one_type a t.Bool t.Bool g
unary_step defs (Expr-F.Cast i j a) g = one_type a (int_ty i) (int_ty j) g
unary_step defs (Expr-F.Hide i a) g = one_type a (int_ty i) (int_ty i) g
unary_step defs (Expr-F.Tab x a) g = tab_type defs x a g
unary_step defs _ g = None

-- branches and blocks
abbrev pub flow_step : Layer → Comp
flow_step (Expr-F.If c a b) g = if_type c a b g
flow_step (Expr-F.Match a arms) g = match_type a arms g
flow_step (Expr-F.Do items a) g = block_type items a g
flow_step (Expr-F.Cases cases) g = cases_from cases g None
flow_step _ g = None

-- loops
abbrev pub loop_step : Layer → Comp
loop_step (Expr-F.While c a) g = while_type c a g
loop_step (Expr-F.For x a b c) g = for_type x a b c g
loop_step _ g = None

-- what is done with a buffer
abbrev pub access_step : Layer → Comp
access_step (Expr-F.Read a i) g = read_type a i g
access_step (Expr-F.Write a i v) g = write_type a i v g
access_step (Expr-F.Slice a i n) g = slice_type a i n g
access_step _ g = None

-- where buffers are made
abbrev pub frame_step : List Def → List (List ℕ) → Layer → Comp
frame_step defs tvars (Expr-F.Frame slots a) g = frame_type defs slots a g
frame_step defs tvars (Expr-F.Alloc b n a) g = alloc_type defs tvars b n a g
frame_step defs tvars (Expr-F.Fill k a) g = fill_type k a g
frame_step defs tvars _ g = None

-- structs, constructors and functions at type arguments
abbrev pub applied_step : List Def → List (List ℕ) → Layer → Comp
applied_step defs tvars (Expr-F.Make x args es) g = apply_type es (make_at defs tvars x args) g
applied_step defs tvars (Expr-F.Con x args es) g = apply_type es (con_at defs tvars x args) g
applied_step defs tvars (Expr-F.Call x args es) g = apply_type es (call_at defs tvars x args) g
applied_step defs tvars _ g = None

-- parts of structs and sums
abbrev pub part_step : List Def → Layer → Comp
part_step defs (Expr-F.Get y a) g = a g >>= λ s. field_type defs y s
part_step defs (Expr-F.TagIs x a) g = a g >>= λ s. tag_type defs x s
part_step defs (Expr-F.Part x j a) g = a g >>= λ s. part_type defs x j s
part_step defs _ g = None

abbrev pub type_step : List Def → List (List ℕ) → Layer → Comp
type_step defs tvars (Expr-F.Var x) g = look g.vars x
type_step defs tvars Expr-F.Unit g = Some t.Unit
type_step defs tvars (Expr-F.Bool b) g = Some t.Bool
type_step defs tvars (Expr-F.Num i n) g = num_type i n
type_step defs tvars (Expr-F.Bin op i a b) g = binary_step (Expr-F.Bin op i a b) g
type_step defs tvars (Expr-F.Shift left i a n) g = binary_step (Expr-F.Shift left i a n) g
type_step defs tvars (Expr-F.Cmp op i a b) g = binary_step (Expr-F.Cmp op i a b) g
type_step defs tvars (Expr-F.Not a) g = unary_step defs (Expr-F.Not a) g
type_step defs tvars (Expr-F.Cast i j a) g = unary_step defs (Expr-F.Cast i j a) g
type_step defs tvars (Expr-F.Hide i a) g = unary_step defs (Expr-F.Hide i a) g
type_step defs tvars (Expr-F.Make x args es) g = applied_step defs tvars (Expr-F.Make x args es) g
type_step defs tvars (Expr-F.Get y a) g = part_step defs (Expr-F.Get y a) g
type_step defs tvars (Expr-F.Con x args es) g = applied_step defs tvars (Expr-F.Con x args es) g
type_step defs tvars (Expr-F.Read a i) g = access_step (Expr-F.Read a i) g
type_step defs tvars (Expr-F.Write a i v) g = access_step (Expr-F.Write a i v) g
type_step defs tvars (Expr-F.Slice a i n) g = access_step (Expr-F.Slice a i n) g
type_step defs tvars (Expr-F.Tab x a) g = unary_step defs (Expr-F.Tab x a) g
type_step defs tvars (Expr-F.If c a b) g = flow_step (Expr-F.If c a b) g
type_step defs tvars (Expr-F.Match a arms) g = flow_step (Expr-F.Match a arms) g
type_step defs tvars (Expr-F.Do items a) g = flow_step (Expr-F.Do items a) g
type_step defs tvars (Expr-F.Frame slots a) g = frame_step defs tvars (Expr-F.Frame slots a) g
type_step defs tvars (Expr-F.Alloc b n a) g = frame_step defs tvars (Expr-F.Alloc b n a) g
type_step defs tvars (Expr-F.While c a) g = loop_step (Expr-F.While c a) g
type_step defs tvars (Expr-F.For x a b c) g = loop_step (Expr-F.For x a b c) g
type_step defs tvars (Expr-F.Call x args es) g = applied_step defs tvars (Expr-F.Call x args es) g
type_step defs tvars (Expr-F.Cases cases) g = flow_step (Expr-F.Cases cases) g
type_step defs tvars (Expr-F.TagIs x a) g = part_step defs (Expr-F.TagIs x a) g
type_step defs tvars (Expr-F.Part x j a) g = part_step defs (Expr-F.Part x j a) g
type_step defs tvars (Expr-F.Fill k a) g = frame_step defs tvars (Expr-F.Fill k a) g

-- the body stands in the scope with the variables of the pattern
abbrev pub arm_type : List Def → Pat → Comp → ArmComp
arm_type defs q c a g = binds defs q a [] >>= λ vars. demand (are_distinct vars) >>= λ u. c (with_vars vars g)

abbrev pub arm_step : List Def → Arm-F Comp ItemComp ArmComp Comp → ArmComp
arm_step defs arm a g = arm_type defs arm.pat arm.body a g

abbrev pub let_type : List Def → List (List ℕ) → List ℕ → Ty → Comp → ItemComp
let_type defs tvars x b c g = demand (is_type defs tvars b && is_value b) >>= λ u. has c (erased b) g >>= λ w. Some (with_vars ((x, erased b) ∷ []) g)

abbrev pub item_step : List Def → List (List ℕ) → Item-F Comp ItemComp ArmComp Comp → ItemComp
item_step defs tvars (Item-F.Let x b a) g = let_type defs tvars x b a g
item_step defs tvars (Item-F.Run a) g = has a t.Unit g >>= λ u. Some g

abbrev pub case_type : List Comp → Comp → Comp
case_type tests c g = are_tests tests g >>= λ u. c g

abbrev pub case_step : Case-F Comp ItemComp ArmComp Comp → Comp
case_step x g = case_type x.tests x.body g

abbrev pub type_of : List Def → List (List ℕ) → Expr → Comp
type_of defs tvars = fold-Expr Comp ItemComp ArmComp Comp (type_step defs tvars) (item_step defs tvars) (arm_step defs) case_step

abbrev pub arm_of : List Def → List (List ℕ) → Arm → ArmComp
arm_of defs tvars = fold-Arm Comp ItemComp ArmComp Comp (type_step defs tvars) (item_step defs tvars) (arm_step defs) case_step

abbrev pub item_of : List Def → List (List ℕ) → Item → ItemComp
item_of defs tvars = fold-Item Comp ItemComp ArmComp Comp (type_step defs tvars) (item_step defs tvars) (arm_step defs) case_step

abbrev pub case_of : List Def → List (List ℕ) → Case → Comp
case_of defs tvars = fold-Case Comp ItemComp ArmComp Comp (type_step defs tvars) (item_step defs tvars) (arm_step defs) case_step

abbrev pub layer_of : List Def → List (List ℕ) → Expr → Layer
layer_of defs tvars x = map-Expr Expr Item Arm Case Comp ItemComp ArmComp Comp (type_of defs tvars) (item_of defs tvars) (arm_of defs tvars) (case_of defs tvars) (out-Expr x)
