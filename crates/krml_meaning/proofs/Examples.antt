-- Runs of the source that were computed by hand: expressions, and then files. A definition that says another thing breaks one.
use Rattle.std.proofs.Common.{◌≡◌, ℕ, Bool, true, false, List, [], ◌∷◌, Some, None, codes, refl}
use Rattle.krml_trace.specs.declared.width.Width.{Width}
use Rattle.krml_trace.specs.declared.width.Width.TheVariants.{W8, W32, W64}
use Rattle.krml_trace.specs.declared.argument.Arg.{Arg}
use Rattle.krml_trace.specs.declared.argument.Arg.TheVariants as arg
use Rattle.krml_trace.specs.declared.arguments.Arguments.{Arguments}
use Rattle.krml_trace.specs.declared.bound.Bound.{Bound}
use Rattle.krml_trace.specs.declared.outcome.Cause.TheVariants as cause
use Rattle.krml_trace.specs.declared.outcome.Outcome.{Outcome}
use Rattle.krml_trace.specs.declared.outcome.Outcome.TheVariants as outcome
use Rattle.krml_trace.specs.declared.why.Why.{Why}
use Rattle.krml_trace.specs.declared.why.Why.TheVariants.{Stuck, Spent, Undefined}
use Rattle.krml_trace.specs.Run.{Goes, Ends, ends}
use Rattle.krml_syntax.specs.declared.tree.IntTy.{IntTy}
use Rattle.krml_syntax.specs.declared.tree.Ty.{Ty}
use Rattle.krml_syntax.specs.declared.tree.Ty.TheVariants as t
use Rattle.krml_syntax.specs.declared.tree.Ty.TheFolds.{fold_out-Ty}
use Rattle.krml_syntax.specs.declared.tree.Field.{Field}
use Rattle.krml_syntax.specs.declared.tree.Slot.{Slot}
use Rattle.krml_syntax.specs.declared.tree.Pat.{Pat}
use Rattle.krml_syntax.specs.declared.tree.Pat.TheVariants as p
use Rattle.krml_syntax.specs.declared.tree.BinOp.{BinOp}
use Rattle.krml_syntax.specs.declared.tree.BinOp.TheVariants as op
use Rattle.krml_syntax.specs.declared.tree.CmpOp.{CmpOp}
use Rattle.krml_syntax.specs.declared.tree.CmpOp.TheVariants as cmp
use Rattle.krml_syntax.specs.declared.tree.Arm.{Arm, roll-Arm}
use Rattle.krml_syntax.specs.declared.tree.Case.{Case, roll-Case}
use Rattle.krml_syntax.specs.declared.tree.Item.{Item}
use Rattle.krml_syntax.specs.declared.tree.Item.TheVariants as item
use Rattle.krml_syntax.specs.declared.tree.Expr.{Expr}
use Rattle.krml_syntax.specs.declared.tree.Expr.TheVariants as e
use Rattle.krml_syntax.specs.declared.tree.Def.{Def}
use Rattle.krml_syntax.specs.declared.tree.Def.TheVariants as d
use Rattle.krml_syntax.specs.declared.tree.SourceFile.{SourceFile}
use Rattle.krml_ast.specs.declared.event.SourceEvent.{SourceEvent}
use Rattle.krml_ast.specs.declared.event.SourceEvent.TheVariants as event
use Rattle.krml_meaning.specs.declared.value.Value.{Value}
use Rattle.krml_meaning.specs.declared.value.Value.TheVariants as v
use Rattle.krml_meaning.specs.State.{Block, SourceState, Env}
use Rattle.krml_meaning.specs.Numbered.{none}
use Rattle.krml_meaning.specs.Meaning as src
use Rattle.krml_meaning.proofs.Evals as evals
use Rattle.krml_meaning.proofs.Taken.{takes_any, takes_bind, takes_bool, takes_num, takes_con, takes_make}

-- ---- how a run is computed

-- what forms mean
pub ruleset forms = (
  evals.var_is,
  evals.unit_is,
  evals.bool_is,
  evals.num_is,
  evals.bin_is,
  evals.shift_is,
  evals.cmp_is,
  evals.not_is,
  evals.cast_is,
  evals.hide_is,
  evals.make_is,
  evals.get_is,
  evals.con_is,
  evals.read_is,
  evals.write_is,
  evals.slice_is,
  evals.tab_is,
  evals.choice_is,
  evals.match_is,
  evals.block_is,
  evals.frame_is,
  evals.alloc_is,
  evals.while_is,
  evals.for_is,
  evals.call_is,
  evals.cases_is,
  evals.tag_is_is,
  evals.part_is,
  evals.fill_is,
  evals.bound_is,
  evals.ran_is,
  evals.arm_is,
  evals.case_is,
)

-- what stands in values, types and patterns
pub ruleset shapes = (
  v.outs-Unit,
  v.outs-Bool,
  v.outs-Num,
  v.outs-Struct,
  v.outs-Con,
  v.outs-Buf,
  fold_out-Ty,
  t.outs-Bool,
  t.outs-Unit,
  t.outs-Int,
  t.outs-Buf,
  t.outs-Var,
  t.outs-Named,
  takes_any,
  takes_bind,
  takes_bool,
  takes_num,
  takes_con,
  takes_make,
)

pub ruleset computing = (forms, shapes, src.eval)

-- ---- words for expressions

-- the public type of a width
abbrev pub plain : Width → IntTy
plain w = record { width = w; secret = false }

abbrev pub num : Width → ℕ → Expr
num w n = e.Num (plain w) n

abbrev pub u8 : ℕ → Expr
u8 n = num W8 n

abbrev pub u32 : ℕ → Expr
u32 n = num W32 n

abbrev u64 : ℕ → Expr
u64 n = num W64 n

-- (add u8 a b)
abbrev add8 : Expr → Expr → Expr
add8 a b = e.Bin op.Add (plain W8) a b

-- an expression that leaves the event of an `if`
abbrev yes_8 : ℕ → Expr
yes_8 n = e.If (e.Bool true) (u8 n) (u8 0)

abbrev no_8 : ℕ → Expr
no_8 n = e.If (e.Bool false) (u8 0) (u8 n)

-- one that is stuck
abbrev no_number : Expr
no_number = e.Bin op.Div (plain W8) (u8 1) (u8 0)

abbrev pub u8_ty : Ty
u8_ty = t.Int (plain W8)

abbrev u32_ty : Ty
u32_ty = t.Int (plain W32)

-- ---- operators

-- In any scope and state an expression has a value, and changes nothing.
abbrev Gives : Expr → Value → Type 0
Gives a x = (calls : src.Calls) (env : Env) (s : SourceState) → src.eval [] calls a env s ≡ Goes x s

-- In any scope and state it ends the run.
abbrev Stops : Expr → Why → Type 0
Stops a w = (calls : src.Calls) (env : Env) (s : SourceState) → src.eval [] calls a env s ≡ ends w s

abbrev bin : BinOp → Width → ℕ → ℕ → Expr
bin o w m n = e.Bin o (plain w) (num w m) (num w n)

-- an operator and its operands of a width have this result
abbrev Makes : BinOp → Width → ℕ → ℕ → ℕ → Type 0
Makes o w m n r = Gives (bin o w m n) (v.Num w r)

sum : Makes op.Add W8 100 55 155
sum calls env s = simp computing

sum_wraps : Makes op.Add W8 255 1 0
sum_wraps calls env s = simp computing

sum_wraps_32 : Makes op.Add W32 4294967295 2 1
sum_wraps_32 calls env s = simp computing

sum_wraps_64 : Makes op.Add W64 18446744073709551615 2 1
sum_wraps_64 calls env s = simp computing

difference : Makes op.Sub W8 200 55 145
difference calls env s = simp computing

difference_wraps : Makes op.Sub W8 0 1 255
difference_wraps calls env s = simp computing

product : Makes op.Mul W8 15 17 255
product calls env s = simp computing

product_wraps : Makes op.Mul W8 16 16 0
product_wraps calls env s = simp computing

quotient : Makes op.Div W8 255 7 36
quotient calls env s = simp computing

remainder : Makes op.Rem W8 255 7 3
remainder calls env s = simp computing

quotient_by_0 : Stops (bin op.Div W8 255 0) (Stuck cause.Divisor)
quotient_by_0 calls env s = simp computing

remainder_by_0 : Stops (bin op.Rem W64 255 0) (Stuck cause.Divisor)
remainder_by_0 calls env s = simp computing

bits_of_both : Makes op.And W8 240 175 160
bits_of_both calls env s = simp computing

bits_of_one : Makes op.Or W8 240 175 255
bits_of_one calls env s = simp computing

bits_that_differ : Makes op.Xor W8 240 175 95
bits_that_differ calls env s = simp computing

mask_of_equal : Makes op.EqMask W8 5 5 255
mask_of_equal calls env s = simp computing

mask_of_unequal : Makes op.EqMask W8 5 6 0
mask_of_unequal calls env s = simp computing

mask_of_equal_64 : Makes op.EqMask W64 5 5 18446744073709551615
mask_of_equal_64 calls env s = simp computing

mask_of_at_least : Makes op.GteMask W8 7 7 255
mask_of_at_least calls env s = simp computing

mask_of_greater : Makes op.GteMask W32 8 7 4294967295
mask_of_greater calls env s = simp computing

mask_of_less : Makes op.GteMask W8 7 8 0
mask_of_less calls env s = simp computing

-- a shift, to the left where that is true, has this result
abbrev Shifts : Bool → Width → ℕ → ℕ → ℕ → Type 0
Shifts left w m n r = Gives (e.Shift left (plain w) (num w m) (u32 n)) (v.Num w r)

shift_left : Shifts true W8 200 1 144
shift_left calls env s = simp computing

shift_left_far : Shifts true W64 3 63 9223372036854775808
shift_left_far calls env s = simp computing

shift_right : Shifts false W8 200 3 25
shift_right calls env s = simp computing

shift_by_0 : Shifts false W32 200 0 200
shift_by_0 calls env s = simp computing

shift_left_by_the_width : Stops (e.Shift true (plain W8) (u8 200) (u32 8)) (Stuck cause.Shift)
shift_left_by_the_width calls env s = simp computing

shift_right_by_the_width : Stops (e.Shift false (plain W32) (u32 200) (u32 32)) (Stuck cause.Shift)
shift_right_by_the_width calls env s = simp computing

shift_by_another_width : Stops (e.Shift true (plain W8) (u8 200) (u8 1)) Undefined
shift_by_another_width calls env s = simp computing

-- a comparison of 5 and 6, of 6 and 6, and of 7 and 6
abbrev Compares : CmpOp → Bool → Bool → Bool → Type 0
Compares o less same more =
    Gives (e.Cmp o (plain W8) (u8 5) (u8 6)) (v.Bool less) × Gives (e.Cmp o (plain W8) (u8 6) (u8 6)) (v.Bool same) × Gives (e.Cmp o (plain W8) (u8 7) (u8 6)) (v.Bool more)

equal : Compares cmp.Eq false true false
equal = ((λ calls env s. simp computing), (λ calls env s. simp computing), (λ calls env s. simp computing))

unequal : Compares cmp.Ne true false true
unequal = ((λ calls env s. simp computing), (λ calls env s. simp computing), (λ calls env s. simp computing))

less_than : Compares cmp.Lt true false false
less_than = ((λ calls env s. simp computing), (λ calls env s. simp computing), (λ calls env s. simp computing))

at_most : Compares cmp.Le true true false
at_most = ((λ calls env s. simp computing), (λ calls env s. simp computing), (λ calls env s. simp computing))

greater_than : Compares cmp.Gt false false true
greater_than = ((λ calls env s. simp computing), (λ calls env s. simp computing), (λ calls env s. simp computing))

at_least : Compares cmp.Ge false true true
at_least = ((λ calls env s. simp computing), (λ calls env s. simp computing), (λ calls env s. simp computing))

not_true : Gives (e.Not (e.Bool true)) (v.Bool false)
not_true calls env s = simp computing

not_false : Gives (e.Not (e.Bool false)) (v.Bool true)
not_false calls env s = simp computing

not_of_a_number : Stops (e.Not (u8 0)) Undefined
not_of_a_number calls env s = simp computing

cast_to_less : Gives (e.Cast (plain W32) (plain W8) (u32 300)) (v.Num W8 44)
cast_to_less calls env s = simp computing

cast_to_more : Gives (e.Cast (plain W8) (plain W64) (u8 200)) (v.Num W64 200)
cast_to_more calls env s = simp computing

cast_from_another_width : Stops (e.Cast (plain W32) (plain W8) (u8 1)) Undefined
cast_from_another_width calls env s = simp computing

hidden : Gives (e.Hide (plain W8) (u8 200)) (v.Num W8 200)
hidden calls env s = simp computing

first_of_another_width : Stops (add8 (u32 1) (u8 1)) Undefined
first_of_another_width calls env s = simp computing

second_of_another_width : Stops (add8 (u8 1) (u64 1)) Undefined
second_of_another_width calls env s = simp computing

sum_of_no_numbers : Stops (add8 (u8 1) (e.Bool true)) Undefined
sum_of_no_numbers calls env s = simp computing

choice_by_a_number : Stops (e.If (u8 1) (u8 2) (u8 3)) Undefined
choice_by_a_number calls env s = simp computing

-- ---- runs of one expression

-- no event so far, no memory, and so many ticks
abbrev pub begin : ℕ → SourceState
begin ticks = record { ticks = ticks; memory = []; events = [] }

-- no variable in scope
abbrev pub nowhere : Env
nowhere = record { vars = []; tvars = []; targs = []; base = 0 }

-- With these definitions and 5 ticks, an expression where no variable is in scope has a value, leaves these events, the
-- newest first, and so many ticks.
abbrev pub Leaves : List Def → Expr → Value → List SourceEvent → ℕ → Type 0
Leaves defs a x es left = (calls : src.Calls) → src.eval defs calls a nowhere (begin 5) ≡ Goes x (record { ticks = left; memory = []; events = es })

-- With so many ticks it ends the run, and leaves these events.
abbrev Breaks : List Def → ℕ → Expr → Why → List SourceEvent → Type 0
Breaks defs ticks a w es = (calls : src.Calls) → src.eval defs calls a nowhere (begin ticks) ≡ Ends w es

-- ---- operands from left to right

one_after_the_other : Leaves [] (add8 (yes_8 2) (no_8 3)) (v.Num W8 5) (event.If false ∷ event.If true ∷ []) 5
one_after_the_other calls = simp computing

the_first_is_stuck : Breaks [] 5 (add8 no_number (yes_8 3)) (Stuck cause.Divisor) []
the_first_is_stuck calls = simp computing

the_second_is_stuck : Breaks [] 5 (add8 (yes_8 3) no_number) (Stuck cause.Divisor) (event.If true ∷ [])
the_second_is_stuck calls = simp computing

-- also where the first is of another width
both_before_their_widths : Breaks [] 5 (add8 (u32 1) (yes_8 3)) Undefined (event.If true ∷ [])
both_before_their_widths calls = simp computing

compared_in_order : Leaves [] (e.Cmp cmp.Lt (plain W8) (yes_8 2) (no_8 3)) (v.Bool true) (event.If false ∷ event.If true ∷ []) 5
compared_in_order calls = simp computing

shifted_in_order : Leaves [] (e.Shift true (plain W8) (no_8 2) (e.If (e.Bool true) (u32 3) (u32 0))) (v.Num W8 16) (event.If true ∷ event.If false ∷ []) 5
shifted_in_order calls = simp computing

-- ---- choices, scopes

the_condition_first : Leaves [] (e.If (e.If (e.Bool true) (e.Bool false) (e.Bool true)) (u8 1) (yes_8 2)) (v.Num W8 2) (event.If true ∷ event.If false ∷ event.If true ∷ []) 5
the_condition_first calls = simp computing

abbrev x : List ℕ
x = codes "x"

abbrev y : List ℕ
y = codes "y"

no_variable : Breaks [] 5 (e.Var x) Undefined []
no_variable calls = simp computing

-- (do (let x u8 1) (let y u8 (add u8 x 1)) (add u8 x y))
in_scope : Leaves [] (e.Do (item.Let x u8_ty (u8 1) ∷ item.Let y u8_ty (add8 (e.Var x) (u8 1)) ∷ []) (add8 (e.Var x) (e.Var y))) (v.Num W8 3) [] 5
in_scope calls = simp computing

-- the newest one counts
hidden_by_a_newer_one : Leaves [] (e.Do (item.Let x u8_ty (u8 1) ∷ item.Let x u8_ty (add8 (e.Var x) (u8 6)) ∷ []) (e.Var x)) (v.Num W8 7) [] 5
hidden_by_a_newer_one calls = simp computing

-- and only up to the end of its `do`
back_in_scope : Leaves [] (e.Do (item.Let x u8_ty (u8 1) ∷ item.Run (e.Do (item.Let x u8_ty (yes_8 2) ∷ []) e.Unit) ∷ []) (e.Var x)) (v.Num W8 1) (event.If true ∷ []) 5
back_in_scope calls = simp computing

out_of_scope : Breaks [] 5 (e.Do (item.Run (e.Do (item.Let x u8_ty (u8 2) ∷ []) e.Unit) ∷ []) (e.Var x)) Undefined []
out_of_scope calls = simp computing

-- ---- tables

-- two tables, with a struct between them
abbrev tables : List Def
tables = d.Table (codes "s") (plain W8) (1 ∷ []) ∷ d.Struct (codes "t") [] [] ∷ d.Table (codes "t") (plain W32) (7 ∷ 8 ∷ 9 ∷ []) ∷ []

table_at : Leaves tables (e.Tab (codes "t") (u32 2)) (v.Num W32 9) (event.Tab 2 2 ∷ []) 5
table_at calls = simp computing

table_at_its_end : Breaks tables 5 (e.Tab (codes "t") (u32 3)) (Stuck cause.Index) []
table_at_its_end calls = simp computing

table_of_numbers_in_order : Leaves tables (e.Tab (codes "t") (e.If (e.Bool true) (u32 0) (u32 1))) (v.Num W32 7) (event.Tab 2 0 ∷ event.If true ∷ []) 5
table_of_numbers_in_order calls = simp computing

no_table : Breaks tables 5 (e.Tab (codes "u") (u32 0)) Undefined []
no_table calls = simp computing

table_at_another_width : Breaks tables 5 (e.Tab (codes "t") (u8 0)) Undefined []
table_at_another_width calls = simp computing

-- ---- structs and sums

abbrev field : List ℕ → Ty → Field
field name a = record { name = name; ty = a }

-- (struct p () (x u8) (y u8)) (sum o () (no) (some u8 (p)))
abbrev types : List Def
types = d.Struct (codes "p") [] (field x u8_ty ∷ field y u8_ty ∷ [])
    ∷ d.Sum (codes "o") [] (record { name = codes "no"; args = [] } ∷ record { name = codes "some"; args = u8_ty ∷ t.Named (codes "p") [] ∷ [] } ∷ []) ∷ []

abbrev pair : ℕ → ℕ → Value
pair m n = v.Struct (x ∷ y ∷ []) (v.Num W8 m ∷ v.Num W8 n ∷ [])

abbrev no : Expr
no = e.Con (codes "no") [] []

abbrev some : Expr → Expr → Expr
some a b = e.Con (codes "some") [] (a ∷ b ∷ [])

abbrev made : Expr → Expr → Expr
made a b = e.Make (codes "p") [] (a ∷ b ∷ [])

fields_in_order : Leaves types (made (yes_8 1) (no_8 2)) (pair 1 2) (event.If false ∷ event.If true ∷ []) 5
fields_in_order calls = simp computing

first_field : Leaves types (e.Get x (made (u8 1) (u8 2))) (v.Num W8 1) [] 5
first_field calls = simp computing

second_field : Leaves types (e.Get y (made (u8 1) (u8 2))) (v.Num W8 2) [] 5
second_field calls = simp computing

no_field : Breaks types 5 (e.Get (codes "z") (made (u8 1) (u8 2))) Undefined []
no_field calls = simp computing

no_struct : Breaks types 5 (e.Make (codes "o") [] []) Undefined []
no_struct calls = simp computing

first_constructor : Leaves types no (v.Con 0 []) [] 5
first_constructor calls = simp computing

second_constructor : Leaves types (some (yes_8 1) (made (no_8 2) (u8 3))) (v.Con 1 (v.Num W8 1 ∷ pair 2 3 ∷ [])) (event.If false ∷ event.If true ∷ []) 5
second_constructor calls = simp computing

is_that_one : Leaves types (e.TagIs (codes "no") no) (v.Bool true) [] 5
is_that_one calls = simp computing

is_another_one : Leaves types (e.TagIs (codes "some") no) (v.Bool false) [] 5
is_another_one calls = simp computing

part_of_that_one : Leaves types (e.Part (codes "some") 0 (some (u8 5) (made (u8 2) (u8 3)))) (v.Num W8 5) [] 5
part_of_that_one calls = simp computing

-- of another constructor it is the zero value of the type
part_of_another_one : Leaves types (e.Part (codes "some") 1 no) (pair 0 0) [] 5
part_of_another_one calls = simp computing

-- the first definition has a level of its own
zero_of_the_first_struct : src.zero_value (d.Struct (codes "p") [] (field x u8_ty ∷ field y u8_ty ∷ []) ∷ []) (t.Named (codes "p") []) ≡ Some (pair 0 0)
zero_of_the_first_struct = simp computing

-- ---- matches

abbrev arm : Pat → Expr → Arm
arm q a = roll-Arm (record { pat = q; body = a })

-- the first branch that takes the value, with its variables in scope
taken : Leaves types (e.Match (some (yes_8 5) (made (u8 2) (u8 3)))
    (arm (p.Con (codes "no") []) (u8 0) ∷ arm (p.Con (codes "some") (p.Bind x ∷ p.Make (codes "p") (p.Any ∷ p.Bind y ∷ []) ∷ [])) (add8 (e.Var x) (e.Var y)) ∷ arm p.Any (u8 9) ∷ []))
    (v.Num W8 8) (event.Pick 1 ∷ event.If true ∷ []) 5
taken calls = simp computing

taken_by_number : Leaves types (e.Match (u8 5) (arm (p.Num (plain W8) 4) (u8 1) ∷ arm (p.Num (plain W8) 5) (yes_8 2) ∷ arm p.Any (u8 3) ∷ [])) (v.Num W8 2) (event.If true ∷ event.Pick 1 ∷ []) 5
taken_by_number calls = simp computing

taken_by_truth : Leaves types (e.Match (e.Bool true) (arm (p.Bool false) (u8 1) ∷ arm (p.Bool true) (u8 2) ∷ [])) (v.Num W8 2) (event.Pick 1 ∷ []) 5
taken_by_truth calls = simp computing

taken_by_none : Breaks types 5 (e.Match (u8 5) (arm (p.Num (plain W8) 4) (u8 1) ∷ arm (p.Num (plain W8) 6) (u8 1) ∷ [])) (Stuck cause.Match) []
taken_by_none calls = simp computing

abbrev case : List Expr → Expr → Case
case tests a = roll-Case (record { tests = tests; body = a })

abbrev yes_b : Expr
yes_b = e.If (e.Bool true) (e.Bool true) (e.Bool false)

abbrev no_b : Expr
no_b = e.If (e.Bool false) (e.Bool true) (e.Bool false)

-- each test of a case is made, also where one before it is false
cases_in_order : Leaves [] (e.Cases (case (no_b ∷ yes_b ∷ []) (u8 1) ∷ case (yes_b ∷ []) (no_8 2) ∷ case [] (u8 3) ∷ [])) (v.Num W8 2)
    (event.If false ∷ event.Pick 1 ∷ event.If true ∷ event.If true ∷ event.If false ∷ []) 5
cases_in_order calls = simp computing

case_without_tests : Leaves [] (e.Cases (case (e.Bool false ∷ []) (u8 1) ∷ case [] (u8 3) ∷ [])) (v.Num W8 3) (event.Pick 1 ∷ []) 5
case_without_tests calls = simp computing

no_case : Breaks [] 5 (e.Cases (case (no_b ∷ []) (u8 1) ∷ [])) (Stuck cause.Match) (event.If false ∷ [])
no_case calls = simp computing

-- ---- frames

abbrev pub slot : Ty → ℕ → Slot
slot a len = record { ty = a; len = len }

-- a block of 8-bit numbers whose frame was left
abbrev pub left_block : List Value → ℕ → Block
left_block items len = record { elem = u8_ty; len = len; live = false; items = items }

-- With 5 ticks an expression where no variable is in scope has a value, and leaves blocks, events and ticks.
abbrev pub Fills : Expr → Value → List Block → List SourceEvent → ℕ → Type 0
Fills a x m es left = (calls : src.Calls) → src.eval [] calls a nowhere (begin 5) ≡ Goes x (record { ticks = left; memory = m; events = es })

abbrev b : Expr
b = e.Var (codes "b")

abbrev c : Expr
c = e.Var (codes "c")

-- (let b (buf u8) a), (let c (buf u8) a)
abbrev let_b : Expr → Item
let_b a = item.Let (codes "b") (t.Buf u8_ty) a

abbrev let_c : Expr → Item
let_c a = item.Let (codes "c") (t.Buf u8_ty) a

-- (frame (do (let b (buf u8) (alloc u8 2 (u8 7))) ITEM.. a))
abbrev with_two : List Item → Expr → Expr
with_two items a = e.Frame [] (e.Do (let_b (e.Alloc u8_ty 2 (u8 7)) ∷ items) a)

-- the events up to there, the newest first
abbrev two_filled : List SourceEvent
two_filled = event.Filled 0 ∷ event.Fill 0 1 ∷ event.Fill 0 0 ∷ event.Alloc 0 0 ∷ event.Push (slot u8_ty 2 ∷ []) ∷ []

-- a fill spends a tick for each element
filled : Fills (with_two [] (u8 1)) (v.Num W8 1) (left_block (v.Num W8 7 ∷ v.Num W8 7 ∷ []) 2 ∷ []) (event.Pop ∷ two_filled) 3
filled calls = simp computing

written_and_read : Fills (with_two (item.Run (e.Write b (u32 1) (u8 9)) ∷ []) (e.Bin op.Sub (plain W8) (e.Read b (u32 1)) (e.Read b (u32 0)))) (v.Num W8 2)
    (left_block (v.Num W8 7 ∷ v.Num W8 9 ∷ []) 2 ∷ []) (event.Pop ∷ event.Read 0 0 ∷ event.Read 0 1 ∷ event.Write 0 1 ∷ two_filled) 3
written_and_read calls = simp computing

-- the value is computed before the event of the write
written_in_order : Fills (with_two [] (e.Write b (e.If (e.Bool false) (u32 1) (u32 0)) (yes_8 9))) v.Unit
    (left_block (v.Num W8 9 ∷ v.Num W8 7 ∷ []) 2 ∷ []) (event.Pop ∷ event.Write 0 0 ∷ event.If true ∷ event.If false ∷ two_filled) 3
written_in_order calls = simp computing

read_at_the_end : Breaks [] 5 (with_two [] (e.Read b (u32 2))) (Stuck cause.Index) two_filled
read_at_the_end calls = simp computing

write_at_the_end : Breaks [] 5 (with_two [] (e.Write b (u32 2) (yes_8 1))) (Stuck cause.Index) (event.If true ∷ two_filled)
write_at_the_end calls = simp computing

-- a part of a buffer is the same block
sliced : Fills (with_two (let_c (e.Slice b (u32 1) (u32 1)) ∷ item.Run (e.Write c (u32 0) (u8 9)) ∷ []) (e.Read b (u32 1))) (v.Num W8 9)
    (left_block (v.Num W8 7 ∷ v.Num W8 9 ∷ []) 2 ∷ []) (event.Pop ∷ event.Read 0 1 ∷ event.Write 0 1 ∷ two_filled) 3
sliced calls = simp computing

sliced_at_the_end : Fills (with_two (let_c (e.Slice b (u32 2) (u32 0)) ∷ []) (u8 1)) (v.Num W8 1) (left_block (v.Num W8 7 ∷ v.Num W8 7 ∷ []) 2 ∷ []) (event.Pop ∷ two_filled) 3
sliced_at_the_end calls = simp computing

sliced_past_the_end : Breaks [] 5 (with_two (let_c (e.Slice b (u32 1) (u32 2)) ∷ []) (u8 1)) (Stuck cause.Slice) two_filled
sliced_past_the_end calls = simp computing

slice_read_at_its_end : Breaks [] 5 (with_two (let_c (e.Slice b (u32 0) (u32 1)) ∷ []) (e.Read c (u32 1))) (Stuck cause.Index) two_filled
slice_read_at_its_end calls = simp computing

-- Two `alloc` forms have the slots of their frame in order, and the second is filled from the first.
abbrev two_slots : Expr
two_slots = e.Frame [] (e.Do (let_b (e.Alloc u8_ty 1 (u8 3)) ∷ let_c (e.Alloc u8_ty 1 (add8 (e.Read b (u32 0)) (u8 1))) ∷ []) (e.Read c (u32 0)))

next_is : (calls : src.Calls) → evals.means [] calls (add8 (e.Read b (u32 0)) (u8 1))
    ≡ none (src.binary op.Add (plain W8) (src.read (src.var (codes "b")) (src.just (v.Num W32 0))) (src.just (v.Num W8 1)))
next_is calls = simp forms

slots_are_numbered : (calls : src.Calls) → evals.means [] calls two_slots
    ≡ none (src.frame (slot u8_ty 1 ∷ slot u8_ty 1 ∷ [])
    (src.block (src.bound (codes "b") (src.fill 0 (src.just (v.Num W8 3)))
    ∷ src.bound (codes "c") (src.fill 1 (src.binary op.Add (plain W8) (src.read (src.var (codes "b")) (src.just (v.Num W32 0))) (src.just (v.Num W8 1)))) ∷ [])
    (src.read (src.var (codes "c")) (src.just (v.Num W32 0)))))
slots_are_numbered calls = simp (evals.frame_is, evals.block_is, evals.bound_is, evals.alloc_is) (simp (next_is calls) (simp forms))

slots_in_order : Fills two_slots (v.Num W8 4) (left_block (v.Num W8 3 ∷ []) 1 ∷ left_block (v.Num W8 4 ∷ []) 1 ∷ [])
    (event.Pop ∷ event.Read 1 0 ∷ event.Filled 1 ∷ event.Fill 1 0 ∷ event.Alloc 1 1 ∷ event.Read 0 0
    ∷ event.Filled 0 ∷ event.Fill 0 0 ∷ event.Alloc 0 0 ∷ event.Push (slot u8_ty 1 ∷ slot u8_ty 1 ∷ []) ∷ []) 3
slots_in_order calls = rw (slots_are_numbered calls, src.eval) (simp shapes)

-- A frame in a frame has blocks of its own, after those of the frame around it.
frame_in_a_frame : Fills (with_two [] (add8 (e.Frame [] (e.Read (e.Alloc u8_ty 1 (e.Read b (u32 1))) (u32 0))) (u8 1))) (v.Num W8 8)
    (left_block (v.Num W8 7 ∷ v.Num W8 7 ∷ []) 2 ∷ left_block (v.Num W8 7 ∷ []) 1 ∷ [])
    (event.Pop ∷ event.Pop ∷ event.Read 1 0 ∷ event.Filled 1 ∷ event.Fill 1 0 ∷ event.Alloc 1 0 ∷ event.Read 0 1 ∷ event.Push (slot u8_ty 1 ∷ []) ∷ two_filled) 2
frame_in_a_frame calls = simp computing

-- what the passes make of `alloc`: a slot that the frame lists
listed_slot : Fills (e.Frame (slot u8_ty 2 ∷ []) (e.Read (e.Fill 0 (u8 7)) (u32 1))) (v.Num W8 7) (left_block (v.Num W8 7 ∷ v.Num W8 7 ∷ []) 2 ∷ []) (event.Pop ∷ event.Read 0 1 ∷ two_filled) 3
listed_slot calls = simp computing

-- ---- loops

abbrev i : List ℕ
i = codes "i"

-- a tick is spent for each turn that is followed by another
counted : Leaves [] (e.For i (u32 1) (u32 3) e.Unit) v.Unit (event.Turn false ∷ event.Turn true ∷ event.Turn true ∷ []) 3
counted calls = simp computing

counted_with_2 : (calls : src.Calls) → src.eval [] calls (e.For i (u32 1) (u32 3) e.Unit) nowhere (begin 2)
    ≡ Goes v.Unit (record { ticks = 0; memory = []; events = event.Turn false ∷ event.Turn true ∷ event.Turn true ∷ [] })
counted_with_2 calls = simp computing

counted_with_1 : Breaks [] 1 (e.For i (u32 1) (u32 3) e.Unit) Spent (event.Turn true ∷ event.Turn true ∷ [])
counted_with_1 calls = simp computing

counted_with_0 : Breaks [] 0 (e.For i (u32 1) (u32 3) e.Unit) Spent (event.Turn true ∷ [])
counted_with_0 calls = simp computing

-- the variable is the number of the turn
counted_in_scope : Leaves tables (e.For i (u32 1) (u32 3) (e.Do (item.Let x u32_ty (e.Tab (codes "t") (e.Var i)) ∷ []) e.Unit)) v.Unit
    (event.Turn false ∷ event.Tab 2 2 ∷ event.Turn true ∷ event.Tab 2 1 ∷ event.Turn true ∷ []) 3
counted_in_scope calls = simp computing

-- both bounds are computed once, before the first turn
bounds_once : Leaves [] (e.For i (e.If (e.Bool true) (u32 1) (u32 0)) (e.If (e.Bool false) (u32 0) (u32 3)) e.Unit) v.Unit
    (event.Turn false ∷ event.Turn true ∷ event.Turn true ∷ event.If false ∷ event.If true ∷ []) 3
bounds_once calls = simp computing

no_turn : Leaves [] (e.For i (u32 3) (u32 3) no_number) v.Unit (event.Turn false ∷ []) 5
no_turn calls = simp computing

no_turn_down : Leaves [] (e.For i (u32 3) (u32 1) no_number) v.Unit (event.Turn false ∷ []) 5
no_turn_down calls = simp computing

bounds_of_another_width : Breaks [] 5 (e.For i (u8 1) (u32 3) e.Unit) Undefined []
bounds_of_another_width calls = simp computing

-- (while true unit) is spent at last
without_end : Breaks [] 5 (e.While (e.Bool true) e.Unit) Spent (event.Turn true ∷ event.Turn true ∷ event.Turn true ∷ event.Turn true ∷ event.Turn true ∷ event.Turn true ∷ [])
without_end calls = simp computing

while_false : Leaves [] (e.While no_b no_number) v.Unit (event.Turn false ∷ event.If false ∷ []) 5
while_false calls = simp computing

while_stuck : Breaks [] 5 (e.While (e.Bool true) no_number) (Stuck cause.Divisor) (event.Turn true ∷ [])
while_stuck calls = simp computing

-- The condition is computed anew for each turn: (while (lt u8 (read b 0) 2) (write b 0 (add u8 (read b 0) 1))).
counting_up : Fills (e.Frame [] (e.Do (let_b (e.Alloc u8_ty 1 (u8 0)) ∷ []) (e.While (e.Cmp cmp.Lt (plain W8) (e.Read b (u32 0)) (u8 2)) (e.Write b (u32 0) (add8 (e.Read b (u32 0)) (u8 1)))))) v.Unit
    (left_block (v.Num W8 2 ∷ []) 1 ∷ [])
    (event.Pop ∷ event.Turn false ∷ event.Read 0 0 ∷ event.Write 0 0 ∷ event.Read 0 0 ∷ event.Turn true ∷ event.Read 0 0 ∷ event.Write 0 0 ∷ event.Read 0 0 ∷ event.Turn true ∷ event.Read 0 0
    ∷ event.Filled 0 ∷ event.Fill 0 0 ∷ event.Alloc 0 0 ∷ event.Push (slot u8_ty 1 ∷ []) ∷ []) 2
counting_up calls = simp computing

-- ---- runs of a file

-- (fun NAME () (PARAM..) u32 a)
abbrev fun : List ℕ → List Field → Expr → Def
fun name params a = d.Fun name [] params u32_ty a

abbrev f : List ℕ
f = codes "f"

abbrev g : List ℕ
g = codes "g"

-- the file of these definitions, which has the entry f
abbrev file : List Def → SourceFile
file defs = record { defs = d.Entry f ∷ defs }

-- Its run on arguments, with so many ticks and levels, has this outcome, and these events, the oldest first.
abbrev Runs : List Def → List Arg → ℕ → ℕ → Outcome → List SourceEvent → Type 0
Runs defs items ticks depth o es =
    (args : Arguments) → args.items ≡ items → src.source_run (file defs) f args (record { ticks = ticks; depth = depth }) ≡ record { outcome = o; events = es }

-- So it has under each bound.
abbrev AlwaysRuns : List Def → List Arg → Outcome → List SourceEvent → Type 0
AlwaysRuns defs items o es = (args : Arguments) → args.items ≡ items → (bound : Bound) → src.source_run (file defs) f args bound ≡ record { outcome = o; events = es }

-- it is done with a result, and without argument buffers
abbrev result : ℕ → Outcome
result n = outcome.Done (Some n) []

-- (fun f () ((x u32) (y u32)) u32 (add u32 (if (lt u32 x y) (add u32 x (u32 4294967295)) y) (if (lt u32 y x) (u32 10) (u32 20))))
abbrev two_ifs : List Def
two_ifs = fun f (field x u32_ty ∷ field y u32_ty ∷ [])
    (e.Bin op.Add (plain W32)
    (e.If (e.Cmp cmp.Lt (plain W32) (e.Var x) (e.Var y)) (e.Bin op.Add (plain W32) (e.Var x) (u32 4294967295)) (e.Var y))
    (e.If (e.Cmp cmp.Lt (plain W32) (e.Var y) (e.Var x)) (u32 10) (u32 20))) ∷ []

ifs_of_less : AlwaysRuns two_ifs (arg.Num W32 9 ∷ arg.Num W32 10 ∷ []) (result 28) (event.If true ∷ event.If false ∷ [])
ifs_of_less args is bound = simp (is, computing)

ifs_of_equal : AlwaysRuns two_ifs (arg.Num W32 10 ∷ arg.Num W32 10 ∷ []) (result 30) (event.If false ∷ event.If false ∷ [])
ifs_of_equal args is bound = simp (is, computing)

ifs_of_more : AlwaysRuns two_ifs (arg.Num W32 11 ∷ arg.Num W32 10 ∷ []) (result 20) (event.If false ∷ event.If true ∷ [])
ifs_of_more args is bound = simp (is, computing)

-- ---- arguments

-- such a run is Undefined, under each bound, and has no events
abbrev RunsNot : List Def → List Arg → Type 0
RunsNot defs items = AlwaysRuns defs items outcome.Undefined []

-- (fun f () ((x u32)) u32 (u32 1)), which does not look at its argument
abbrev one_word : List Def
one_word = fun f (field x u32_ty ∷ []) (u32 1) ∷ []

one_number_too_few : RunsNot one_word []
one_number_too_few args is bound = rw is refl

one_number_too_many : RunsNot one_word (arg.Num W32 9 ∷ arg.Num W32 9 ∷ [])
one_number_too_many args is bound = simp (is, computing)

number_of_another_width : RunsNot one_word (arg.Num W64 9 ∷ [])
number_of_another_width args is bound = simp (is, computing)

truth_for_a_number : RunsNot one_word (arg.Bool true ∷ [])
truth_for_a_number args is bound = simp (is, computing)

buffer_for_a_number : RunsNot one_word (arg.Buf W32 [] ∷ [])
buffer_for_a_number args is bound = simp (is, computing)

-- a function, but no entry of its name
no_entry : (args : Arguments) → args.items ≡ [] → (bound : Bound) → src.source_run (file (fun g [] (u32 1) ∷ [])) g args bound ≡ record { outcome = outcome.Undefined; events = [] }
no_entry args is bound = refl

-- an entry, but no function of its name
no_function : RunsNot (fun g [] (u32 1) ∷ []) []
no_function args is bound = refl

entry_after_others : (args : Arguments) → args.items ≡ [] → (bound : Bound)
    → src.source_run (record { defs = fun f [] (u32 1) ∷ fun g [] (u32 2) ∷ d.Entry f ∷ d.Entry g ∷ [] }) g args bound ≡ record { outcome = result 2; events = [] }
entry_after_others args is bound = simp (is, computing)

truth_in_and_out : AlwaysRuns (d.Fun f [] (field x t.Bool ∷ []) t.Bool (e.Not (e.Var x)) ∷ []) (arg.Bool false ∷ []) (result 1) []
truth_in_and_out args is bound = simp (is, computing)

no_result : AlwaysRuns (d.Fun f [] [] t.Unit e.Unit ∷ []) [] (outcome.Done None []) []
no_result args is bound = simp (is, computing)

abbrev buf_ty : Width → Ty
buf_ty w = t.Buf (t.Int (plain w))

-- the arguments' blocks in order, each with its event, and what they hold at the end
buffers : AlwaysRuns (d.Fun f [] (field (codes "b") (buf_ty W8) ∷ field x u32_ty ∷ field (codes "c") (buf_ty W32) ∷ []) t.Unit (e.Write b (u32 1) (e.Cast (plain W32) (plain W8) (e.Read c (e.Var x)))) ∷ [])
    (arg.Buf W8 (1 ∷ 2 ∷ []) ∷ arg.Num W32 2 ∷ arg.Buf W32 (7 ∷ 8 ∷ 300 ∷ []) ∷ []) (outcome.Done None ((1 ∷ 44 ∷ []) ∷ (7 ∷ 8 ∷ 300 ∷ []) ∷ []))
    (event.Arg 0 (t.Int (plain W8)) 2 ∷ event.Arg 1 u32_ty 3 ∷ event.Read 1 2 ∷ event.Write 0 1 ∷ [])
buffers args is bound = simp (is, computing)

-- the blocks of frames come after them, and are no part of the outcome
buffer_and_frame : Runs (d.Fun f [] (field (codes "b") (buf_ty W8) ∷ []) u8_ty (e.Frame [] (e.Read (e.Alloc u8_ty 1 (e.Read b (u32 0))) (u32 0))) ∷ [])
    (arg.Buf W8 (9 ∷ []) ∷ []) 1 0 (outcome.Done (Some 9) ((9 ∷ []) ∷ []))
    (event.Arg 0 u8_ty 1 ∷ event.Push (slot u8_ty 1 ∷ []) ∷ event.Read 0 0 ∷ event.Alloc 1 0 ∷ event.Fill 1 0 ∷ event.Filled 1 ∷ event.Read 1 0 ∷ event.Pop ∷ [])
buffer_and_frame args is = simp (is, computing)

buffer_of_another_width : RunsNot (d.Fun f [] (field (codes "b") (buf_ty W8) ∷ []) u8_ty (u8 1) ∷ []) (arg.Buf W32 (9 ∷ []) ∷ [])
buffer_of_another_width args is bound = simp (is, computing)

-- a run that is stuck keeps its events
stuck_run : AlwaysRuns (d.Fun f [] (field (codes "b") (buf_ty W8) ∷ []) u8_ty (e.Read b (u32 1)) ∷ []) (arg.Buf W8 (9 ∷ []) ∷ []) (outcome.Stuck cause.Index) (event.Arg 0 u8_ty 1 ∷ [])
stuck_run args is bound = simp (is, computing)

operand_of_another_width : AlwaysRuns (fun f (field x u32_ty ∷ field y u32_ty ∷ []) (e.Bin op.Add (plain W32) (e.Var x) (u8 1)) ∷ []) (arg.Num W32 1 ∷ arg.Num W32 2 ∷ []) outcome.Undefined []
operand_of_another_width args is bound = simp (is, computing)

-- ---- calls

-- (fun f () () u32 (call g () (u32 7) (u32 2))) (fun g () ((x u32) (y u32)) u32 (sub u32 x y))
abbrev one_call : List Def
one_call = fun f [] (e.Call g [] (u32 7 ∷ u32 2 ∷ [])) ∷ fun g (field x u32_ty ∷ field y u32_ty ∷ []) (e.Bin op.Sub (plain W32) (e.Var x) (e.Var y)) ∷ []

call_with_1 : Runs one_call [] 1 1 (result 5) []
call_with_1 args is = simp (is, computing)

call_without_tick : Runs one_call [] 0 1 outcome.Spent []
call_without_tick args is = simp (is, computing)

call_without_level : Runs one_call [] 1 0 outcome.Deep []
call_without_level args is = simp (is, computing)

-- the tick is spent first
call_with_neither : Runs one_call [] 0 0 outcome.Spent []
call_with_neither args is = simp (is, computing)

-- arguments from left to right, before the tick
arguments_in_order : Runs (fun f [] (e.Call g [] (e.If (e.Bool true) (u32 7) (u32 0) ∷ e.If (e.Bool false) (u32 0) (u32 2) ∷ [])) ∷ []) [] 0 1 outcome.Spent (event.If true ∷ event.If false ∷ [])
arguments_in_order args is = simp (is, computing)

call_of_none : Runs (fun f [] (e.Call g [] []) ∷ []) [] 1 1 outcome.Undefined []
call_of_none args is = simp (is, computing)

call_with_too_few : Runs (fun f [] (e.Call g [] []) ∷ fun g (field x u32_ty ∷ []) (u32 1) ∷ []) [] 1 1 outcome.Undefined []
call_with_too_few args is = simp (is, computing)

-- a function sees its own parameters alone
callers_variables : Runs (fun f (field x u32_ty ∷ []) (e.Call g [] []) ∷ fun g [] (e.Var x) ∷ []) (arg.Num W32 1 ∷ []) 1 1 outcome.Undefined []
callers_variables args is = simp (is, computing)

-- the first function of a name
first_of_the_name : Runs (fun f [] (e.Call g [] []) ∷ fun g [] (u32 1) ∷ fun g [] (u32 2) ∷ []) [] 1 1 (result 1) []
first_of_the_name args is = simp (is, computing)

-- (fun f () ((x u32)) u32 (if (eq u32 x (u32 0)) (u32 1) (mul u32 x (call f () (sub u32 x (u32 1))))))
abbrev factorial : List Def
factorial = fun f (field x u32_ty ∷ [])
    (e.If (e.Cmp cmp.Eq (plain W32) (e.Var x) (u32 0)) (u32 1) (e.Bin op.Mul (plain W32) (e.Var x) (e.Call f [] (e.Bin op.Sub (plain W32) (e.Var x) (u32 1) ∷ [])))) ∷ []

factorial_of_3 : Runs factorial (arg.Num W32 3 ∷ []) 3 3 (result 6) (event.If false ∷ event.If false ∷ event.If false ∷ event.If true ∷ [])
factorial_of_3 args is = simp (is, computing)

factorial_is_deep : Runs factorial (arg.Num W32 3 ∷ []) 3 2 outcome.Deep (event.If false ∷ event.If false ∷ event.If false ∷ [])
factorial_is_deep args is = simp (is, computing)

factorial_is_spent : Runs factorial (arg.Num W32 3 ∷ []) 2 3 outcome.Spent (event.If false ∷ event.If false ∷ event.If false ∷ [])
factorial_is_spent args is = simp (is, computing)

-- levels come back after a call, ticks do not
abbrev two_calls : List Def
two_calls = fun f [] (e.Bin op.Add (plain W32) (e.Call g [] []) (e.Call g [] [])) ∷ fun g [] (u32 1) ∷ []

two_calls_one_level : Runs two_calls [] 2 1 (result 2) []
two_calls_one_level args is = simp (is, computing)

two_calls_one_tick : Runs two_calls [] 1 1 outcome.Spent []
two_calls_one_tick args is = simp (is, computing)

-- Type arguments are closed by those of the caller: (call g (u32) (u32 1)), where g calls h at its variable 'a, which has a slot of that type.
abbrev generic : List Def
generic = fun f [] (e.Call g (u32_ty ∷ []) (u32 5 ∷ []))
    ∷ d.Fun g (codes "a" ∷ []) (field x (t.Var (codes "a")) ∷ []) u32_ty (e.Call (codes "h") (u8_ty ∷ t.Var (codes "a") ∷ []) (e.Var x ∷ []))
    ∷ d.Fun (codes "h") (codes "c" ∷ codes "d" ∷ []) (field x (t.Var (codes "d")) ∷ []) u32_ty (e.Frame [] (e.Read (e.Alloc (t.Var (codes "d")) 1 (e.Var x)) (u32 0))) ∷ []

closed_types : Runs generic [] 3 2 (result 5) (event.Push (slot u32_ty 1 ∷ []) ∷ event.Alloc 0 0 ∷ event.Fill 0 0 ∷ event.Filled 0 ∷ event.Read 0 0 ∷ event.Pop ∷ [])
closed_types args is = simp (is, computing)
