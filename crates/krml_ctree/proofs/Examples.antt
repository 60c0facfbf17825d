-- Runs of C and texts that were computed by hand: expressions, statements, and then programs. A definition that says another
-- thing breaks one.
use Rattle.std.proofs.Common.{arith, ◌≡◌, ℕ, Bool, true, false, List, [], ◌∷◌, ◌++◌, map, Option, Some, None, codes, refl}
use Rattle.std.proofs.lemmas.Fmt.{decimal_digit}
use Rattle.std.specs.Fmt.{decimal}
use Rattle.krml_trace.specs.declared.width.Width.{Width}
use Rattle.krml_trace.specs.declared.width.Width.TheVariants.{W8, W32, W64}
use Rattle.krml_trace.specs.declared.argument.Arg.{Arg}
use Rattle.krml_trace.specs.declared.argument.Arg.TheVariants as arg
use Rattle.krml_trace.specs.declared.arguments.Arguments.{Arguments}
use Rattle.krml_trace.specs.declared.bound.Bound.{Bound}
use Rattle.krml_trace.specs.declared.outcome.Outcome.{Outcome}
use Rattle.krml_trace.specs.declared.outcome.Outcome.TheVariants as outcome
use Rattle.krml_trace.specs.declared.why.Why.{Why}
use Rattle.krml_trace.specs.declared.why.Why.TheVariants.{Spent, Undefined}
use Rattle.krml_trace.specs.Run.{Goes, Ends}
use Rattle.krml_ctree.specs.declared.event.CEvent.{CEvent}
use Rattle.krml_ctree.specs.declared.event.CEvent.TheVariants as event
use Rattle.krml_ctree.specs.declared.event.CSlot.{CSlot}
use Rattle.krml_ctree.specs.declared.value.CValue.{CValue}
use Rattle.krml_ctree.specs.declared.value.CValue.TheVariants as v
use Rattle.krml_ctree.specs.declared.tree.CType.{CType, out-CType}
use Rattle.krml_ctree.specs.declared.tree.CType.TheVariants as t
use Rattle.krml_ctree.specs.declared.tree.CType.TheOpen.{CType-F}
use Rattle.krml_ctree.specs.declared.tree.CType.TheFolds.{fold_out-CType}
use Rattle.krml_ctree.specs.declared.tree.CBin.{CBin}
use Rattle.krml_ctree.specs.declared.tree.CBin.TheVariants as op
use Rattle.krml_ctree.specs.declared.tree.CmpKind.{CmpKind}
use Rattle.krml_ctree.specs.declared.tree.CmpKind.TheVariants as cmp
use Rattle.krml_ctree.specs.declared.tree.CVar.{CVar}
use Rattle.krml_ctree.specs.declared.tree.CArray.{CArray}
use Rattle.krml_ctree.specs.declared.tree.CExpr.{CExpr}
use Rattle.krml_ctree.specs.declared.tree.CExpr.TheVariants as e
use Rattle.krml_ctree.specs.declared.tree.CExpr.TheFolds.{fold_out-CExpr}
use Rattle.krml_ctree.specs.declared.tree.CArm.{CArm, roll-CArm}
use Rattle.krml_ctree.specs.declared.tree.CStatement.{CStatement}
use Rattle.krml_ctree.specs.declared.tree.CStatement.TheOpen.{CStatement-F}
use Rattle.krml_ctree.specs.declared.tree.CStatement.TheVariants as st
use Rattle.krml_ctree.specs.declared.tree.CStatement.TheFolds.{fold_out-CStatement, fold-CArm, fold-roll-CArm}
use Rattle.krml_ctree.specs.declared.tree.CFun.{CFun}
use Rattle.krml_ctree.specs.declared.tree.CProgram.{CProgram}
use Rattle.krml_ctree.specs.Parts.{CBlock, CState, Local, Locals, same_in, same_type, is_known, struct_named}
use Rattle.krml_ctree.specs.Parts as parts
use Rattle.krml_ctree.specs.Shape.{IsVariable, IsPlain, TypeKeeps, ArrayKeeps}
use Rattle.krml_ctree.specs.Tokens.{tokens}
use Rattle.krml_ctree.specs.Text.{as_text}
use Rattle.krml_ctree.specs.Text as text
use Rattle.krml_ctree.specs.Meaning as tgt
use Rattle.krml_ctree.specs.Meaning.{value_of, do_one}
use Rattle.krml_ctree.proofs.Forms.{var_is, lit_is, cast_is, bin_is, cmp_is, build_is, field_is, decl_is, blank_is, set_is, read_is, tab_is, write_is, div_is, call_is, run_is, arm_is, chain_is, loop_is, block_is}

-- ---- how a run is computed

module _ (p : CProgram) where
  known_u8 : is_known p t.U8 ≡ true
  known_u8 = rw (fold_out-CType, t.outs-U8)

  known_u32 : is_known p t.U32 ≡ true
  known_u32 = rw (fold_out-CType, t.outs-U32)

  known_u64 : is_known p t.U64 ≡ true
  known_u64 = rw (fold_out-CType, t.outs-U64)

  known_struct : (x : List ℕ) → is_known p (t.Struct x) ≡ parts.is_there (struct_named p x)
  known_struct x = rw (fold_out-CType, t.outs-Struct)

  known_ptr : (a : CType) → is_known p (t.Ptr a) ≡ is_known p a
  known_ptr a = rw (fold_out-CType Bool (parts.is_known_in p) (t.Ptr a), t.outs-Ptr) refl

same_u8 : (a : CType) → same_type t.U8 a ≡ same_in CType-F.U8 (out-CType a)
same_u8 a = rw (fold_out-CType, t.outs-U8)

same_u32 : (a : CType) → same_type t.U32 a ≡ same_in CType-F.U32 (out-CType a)
same_u32 a = rw (fold_out-CType, t.outs-U32)

ruleset forms = (
  var_is,
  lit_is,
  cast_is,
  bin_is,
  cmp_is,
  build_is,
  field_is,
  decl_is,
  blank_is,
  set_is,
  read_is,
  tab_is,
  write_is,
  div_is,
  call_is,
  run_is,
  arm_is,
  chain_is,
  loop_is,
  block_is,
)

ruleset shapes = (
  v.outs-Num,
  v.outs-Struct,
  v.outs-Ptr,
  t.outs-U8,
  t.outs-U32,
  t.outs-U64,
  t.outs-Struct,
  t.outs-Ptr,
  known_u8,
  known_u32,
  known_u64,
  known_struct,
  known_ptr,
  same_u8,
  same_u32,
)

ruleset computing = (forms, shapes)

-- ---- numbers

-- among any blocks and variables an expression has this value, or none
abbrev Has : CExpr → Option CValue → Type 0
Has a x = (p : CProgram) (m : List CBlock) (locals : Locals) → value_of p a m locals ≡ x

abbrev u32 : ℕ → CExpr
u32 n = e.Lit W32 n

abbrev u64 : ℕ → CExpr
u64 n = e.Lit W64 n

-- ((uint8_t)n)
abbrev u8 : ℕ → CExpr
u8 n = e.Cast W8 (u32 n)

-- an operator and its operands of width 32 have this result
abbrev Makes : CBin → ℕ → ℕ → ℕ → Type 0
Makes o m n r = Has (e.Bin o (u32 m) (u32 n)) (Some (v.Num W32 r))

number : Has (u64 4294967296) (Some (v.Num W64 4294967296))
number p m locals = simp computing

number_too_great : Has (u32 4294967296) None
number_too_great p m locals = simp computing

number_of_8_bits : Has (e.Lit W8 1) None
number_of_8_bits p m locals = simp computing

sum : Makes op.Add 7 8 15
sum p m locals = simp computing

sum_wraps : Makes op.Add 4294967295 2 1
sum_wraps p m locals = simp computing

sum_of_bytes : Has (e.Bin op.Add (u8 1) (u8 1)) None
sum_of_bytes p m locals = simp computing

sum_of_two_widths : Has (e.Bin op.Add (u32 1) (u64 1)) None
sum_of_two_widths p m locals = simp computing

difference_wraps : Makes op.Sub 0 1 4294967295
difference_wraps p m locals = simp computing

difference : Makes op.Sub 15 8 7
difference p m locals = simp computing

product_wraps : Makes op.Mul 65536 65537 65536
product_wraps p m locals = simp computing

product_64 : Has (e.Bin op.Mul (u64 65536) (u64 65537)) (Some (v.Num W64 4295032832))
product_64 p m locals = simp computing

bits_of_both : Makes op.And 240 175 160
bits_of_both p m locals = simp computing

bits_of_one : Makes op.Or 240 175 255
bits_of_one p m locals = simp computing

bits_that_differ : Makes op.Xor 240 175 95
bits_that_differ p m locals = simp computing

shift_left : Makes op.Shl 3 31 2147483648
shift_left p m locals = simp computing

shift_right : Makes op.Shr 200 3 25
shift_right p m locals = simp computing

shift_of_64 : Has (e.Bin op.Shl (u64 3) (u32 63)) (Some (v.Num W64 9223372036854775808))
shift_of_64 p m locals = simp computing

shift_by_the_width : Has (e.Bin op.Shl (u32 1) (u32 32)) None
shift_by_the_width p m locals = simp computing

shift_right_by_the_width : Has (e.Bin op.Shr (u64 1) (u32 64)) None
shift_right_by_the_width p m locals = simp computing

shift_by_64_bits : Has (e.Bin op.Shl (u64 1) (u64 1)) None
shift_by_64_bits p m locals = simp computing

shift_of_a_byte : Has (e.Bin op.Shl (u8 1) (u32 1)) None
shift_of_a_byte p m locals = simp computing

cast_to_less : Has (e.Cast W8 (u32 300)) (Some (v.Num W8 44))
cast_to_less p m locals = simp computing

cast_to_more : Has (e.Cast W64 (u8 200)) (Some (v.Num W64 200))
cast_to_more p m locals = simp computing

-- a comparison of 5 and 6, of 6 and 6, and of 7 and 6, as a number of 8 bits
abbrev Compares : CmpKind → ℕ → ℕ → ℕ → Type 0
Compares o less same more =
    Has (e.Cmp W8 o (u32 5) (u32 6)) (Some (v.Num W8 less)) × Has (e.Cmp W8 o (u32 6) (u32 6)) (Some (v.Num W8 same)) × Has (e.Cmp W8 o (u32 7) (u32 6)) (Some (v.Num W8 more))

equal : Compares cmp.Eq 0 1 0
equal = ((λ p m locals. simp computing), (λ p m locals. simp computing), (λ p m locals. simp computing))

unequal : Compares cmp.Ne 1 0 1
unequal = ((λ p m locals. simp computing), (λ p m locals. simp computing), (λ p m locals. simp computing))

less_than : Compares cmp.Lt 1 0 0
less_than = ((λ p m locals. simp computing), (λ p m locals. simp computing), (λ p m locals. simp computing))

at_most : Compares cmp.Le 1 1 0
at_most = ((λ p m locals. simp computing), (λ p m locals. simp computing), (λ p m locals. simp computing))

greater_than : Compares cmp.Gt 0 0 1
greater_than = ((λ p m locals. simp computing), (λ p m locals. simp computing), (λ p m locals. simp computing))

at_least : Compares cmp.Ge 0 1 1
at_least = ((λ p m locals. simp computing), (λ p m locals. simp computing), (λ p m locals. simp computing))

-- the width is that of the answer, and not that of the operands
comparison_of_64 : Has (e.Cmp W32 cmp.Lt (u64 1) (u64 2)) (Some (v.Num W32 1))
comparison_of_64 p m locals = simp computing

comparison_of_bytes : Has (e.Cmp W8 cmp.Lt (u8 1) (u8 2)) None
comparison_of_bytes p m locals = simp computing

-- ---- variables and structs

abbrev x : List ℕ
x = codes "v0"

abbrev y : List ℕ
y = codes "v1"

-- a variable that is no array
abbrev local : List ℕ → CType → Option CValue → Local
local name a u = record { name = name; ty = a; value = u; array = false }

-- a variable of 32 bits
abbrev word : List ℕ → ℕ → Local
word name n = local name t.U32 (Some (v.Num W32 n))

-- it has this value among these variables
abbrev HasAmong : Locals → CExpr → Option CValue → Type 0
HasAmong locals a x = (p : CProgram) (m : List CBlock) → value_of p a m locals ≡ x

variable : HasAmong (word y 6 ∷ word x 5 ∷ []) (e.Var x) (Some (v.Num W32 5))
variable p m = simp computing

no_variable : HasAmong (word y 6 ∷ []) (e.Var x) None
no_variable p m = simp computing

variable_without_value : HasAmong (local x t.U32 None ∷ []) (e.Var x) None
variable_without_value p m = simp computing

two_variables_of_a_name : HasAmong (word x 6 ∷ word x 5 ∷ []) (e.Var x) None
two_variables_of_a_name p m = simp computing

abbrev typed : CType → List ℕ → CVar
typed a name = record { ty = a; name = name }

abbrev byte_word : CProgram
byte_word = record {
  structs = record { name = codes "s_p"; fields = typed t.U8 (codes "m_x") ∷ typed t.U32 (codes "m_y") ∷ [] } ∷ [];
  tables = record { name = codes "t_s"; width = W8; nums = 1 ∷ [] } ∷ record { name = codes "t_t"; width = W32; nums = 7 ∷ 8 ∷ 9 ∷ [] } ∷ [];
  funs = [];
}

abbrev pair : CExpr → CExpr → CExpr
pair a b = e.Build (codes "s_p") (a ∷ b ∷ [])

-- it has this value in that program
abbrev HasThere : CExpr → Option CValue → Type 0
HasThere a x = (m : List CBlock) (locals : Locals) → value_of byte_word a m locals ≡ x

built : HasThere (pair (u8 1) (u32 2)) (Some (v.Struct (codes "s_p") (v.Num W8 1 ∷ v.Num W32 2 ∷ [])))
built m locals = simp computing

built_of_other_types : HasThere (pair (u32 1) (u32 2)) None
built_of_other_types m locals = simp computing

built_of_too_few : HasThere (e.Build (codes "s_p") (u8 1 ∷ [])) None
built_of_too_few m locals = simp computing

no_struct : HasThere (e.Build (codes "s_q") []) None
no_struct m locals = simp computing

first_field : HasThere (e.Field (pair (u8 1) (u32 2)) (codes "m_x")) (Some (v.Num W8 1))
first_field m locals = simp computing

second_field : HasThere (e.Field (pair (u8 1) (u32 2)) (codes "m_y")) (Some (v.Num W32 2))
second_field m locals = simp computing

no_field : HasThere (e.Field (pair (u8 1) (u32 2)) (codes "m_z")) None
no_field m locals = simp computing

-- ---- pointers

-- a block of 8-bit numbers
abbrev bytes : Bool → List (Option CValue) → CBlock
bytes live items = record { elem = t.U8; live = live; items = items }

-- two blocks, the second of which has two elements, and a variable that points to this one
abbrev two_blocks : List CBlock
two_blocks = bytes true [] ∷ bytes true (Some (v.Num W8 7) ∷ None ∷ []) ∷ []

abbrev pointer : ℕ → Local
pointer n = local x (t.Ptr t.U8) (Some (v.Ptr n 0))

abbrev HasWithPointer : CExpr → Option CValue → Type 0
HasWithPointer a u = (p : CProgram) → value_of p a two_blocks (pointer 1 ∷ []) ≡ u

moved_to_the_end : HasWithPointer (e.Bin op.Add (e.Var x) (u32 2)) (Some (v.Ptr 1 2))
moved_to_the_end p = simp computing

moved_past_the_end : HasWithPointer (e.Bin op.Add (e.Var x) (u32 3)) None
moved_past_the_end p = simp computing

moved_twice : HasWithPointer (e.Bin op.Add (e.Bin op.Add (e.Var x) (u32 1)) (u32 1)) (Some (v.Ptr 1 2))
moved_twice p = simp computing

moved_by_64_bits : HasWithPointer (e.Bin op.Add (e.Var x) (u64 1)) None
moved_by_64_bits p = simp computing

moved_down : HasWithPointer (e.Bin op.Sub (e.Var x) (u32 0)) None
moved_down p = simp computing

-- ---- statements

-- no event so far, these blocks, and so many ticks
abbrev begin : ℕ → List CBlock → CState
begin ticks m = record { ticks = ticks; memory = m; events = [] }

-- In the program above, with 5 ticks and no block, statements lead from these variables to those, leave these events, the
-- newest first, and so many ticks.
abbrev Leads : Locals → List CStatement → Locals → List CEvent → ℕ → Type 0
Leads locals body now es left = (calls : tgt.Calls) → tgt.exec byte_word calls body locals (begin 5 []) ≡ Goes now (record { ticks = left; memory = []; events = es })

-- They end the run, and leave these events.
abbrev Breaks : Locals → List CStatement → Why → List CEvent → Type 0
Breaks locals body w es = (calls : tgt.Calls) → tgt.exec byte_word calls body locals (begin 5 []) ≡ Ends w es

-- uint32_t NAME = a;
abbrev decl : List ℕ → CExpr → CStatement
decl name a = st.Decl (typed t.U32 name) a

declared : Leads (word x 5 ∷ []) (decl y (e.Bin op.Add (e.Var x) (u32 1)) ∷ []) (word y 6 ∷ word x 5 ∷ []) [] 5
declared calls = simp computing

declared_of_another_type : Breaks [] (st.Decl (typed t.U8 x) (u32 1) ∷ []) Undefined []
declared_of_another_type calls = simp computing

declared_of_no_type : Breaks [] (st.Blank (typed (t.Struct (codes "s_q")) x) ∷ []) Undefined []
declared_of_no_type calls = simp computing

-- a variable is in scope where its own value is computed, and has none there
declared_by_itself : Breaks [] (decl x (e.Var x) ∷ []) Undefined []
declared_by_itself calls = simp computing

declared_a_second_time : Breaks (word x 5 ∷ []) (decl x (e.Var x) ∷ []) Undefined []
declared_a_second_time calls = simp computing

blank_and_set : Leads [] (st.Blank (typed t.U32 x) ∷ st.Set x (u32 5) ∷ []) (word x 5 ∷ []) [] 5
blank_and_set calls = simp computing

blank_and_read : Breaks [] (st.Blank (typed t.U32 x) ∷ decl y (e.Var x) ∷ []) Undefined []
blank_and_read calls = simp computing

set_below : Leads (word y 6 ∷ word x 5 ∷ []) (st.Set x (u32 7) ∷ []) (word y 6 ∷ word x 7 ∷ []) [] 5
set_below calls = simp computing

set_of_another_type : Breaks (word x 5 ∷ []) (st.Set x (u8 7) ∷ []) Undefined []
set_of_another_type calls = simp computing

set_of_no_variable : Breaks (word x 5 ∷ []) (st.Set y (u32 7) ∷ []) Undefined []
set_of_no_variable calls = simp computing

struct_declared : Leads [] (st.Decl (typed (t.Struct (codes "s_p")) x) (pair (u8 1) (u32 2)) ∷ decl y (e.Field (e.Var x) (codes "m_y")) ∷ [])
    (word y 2 ∷ local x (t.Struct (codes "s_p")) (Some (v.Struct (codes "s_p") (v.Num W8 1 ∷ v.Num W32 2 ∷ []))) ∷ []) [] 5
struct_declared calls = simp computing

divided : Leads [] (st.Div (typed t.U32 x) true (u32 255) (u32 7) ∷ st.Div (typed t.U32 y) false (u32 255) (u32 7) ∷ []) (word y 3 ∷ word x 36 ∷ []) [] 5
divided calls = simp computing

divided_by_0 : Breaks [] (st.Div (typed t.U32 x) true (u32 255) (u32 0) ∷ []) Undefined []
divided_by_0 calls = simp computing

remainder_by_0 : Breaks [] (st.Div (typed t.U32 x) false (u32 255) (u32 0) ∷ []) Undefined []
remainder_by_0 calls = simp computing

divided_bytes : Breaks [] (st.Div (typed t.U8 x) true (u8 255) (u8 7) ∷ []) Undefined []
divided_bytes calls = simp computing

-- the place of the table, and the index
table_at : Leads [] (st.Tab (typed t.U32 x) (codes "t_t") (u32 2) ∷ []) (word x 9 ∷ []) (event.Tab 1 2 ∷ []) 5
table_at calls = simp computing

table_at_its_end : Breaks [] (st.Tab (typed t.U32 x) (codes "t_t") (u32 3) ∷ []) Undefined []
table_at_its_end calls = simp computing

table_at_a_byte : Breaks [] (st.Tab (typed t.U32 x) (codes "t_t") (u8 0) ∷ []) Undefined []
table_at_a_byte calls = simp computing

table_of_another_width : Breaks [] (st.Tab (typed t.U32 x) (codes "t_s") (u32 0) ∷ []) Undefined (event.Tab 0 0 ∷ [])
table_of_another_width calls = simp computing

no_table : Breaks [] (st.Tab (typed t.U32 x) (codes "t_u") (u32 0) ∷ []) Undefined []
no_table calls = simp computing

-- ---- choices

abbrev arm : CExpr → List CStatement → CArm
arm test body = roll-CArm (record { test = test; body = body })

-- if (x < 5) { x = 1; } else if (x < 7) { x = 2; } else { x = 3; }
abbrev three_ways : CStatement
three_ways = st.Chain (arm (e.Cmp W8 cmp.Lt (e.Var x) (u32 5)) (st.Set x (u32 1) ∷ []) ∷ arm (e.Cmp W8 cmp.Lt (e.Var x) (u32 7)) (st.Set x (u32 2) ∷ []) ∷ []) (st.Set x (u32 3) ∷ [])

first_way : Leads (word x 4 ∷ []) (three_ways ∷ []) (word x 1 ∷ []) (event.Br true ∷ []) 5
first_way calls = simp computing

second_way : Leads (word x 5 ∷ []) (three_ways ∷ []) (word x 2 ∷ []) (event.Br true ∷ event.Br false ∷ []) 5
second_way calls = simp computing

third_way : Leads (word x 7 ∷ []) (three_ways ∷ []) (word x 3 ∷ []) (event.Br false ∷ event.Br false ∷ []) 5
third_way calls = simp computing

-- any number but 0 is true
true_is_not_0 : Leads [] (st.Chain (arm (u32 2) [] ∷ []) (st.Set x (u32 3) ∷ []) ∷ []) [] (event.Br true ∷ []) 5
true_is_not_0 calls = simp computing

false_is_0 : Leads (word x 5 ∷ []) (st.Chain (arm (u64 0) [] ∷ []) (st.Set x (u32 3) ∷ []) ∷ []) (word x 3 ∷ []) (event.Br false ∷ []) 5
false_is_0 calls = simp computing

no_test : Breaks (local x t.U32 None ∷ []) (three_ways ∷ []) Undefined []
no_test calls = simp computing

-- what braces declare goes at their end, and what they set stays
braces_end : Leads (word x 5 ∷ []) (st.Chain (arm (u32 1) (decl y (u32 6) ∷ st.Set x (e.Var y) ∷ []) ∷ []) [] ∷ []) (word x 6 ∷ []) (event.Br true ∷ []) 5
braces_end calls = simp computing

braces_end_otherwise : Leads (word x 5 ∷ []) (st.Chain (arm (u32 0) [] ∷ []) (decl y (u32 6) ∷ []) ∷ decl y (u32 8) ∷ []) (word y 8 ∷ word x 5 ∷ []) (event.Br false ∷ []) 5
braces_end_otherwise calls = simp computing

-- ---- loops

-- for (;;) { if (x < 2) { x = x + 1; } else { break; } }
abbrev counting : CStatement
counting = st.Loop [] (e.Cmp W8 cmp.Lt (e.Var x) (u32 2)) (st.Set x (e.Bin op.Add (e.Var x) (u32 1)) ∷ [])

counted : Leads (word x 0 ∷ []) (counting ∷ []) (word x 2 ∷ []) (event.Br false ∷ event.Br true ∷ event.Br true ∷ []) 3
counted calls = simp computing

-- with so many ticks it is spent
counted_with_1 : (calls : tgt.Calls) → tgt.exec byte_word calls (counting ∷ []) (word x 0 ∷ []) (begin 1 []) ≡ Ends Spent (event.Br true ∷ event.Br true ∷ [])
counted_with_1 calls = simp computing

no_turn : Leads (word x 2 ∷ []) (counting ∷ []) (word x 2 ∷ []) (event.Br false ∷ []) 5
no_turn calls = simp computing

without_end : Breaks [] (st.Loop [] (u32 1) [] ∷ []) Spent (event.Br true ∷ event.Br true ∷ event.Br true ∷ event.Br true ∷ event.Br true ∷ event.Br true ∷ [])
without_end calls = simp computing

-- the first list is a scope around the test and the second list, which ends with each turn
counted_in_scopes : Leads (word x 0 ∷ []) (st.Loop (decl y (e.Bin op.Add (e.Var x) (u32 1)) ∷ []) (e.Cmp W8 cmp.Lt (e.Var y) (u32 3)) (decl (codes "v2") (e.Var y) ∷ st.Set x (e.Var (codes "v2")) ∷ []) ∷ [])
    (word x 2 ∷ []) (event.Br false ∷ event.Br true ∷ event.Br true ∷ []) 3
counted_in_scopes calls = simp computing

-- ---- memory

-- With two blocks as above, the pointer to the second one, and 5 ticks, statements lead to these variables, blocks and events.
abbrev Changes : List CStatement → Locals → List CBlock → List CEvent → Type 0
Changes body now m es =
    (calls : tgt.Calls) → tgt.exec byte_word calls body (pointer 1 ∷ []) (begin 5 two_blocks) ≡ Goes now (record { ticks = 5; memory = m; events = es })

-- or they end the run
abbrev Fails : List CBlock → List CStatement → Type 0
Fails m body = (calls : tgt.Calls) → tgt.exec byte_word calls body (pointer 1 ∷ []) (begin 5 m) ≡ Ends Undefined []

read_of_a_block : Changes (st.Read (typed t.U8 y) (e.Var x) (u32 0) ∷ []) (local y t.U8 (Some (v.Num W8 7)) ∷ pointer 1 ∷ []) two_blocks (event.Rd 1 0 ∷ [])
read_of_a_block calls = simp computing

written_to_a_block : Changes (st.Write (e.Var x) (u32 1) (u8 9) ∷ []) (pointer 1 ∷ []) (bytes true [] ∷ bytes true (Some (v.Num W8 7) ∷ Some (v.Num W8 9) ∷ []) ∷ []) (event.Wr 1 1 ∷ [])
written_to_a_block calls = simp computing

-- from where the pointer stands
written_and_read : Changes (st.Write (e.Var x) (u32 1) (u8 9) ∷ st.Read (typed t.U8 y) (e.Bin op.Add (e.Var x) (u32 1)) (u32 0) ∷ []) (local y t.U8 (Some (v.Num W8 9)) ∷ pointer 1 ∷ [])
    (bytes true [] ∷ bytes true (Some (v.Num W8 7) ∷ Some (v.Num W8 9) ∷ []) ∷ []) (event.Rd 1 1 ∷ event.Wr 1 1 ∷ [])
written_and_read calls = simp computing

read_without_value : Fails two_blocks (st.Read (typed t.U8 y) (e.Var x) (u32 1) ∷ [])
read_without_value calls = simp computing

read_at_the_end : Fails two_blocks (st.Read (typed t.U8 y) (e.Var x) (u32 2) ∷ [])
read_at_the_end calls = simp computing

write_at_the_end : Fails two_blocks (st.Write (e.Var x) (u32 2) (u8 9) ∷ [])
write_at_the_end calls = simp computing

read_by_a_byte : Fails two_blocks (st.Read (typed t.U8 y) (e.Var x) (u8 0) ∷ [])
read_by_a_byte calls = simp computing

read_of_no_pointer : Fails two_blocks (st.Read (typed t.U8 y) (u32 1) (u32 0) ∷ [])
read_of_no_pointer calls = simp computing

-- a block whose braces ended
abbrev ended_block : List CBlock
ended_block = bytes true [] ∷ bytes false (Some (v.Num W8 7) ∷ []) ∷ []

read_of_an_ended_block : Fails ended_block (st.Read (typed t.U8 y) (e.Var x) (u32 0) ∷ [])
read_of_an_ended_block calls = simp computing

write_to_an_ended_block : Fails ended_block (st.Write (e.Var x) (u32 0) (u8 9) ∷ [])
write_to_an_ended_block calls = simp computing

written_of_another_type : Fails two_blocks (st.Write (e.Var x) (u32 0) (u32 9) ∷ [])
written_of_another_type calls = simp computing

abbrev array : CType → List ℕ → ℕ → CArray
array a name len = record { ty = a; name = name; len = len }

abbrev slot : CType → ℕ → CSlot
slot a len = record { ty = a; len = len }

-- { uint8_t v0[2]; v0[1] = 9; v1 = 1; }: the array is a block without values, which is no longer live after the braces
braces_with_an_array : (calls : tgt.Calls) → tgt.exec byte_word calls (st.Block (array t.U8 x 2 ∷ []) (st.Write (e.Var x) (u32 1) (u8 9) ∷ st.Set y (u32 1) ∷ []) ∷ []) (word y 0 ∷ []) (begin 5 [])
    ≡ Goes (word y 1 ∷ []) (record { ticks = 5; memory = bytes false (None ∷ Some (v.Num W8 9) ∷ []) ∷ []; events = event.Leave ∷ event.Wr 0 1 ∷ event.Enter (slot t.U8 2 ∷ []) ∷ [] })
braces_with_an_array calls = simp computing

-- two arrays are the next blocks, in order
braces_with_two_arrays : (calls : tgt.Calls)
    → tgt.exec byte_word calls (st.Block (array t.U8 x 1 ∷ array t.U32 y 1 ∷ []) (st.Write (e.Var y) (u32 0) (u32 8) ∷ st.Write (e.Var x) (u32 0) (u8 9) ∷ []) ∷ []) [] (begin 5 (bytes true [] ∷ []))
    ≡ Goes [] (record {
      ticks = 5;
      memory = bytes true [] ∷ bytes false (Some (v.Num W8 9) ∷ []) ∷ record { elem = t.U32; live = false; items = Some (v.Num W32 8) ∷ [] } ∷ [];
      events = event.Leave ∷ event.Wr 1 0 ∷ event.Wr 2 0 ∷ event.Enter (slot t.U8 1 ∷ slot t.U32 1 ∷ []) ∷ [];
    })
braces_with_two_arrays calls = simp computing

-- an array is no variable that is set, also not to its own value
array_set : (calls : tgt.Calls) → tgt.exec byte_word calls (st.Block (array t.U8 x 1 ∷ []) (st.Set x (e.Var x) ∷ []) ∷ []) [] (begin 5 []) ≡ Ends Undefined (event.Enter (slot t.U8 1 ∷ []) ∷ [])
array_set calls = simp computing

-- ---- runs of a program

abbrev f : List ℕ
f = codes "f_f"

abbrev g : List ℕ
g = codes "f_g"

-- a function that gives a number of 32 bits
abbrev fun : List ℕ → List CVar → List CStatement → CExpr → CFun
fun name params body a = record { result = Some t.U32; name = name; params = params; body = body; answer = Some a }

-- a program of functions
abbrev funs : List CFun → CProgram
funs list = record { structs = []; tables = []; funs = list }

-- The run of f on arguments, with so many ticks and levels, has this outcome, and these events, the oldest first.
abbrev Runs : List CFun → List Arg → ℕ → ℕ → Outcome → List CEvent → Type 0
Runs list items ticks depth o es =
    (args : Arguments) → args.items ≡ items → tgt.c_run (funs list) f args (record { ticks = ticks; depth = depth }) ≡ record { outcome = o; events = es }

-- So it has under each bound.
abbrev AlwaysRuns : List CFun → List Arg → Outcome → List CEvent → Type 0
AlwaysRuns list items o es = (args : Arguments) → args.items ≡ items → (bound : Bound) → tgt.c_run (funs list) f args bound ≡ record { outcome = o; events = es }

-- it is done with a result, and without argument buffers
abbrev result : ℕ → Outcome
result n = outcome.Done (Some n) []

-- uint32_t f(uint32_t x, uint32_t y) { if (x < y) { x = x + 4294967295; } else { x = y; } return x + 20; }
abbrev one_if : List CFun
one_if = fun f (typed t.U32 x ∷ typed t.U32 y ∷ [])
    (st.Chain (arm (e.Cmp W8 cmp.Lt (e.Var x) (e.Var y)) (st.Set x (e.Bin op.Add (e.Var x) (u32 4294967295)) ∷ []) ∷ []) (st.Set x (e.Var y) ∷ []) ∷ [])
    (e.Bin op.Add (e.Var x) (u32 20)) ∷ []

if_of_less : AlwaysRuns one_if (arg.Num W32 9 ∷ arg.Num W32 10 ∷ []) (result 28) (event.Br true ∷ [])
if_of_less args is bound = simp (is, computing)

if_of_equal : AlwaysRuns one_if (arg.Num W32 10 ∷ arg.Num W32 10 ∷ []) (result 30) (event.Br false ∷ [])
if_of_equal args is bound = simp (is, computing)

-- such a run is Undefined, under each bound, and has no events
abbrev RunsNot : List CFun → List Arg → Type 0
RunsNot list items = AlwaysRuns list items outcome.Undefined []

-- uint32_t f(uint32_t x) { return 1; }
abbrev one_word : List CFun
one_word = fun f (typed t.U32 x ∷ []) [] (u32 1) ∷ []

one_number_too_few : RunsNot one_word []
one_number_too_few args is bound = simp (is, computing)

number_of_another_width : RunsNot one_word (arg.Num W64 9 ∷ [])
number_of_another_width args is bound = simp (is, computing)

no_function : RunsNot (fun g [] [] (u32 1) ∷ []) []
no_function args is bound = refl

answer_of_another_type : AlwaysRuns (fun f [] [] (u8 1) ∷ []) [] outcome.Undefined []
answer_of_another_type args is bound = simp (is, computing)

-- a truth value has 8 bits
truth_in_and_out : AlwaysRuns (record { result = Some t.U8; name = f; params = typed t.U8 x ∷ []; body = []; answer = Some (e.Var x) } ∷ []) (arg.Bool true ∷ []) (result 1) []
truth_in_and_out args is bound = simp (is, computing)

-- the arguments' blocks in order, each with its event, and what they hold at the end
buffers : AlwaysRuns (record {
  result = None;
  name = f;
  params = typed (t.Ptr t.U8) x ∷ typed (t.Ptr t.U32) y ∷ [];
  body = st.Read (typed t.U32 (codes "v2")) (e.Var y) (u32 1) ∷ st.Write (e.Var x) (u32 0) (e.Cast W8 (e.Var (codes "v2"))) ∷ [];
  answer = None;
} ∷ [])
    (arg.Buf W8 (1 ∷ 2 ∷ []) ∷ arg.Buf W32 (7 ∷ 300 ∷ []) ∷ []) (outcome.Done None ((44 ∷ 2 ∷ []) ∷ (7 ∷ 300 ∷ []) ∷ []))
    (event.Arg 0 t.U8 2 ∷ event.Arg 1 t.U32 2 ∷ event.Rd 1 1 ∷ event.Wr 0 0 ∷ [])
buffers args is bound = simp (is, computing)

buffer_of_another_width : RunsNot (record { result = None; name = f; params = typed (t.Ptr t.U8) x ∷ []; body = []; answer = None } ∷ []) (arg.Buf W32 (1 ∷ []) ∷ [])
buffer_of_another_width args is bound = simp (is, computing)

-- ---- calls

-- uint32_t f(void) { uint32_t x = g(7, 2); return x; } uint32_t g(uint32_t x, uint32_t y) { return x - y; }
abbrev one_call : List CFun
one_call = fun f [] (st.Call (typed t.U32 x) g (u32 7 ∷ u32 2 ∷ []) ∷ []) (e.Var x) ∷ fun g (typed t.U32 x ∷ typed t.U32 y ∷ []) [] (e.Bin op.Sub (e.Var x) (e.Var y)) ∷ []

call_with_1 : Runs one_call [] 1 1 (result 5) []
call_with_1 args is = simp (is, computing)

call_without_tick : Runs one_call [] 0 1 outcome.Spent []
call_without_tick args is = simp (is, computing)

call_without_level : Runs one_call [] 1 0 outcome.Deep []
call_without_level args is = simp (is, computing)

-- the tick is spent first
call_with_neither : Runs one_call [] 0 0 outcome.Spent []
call_with_neither args is = simp (is, computing)

-- what does not fit is found before the tick is spent
call_of_none : Runs (fun f [] (st.Call (typed t.U32 x) g [] ∷ []) (u32 1) ∷ []) [] 0 0 outcome.Undefined []
call_of_none args is = simp (is, computing)

call_with_a_byte : Runs (fun f [] (st.Call (typed t.U32 x) g (u8 1 ∷ []) ∷ []) (u32 1) ∷ fun g (typed t.U32 x ∷ []) [] (u32 1) ∷ []) [] 0 0 outcome.Undefined []
call_with_a_byte args is = simp (is, computing)

call_with_too_few : Runs (fun f [] (st.Call (typed t.U32 x) g [] ∷ []) (u32 1) ∷ fun g (typed t.U32 x ∷ []) [] (u32 1) ∷ []) [] 0 0 outcome.Undefined []
call_with_too_few args is = simp (is, computing)

call_for_another_type : Runs (fun f [] (st.Call (typed t.U8 x) g [] ∷ []) (u32 1) ∷ fun g [] [] (u32 1) ∷ []) [] 1 1 outcome.Undefined []
call_for_another_type args is = simp (is, computing)

-- two functions of a name
call_of_two : Runs (fun f [] (st.Call (typed t.U32 x) g [] ∷ []) (u32 1) ∷ fun g [] [] (u32 1) ∷ fun g [] [] (u32 2) ∷ []) [] 1 1 outcome.Undefined []
call_of_two args is = simp (is, computing)

-- a function sees its own parameters alone
callers_variables : Runs (fun f [] (decl x (u32 1) ∷ st.Call (typed t.U32 y) g [] ∷ []) (u32 1) ∷ fun g [] [] (e.Var x) ∷ []) [] 1 1 outcome.Undefined []
callers_variables args is = simp (is, computing)

-- a function that gives nothing is run, and one that gives something is not
abbrev nothing : List CStatement → CFun
nothing body = record { result = None; name = g; params = []; body = body; answer = None }

run_of_nothing : Runs (fun f [] (st.Run g [] ∷ []) (u32 1) ∷ nothing (st.Chain (arm (u32 1) [] ∷ []) [] ∷ []) ∷ []) [] 1 1 (result 1) (event.Br true ∷ [])
run_of_nothing args is = simp (is, computing)

run_of_something : Runs (fun f [] (st.Run g [] ∷ []) (u32 1) ∷ fun g [] [] (u32 1) ∷ []) [] 1 1 outcome.Undefined []
run_of_something args is = simp (is, computing)

call_of_nothing : Runs (fun f [] (st.Call (typed t.U32 x) g [] ∷ []) (u32 1) ∷ nothing [] ∷ []) [] 1 1 outcome.Undefined []
call_of_nothing args is = simp (is, computing)

-- uint32_t f(uint32_t x) { uint32_t y; if (x == 0) { y = 1; } else { uint32_t v2 = x - 1; uint32_t v3 = f(v2); y = x * v3; } return y; }
abbrev factorial : List CFun
factorial = fun f (typed t.U32 x ∷ [])
    (st.Blank (typed t.U32 y) ∷ st.Chain (arm (e.Cmp W8 cmp.Eq (e.Var x) (u32 0)) (st.Set y (u32 1) ∷ []) ∷ [])
    (decl (codes "v2") (e.Bin op.Sub (e.Var x) (u32 1)) ∷ st.Call (typed t.U32 (codes "v3")) f (e.Var (codes "v2") ∷ []) ∷ st.Set y (e.Bin op.Mul (e.Var x) (e.Var (codes "v3"))) ∷ []) ∷ [])
    (e.Var y) ∷ []

factorial_of_3 : Runs factorial (arg.Num W32 3 ∷ []) 3 3 (result 6) (event.Br false ∷ event.Br false ∷ event.Br false ∷ event.Br true ∷ [])
factorial_of_3 args is = simp (is, computing)

factorial_is_deep : Runs factorial (arg.Num W32 3 ∷ []) 3 2 outcome.Deep (event.Br false ∷ event.Br false ∷ event.Br false ∷ [])
factorial_is_deep args is = simp (is, computing)

factorial_is_spent : Runs factorial (arg.Num W32 3 ∷ []) 2 3 outcome.Spent (event.Br false ∷ event.Br false ∷ event.Br false ∷ [])
factorial_is_spent args is = simp (is, computing)

-- ---- tokens and shapes

operators_of_two_bytes : tokens (codes "a<=b>=c!=d==e<<f>>g") ≡ codes "a" ∷ codes "<=" ∷ codes "b" ∷ codes ">=" ∷ codes "c" ∷ codes "!=" ∷ codes "d" ∷ codes "==" ∷ codes "e" ∷ codes "<<" ∷ codes "f" ∷ codes ">>" ∷ codes "g" ∷ []
operators_of_two_bytes = refl

-- other bytes side by side are tokens of their own
operators_of_one_byte : tokens (codes "a>!(-*b") ≡ codes "a" ∷ codes ">" ∷ codes "!" ∷ codes "(" ∷ codes "-" ∷ codes "*" ∷ codes "b" ∷ []
operators_of_one_byte = refl

array_as_long_as_can_be : ArrayKeeps (array t.U8 x 4294967295)
array_as_long_as_can_be = record { ty = TypeKeeps.plain IsPlain.u8; name = IsVariable.plain (codes "0") refl; len = omega arith }

array_too_long : ArrayKeeps (array t.U8 x 4294967296) → ⊥
array_too_long h = omega (arith, h.len)

-- ---- how a text is computed

abbrev written : CExpr → List ℕ
written = text.expr as_text

abbrev written_type : CType → List ℕ
written_type = text.type_of as_text

abbrev written_one : CStatement → ℕ → List ℕ
written_one = text.statement as_text

decimal_1 : decimal 1 ≡ codes "1"
decimal_1 = decimal_digit 1 (omega arith)

decimal_2 : decimal 2 ≡ codes "2"
decimal_2 = decimal_digit 2 (omega arith)

decimal_3 : decimal 3 ≡ codes "3"
decimal_3 = decimal_digit 3 (omega arith)

decimal_7 : decimal 7 ≡ codes "7"
decimal_7 = decimal_digit 7 (omega arith)

decimal_8 : decimal 8 ≡ codes "8"
decimal_8 = decimal_digit 8 (omega arith)

decimal_9 : decimal 9 ≡ codes "9"
decimal_9 = decimal_digit 9 (omega arith)

type_u8_is : written_type t.U8 ≡ codes "uint8_t "
type_u8_is = rw (fold_out-CType (List ℕ) (text.type_step as_text) t.U8, t.outs-U8) refl

type_u32_is : written_type t.U32 ≡ codes "uint32_t "
type_u32_is = rw (fold_out-CType (List ℕ) (text.type_step as_text) t.U32, t.outs-U32) refl

type_ptr_is : (a : CType) → written_type (t.Ptr a) ≡ written_type a ++ codes "*"
type_ptr_is a = rw (fold_out-CType (List ℕ) (text.type_step as_text) (t.Ptr a), t.outs-Ptr) refl

var_text_is : (a : List ℕ) → written (e.Var a) ≡ a
var_text_is a = rw (fold_out-CExpr, e.outs-Var) refl

lit_text_is : (w : Width) (n : ℕ) → written (e.Lit w n) ≡ text.cast as_text w (text.number w n)
lit_text_is w n = rw (fold_out-CExpr, e.outs-Lit) refl

bin_text_is : (o : CBin) (a b : CExpr) → written (e.Bin o a b) ≡ text.binary as_text (text.bin_symbol o) (written a) (written b)
bin_text_is o a b = rw (fold_out-CExpr (List ℕ) (text.expr_step as_text) (e.Bin o a b), e.outs-Bin) refl

cmp_text_is : (w : Width) (o : CmpKind) (a b : CExpr) → written (e.Cmp w o a b) ≡ text.cast as_text w (text.binary as_text (text.cmp_symbol o) (written a) (written b))
cmp_text_is w o a b = rw (fold_out-CExpr (List ℕ) (text.expr_step as_text) (e.Cmp w o a b), e.outs-Cmp) refl

blank_text_is : (v : CVar) (level : ℕ) → written_one (st.Blank v) level ≡ text.ended as_text level (text.declarator as_text v)
blank_text_is v level = rw (fold_out-CStatement, st.outs-Blank) refl

set_text_is : (a : List ℕ) (b : CExpr) (level : ℕ) → written_one (st.Set a b) level ≡ text.equation as_text level a (written b)
set_text_is a b level = rw (fold_out-CStatement, st.outs-Set) refl

abbrev written_arm : CArm → text.Arm as_text
written_arm = fold-CArm (ℕ → List ℕ) (text.Arm as_text) (text.statement_step as_text) (text.arm_step as_text)

arm_text_is : (a : CExpr) (body : List CStatement) → written_arm (roll-CArm (record { test = a; body = body })) ≡ record { test = written a; body = text.block as_text (map written_one body) }
arm_text_is a body = rw (fold-roll-CArm)

chain_text_is : (arms : List CArm) (rest : List CStatement) (level : ℕ)
    → written_one (st.Chain arms rest) level ≡ (text.ifs as_text (map written_arm arms) level ++ text.otherwise as_text (map written_one rest) level) ++ text.closing as_text level
chain_text_is arms rest level = rw (fold_out-CStatement, st.outs-Chain) refl

loop_text_is : (first : List CStatement) (test : CExpr) (body : List CStatement) (level : ℕ)
    → written_one (st.Loop first test body) level
    ≡ text.statement_step as_text (CStatement-F.Loop (map written_one first) test (map written_one body)) level
loop_text_is first test body level = rw (fold_out-CStatement, st.outs-Loop) refl

ruleset texts = (
  decimal_1,
  decimal_2,
  decimal_3,
  decimal_7,
  decimal_8,
  decimal_9,
  type_u8_is,
  type_u32_is,
  type_ptr_is,
  var_text_is,
  lit_text_is,
  bin_text_is,
  cmp_text_is,
  blank_text_is,
  set_text_is,
  arm_text_is,
  chain_text_is,
  loop_text_is,
)

-- ---- texts

pointer_written : written_type (t.Ptr t.U8) ≡ codes "uint8_t *"
pointer_written = simp texts

sum_written : written (e.Bin op.Add (u32 7) (e.Var x)) ≡ codes "(((uint32_t)7u) + v0)"
sum_written = simp texts

shift_written : written (e.Bin op.Shl (e.Var x) (e.Var y)) ≡ codes "(v0 << v1)"
shift_written = simp texts

-- a comparison of two variables has this text
abbrev ComparesAs : CmpKind → List ℕ → Type 0
ComparesAs o a = written (e.Cmp W8 o (e.Var x) (e.Var y)) ≡ a

equal_written : ComparesAs cmp.Eq (codes "((uint8_t)(v0 == v1))")
equal_written = simp texts

unequal_written : ComparesAs cmp.Ne (codes "((uint8_t)(v0 != v1))")
unequal_written = simp texts

less_written : ComparesAs cmp.Lt (codes "((uint8_t)(v0 < v1))")
less_written = simp texts

at_most_written : ComparesAs cmp.Le (codes "((uint8_t)(v0 <= v1))")
at_most_written = simp texts

greater_written : ComparesAs cmp.Gt (codes "((uint8_t)(v0 > v1))")
greater_written = simp texts

at_least_written : ComparesAs cmp.Ge (codes "((uint8_t)(v0 >= v1))")
at_least_written = simp texts

chain_written : written_one (st.Chain (arm (e.Var x) (st.Set x (e.Var y) ∷ []) ∷ arm (e.Var y) [] ∷ []) (st.Set y (e.Var x) ∷ [])) 1
    ≡ codes "  if (v0) {\n    v0 = v1;\n  } else if (v1) {\n  } else {\n    v1 = v0;\n  }\n"
chain_written = simp texts

loop_written : written_one (st.Loop (st.Blank (typed t.U32 y) ∷ []) (e.Var x) (st.Set x (e.Var y) ∷ [])) 0
    ≡ codes "for (;;) {\n  uint32_t v1;\n  if (v0) {\n    v0 = v1;\n  } else {\n    break;\n  }\n}\n"
loop_written = simp texts

tables_written : text.text_of byte_word
    ≡ codes "#include <stdint.h>\nstruct s_p {\n  uint8_t m_x;\n  uint32_t m_y;\n};\nstatic const uint8_t t_s[1] = {1u};\nstatic const uint32_t t_t[3] = {7u, 8u, 9u};\n"
tables_written = simp texts

function_written : text.text_of (funs one_word) ≡ codes "#include <stdint.h>\nuint32_t f_f(uint32_t v0);\nuint32_t f_f(uint32_t v0) {\n  return ((uint32_t)1u);\n}\n"
function_written = simp texts
