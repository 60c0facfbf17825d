-- Values, memory and variables of a run of C.
use Rattle.std.specs.Prelude.{ℕ, suc, ◌-◌, Bool, true, false, if◌then◌else◌, nat_lt, List, [], ◌∷◌, map, length, drop, filter, Option, Some, None, option_map, option_and_then, slice_get}
use Rattle.std.specs.Str.{bytes_eq}
use Rattle.krml_trace.specs.First.{numbered}
use Rattle.krml_trace.specs.declared.width.Width.{Width}
use Rattle.krml_trace.specs.declared.width.Width.TheVariants.{W8, W32, W64}
use Rattle.krml_trace.specs.Width.{same_width}
use Rattle.krml_trace.specs.Run.{State, Ran}
use Rattle.krml_trace.specs.Blocks.{update, put_block}
use Rattle.krml_ctree.specs.declared.event.CEvent.{CEvent}
use Rattle.krml_ctree.specs.declared.value.CValue.{CValue, out-CValue}
use Rattle.krml_ctree.specs.declared.value.CValue.TheOpen.{CValue-F}
use Rattle.krml_ctree.specs.declared.tree.CType.{CType, out-CType}
use Rattle.krml_ctree.specs.declared.tree.CType.TheOpen.{CType-F}
use Rattle.krml_ctree.specs.declared.tree.CType.TheFolds.{fold-CType}
use Rattle.krml_ctree.specs.declared.tree.CStruct.{CStruct}
use Rattle.krml_ctree.specs.declared.tree.CTable.{CTable}
use Rattle.krml_ctree.specs.declared.tree.CFun.{CFun}
use Rattle.krml_ctree.specs.declared.tree.CProgram.{CProgram}

-- A block of memory: the type of its elements, whether its braces are open, and the elements, each with a value or without.
pub record CBlock : Type 0 where
  pub elem : CType
  pub live : Bool
  pub items : List (Option CValue)

abbrev pub CState : Type 0
CState = State CEvent (List CBlock)

abbrev pub CRan : Type 0 → Type 0
CRan A = Ran CEvent (List CBlock) A

-- A parameter, a variable or an array in scope: its type, its value where it has one, and whether it is an array, whose
-- value is the pointer to its first element.
pub record Local : Type 0 where
  pub name : List ℕ
  pub ty : CType
  pub value : Option CValue
  pub array : Bool

-- those in scope, the newest first
abbrev pub Locals : Type 0
Locals = List Local

-- ---- names, each of which means the only thing that has it

abbrev pub the_only : {A : Type 0} → List A → Option A
the_only [] = None
the_only (a ∷ []) = Some a
the_only (a ∷ b ∷ rest) = None

abbrev pub local_of : Locals → List ℕ → Option Local
local_of locals x = the_only (filter (λ l. bytes_eq l.name x) locals)

abbrev pub struct_named : CProgram → List ℕ → Option CStruct
struct_named p x = the_only (filter (λ s. bytes_eq s.name x) p.structs)

abbrev pub function_named : CProgram → List ℕ → Option CFun
function_named p x = the_only (filter (λ f. bytes_eq f.name x) p.funs)

-- a table, and its place
abbrev pub table_named : CProgram → List ℕ → Option (ℕ × CTable)
table_named p x = the_only (filter (λ t. bytes_eq t.1.name x) (numbered 0 p.tables))

-- ---- types

abbrev pub same_in : CType-F (CType → Bool) → CType-F CType → Bool
same_in CType-F.U8 CType-F.U8 = true
same_in CType-F.U8 CType-F.U32 = false
same_in CType-F.U8 CType-F.U64 = false
same_in CType-F.U8 (CType-F.Struct y) = false
same_in CType-F.U8 (CType-F.Ptr a) = false
same_in CType-F.U32 CType-F.U8 = false
same_in CType-F.U32 CType-F.U32 = true
same_in CType-F.U32 CType-F.U64 = false
same_in CType-F.U32 (CType-F.Struct y) = false
same_in CType-F.U32 (CType-F.Ptr a) = false
same_in CType-F.U64 CType-F.U8 = false
same_in CType-F.U64 CType-F.U32 = false
same_in CType-F.U64 CType-F.U64 = true
same_in CType-F.U64 (CType-F.Struct y) = false
same_in CType-F.U64 (CType-F.Ptr a) = false
same_in (CType-F.Struct x) CType-F.U8 = false
same_in (CType-F.Struct x) CType-F.U32 = false
same_in (CType-F.Struct x) CType-F.U64 = false
same_in (CType-F.Struct x) (CType-F.Struct y) = bytes_eq x y
same_in (CType-F.Struct x) (CType-F.Ptr a) = false
same_in (CType-F.Ptr f) CType-F.U8 = false
same_in (CType-F.Ptr f) CType-F.U32 = false
same_in (CType-F.Ptr f) CType-F.U64 = false
same_in (CType-F.Ptr f) (CType-F.Struct y) = false
same_in (CType-F.Ptr f) (CType-F.Ptr a) = f a

abbrev pub same_type : CType → CType → Bool
same_type = fold-CType (CType → Bool) (λ x a. same_in x (out-CType a))

-- a type names a struct of the program, where it names one
abbrev pub is_there : {A : Type 0} → Option A → Bool
is_there (Some a) = true
is_there None = false

abbrev pub is_known_in : CProgram → CType-F Bool → Bool
is_known_in p (CType-F.Struct x) = is_there (struct_named p x)
is_known_in p (CType-F.Ptr b) = b
is_known_in p CType-F.U8 = true
is_known_in p CType-F.U32 = true
is_known_in p CType-F.U64 = true

abbrev pub is_known : CProgram → CType → Bool
is_known p = fold-CType Bool (is_known_in p)

abbrev pub block_has : Option CBlock → CType → Bool
block_has None a = false
block_has (Some b) a = same_type b.elem a

-- the type of numbers of a width
abbrev pub is_number_type : Width → CType-F CType → Bool
is_number_type W8 CType-F.U8 = true
is_number_type W8 CType-F.U32 = false
is_number_type W8 CType-F.U64 = false
is_number_type W8 (CType-F.Struct y) = false
is_number_type W8 (CType-F.Ptr a) = false
is_number_type W32 CType-F.U8 = false
is_number_type W32 CType-F.U32 = true
is_number_type W32 CType-F.U64 = false
is_number_type W32 (CType-F.Struct y) = false
is_number_type W32 (CType-F.Ptr a) = false
is_number_type W64 CType-F.U8 = false
is_number_type W64 CType-F.U32 = false
is_number_type W64 CType-F.U64 = true
is_number_type W64 (CType-F.Struct y) = false
is_number_type W64 (CType-F.Ptr a) = false

abbrev pub has_type_in : List CBlock → CValue-F CValue → CType-F CType → Bool
has_type_in m (CValue-F.Num w n) a = is_number_type w a
has_type_in m (CValue-F.Struct x xs) CType-F.U8 = false
has_type_in m (CValue-F.Struct x xs) CType-F.U32 = false
has_type_in m (CValue-F.Struct x xs) CType-F.U64 = false
has_type_in m (CValue-F.Struct x xs) (CType-F.Struct y) = bytes_eq x y
has_type_in m (CValue-F.Struct x xs) (CType-F.Ptr a) = false
has_type_in m (CValue-F.Ptr n i) CType-F.U8 = false
has_type_in m (CValue-F.Ptr n i) CType-F.U32 = false
has_type_in m (CValue-F.Ptr n i) CType-F.U64 = false
has_type_in m (CValue-F.Ptr n i) (CType-F.Struct y) = false
has_type_in m (CValue-F.Ptr n i) (CType-F.Ptr a) = block_has (slice_get m n) a

-- whether a value is of a type: a pointer is of that to its block's elements
abbrev pub has_type : List CBlock → CValue → CType → Bool
has_type m x a = has_type_in m (out-CValue x) (out-CType a)

-- ---- values by shape

abbrev pub number_in : CValue-F CValue → Option (Width × ℕ)
number_in (CValue-F.Num w n) = Some (w, n)
number_in _ = None

abbrev pub as_number : CValue → Option (Width × ℕ)
as_number x = number_in (out-CValue x)

-- the number of a width
abbrev pub of_width : Width → Width × ℕ → Option ℕ
of_width w p = if same_width w p.0 then Some p.1 else None

abbrev pub as_number_of : Width → CValue → Option ℕ
as_number_of w x = option_and_then (of_width w) (as_number x)

abbrev pub pointer_in : CValue-F CValue → Option (ℕ × ℕ)
pointer_in (CValue-F.Ptr n i) = Some (n, i)
pointer_in _ = None

abbrev pub as_pointer : CValue → Option (ℕ × ℕ)
as_pointer x = pointer_in (out-CValue x)

abbrev pub struct_in : CValue-F CValue → Option (List ℕ × List CValue)
struct_in (CValue-F.Struct x xs) = Some (x, xs)
struct_in _ = None

abbrev pub as_struct : CValue → Option (List ℕ × List CValue)
as_struct x = struct_in (out-CValue x)

-- A condition is a number, and true where it is not 0 (6.8.4.1p2).
abbrev pub as_truth : CValue → Option Bool
as_truth x = option_map (λ p. nat_lt 0 p.1) (as_number x)

-- ---- variables

-- with a value for the one of a name
abbrev pub set_in : List ℕ → CValue → Local → Local
set_in x v l = if bytes_eq l.name x then record l { value = Some v } else l

abbrev pub set : List ℕ → CValue → Locals → Locals
set x v locals = map (set_in x v) locals

-- At the end of a scope what it declared goes (6.2.1p4, 6.2.4p6). What is from before stays, with its values of now.
abbrev pub close : Locals → Locals → Locals
close before now = drop (length now - length before) now

-- ---- memory

-- element i of block n, which is b, takes a value
abbrev pub put : ℕ → ℕ → CValue → CBlock → CState → CState
put n i a b s = put_block n (record b { items = update i (Some a) b.items }) s

-- a block whose braces are left
abbrev pub dead : CBlock → CBlock
dead b = record b { live = false }
