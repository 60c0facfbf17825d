-- Values, memory and scopes of a run of the source, and the steps that runs are made of.
use Rattle.std.specs.Prelude.{ℕ, zero, suc, Bool, true, false, if◌then◌else◌, List, [], ◌∷◌, ◌++◌, Option, Some, None}
use Rattle.std.specs.Str.{bytes_eq}
use Rattle.krml_trace.specs.declared.width.Width.{Width}
use Rattle.krml_trace.specs.declared.why.Why.TheVariants.{Undefined}
use Rattle.krml_trace.specs.Width.{same_width}
use Rattle.krml_trace.specs.Run.{State, Ran, ends, check}
use Rattle.krml_trace.specs.Blocks.{put_block}
use Rattle.krml_syntax.specs.declared.tree.Ty.{Ty}
use Rattle.krml_syntax.specs.declared.tree.Slot.{Slot}
use Rattle.krml_ast.specs.declared.event.SourceEvent.{SourceEvent}
use Rattle.krml_meaning.specs.declared.value.Value.{Value, out-Value}
use Rattle.krml_meaning.specs.declared.value.Value.TheOpen.{Value-F}
use Rattle.krml_syntax.specs.Types.{type_at}

-- A block of memory: the type and the number of its elements, whether its frame is open, and the elements that have a
-- value, from the first on. Only a block that is being filled has fewer than its number.
pub record Block : Type 0 where
  pub elem : Ty
  pub len : ℕ
  pub live : Bool
  pub items : List Value

abbrev pub SourceState : Type 0
SourceState = State SourceEvent (List Block)

abbrev pub SourceRan : Type 0 → Type 0
SourceRan A = Ran SourceEvent (List Block) A

-- the variables in scope, the newest first
abbrev pub Variables : Type 0
Variables = List (List ℕ × Value)

-- Where an expression is evaluated: the variables, the type variables of the function with the closed types that they
-- stand for, and the number of the first block of the frame around it.
pub record Env : Type 0 where
  pub vars : Variables
  pub tvars : List (List ℕ)
  pub targs : List Ty
  pub base : ℕ

abbrev pub value_of : Variables → List ℕ → Option Value
value_of [] x = None
value_of ((y, v) ∷ vars) x = if bytes_eq y x then Some v else value_of vars x

abbrev pub with_vars : Variables → Env → Env
with_vars vars env = record env { vars = vars ++ env.vars }

-- a type, closed by the types that its variables stand for
abbrev pub closed : Env → Ty → Ty
closed env a = type_at env.tvars env.targs a

abbrev pub closed_slot : Env → Slot → Slot
closed_slot env s = record { ty = closed env s.ty; len = s.len }

-- What an expression means.
abbrev pub Sem : Type 0
Sem = Env → SourceState → SourceRan Value

-- ---- values by shape: one of another shape ends the run as Undefined

abbrev pub number_in : {A : Type 0} → Width → Value-F Value → SourceState → (ℕ → SourceRan A) → SourceRan A
number_in w (Value-F.Num v n) s next = check Undefined (same_width w v) s (next n)
number_in w _ s next = ends Undefined s

-- the number of a width
abbrev pub as_number : {A : Type 0} → Width → Value → SourceState → (ℕ → SourceRan A) → SourceRan A
as_number w x s next = number_in w (out-Value x) s next

abbrev pub truth_in : {A : Type 0} → Value-F Value → SourceState → (Bool → SourceRan A) → SourceRan A
truth_in (Value-F.Bool b) s next = next b
truth_in _ s next = ends Undefined s

abbrev pub as_truth : {A : Type 0} → Value → SourceState → (Bool → SourceRan A) → SourceRan A
as_truth x s next = truth_in (out-Value x) s next

abbrev pub buffer_in : {A : Type 0} → Value-F Value → SourceState → (ℕ → ℕ → ℕ → SourceRan A) → SourceRan A
buffer_in (Value-F.Buf b off len) s next = next b off len
buffer_in _ s next = ends Undefined s

-- the block, the offset and the length of a buffer
abbrev pub as_buffer : {A : Type 0} → Value → SourceState → (ℕ → ℕ → ℕ → SourceRan A) → SourceRan A
as_buffer x s next = buffer_in (out-Value x) s next

abbrev pub struct_in : {A : Type 0} → Value-F Value → SourceState → (List (List ℕ) → List Value → SourceRan A) → SourceRan A
struct_in (Value-F.Struct names xs) s next = next names xs
struct_in _ s next = ends Undefined s

abbrev pub as_struct : {A : Type 0} → Value → SourceState → (List (List ℕ) → List Value → SourceRan A) → SourceRan A
as_struct x s next = struct_in (out-Value x) s next

abbrev pub con_in : {A : Type 0} → Value-F Value → SourceState → (ℕ → List Value → SourceRan A) → SourceRan A
con_in (Value-F.Con k xs) s next = next k xs
con_in _ s next = ends Undefined s

abbrev pub as_con : {A : Type 0} → Value → SourceState → (ℕ → List Value → SourceRan A) → SourceRan A
as_con x s next = con_in (out-Value x) s next

-- ---- memory

-- the n-th, or one more at the end
abbrev pub set_or_add : {A : Type 0} → ℕ → A → List A → List A
set_or_add n a [] = a ∷ []
set_or_add zero a (x ∷ xs) = a ∷ xs
set_or_add (suc n) a (x ∷ xs) = x ∷ set_or_add n a xs

-- the block with an element that has this value
abbrev pub with_item : ℕ → Value → Block → Block
with_item i a b = record b { items = set_or_add i a b.items }

-- element i of block n, which is b, takes a value
abbrev pub put : ℕ → ℕ → Value → Block → SourceState → SourceState
put n i a b s = put_block n (with_item i a b) s

abbrev pub fresh : Slot → Block
fresh slot = record { elem = slot.ty; len = slot.len; live = true; items = [] }

-- a block whose frame is left
abbrev pub dead : Block → Block
dead b = record b { live = false }
