-- What a pass makes of what runs are made of: values, names of fields, types of blocks, tables and events.
use Rattle.std.specs.Prelude.{◌≡◌, ℕ, Bool, List, map}
use Rattle.std.specs.Str.{bytes_eq}
use Rattle.krml_trace.specs.declared.why.Why.{Why}
use Rattle.krml_trace.specs.Follows.{beside}
use Rattle.krml_syntax.specs.declared.tree.Ty.{Ty}
use Rattle.krml_syntax.specs.declared.tree.Slot.{Slot}
use Rattle.krml_ast.specs.declared.event.SourceEvent.{SourceEvent}
use Rattle.krml_ast.specs.declared.event.SourceEvent.TheVariants as event
use Rattle.krml_meaning.specs.declared.value.Value.{Value, out-Value, map-Value}
use Rattle.krml_meaning.specs.declared.value.Value.TheOpen.{Value-F}
use Rattle.krml_meaning.specs.State.{Block, SourceState, Variables}

-- one layer of a value under other names of fields
abbrev pub value_renamed : {X : Type 0} → (List ℕ → List ℕ) → Value-F X → Value-F X
value_renamed field (Value-F.Struct names xs) = Value-F.Struct (map field names) xs
value_renamed field y = y

-- what a value is made of, where its parts become others and its fields get other names
abbrev pub value_under : (Value → Value) → (List ℕ → List ℕ) → Value-F Value → Value-F Value
value_under value field o = value_renamed field (map-Value Value Value value o)

-- The images of a pass: of values, of the names of fields, of the closed types of blocks, and of the place of a table among
-- the definitions. Values keep their shape, and fields are told apart as before. Beside them stand the ends of a run that the
-- pass keeps: of a run that ends otherwise nothing is said.
pub record Images : Type 0 where
  pub value : Value → Value
  pub field : List ℕ → List ℕ
  pub ty : Ty → Ty
  pub place : ℕ → ℕ
  pub keeps : Why → Bool
  pub out : (x : Value) → out-Value (value x) ≡ value_under value field (out-Value x)
  pub apart : (x y : List ℕ) → bytes_eq (field x) (field y) ≡ bytes_eq x y

abbrev pub vars_under : (Value → Value) → Variables → Variables
vars_under value vars = map (λ p. (p.0, value p.1)) vars

abbrev pub slot_under : (Ty → Ty) → Slot → Slot
slot_under ty s = record { ty = ty s.ty; len = s.len }

-- an event, where types become others and tables have other places
abbrev pub event_under : (Ty → Ty) → (ℕ → ℕ) → SourceEvent → SourceEvent
event_under ty place (event.Arg j a n) = event.Arg j (ty a) n
event_under ty place (event.Push slots) = event.Push (map (slot_under ty) slots)
event_under ty place (event.Tab k i) = event.Tab (place k) i
event_under ty place ev = ev

module _ (im : Images) where
  abbrev pub vars_image : Variables → Variables
  vars_image vars = vars_under im.value vars

  abbrev pub slot_image : Slot → Slot
  slot_image s = slot_under im.ty s

  abbrev pub block_image : Block → Block
  block_image b = record { elem = im.ty b.elem; len = b.len; live = b.live; items = map im.value b.items }

  abbrev pub memory_image : List Block → List Block
  memory_image m = map block_image m

  abbrev pub event_image : SourceEvent → SourceEvent
  event_image e = event_under im.ty im.place e

  abbrev pub events_image : List SourceEvent → List SourceEvent
  events_image es = map event_image es

  abbrev pub state_image : SourceState → SourceState
  state_image s = beside events_image s (memory_image s.memory)
