-- Values, events and states of a run of the source as C has them.
use Rattle.std.proofs.Common.{ℕ, if◌then◌else◌, List, [], ◌∷◌, reverse, Option, Some}
use Rattle.std.specs.List.{flat_map}
use Rattle.krml_trace.specs.declared.width.Width.TheVariants.{W8}
use Rattle.krml_trace.proofs.Simulates.{Image, Simulates, image_state}
use Rattle.krml_syntax.specs.declared.tree.Ty.{Ty, out-Ty}
use Rattle.krml_syntax.specs.declared.tree.Ty.TheOpen.{Ty-F}
use Rattle.krml_syntax.specs.declared.tree.Field.{Field}
use Rattle.krml_syntax.specs.declared.tree.Def.{Def}
use Rattle.krml_ast.specs.Names.{Composite, Struct, type_named}
use Rattle.krml_syntax.specs.Types.{erased}
use Rattle.krml_ast.specs.declared.event.SourceEvent.{SourceEvent}
use Rattle.krml_meaning.specs.declared.value.Value.{Value}
use Rattle.krml_meaning.specs.declared.value.Value.TheOpen.{Value-F}
use Rattle.krml_meaning.specs.declared.value.Value.TheFolds.{fold-Value}
use Rattle.krml_meaning.specs.State.{Block, SourceState, SourceRan}
use Rattle.krml_ctree.specs.declared.event.CEvent.{CEvent}
use Rattle.krml_ctree.specs.declared.value.CValue.{CValue}
use Rattle.krml_ctree.specs.declared.value.CValue.TheVariants as c
use Rattle.krml_ctree.specs.Parts.{CBlock, CState, CRan}
use Rattle.krml_cstar.specs.Image.{event_image}

-- ---- values, by their types: a value of the source does not name its struct

-- what stands for a value that is not looked at, or is not built
abbrev pub no_image : CValue
no_image = c.Num W8 0

-- the values of fields, by the types of the fields
abbrev pub field_images : List (Ty → CValue) → List Field → List CValue
field_images (f ∷ fs) (x ∷ fields) = f (erased x.ty) ∷ field_images fs fields
field_images _ _ = []

abbrev pub struct_image : List ℕ → List (Ty → CValue) → Option Composite → CValue
struct_image x fs (Some (Struct vars fields)) = c.Struct x (field_images fs fields)
struct_image x fs _ = no_image

abbrev pub struct_at : List Def → List (Ty → CValue) → Ty-F Ty → CValue
struct_at defs fs (Ty-F.Named x args) = struct_image x fs (type_named defs x)
struct_at defs fs _ = no_image

abbrev pub level_image : List Def → Value-F (Ty → CValue) → Ty → CValue
level_image defs (Value-F.Bool b) a = c.Num W8 (if b then 1 else 0)
level_image defs (Value-F.Num w n) a = c.Num w n
level_image defs (Value-F.Struct names fs) a = struct_at defs fs (out-Ty a)
level_image defs _ a = no_image

abbrev pub image_at : List Def → Value → Ty → CValue
image_at defs = fold-Value (Ty → CValue) (level_image defs)

abbrev pub images_at : List Def → List Value → List Ty → List CValue
images_at defs (x ∷ xs) (a ∷ types) = image_at defs x a ∷ images_at defs xs types
images_at defs _ _ = []

-- ---- events, the newest first, and memory. In the part that is built there are no blocks.

abbrev pub events_image : List Def → List SourceEvent → List CEvent
events_image defs es = flat_map (λ e. reverse (event_image defs e)) es

abbrev pub the_image : List Def → Image SourceEvent (List Block) CEvent (List CBlock)
the_image defs = record { events = events_image defs; memory = λ m. [] }

abbrev pub state_image : List Def → SourceState → CState
state_image defs = image_state (the_image defs)

-- a run of C does what a run of the source does, unless that is stuck
abbrev pub Sim : {A A' : Type 0} → List Def → (A → A' → Type 0) → SourceRan A → CRan A' → Type 0
Sim defs R r r' = Simulates (the_image defs) R r r'
