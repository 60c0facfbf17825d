-- The events of C that stand for those of the source, and the values.
use Rattle.std.specs.Prelude.{ℕ, true, false, List, [], ◌∷◌, ◌++◌, map, length, take, replicate}
use Rattle.std.specs.List.{flat_map}
use Rattle.krml_syntax.specs.declared.tree.Slot.{Slot}
use Rattle.krml_syntax.specs.declared.tree.Def.{Def}
use Rattle.krml_ast.specs.declared.event.SourceEvent.{SourceEvent}
use Rattle.krml_ast.specs.declared.event.SourceEvent.TheVariants as source
use Rattle.krml_ctree.specs.declared.event.CEvent.{CEvent}
use Rattle.krml_ctree.specs.declared.event.CEvent.TheVariants as c
use Rattle.krml_ctree.specs.declared.event.CSlot.{CSlot}
use Rattle.krml_cstar.specs.Types.{ctype}
use Rattle.krml_cstar.specs.Translation.{tables_of}

-- ---- events

-- The place of a table among those of the program, from the number of its definition.
abbrev pub place : List Def → ℕ → ℕ
place defs d = length (flat_map tables_of (take d defs))

abbrev pub slot_image : Slot → CSlot
slot_image s = record { ty = ctype s.ty; len = s.len }

-- of one event of the source, in order
abbrev pub event_image : List Def → SourceEvent → List CEvent
event_image defs (source.Arg j a n) = c.Arg j (ctype a) n ∷ []
event_image defs (source.If b) = c.Br b ∷ []
event_image defs (source.Turn b) = c.Br b ∷ []
event_image defs (source.Pick k) = replicate k (c.Br false) ++ c.Br true ∷ []
event_image defs (source.Read b i) = c.Rd b i ∷ []
event_image defs (source.Write b i) = c.Wr b i ∷ []
event_image defs (source.Tab d i) = c.Tab (place defs d) i ∷ []
event_image defs (source.Push slots) = c.Enter (map slot_image slots) ∷ []
event_image defs (source.Alloc b k) = []
event_image defs (source.Fill b i) = c.Br true ∷ c.Wr b i ∷ []
event_image defs (source.Filled b) = c.Br false ∷ []
event_image defs source.Pop = c.Leave ∷ []

-- of all, the oldest first
abbrev pub image_c : List Def → List SourceEvent → List CEvent
image_c defs es = flat_map (event_image defs) es
