-- The walk over an expression whose frame has slots already: what it makes, and the slots and the first frame that takes too many
-- bytes, once it is done.
use Rattle.std.specs.Prelude.{ℕ, List, [], ◌∷◌, ◌++◌, map, length, Option, None}
use Rattle.std.specs.Option.{option_or}
use Rattle.krml_trace.specs.First.{first}
use Rattle.krml_syntax.specs.declared.tree.Ty.{Ty}
use Rattle.krml_syntax.specs.declared.tree.Slot.{Slot}
use Rattle.krml_syntax.specs.declared.tree.Arm.{Arm, out-Arm}
use Rattle.krml_syntax.specs.declared.tree.Case.{Case, out-Case}
use Rattle.krml_syntax.specs.declared.tree.Item.{Item, out-Item}
use Rattle.krml_syntax.specs.declared.tree.Expr.{Expr}
use Rattle.krml_syntax.specs.declared.tree.Expr.TheOpen.{Item-F}
use Rattle.krml_syntax.specs.declared.tree.Def.{Def}
use Rattle.krml_ast.specs.Pieces.{pieces_of}
use Rattle.krml_meaning.specs.Numbered.{Numbered, many}
use Rattle.krml_passing.specs.Hoisted.{hoisted, item_hoisted, arm_hoisted, case_hoisted}
use Rattle.krml_layout.specs.Layout.{frame_bytes}
use Rattle.krml_hoist.specs.declared.hoister.Hoister.{Hoister}
use Rattle.krml_hoist.specs.declared.hoister.Outer.{Outer}
use Rattle.krml_hoist.specs.Large.{if_large, large_piece}

-- ---- the bytes of the first frame that takes too many

abbrev pub large_in : List Def → Expr → Option ℕ
large_in defs x = first (large_piece defs) (pieces_of x)

abbrev pub large_in_each : List Def → List Expr → Option ℕ
large_in_each defs es = first (large_in defs) es

abbrev pub large_here : List Def → Item-F Expr Item Arm Case → Option ℕ
large_here defs (Item-F.Let x b a) = large_in defs a
large_here defs (Item-F.Run a) = large_in defs a

abbrev pub large_item : List Def → Item → Option ℕ
large_item defs x = large_here defs (out-Item x)

abbrev pub large_items : List Def → List Item → Option ℕ
large_items defs items = first (large_item defs) items

abbrev pub large_arm : List Def → Arm → Option ℕ
large_arm defs arm = large_in defs (out-Arm arm).body

abbrev pub large_arms : List Def → List Arm → Option ℕ
large_arms defs arms = first (large_arm defs) arms

abbrev pub large_case : List Def → Case → Option ℕ
large_case defs c = option_or (large_in_each defs (out-Case c).tests) (large_in defs (out-Case c).body)

abbrev pub large_cases : List Def → List Case → Option ℕ
large_cases defs cases = first (large_case defs) cases

-- ---- what is numbered

-- What comes of it where the slots so far stand before its own.
abbrev pub here : {A : Type 0} → Numbered A → Hoister → A
here n m = n.from (length m.slots)

-- Its slots stand behind those so far, and its frames behind those before it.
abbrev pub behind : {A : Type 0} → (List Def → A → Option ℕ) → Numbered A → Hoister → Hoister
behind large n m = record m { slots = m.slots ++ n.slots; large = option_or m.large (large m.layouts.now (here n m)) }

-- several, one behind the other
abbrev pub all : {A : Type 0} → List (Numbered A) → Numbered (List A)
all parts = many (λ xs. xs) parts

-- ---- the walk

unfoldable pub made : Expr → Hoister → Expr
made x m = here (hoisted x) m

unfoldable pub after : Expr → Hoister → Hoister
after x m = behind large_in (hoisted x) m

unfoldable pub made_all : List Expr → Hoister → List Expr
made_all es m = here (all (map hoisted es)) m

unfoldable pub after_all : List Expr → Hoister → Hoister
after_all es m = behind large_in_each (all (map hoisted es)) m

unfoldable pub made_item : Item → Hoister → Item
made_item x m = here (item_hoisted x) m

unfoldable pub after_item : Item → Hoister → Hoister
after_item x m = behind large_item (item_hoisted x) m

unfoldable pub made_items : List Item → Hoister → List Item
made_items items m = here (all (map item_hoisted items)) m

unfoldable pub after_items : List Item → Hoister → Hoister
after_items items m = behind large_items (all (map item_hoisted items)) m

unfoldable pub made_arm : Arm → Hoister → Arm
made_arm x m = here (arm_hoisted x) m

unfoldable pub after_arm : Arm → Hoister → Hoister
after_arm x m = behind large_arm (arm_hoisted x) m

unfoldable pub made_arms : List Arm → Hoister → List Arm
made_arms arms m = here (all (map arm_hoisted arms)) m

unfoldable pub after_arms : List Arm → Hoister → Hoister
after_arms arms m = behind large_arms (all (map arm_hoisted arms)) m

unfoldable pub made_case : Case → Hoister → Case
made_case x m = here (case_hoisted x) m

unfoldable pub after_case : Case → Hoister → Hoister
after_case x m = behind large_case (case_hoisted x) m

unfoldable pub made_cases : List Case → Hoister → List Case
made_cases cases m = here (all (map case_hoisted cases)) m

unfoldable pub after_cases : List Case → Hoister → Hoister
after_cases cases m = behind large_cases (all (map case_hoisted cases)) m

-- ---- frames

-- one slot more
abbrev pub listed : Ty → ℕ → Hoister → Hoister
listed b n m = record m { slots = m.slots ++ record { ty = b; len = n } ∷ [] }

-- where a frame with slots of its own begins
abbrev pub entered : List Slot → Hoister → Hoister
entered own m = record m { slots = own; large = None }

abbrev pub put_aside : Hoister → Outer
put_aside m = record { slots = m.slots; large = m.large }

-- Where it ends: the frame stands before those inside it, and behind those that were put aside.
abbrev pub left : Outer → Hoister → Hoister
left outer m = record m {
  slots = outer.slots;
  large = option_or outer.large (option_or (if_large (frame_bytes m.layouts.now m.slots)) m.large);
}
