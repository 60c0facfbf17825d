-- How values of types lie in memory: sizes and alignments in bytes, and the bytes of a frame.
use Rattle.std.specs.Prelude.{ℕ, zero, suc, ◌+◌, ◌*◌, max, List, length, Option, Some, None}
use Rattle.std.specs.Int.{next_multiple_of}
use Rattle.std.specs.List.{fold, sum_by}
use Rattle.krml_trace.specs.declared.width.Width.{Width}
use Rattle.krml_trace.specs.declared.width.Width.TheVariants.{W8, W32, W64}
use Rattle.krml_syntax.specs.declared.tree.Ty.{Ty, out-Ty}
use Rattle.krml_syntax.specs.declared.tree.Ty.TheOpen.{Ty-F}
use Rattle.krml_syntax.specs.declared.tree.Slot.{Slot}
use Rattle.krml_syntax.specs.declared.tree.Def.{Def}
use Rattle.krml_ast.specs.Names.{Composite, type_named}
use Rattle.krml_ast.specs.Leaves.{member_types}
use Rattle.krml_layout.specs.declared.layout.TypeLayout.{TypeLayout}

-- ---- types

abbrev pub bytes_of : Width → ℕ
bytes_of W8 = 1
bytes_of W32 = 4
bytes_of W64 = 8

-- a scalar is aligned to its size
abbrev pub scalar : ℕ → TypeLayout
scalar n = record { size = n; align = n }

-- what takes no room
abbrev pub empty : TypeLayout
empty = record { size = 0; align = 1 }

-- A member stands at the next multiple of its alignment.
abbrev pub with_member : TypeLayout → TypeLayout → TypeLayout
with_member before member = record {
  size = next_multiple_of before.size member.align + member.size;
  align = max before.align member.align;
}

abbrev pub layout_of : (Ty → TypeLayout) → Option Composite → TypeLayout
layout_of layout None = empty
layout_of layout (Some c) = fold (λ before a. with_member before (layout a)) empty (member_types c)

-- A buffer is a place in memory, and no part of what lies there.
abbrev pub layout_in : (Ty → TypeLayout) → List Def → Ty-F Ty → TypeLayout
layout_in layout defs Ty-F.Bool = scalar 1
layout_in layout defs Ty-F.Unit = empty
layout_in layout defs (Ty-F.Int i) = scalar (bytes_of i.width)
layout_in layout defs (Ty-F.Buf a) = empty
layout_in layout defs (Ty-F.Var x) = empty
layout_in layout defs (Ty-F.Named x args) = layout_of layout (type_named defs x)

abbrev pub layout_within : ℕ → List Def → Ty → TypeLayout
layout_within zero defs a = empty
layout_within (suc n) defs a = layout_in (layout_within n defs) defs (out-Ty a)

-- The size and the alignment of a type, in a file without type variables: there a struct or a sum is made of earlier ones, so
-- no more of them stand in one another than the file has definitions.
abbrev pub type_layout : List Def → Ty → TypeLayout
type_layout defs a = layout_within (suc (length defs)) defs a

-- ---- frames

-- the bytes from an element to the next
abbrev pub stride : TypeLayout → ℕ
stride l = next_multiple_of l.size l.align

-- a slot takes whole words of 8 bytes
abbrev pub slot_bytes : List Def → Slot → ℕ
slot_bytes defs s = next_multiple_of (s.len * stride (type_layout defs s.ty)) 8

abbrev pub frame_bytes : List Def → List Slot → ℕ
frame_bytes defs slots = sum_by (slot_bytes defs) slots
