-- Where the layouts of structs and sums are found.
use Rattle.std.specs.Prelude.{ℕ, ◌<◌, List, length, Option, Some, option_map}
use Rattle.std.specs.Option.{option_or, unwrap_or}
use Rattle.std.specs.BTreeMap.{get_by}
use Rattle.std.specs.Cmp.Lexicographic.{slice_cmp}
use Rattle.std.specs.Ordering.{nat_cmp}
use Rattle.std.specs.List.{fold}
use Rattle.krml_syntax.specs.declared.tree.Ty.{Ty, out-Ty}
use Rattle.krml_syntax.specs.declared.tree.Ty.TheOpen.{Ty-F}
use Rattle.krml_syntax.specs.declared.tree.Def.{Def}
use Rattle.krml_ast.specs.Names.{type_here, type_named}
use Rattle.krml_layout.specs.declared.layout.TypeLayout.{TypeLayout}
use Rattle.krml_layout.specs.declared.layout_map.LayoutMap.{LayoutMap}
use Rattle.krml_layout.specs.declared.known.Known.{Known}
use Rattle.krml_layout.specs.declared.known.Known.TheVariants.{Map, Among}
use Rattle.krml_layout.specs.Layout.{bytes_of, scalar, empty, with_member, layout_of, layout_within, type_layout}
use Rattle.krml_layout.specs.Ordered.{AreInOrder}

-- what a map has at a name
abbrev pub has : LayoutMap → List ℕ → Option TypeLayout
has m x = get_by (λ name. slice_cmp nat_cmp x name.now) m.layouts

-- what a map is to have: the layout of each struct and sum of the definitions
abbrev pub named_layout : List Def → List ℕ → Option TypeLayout
named_layout defs x = option_map (λ c. layout_of (layout_within (length defs) defs) (Some c)) (type_named defs x)

-- the layout of a type, by those of structs and sums
abbrev pub layout_by : (List ℕ → Option TypeLayout) → Ty-F Ty → TypeLayout
layout_by named Ty-F.Bool = scalar 1
layout_by named Ty-F.Unit = empty
layout_by named (Ty-F.Int i) = scalar (bytes_of i.width)
layout_by named (Ty-F.Buf a) = empty
layout_by named (Ty-F.Var x) = empty
layout_by named (Ty-F.Named x args) = unwrap_or (named x) empty

abbrev pub map_layout : (List ℕ → Option TypeLayout) → Ty → TypeLayout
map_layout named a = layout_by named (out-Ty a)

-- what is found is aligned
abbrev pub AreAligned : (List ℕ → Option TypeLayout) → Type 0
AreAligned named = (x : List ℕ) → 0 < (unwrap_or (named x) empty).align

-- the layouts of one definition more
abbrev pub put_def : (List ℕ → Option TypeLayout) → Def → List ℕ → Option TypeLayout
put_def named def x = option_or (option_map (λ c. layout_of (map_layout named) (Some c)) (type_here x def)) (named x)

-- ---- by a map, or among definitions

abbrev pub named_in : Known → List ℕ → TypeLayout
named_in (Map m) x = unwrap_or (has m.now x) empty
named_in (Among defs) x = layout_of (layout_within (length defs.now) defs.now) (type_named defs.now x)

abbrev pub known_layout : Known → Ty → TypeLayout
known_layout (Map m) = map_layout (has m.now)
known_layout (Among defs) = type_layout defs.now

-- what a map has is aligned, and definitions are in order
abbrev pub IsSound : Known → Type 0
IsSound (Map m) = AreAligned (has m.now)
IsSound (Among defs) = AreInOrder defs.now

abbrev pub with_members : Known → TypeLayout → List Ty → TypeLayout
with_members known layout types = fold (λ before a. with_member before (known_layout known a)) layout types
