-- What definitions say of one case.
use Rattle.std.specs.Prelude.{◌≡◌, ℕ, List, [], ◌∷◌, codes, refl, false}
use Rattle.krml_trace.specs.declared.width.Width.{Width}
use Rattle.krml_trace.specs.declared.width.Width.TheVariants.{W8, W32, W64}
use Rattle.krml_syntax.specs.declared.tree.Ty.{Ty}
use Rattle.krml_syntax.specs.declared.tree.Ty.TheVariants as t
use Rattle.krml_syntax.specs.declared.tree.Field.{Field}
use Rattle.krml_syntax.specs.declared.tree.Slot.{Slot}
use Rattle.krml_syntax.specs.declared.tree.Def.{Def}
use Rattle.krml_syntax.specs.declared.tree.Def.TheVariants as d
use Rattle.krml_layout.specs.Layout.{type_layout, stride, frame_bytes}

abbrev int : Width → Ty
int w = t.Int (record { width = w; secret = false })

abbrev field : List ℕ → Ty → Field
field x a = record { name = x; ty = a }

abbrev named : List ℕ → Ty
named x = t.Named x []

abbrev defs : List Def
defs =
    d.Struct (codes "wide") [] (field (codes "a") (int W8) ∷ field (codes "b") (int W64) ∷ field (codes "c") (int W8) ∷ [])
    ∷ d.Struct (codes "t") [] (field (codes "a") (int W32) ∷ field (codes "b") (int W8) ∷ [])
    ∷ d.Struct (codes "u") [] (field (codes "a") (named (codes "t")) ∷ field (codes "b") (int W8) ∷ [])
    ∷ d.Sum (codes "s") [] (record { name = codes "A"; args = [] } ∷ record { name = codes "B"; args = int W64 ∷ [] } ∷ [])
    ∷ []

-- what a type is, where it is given
ruleset computing = (
  t.outs-Bool,
  t.outs-Int,
  t.outs-Named,
)

-- a word begins at a multiple of 8, and nothing stands behind the last byte
a_word_between_bytes : type_layout defs (named (codes "wide")) ≡ record { size = 17; align = 8 }
a_word_between_bytes = simp computing

the_next_begins_aligned : stride (type_layout defs (named (codes "wide"))) ≡ 24
the_next_begins_aligned = simp computing

a_byte_behind_four : type_layout defs (named (codes "t")) ≡ record { size = 5; align = 4 }
a_byte_behind_four = simp computing

two_in_a_row : stride (type_layout defs (named (codes "t"))) ≡ 8
two_in_a_row = simp computing

-- A struct within a struct takes no more than it is large: in C, the byte behind it would be the ninth.
a_byte_behind_a_struct : type_layout defs (named (codes "u")) ≡ record { size = 6; align = 4 }
a_byte_behind_a_struct = simp computing

-- a constructor's number, and then its argument
a_sum_of_a_word : type_layout defs (named (codes "s")) ≡ record { size = 16; align = 8 }
a_sum_of_a_word = simp computing

unknown : type_layout defs (named (codes "v")) ≡ record { size = 0; align = 1 }
unknown = simp computing

abbrev slot : Ty → ℕ → Slot
slot a n = record { ty = a; len = n }

three_elements : frame_bytes defs (slot (named (codes "t")) 3 ∷ []) ≡ 24
three_elements = simp computing

-- a slot of 3 bytes takes a word
a_word_each : frame_bytes defs (slot (int W8) 3 ∷ slot t.Bool 9 ∷ []) ≡ 24
a_word_each = simp computing

no_slots : frame_bytes defs [] ≡ 0
no_slots = refl
