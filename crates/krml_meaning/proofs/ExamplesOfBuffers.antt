-- Runs of the source that were computed by hand: buffers whose first value has a buffer of its own, and zero values of sums.
use Rattle.std.proofs.Common.{List, [], ◌∷◌, codes}
use Rattle.krml_syntax.specs.declared.tree.Ty.TheVariants as t
use Rattle.krml_syntax.specs.declared.tree.Expr.TheVariants as e
use Rattle.krml_syntax.specs.declared.tree.Def.{Def}
use Rattle.krml_syntax.specs.declared.tree.Def.TheVariants as d
use Rattle.krml_ast.specs.declared.event.SourceEvent.TheVariants as event
use Rattle.krml_meaning.specs.declared.value.Value.TheVariants as v
use Rattle.krml_trace.specs.declared.width.Width.TheVariants.{W8}
use Rattle.krml_meaning.proofs.Examples.{computing, u8, u32, u8_ty, slot, left_block, Fills, Leaves}

-- ---- slots

-- (frame (read (alloc u8 2 (read (alloc u8 1 (u8 3)) (u32 0))) (u32 1))): the outer `alloc` stands first in the text, so it has
-- slot 0, and its first value, with slot 1, is computed before it is filled.
alloc_in_a_first_value : Fills (e.Frame [] (e.Read (e.Alloc u8_ty 2 (e.Read (e.Alloc u8_ty 1 (u8 3)) (u32 0))) (u32 1))) (v.Num W8 3)
    (left_block (v.Num W8 3 ∷ v.Num W8 3 ∷ []) 2 ∷ left_block (v.Num W8 3 ∷ []) 1 ∷ [])
    (event.Pop ∷ event.Read 0 1 ∷ event.Filled 0 ∷ event.Fill 0 1 ∷ event.Fill 0 0 ∷ event.Alloc 0 0 ∷ event.Read 1 0 ∷ event.Filled 1 ∷ event.Fill 1 0 ∷ event.Alloc 1 1
    ∷ event.Push (slot u8_ty 2 ∷ slot u8_ty 1 ∷ []) ∷ []) 2
alloc_in_a_first_value calls = simp computing

-- ---- zero values

-- (sum o () (some u8) (no)) (sum q () (none) (held (o)))
abbrev sums : List Def
sums = d.Sum (codes "o") [] (record { name = codes "some"; args = u8_ty ∷ [] } ∷ record { name = codes "no"; args = [] } ∷ [])
    ∷ d.Sum (codes "q") [] (record { name = codes "none"; args = [] } ∷ record { name = codes "held"; args = t.Named (codes "o") [] ∷ [] } ∷ []) ∷ []

-- of another constructor a part that is a sum is the first constructor of that sum, with the zero values of its arguments
zero_of_a_sum : Leaves sums (e.Part (codes "held") 0 (e.Con (codes "none") [] [])) (v.Con 0 (v.Num W8 0 ∷ [])) [] 5
zero_of_a_sum calls = simp computing

-- and of that one it is what stands there
part_that_is_a_sum : Leaves sums (e.Part (codes "held") 0 (e.Con (codes "held") [] (e.Con (codes "no") [] [] ∷ []))) (v.Con 1 []) [] 5
part_that_is_a_sum calls = simp computing
