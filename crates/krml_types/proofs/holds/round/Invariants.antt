use Rattle.std.proofs.Common.{◌≡◌, ◌++◌, drop}
use Rattle.krml_types.specs.Holds.{any_part, set_more}
use Rattle.krml_types.proofs.holds.round.Given as goal

abbrev pub invariant-loop-parts : goal.invariant-loop-parts
invariant-loop-parts l = l.next ++ set_more (any_part l.table) (drop l.parts-index l.all) l.left ≡ set_more (any_part l.table) l.all l.table
