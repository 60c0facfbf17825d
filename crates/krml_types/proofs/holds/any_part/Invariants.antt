use Rattle.std.proofs.Common.{◌≡◌, drop}
use Rattle.krml_types.specs.Holds.{any_part}
use Rattle.krml_types.proofs.holds.any_part.Given as goal

abbrev pub invariant-loop-part : goal.invariant-loop-part
invariant-loop-part l = any_part l.table (drop l.part-index l.parts) ≡ any_part l.table l.parts
