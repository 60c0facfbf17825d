use Rattle.std.proofs.Common.{◌≡◌, map, take}
use Rattle.krml_types.specs.Holds.{parts_in}
use Rattle.krml_types.proofs.holds.all_parts.Given as goal

abbrev pub invariant-loop-def : goal.invariant-loop-def
invariant-loop-def l = l.all ≡ map (parts_in l.names) (take l.def-index l.names)
