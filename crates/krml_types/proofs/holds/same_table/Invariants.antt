use Rattle.std.proofs.Common.{◌≡◌, drop}
use Rattle.krml_types.specs.Holds.{same_table}
use Rattle.krml_types.proofs.holds.same_table.Given as goal

abbrev pub invariant-loop-set : goal.invariant-loop-set
invariant-loop-set l = same_table (drop l.set-index l.table) l.left ≡ same_table l.table l.other
