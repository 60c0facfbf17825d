use Rattle.std.proofs.Common.{◌≡◌, [], drop}
use Rattle.krml_types.specs.Holds.{swept}
use Rattle.krml_types.proofs.holds.swept.Given as goal

abbrev pub invariant-loop-parts : goal.invariant-loop-parts
invariant-loop-parts l = swept (drop l.parts-index l.all) l.table ≡ swept l.all []
