use Rattle.std.proofs.Common.{◌≡◌, drop}
use Rattle.krml_types.specs.Definitions.{is_fresh}
use Rattle.krml_types.proofs.names.is_fresh.Given as goal

abbrev pub invariant-loop-name : goal.invariant-loop-name
invariant-loop-name l = is_fresh (drop l.name-index l.names) l.x ≡ is_fresh l.names l.x
