use Rattle.std.proofs.Common.{◌≡◌, map, take}
use Rattle.krml_bundle.specs.Bundled.{con_bundled}
use Rattle.krml_bundle.proofs.definitions.cons_bundled.Given as goal

abbrev pub invariant-loop-con : goal.invariant-loop-con
invariant-loop-con l = l.all ≡ map con_bundled (take l.con-index l.cons)
