use Rattle.std.proofs.Common.{◌≡◌, map, take}
use Rattle.krml_bundle.specs.Bundled.{def_bundled}
use Rattle.krml_bundle.proofs.definitions.defs_bundled.Given as goal

abbrev pub invariant-loop-def : goal.invariant-loop-def
invariant-loop-def l = l.all ≡ map def_bundled (take l.def-index l.defs)
