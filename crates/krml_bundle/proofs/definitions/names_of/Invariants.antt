use Rattle.std.proofs.Common.{◌≡◌, take}
use Rattle.std.specs.List.{flat_map}
use Rattle.krml_bundle.specs.Bundled.{names_of_def}
use Rattle.krml_bundle.proofs.definitions.names_of.Given as goal

abbrev pub invariant-loop-def : goal.invariant-loop-def
invariant-loop-def l = l.all ≡ flat_map names_of_def (take l.def-index l.defs)
