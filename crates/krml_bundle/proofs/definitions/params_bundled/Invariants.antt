use Rattle.std.proofs.Common.{◌≡◌, map, take}
use Rattle.krml_bundle.specs.Bundled.{param_bundled}
use Rattle.krml_bundle.proofs.definitions.params_bundled.Given as goal

abbrev pub invariant-loop-param : goal.invariant-loop-param
invariant-loop-param l = l.all ≡ map param_bundled (take l.param-index l.params)
