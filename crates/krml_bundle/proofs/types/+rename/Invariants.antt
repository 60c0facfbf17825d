use Rattle.std.proofs.Common.{◌≡◌, map, take}
use Rattle.krml_bundle.specs.Bundled.{ty_bundled}
use Rattle.krml_bundle.proofs.types.+rename.Given as goal

abbrev pub invariant-types_bundled-loop-ty : goal.invariant-types_bundled-loop-ty
invariant-types_bundled-loop-ty l = l.all ≡ map ty_bundled (take l.ty-index l.types)
