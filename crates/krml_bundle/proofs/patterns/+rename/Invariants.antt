use Rattle.std.proofs.Common.{◌≡◌, map, take}
use Rattle.krml_bundle.specs.Bundled.{pat_bundled}
use Rattle.krml_bundle.proofs.patterns.+rename.Given as goal

abbrev pub invariant-pats_bundled-loop-pat : goal.invariant-pats_bundled-loop-pat
invariant-pats_bundled-loop-pat l = l.all ≡ map pat_bundled (take l.pat-index l.pats)
