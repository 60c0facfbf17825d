use Rattle.std.proofs.Common.{◌≡◌, map, take}
use Rattle.krml_bundle.specs.Bundled.{field_bundled}
use Rattle.krml_bundle.proofs.definitions.fields_bundled.Given as goal

abbrev pub invariant-loop-field : goal.invariant-loop-field
invariant-loop-field l = l.all ≡ map field_bundled (take l.field-index l.fields)
