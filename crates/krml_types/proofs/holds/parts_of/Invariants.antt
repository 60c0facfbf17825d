use Rattle.std.proofs.Common.{◌≡◌, take}
use Rattle.krml_types.specs.Holds.{parts_of}
use Rattle.krml_types.proofs.holds.parts_of.Given as goal

abbrev pub invariant-loop-field : goal.invariant-loop-field
invariant-loop-field l = l.parts ≡ parts_of l.names (take l.field-index l.fields)
