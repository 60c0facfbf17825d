use Rattle.std.proofs.Common.{◌≡◌, map, take}
use Rattle.krml_cstar.specs.Emitting.{field_code}
use Rattle.krml_cstar.proofs.program.members.Given as goal

abbrev pub invariant-loop-field : goal.invariant-loop-field
invariant-loop-field l = l.all ≡ map field_code (take l.field-index l.fields)
