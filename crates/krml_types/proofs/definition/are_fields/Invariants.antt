use Rattle.std.proofs.Common.{◌≡◌, take, drop}
use Rattle.krml_types.specs.Definitions.{are_fields}
use Rattle.krml_types.proofs.definition.are_fields.Given as goal

abbrev pub invariant-loop-field : goal.invariant-loop-field
invariant-loop-field l = are_fields (take l.k l.index) l.index l.tvars (drop l.field-index l.fields) ≡ are_fields (take l.k l.index) l.index l.tvars l.fields
