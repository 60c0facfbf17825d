use Rattle.std.proofs.Common.{length}
use Rattle.krml_types.proofs.names.+are_fields_distinct.Given as goal

abbrev pub decreases-are_fields_distinct : goal.decreases-are_fields_distinct
decreases-are_fields_distinct l = length l.fields.now
