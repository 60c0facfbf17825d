use Rattle.std.proofs.Common.{length}
use Rattle.krml_types.proofs.names.+are_cons_distinct.Given as goal

abbrev pub decreases-are_cons_distinct : goal.decreases-are_cons_distinct
decreases-are_cons_distinct l = length l.cons.now
