-- Each call is at a smaller number.
use Rattle.krml_intern.proofs.type_table.TypeTable.+renamed.Given as goal

abbrev pub decreases-renamed : goal.decreases-renamed
decreases-renamed l = l.k
