-- Each call is at a smaller number.
use Rattle.krml_intern.proofs.type_table.TypeTable.+arguments.Given as goal

abbrev pub decreases-arguments : goal.decreases-arguments
decreases-arguments l = l.k
