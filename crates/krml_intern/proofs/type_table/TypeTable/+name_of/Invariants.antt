-- Each call is at a smaller number.
use Rattle.krml_intern.proofs.type_table.TypeTable.+name_of.Given as goal

abbrev pub decreases-name_of : goal.decreases-name_of
decreases-name_of l = l.k
