-- Each call is at a smaller number.
use Rattle.krml_intern.proofs.type_table.TypeTable.+tree.Given as goal

abbrev pub decreases-tree : goal.decreases-tree
decreases-tree l = l.k
