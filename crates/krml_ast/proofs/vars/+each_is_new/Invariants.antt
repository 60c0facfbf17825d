use Rattle.std.proofs.Common.{length}
use Rattle.krml_ast.proofs.vars.+each_is_new.Given as goal

abbrev pub decreases-each_is_new : goal.decreases-each_is_new
decreases-each_is_new l = length l.items.now
