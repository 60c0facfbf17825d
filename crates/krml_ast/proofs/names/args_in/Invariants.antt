use Rattle.std.proofs.Common.{◌≡◌, drop}
use Rattle.krml_ast.specs.Names.{con_in}
use Rattle.krml_ast.proofs.names.args_in.Given as goal

abbrev pub invariant-loop-con : goal.invariant-loop-con
invariant-loop-con l = con_in (drop l.con-index l.cons) l.x ≡ con_in l.cons l.x
