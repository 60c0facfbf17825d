use Rattle.std.proofs.Common.{◌≡◌, drop}
use Rattle.krml_ast.specs.Places.{cons_of}
use Rattle.krml_types.specs.Definitions.{is_fresh}
use Rattle.krml_types.proofs.names.is_fresh_con.Given as goal

abbrev pub invariant-loop-con : goal.invariant-loop-con
invariant-loop-con l = is_fresh (cons_of (drop l.con-index l.cons)) l.x ≡ is_fresh (cons_of l.cons) l.x
