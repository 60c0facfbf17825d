use Rattle.std.proofs.Common.{◌≡◌, take, drop}
use Rattle.krml_ast.specs.declared.kind.NameKind.TheVariants as k
use Rattle.krml_ast.specs.Places.{cons_of}
use Rattle.krml_types.specs.Definitions.{all_new}
use Rattle.krml_types.proofs.names.all_new.Given as goal

abbrev pub invariant-loop-con : goal.invariant-loop-con
invariant-loop-con l = all_new k.Con (take l.k l.index) (cons_of (drop l.con-index l.cons)) ≡ all_new k.Con (take l.k l.index) (cons_of l.cons)
