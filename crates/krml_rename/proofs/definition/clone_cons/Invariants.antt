use Rattle.std.proofs.Common.{◌≡◌, take}
use Rattle.krml_rename.proofs.definition.clone_cons.Given as goal

abbrev pub invariant-loop-con : goal.invariant-loop-con
invariant-loop-con l = l.all ≡ take l.con-index l.cons
