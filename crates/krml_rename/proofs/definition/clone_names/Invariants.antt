use Rattle.std.proofs.Common.{◌≡◌, take}
use Rattle.krml_rename.proofs.definition.clone_names.Given as goal

abbrev pub invariant-loop-x : goal.invariant-loop-x
invariant-loop-x l = l.all ≡ take l.x-index l.names
