use Rattle.std.proofs.Common.{◌≡◌, take}
use Rattle.krml_rename.proofs.copy.+types.Given as goal

abbrev pub invariant-clone_each-loop-ty : goal.invariant-clone_each-loop-ty
invariant-clone_each-loop-ty l = l.all ≡ take l.ty-index l.types
