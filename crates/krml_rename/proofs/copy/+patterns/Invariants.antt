use Rattle.std.proofs.Common.{◌≡◌, take}
use Rattle.krml_rename.proofs.copy.+patterns.Given as goal

abbrev pub invariant-clone_pats-loop-pat : goal.invariant-clone_pats-loop-pat
invariant-clone_pats-loop-pat l = l.all ≡ take l.pat-index l.pats
