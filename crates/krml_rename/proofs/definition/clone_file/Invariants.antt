use Rattle.std.proofs.Common.{◌≡◌, take}
use Rattle.krml_rename.proofs.definition.clone_file.Given as goal

abbrev pub invariant-loop-def : goal.invariant-loop-def
invariant-loop-def l = l.defs ≡ take l.def-index l.file.defs
