use Rattle.std.proofs.Common.{◌≡◌, ◌++◌, drop}
use Rattle.std.specs.List.{flat_map}
use Rattle.krml_ctree.specs.Text.{as_text, structure}
use Rattle.krml_cprint.proofs.program.structures.Given as goal

abbrev pub invariant-loop-s : goal.invariant-loop-s
invariant-loop-s l = l.out.items ++ flat_map (structure as_text) (drop l.s-index l.all) ≡ l.initial.out.items ++ flat_map (structure as_text) l.all
