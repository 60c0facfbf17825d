use Rattle.std.proofs.Common.{◌≡◌, ◌++◌, drop}
use Rattle.std.specs.List.{flat_map}
use Rattle.krml_ctree.specs.Text.{as_text, ended, array}
use Rattle.krml_cprint.proofs.statement.arrays.Given as goal

abbrev pub invariant-loop-a : goal.invariant-loop-a
invariant-loop-a l = l.out.items ++ flat_map (λ a. ended as_text l.level (array as_text a)) (drop l.a-index l.all) ≡ l.initial.out.items ++ flat_map (λ a. ended as_text l.level (array as_text a)) l.all
