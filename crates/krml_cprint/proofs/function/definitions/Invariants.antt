use Rattle.std.proofs.Common.{◌≡◌, ◌++◌, drop}
use Rattle.std.specs.List.{flat_map}
use Rattle.krml_ctree.specs.Text.{as_text, definition}
use Rattle.krml_cprint.proofs.function.definitions.Given as goal

abbrev pub invariant-loop-f : goal.invariant-loop-f
invariant-loop-f l = l.out.items ++ flat_map (definition as_text) (drop l.f-index l.funs) ≡ l.initial.out.items ++ flat_map (definition as_text) l.funs
