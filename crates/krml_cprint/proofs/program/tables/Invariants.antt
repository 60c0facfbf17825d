use Rattle.std.proofs.Common.{◌≡◌, ◌++◌, drop}
use Rattle.std.specs.List.{flat_map}
use Rattle.krml_ctree.specs.Text.{as_text, table}
use Rattle.krml_cprint.proofs.program.tables.Given as goal

abbrev pub invariant-loop-t : goal.invariant-loop-t
invariant-loop-t l = l.out.items ++ flat_map (table as_text) (drop l.t-index l.all) ≡ l.initial.out.items ++ flat_map (table as_text) l.all
