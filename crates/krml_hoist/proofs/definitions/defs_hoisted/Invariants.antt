use Rattle.std.proofs.Common.{◌≡◌, None, map, take}
use Rattle.krml_trace.specs.First.{first}
use Rattle.krml_rename.specs.Pass.{def_with}
use Rattle.krml_passing.specs.Hoisted.{body_hoisted}
use Rattle.krml_hoist.specs.Large.{large_def}
use Rattle.krml_hoist.proofs.definitions.defs_hoisted.Given as goal

abbrev pub invariant-loop-def : goal.invariant-loop-def
invariant-loop-def l = record {
  made : l.all ≡ map (def_with body_hoisted) (take l.def-index l.defs);
  small : first (large_def l.layouts) l.all ≡ None;
}
