use Rattle.std.proofs.Common.{◌≡◌, ◌≤◌, ◌^◌, ◌++◌, drop}
use Rattle.std.specs.List.{AllByRecursion, flat_map}
use Rattle.krml_cstar.specs.Count.{variables_of, HaveFewVariables}
use Rattle.krml_cstar.specs.Translation.{structs_of, tables_of, funs_of}
use Rattle.krml_cstar.proofs.program.translated.Given as goal

abbrev pub invariant-loop-def : goal.invariant-loop-def
invariant-loop-def l = record {
  structs : l.program.structs ++ flat_map structs_of (drop l.def-index l.defs) ≡ flat_map structs_of l.defs;
  tables : l.program.tables ++ flat_map tables_of (drop l.def-index l.defs) ≡ flat_map tables_of l.defs;
  few : AllByRecursion (λ def. variables_of l.defs def ≤ 2 ^ 64) (drop l.def-index l.defs) → HaveFewVariables l.defs;
  funs : l.program.funs ++ flat_map (funs_of l.defs) (drop l.def-index l.defs) ≡ flat_map (funs_of l.defs) l.defs;
}
