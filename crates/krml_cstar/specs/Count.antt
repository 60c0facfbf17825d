-- How many variables a function of the program has. Their names are told apart by numbers, which `decimal` writes whole below
-- 2 ^ 64.
use Rattle.std.specs.Prelude.{ℕ, ◌≤◌, ◌^◌, List, length}
use Rattle.std.specs.List.{AllByRecursion}
use Rattle.krml_syntax.specs.declared.tree.Def.{Def}
use Rattle.krml_syntax.specs.declared.tree.Def.TheVariants as d
use Rattle.krml_cstar.specs.Translation.{code_of, params_from}

-- the parameters, and the variables of the body
abbrev pub variables_of : List Def → Def → ℕ
variables_of defs (d.Fun x vars params result body) = ((code_of defs body).run (params_from 0 params) (length params)).next
variables_of defs (d.Struct x vars fields) = 0
variables_of defs (d.Sum x vars cons) = 0
variables_of defs (d.Table x i nums) = 0
variables_of defs (d.Entry x) = 0

abbrev pub HaveFewVariables : List Def → Type 0
HaveFewVariables defs = AllByRecursion (λ def. variables_of defs def ≤ 2 ^ 64) defs
