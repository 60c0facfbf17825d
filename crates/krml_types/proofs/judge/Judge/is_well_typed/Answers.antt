use Rattle.std.proofs.Common.{◌≡◌, true, take, rules}
use Rattle.krml_ast.specs.declared.kind.NameKind.TheVariants as kinds
use Rattle.krml_types.specs.Definitions.{is_new}
use Rattle.krml_types.proofs.Definitions.{fun_answers}
use Rattle.krml_types.proofs.judge.Judge.is_well_typed.Goals as goal

pub returns-then-is_new-4-clause-value : goal.returns-then-is_new-4-clause-value
returns-then-is_new-4-clause-value c =
    let new : is_new kinds.Fun (take c.args.k c.args.self.now.place.defs) c.in-Fun.name ≡ true = search rules in
    fun_answers c.is_fun.result c.args.self.now.place.defs (take c.args.k c.args.self.now.place.defs) c.in-Fun.name c.in-Fun.vars c.as_slice-then-is_new-4.result.now c.in-Fun.params
    c.as_slice-then-is_new-4-2.result.now c.in-Fun.result c.in-Fun.body c.args.def.now c.in-Fun.is new c.as_slice-then-is_new-4.ensures c.as_slice-then-is_new-4-2.ensures
    c.is_fun.ensures.value
