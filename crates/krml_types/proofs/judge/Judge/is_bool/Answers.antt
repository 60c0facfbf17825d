-- The type is `bool`.
use Rattle.krml_syntax.specs.declared.tree.Ty.TheVariants.{Bool}
use Rattle.krml_types.proofs.InstanceNumbers.{same_tested}
use Rattle.krml_types.proofs.judge.Judge.is_bool.Goals as goal

pub returns-clause-value : goal.returns-clause-value
returns-clause-value c = λ a e.
    same_tested c.args.self.now.table c.bool.new.self.table c.args.k c.in_ok-j.j a Bool c.same.result c.demand.result c.bool.ensures.grows e c.in_ok-j.ensures.value c.same.ensures c.demand.ensures
