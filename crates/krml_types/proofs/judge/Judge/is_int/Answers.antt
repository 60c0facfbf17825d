-- The type is an integer type.
use Rattle.krml_syntax.specs.Types.{int_ty}
use Rattle.krml_types.proofs.InstanceNumbers.{same_tested}
use Rattle.krml_types.proofs.judge.Judge.is_int.Goals as goal

pub returns-clause-value : goal.returns-clause-value
returns-clause-value c = λ a e.
    same_tested c.args.self.now.table c.public.new.self.table c.args.k c.in_ok-j.j a (int_ty c.args.i) c.same.result c.demand.result c.public.ensures.grows e c.in_ok-j.ensures.value c.same.ensures c.demand.ensures
