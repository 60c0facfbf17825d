use Rattle.std.proofs.Common.{Some, ap, ◌∙◌}
use Rattle.std.proofs.lemmas.Result.{IfOk-weaker}
use Rattle.krml_intern.proofs.Labels.{int_erased}
use Rattle.krml_intern.proofs.type_table.TypeTable.int_at.Goals as goal

pub returns-in-Erased-clause-value : goal.returns-in-Erased-clause-value
returns-in-Erased-clause-value c = IfOk-weaker c.public.result _ _ (λ n h. h ∙ ap Some (int_erased c.args.labels c.args.i c.in-Erased.is)) c.public.ensures.value
