-- Labels of a type are erased before or after its arguments come in, since those have none.
use Rattle.std.proofs.Common.{Some, ap, ◌∙◌}
use Rattle.std.proofs.lemmas.Result.{IfOk-weaker}
use Rattle.krml_intern.proofs.Labels.{erased_before}
use Rattle.krml_intern.proofs.type_table.TypeTable.erased_at.Goals as goal

pub put_at-requires : goal.put_at-requires
put_at-requires c = record { types = c.requires.types; mean = c.requires.all.mean }

pub returns-clause-value : goal.returns-clause-value
returns-clause-value c = IfOk-weaker c.put_at.result _ _ (λ n h types all. h types all.mean ∙ ap Some (erased_before c.args.vars.now types c.args.a.now all.erased)) c.put_at.ensures.value
