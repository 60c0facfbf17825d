-- A type is itself at no type arguments.
use Rattle.std.proofs.Common.{[], Some, ap, ◌∙◌}
use Rattle.std.proofs.lemmas.Result.{IfOk-weaker}
use Rattle.krml_syntax.specs.Types.{erased}
use Rattle.krml_syntax.proofs.Types.{at_none}
use Rattle.krml_intern.proofs.type_table.TypeTable.erased.Goals as goal

pub erased_at-requires : goal.erased_at-requires
erased_at-requires c = record { types = []; all = record { mean = tt; erased = tt } }

pub returns-clause-value : goal.returns-clause-value
returns-clause-value c = IfOk-weaker c.erased_at.result _ _ (λ n h. h [] (record { mean = tt; erased = tt }) ∙ ap (λ a. Some (erased a)) (at_none [] c.args.a.now)) c.erased_at.ensures.value
