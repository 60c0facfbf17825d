-- A type is itself at no type arguments.
use Rattle.std.proofs.Common.{[], Some, ap, ◌∙◌}
use Rattle.std.proofs.lemmas.Result.{IfOk-weaker}
use Rattle.krml_syntax.proofs.Types.{at_none}
use Rattle.krml_intern.proofs.type_table.TypeTable.intern.Goals as goal

pub at-requires : goal.at-requires
at-requires c = record { types = []; mean = tt }

pub returns-clause-value : goal.returns-clause-value
returns-clause-value c = IfOk-weaker c.at.result _ _ (λ n h. h [] tt ∙ ap Some (at_none [] c.args.a.now)) c.at.ensures.value
