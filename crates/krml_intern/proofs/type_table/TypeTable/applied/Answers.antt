-- Types are themselves at no type arguments, and with their labels kept.
use Rattle.std.proofs.Common.{[], Some, sym, ap, ◌∙◌}
use Rattle.std.proofs.lemmas.Result.{IfOk-weaker}
use Rattle.krml_syntax.specs.declared.tree.Ty.TheVariants as ty
use Rattle.krml_syntax.proofs.Types.{all_at_none}
use Rattle.krml_intern.proofs.Labels.{all_kept}
use Rattle.krml_intern.proofs.type_table.TypeTable.applied.Goals as goal

pub named_at-requires : goal.named_at-requires
named_at-requires c = record { types = []; mean = tt }

pub returns-clause-value : goal.returns-clause-value
returns-clause-value c = IfOk-weaker c.named_at.result _ _ (λ n h. h [] tt ∙ ap (λ ts. Some (ty.Named c.args.x.now ts)) (all_at_none [] _ ∙ sym (all_kept c.args.types.now))) c.named_at.ensures.value
