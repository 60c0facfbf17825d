use Rattle.std.proofs.Common.{◌≡◌, map, take}
use Rattle.krml_writer.specs.Written.{form_of_expr, form_of_item, form_of_arm}
use Rattle.krml_writer.proofs.expression.+write.Given as goal

abbrev pub invariant-forms_of_exprs-loop-expr : goal.invariant-forms_of_exprs-loop-expr
invariant-forms_of_exprs-loop-expr l = l.forms ≡ map form_of_expr (take l.expr-index l.exprs)

abbrev pub invariant-forms_of_items-loop-item : goal.invariant-forms_of_items-loop-item
invariant-forms_of_items-loop-item l = l.forms ≡ map form_of_item (take l.item-index l.items)

abbrev pub invariant-forms_of_arms-loop-arm : goal.invariant-forms_of_arms-loop-arm
invariant-forms_of_arms-loop-arm l = l.forms ≡ map form_of_arm (take l.arm-index l.arms)
