use Rattle.std.proofs.Common.{◌≡◌, drop, ◌+◌, ◌*◌}
use Rattle.krml_reader.specs.Each.{each_after, each_of}
use Rattle.krml_reader.specs.Expression.{expr_at, arm_at, item_at}
use Rattle.krml_reader.proofs.expression.+expression.Given as goal

abbrev pub decreases-expr_at : goal.decreases-expr_at
decreases-expr_at l = 16 * l.levels + 1

abbrev pub decreases-boxed_at : goal.decreases-boxed_at
decreases-boxed_at l = 16 * l.levels + 2

abbrev pub decreases-list_at : goal.decreases-list_at
decreases-list_at l = 16 * l.levels

abbrev pub decreases-one : goal.decreases-one
decreases-one l = 16 * l.levels + 3

abbrev pub decreases-two : goal.decreases-two
decreases-two l = 16 * l.levels + 3

abbrev pub decreases-three : goal.decreases-three
decreases-three l = 16 * l.levels + 3

abbrev pub decreases-typed : goal.decreases-typed
decreases-typed l = 16 * l.levels + 3

abbrev pub decreases-operands : goal.decreases-operands
decreases-operands l = 16 * l.levels + 3

abbrev pub decreases-named : goal.decreases-named
decreases-named l = 16 * l.levels + 3

abbrev pub decreases-exprs_of : goal.decreases-exprs_of
decreases-exprs_of l = 16 * l.levels + 3

abbrev pub decreases-applied : goal.decreases-applied
decreases-applied l = 16 * l.levels + 4

abbrev pub decreases-cast : goal.decreases-cast
decreases-cast l = 16 * l.levels + 3

abbrev pub decreases-buffer : goal.decreases-buffer
decreases-buffer l = 16 * l.levels + 3

abbrev pub decreases-count : goal.decreases-count
decreases-count l = 16 * l.levels + 3

abbrev pub decreases-arm : goal.decreases-arm
decreases-arm l = 16 * l.levels + 3

abbrev pub decreases-arm_at : goal.decreases-arm_at
decreases-arm_at l = 16 * l.levels + 1

abbrev pub decreases-arm_list_at : goal.decreases-arm_list_at
decreases-arm_list_at l = 16 * l.levels

abbrev pub decreases-arms_of : goal.decreases-arms_of
decreases-arms_of l = 16 * l.levels + 3

abbrev pub decreases-branches : goal.decreases-branches
decreases-branches l = 16 * l.levels + 4

abbrev pub decreases-binding : goal.decreases-binding
decreases-binding l = 16 * l.levels

abbrev pub decreases-item_at : goal.decreases-item_at
decreases-item_at l = 16 * l.levels + 2

abbrev pub decreases-items_of : goal.decreases-items_of
decreases-items_of l = 16 * l.levels + 4

abbrev pub decreases-sequence : goal.decreases-sequence
decreases-sequence l = 16 * l.levels + 5

abbrev pub decreases-control : goal.decreases-control
decreases-control l = 16 * l.levels + 6

abbrev pub decreases-access : goal.decreases-access
decreases-access l = 16 * l.levels + 7

abbrev pub decreases-operation : goal.decreases-operation
decreases-operation l = 16 * l.levels + 8

abbrev pub invariant-exprs_of-loop-form : goal.invariant-exprs_of-loop-form
invariant-exprs_of-loop-form l = each_after (expr_at l.levels) l.exprs (drop l.form-index l.forms) ≡ each_of (expr_at l.levels) l.forms

abbrev pub invariant-arms_of-loop-form : goal.invariant-arms_of-loop-form
invariant-arms_of-loop-form l = each_after (arm_at l.levels) l.arms (drop l.form-index l.forms) ≡ each_of (arm_at l.levels) l.forms

abbrev pub invariant-items_of-loop-form : goal.invariant-items_of-loop-form
invariant-items_of-loop-form l = each_after (item_at l.levels) l.items (drop l.form-index l.forms) ≡ each_of (item_at l.levels) l.forms
