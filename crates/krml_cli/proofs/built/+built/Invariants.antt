use Rattle.std.proofs.Common.{◌≡◌, drop, map}
use Rattle.krml_cli.specs.Unbuilt.{all, is_expr_built, is_item_built}
use Rattle.krml_cli.proofs.built.+built.Given as goal

abbrev pub invariant-are_exprs_built-loop-expr : goal.invariant-are_exprs_built-loop-expr
invariant-are_exprs_built-loop-expr l = all (map (is_expr_built l.buffers) (drop l.expr-index l.exprs)) ≡ all (map (is_expr_built l.buffers) l.exprs)

abbrev pub invariant-are_items_built-loop-item : goal.invariant-are_items_built-loop-item
invariant-are_items_built-loop-item l = all (map (is_item_built l.buffers) (drop l.item-index l.items)) ≡ all (map (is_item_built l.buffers) l.items)
