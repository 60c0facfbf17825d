use Rattle.std.proofs.Common.{◌≡◌, [], map, drop}
use Rattle.krml_ast.specs.Labelled.{items_bind, item_binds}
use Rattle.krml_ast.proofs.labels.Labels.items.Given as goal

abbrev pub invariant-loop-item : goal.invariant-loop-item
invariant-loop-item l =
    items_bind (map (item_binds l.self.names.now) (drop l.item-index l.items)) l.vars
    ≡ items_bind (map (item_binds l.initial.self.names.now) l.initial.items) []
