-- The parts of a node have smaller numbers.
use Rattle.std.proofs.Common.{subst, arith}
use Rattle.krml_intern.specs.Table.{IsBelow}
use Rattle.krml_intern.proofs.type_table.TypeTable.+tree.Goals as goal

pub tree-requires : goal.tree-requires
tree-requires t c =
    let below = subst (λ x. IsBelow c.args.k x) c.in-Buf.is (c.node.ensures.below c.in-Some.node c.in-Some.is) in
    (omega (arith, below, c.decreases), tt)

pub tree-requires-in-App : goal.tree-requires-in-App
tree-requires-in-App t c =
    let below = subst (λ x. IsBelow c.args.k x) c.in-App.is (c.node.ensures.below c.in-Some.node c.in-Some.is) in
    (omega (arith, below.0, c.decreases), tt)

pub tree-requires-in-App-2 : goal.tree-requires-in-App-2
tree-requires-in-App-2 t c =
    let below = subst (λ x. IsBelow c.args.k x) c.in-App.is (c.node.ensures.below c.in-Some.node c.in-Some.is) in
    (omega (arith, below.1, c.decreases), tt)
