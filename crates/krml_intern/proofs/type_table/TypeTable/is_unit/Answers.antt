-- The first layer tells it.
use Rattle.std.proofs.Common.{subst}
use Rattle.krml_intern.specs.Table.{Stands}
use Rattle.krml_intern.proofs.Layers.{here, is_unit, no_unit}
use Rattle.krml_intern.proofs.type_table.TypeTable.is_unit.Goals as goal

pub returns-in-Unit : goal.returns-in-Unit
returns-in-Unit c = λ a m.
    is_unit c.args.self.now a (subst (λ x. Stands c.args.self.now x a) c.in-Unit.is (here c.args.self.now c.node.result c.in-Some.node a c.in-Some.is (c.node.ensures.stands a m)))

pub returns-in_default-matches : goal.returns-in_default-matches
returns-in_default-matches c = λ a m.
    no_unit c.args.self.now c.in-Some.node a (here c.args.self.now c.node.result c.in-Some.node a c.in-Some.is (c.node.ensures.stands a m)) c.in_default-matches.not-Unit
