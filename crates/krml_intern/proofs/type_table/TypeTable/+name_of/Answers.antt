-- The name is that of the struct or sum at one type argument less.
use Rattle.std.proofs.Common.{ap, subst, ◌∙◌, arith, slice_get}
use Rattle.krml_intern.specs.Table.{Table, Stands, IsBelow}
use Rattle.krml_intern.proofs.Layers.{here, head_is, app_head, no_head}
use Rattle.krml_intern.proofs.type_table.TypeTable.+name_of.Goals as goal

pub name_of-requires : goal.name_of-requires
name_of-requires t c =
    let parts = subst (λ x. IsBelow c.args.k x) c.in-App.is (c.node.ensures.below c.in-Some.node c.in-Some.is) in
    (omega (arith, parts.0, c.decreases), tt)

pub returns-in-Head : goal.returns-in-Head
returns-in-Head t c = λ a m.
    let stands = subst (λ x. Stands c.args.self.now x a) c.in-Head.is (here c.args.self.now c.node.result c.in-Some.node a c.in-Some.is (c.node.ensures.stands a m)) in
    c.get.ensures ∙ ap (λ (t : Table). slice_get t.names c.in-Head.x) c.self.view_is ∙ head_is c.args.self.now c.in-Head.x a stands

pub returns-in-App : goal.returns-in-App
returns-in-App t c = λ a m.
    let stands = subst (λ x. Stands c.args.self.now x a) c.in-App.is (here c.args.self.now c.node.result c.in-Some.node a c.in-Some.is (c.node.ensures.stands a m)) in
    app_head c.args.self.now c.in-App.f c.in-App.field-1 a _ stands c.name_of.ensures

pub returns-in_default-node : goal.returns-in_default-node
returns-in_default-node t c = λ a m.
    no_head c.args.self.now c.in-Some.node a (here c.args.self.now c.node.result c.in-Some.node a c.in-Some.is (c.node.ensures.stands a m)) c.in_default-node.not-Head c.in_default-node.not-App
