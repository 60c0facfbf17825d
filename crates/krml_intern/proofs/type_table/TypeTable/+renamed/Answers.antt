-- The name is changed at one type argument less.
use Rattle.std.proofs.Common.{Some, ap, sym, subst, ◌∙◌, arith}
use Rattle.std.proofs.lemmas.Result.{IfOk-weaker}
use Rattle.krml_syntax.specs.declared.tree.Ty.TheVariants as ty
use Rattle.krml_intern.specs.Table.{Stands, IsBelow}
use Rattle.krml_intern.proofs.Layers.{here, parted, no_args}
use Rattle.krml_intern.proofs.type_table.TypeTable.+renamed.Goals as goal

pub renamed-requires : goal.renamed-requires
renamed-requires t c =
    let below = subst (λ x. IsBelow c.args.k x) c.in-App.is (c.node.ensures.below c.in-Some.node c.in-Some.is) in
    let a = ty.Named c.requires.name c.requires.args in
    let stands = subst (λ x. Stands c.args.self.now x a) c.in-App.is (here c.args.self.now c.node.result c.in-Some.node a c.in-Some.is (c.node.ensures.stands a c.requires.means)) in
    let parts = parted c.args.self.now c.in-App.f c.in-App.j c.requires.name c.requires.args stands in
    (omega (arith, below.0, c.decreases), record { name = c.requires.name; args = parts.front; means = parts.means_front })

pub returns-clause-value : goal.returns-clause-value
returns-clause-value t c = IfOk-weaker c.app.result _ _ (λ n h y args m.
    let a = ty.Named y args in
    let stands = subst (λ x. Stands c.args.self.now x a) c.in-App.is (here c.args.self.now c.node.result c.in-Some.node a c.in-Some.is (c.node.ensures.stands a m)) in
    let parts = parted c.args.self.now c.in-App.f c.in-App.j y args stands in
    h c.args.x.now parts.front parts.last (c.in_ok-g.ensures.value y parts.front parts.means_front) (c.in_ok-g.ensures.grows.types _ _ parts.means_last)
    ∙ ap (λ ts. Some (ty.Named c.args.x.now ts)) (sym parts.is)) c.app.ensures.value

pub returns-in_default-node : goal.returns-in_default-node
returns-in_default-node t c = record {
  value = IfOk-weaker c.head-in_default-node.result _ _ (λ n h y args m.
      let none = no_args c.args.self.now c.in-Some.node y args (here c.args.self.now c.node.result c.in-Some.node (ty.Named y args) c.in-Some.is (c.node.ensures.stands (ty.Named y args) m)) c.in_default-node.not-App in
      h ∙ ap (λ ts. Some (ty.Named c.args.x.now ts)) (sym none)) c.head-in_default-node.ensures.value;
  grows = c.head-in_default-node.ensures.grows;
}
