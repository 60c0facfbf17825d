-- The arguments are those at one type argument less, and that one.
use Rattle.std.proofs.Common.{[], ◌∷◌, ◌++◌, sym, subst, arith}
use Rattle.krml_syntax.specs.declared.tree.Ty.TheVariants as ty
use Rattle.krml_intern.specs.Table.{Stands, IsBelow, AllMean}
use Rattle.krml_intern.proofs.Layers.{here, parted, no_args, all_mean_last}
use Rattle.krml_intern.proofs.type_table.TypeTable.+arguments.Goals as goal

pub arguments-requires : goal.arguments-requires
arguments-requires t c =
    let parts = subst (λ x. IsBelow c.args.k x) c.in-App.is (c.node.ensures.below c.in-Some.node c.in-Some.is) in
    (omega (arith, parts.0, c.decreases), tt)

pub returns : goal.returns
returns t c = λ x args m.
    let stands = subst (λ y. Stands c.args.self.now y (ty.Named x args)) c.in-App.is (here c.args.self.now c.node.result c.in-Some.node (ty.Named x args) c.in-Some.is (c.node.ensures.stands (ty.Named x args) m)) in
    let parts = parted c.args.self.now c.in-App.f c.in-App.j x args stands in
    subst (λ ks. AllMean c.args.self.now ks args) (sym c.in_ok-push.ensures.ok)
    (subst (AllMean c.args.self.now (c.in_ok-args.args ++ c.in-App.j ∷ [])) (sym parts.is)
    (all_mean_last c.args.self.now c.in_ok-args.args parts.front c.in-App.j parts.last (c.in_ok-args.ensures x parts.front parts.means_front) parts.means_last))

pub returns-in_default-node : goal.returns-in_default-node
returns-in_default-node t c = λ x args m.
    let none = no_args c.args.self.now c.in-Some.node x args (here c.args.self.now c.node.result c.in-Some.node (ty.Named x args) c.in-Some.is (c.node.ensures.stands (ty.Named x args) m)) c.in_default-node.not-App in
    subst (λ ks. AllMean c.args.self.now ks args) (sym c.new-in_default-node.ensures) (subst (AllMean c.args.self.now []) (sym none) tt)
