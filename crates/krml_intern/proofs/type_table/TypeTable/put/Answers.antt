use Rattle.std.proofs.Common.{sym, subst}
use Rattle.krml_syntax.specs.declared.tree.Ty.{Ty}
use Rattle.krml_intern.specs.Table.{Table, Grows, Stands}
use Rattle.krml_intern.proofs.Puts.{seen, node_table, node_means, node_grows}
use Rattle.krml_intern.proofs.type_table.TypeTable.put.Goals as goal

pub invariant_of-self-2 : goal.invariant_of-self-2
invariant_of-self-2 c =
    node_table c.self.inside.names c.self.inside.nodes c.put.new.self c.args.node c.in_ok-k.k c.self.invariant c.in_ok-k.ensures.ok
    (subst (λ (t : Table). (a : Ty) × Stands t c.args.node a) (sym c.self.view_is) c.requires)

pub returns-clause-value : goal.returns-clause-value
returns-clause-value c = λ a s.
    node_means c.self.inside.names c.self.inside.nodes c.put.new.self c.args.node c.in_ok-k.k c.self.invariant c.in_ok-k.ensures.ok a
    (subst (λ (t : Table). Stands t c.args.node a) (sym c.self.view_is) s)

pub returns-clause-grows : goal.returns-clause-grows
returns-clause-grows c =
    subst (λ (t : Table). Grows t (seen c.self.inside.names c.put.new.self)) c.self.view_is
    (node_grows c.self.inside.names c.self.inside.nodes c.put.new.self c.args.node c.in_ok-k.k c.in_ok-k.ensures.ok
    (subst (λ (t : Table). (a : Ty) × Stands t c.args.node a) (sym c.self.view_is) c.requires))
