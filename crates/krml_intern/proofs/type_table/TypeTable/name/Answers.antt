use Rattle.std.proofs.Common.{subst}
use Rattle.krml_intern.specs.Table.{Table, Grows}
use Rattle.krml_intern.proofs.Puts.{seen, name_table, name_there, name_grows}
use Rattle.krml_intern.proofs.type_table.TypeTable.name.Goals as goal

pub invariant_of-self-2 : goal.invariant_of-self-2
invariant_of-self-2 c = name_table c.self.inside.names c.put.new.self c.self.inside.nodes c.args.x.now c.in_ok-k.k c.self.invariant c.in_ok-k.ensures.ok

pub returns-clause-value : goal.returns-clause-value
returns-clause-value c = name_there c.self.inside.names c.put.new.self c.self.inside.nodes c.args.x.now c.in_ok-k.k c.in_ok-k.ensures.ok

pub returns-clause-grows : goal.returns-clause-grows
returns-clause-grows c =
    subst (λ (t : Table). Grows t (seen c.put.new.self c.self.inside.nodes)) c.self.view_is
    (name_grows c.self.inside.names c.put.new.self c.self.inside.nodes c.args.x.now c.in_ok-k.k c.self.invariant c.in_ok-k.ensures.ok)
