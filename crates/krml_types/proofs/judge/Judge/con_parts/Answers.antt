-- Where the arguments of a constructor are found.
use Rattle.std.proofs.Common.{sym, ap, ◌∙◌}
use Rattle.krml_ast.specs.Names.{con_named}
use Rattle.krml_types.proofs.InstanceNumbers.{is_at, con_parts_at}
use Rattle.krml_types.proofs.judge.Judge.con_parts.Goals as goal

pub renamed-requires : goal.renamed-requires
renamed-requires c = is_at c.args.self.now.table c.args.k c.in-Some-name_of.y.now c.requires.type (c.in-Some-name_of.ensures c.requires.type c.requires.is) c.requires.is

pub returns-in-Some-name_of-clause-value : goal.returns-in-Some-name_of-clause-value
returns-in-Some-name_of-clause-value c = λ a e.
    let d = c.in-Some.def in
    con_parts_at c.args.self.now.place.defs c.args.x.now c.in-Some-name_of.y.now (record { sum = d.sum.now; vars = d.vars.now; args = d.args.now })
    c.args.self.now.table c.renamed.new.self.table c.args.k a c.renamed.result
    (ap (λ ds. con_named ds c.args.x.now) (sym (c.names.ensures ∙ c.index.ensures)) ∙ sym c.in-Some.ensures)
    (c.in-Some-name_of.ensures a e) (cc) e c.renamed.ensures.value
