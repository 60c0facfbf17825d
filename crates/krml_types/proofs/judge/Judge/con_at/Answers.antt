-- A constructor at type arguments.
use Rattle.std.proofs.Common.{sym, ap, ◌∙◌}
use Rattle.krml_ast.specs.Names.{con_named}
use Rattle.krml_types.specs.Instances.{serve}
use Rattle.krml_types.proofs.InstanceNumbers.{constructed}
use Rattle.krml_types.proofs.judge.Judge.con_at.Goals as goal

pub returns-clause-value : goal.returns-clause-value
returns-clause-value c =
    let place = c.args.self.now.place in
    let d = c.in-Some.def in
    constructed place.defs place.tvars c.args.x.now c.args.args.now c.serve.result c.in_ok-demand.field-0 (record { sum = d.sum.now; vars = d.vars.now; args = d.args.now })
    c.named.new.self.table c.renamed.new.self.table c.in_ok-takes.takes c.in_ok-gives.gives
    (ap (λ ds. con_named ds c.args.x.now) (sym (c.names.ensures ∙ c.index.ensures)) ∙ sym c.in-Some.ensures)
    (c.serve.ensures ∙ ap (λ ds. serve ds c.tvars.result.now d.vars.now c.args.args.now) c.index-2.ensures ∙ ap (λ vs. serve place.defs vs d.vars.now c.args.args.now) c.tvars.ensures)
    c.in_ok-demand.ensures c.in_ok-takes.ensures.value c.renamed.ensures.grows c.in_ok-gives.ensures.value
