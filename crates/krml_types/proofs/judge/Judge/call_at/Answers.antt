-- A function at type arguments.
use Rattle.std.proofs.Common.{sym, ap, ◌∙◌}
use Rattle.krml_ast.specs.Names.{fun_named}
use Rattle.krml_types.specs.Instances.{serve}
use Rattle.krml_types.specs.Judging.{Place}
use Rattle.krml_types.proofs.InstanceNumbers.{called}
use Rattle.krml_types.proofs.judge.Judge.call_at.Goals as goal

pub returns-clause-value : goal.returns-clause-value
returns-clause-value c =
    let place = c.args.self.now.place in
    let d = c.in-Some.def in
    called place.defs place.tvars c.args.x.now c.args.args.now c.serve.result c.in_ok-demand.field-0 (record { vars = d.vars.now; params = d.params.now; result = d.result.now })
    c.named.new.self.table c.component.new.self.table c.named.new.self.place.defs c.in_ok-takes.takes c.in_ok-gives.gives
    (ap (λ ds. fun_named ds c.args.x.now) (sym (c.names.ensures ∙ c.index.ensures)) ∙ sym c.in-Some.ensures)
    (c.serve.ensures ∙ ap (λ ds. serve ds c.tvars.result.now d.vars.now c.args.args.now) c.index-2.ensures ∙ ap (λ vs. serve place.defs vs d.vars.now c.args.args.now) c.tvars.ensures)
    c.in_ok-demand.ensures c.in_ok-takes.ensures.value c.component.ensures.grows (ap (λ (p : Place). p.defs) c.in_ok-takes.ensures.place) c.in_ok-gives.ensures.value
