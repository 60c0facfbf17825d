-- A function's body has the type of its result.
use Rattle.std.proofs.Common.{◌≡◌, ◌++◌, None, sym, ap, ◌∙◌, append-nil}
use Rattle.krml_syntax.specs.Types.{erased}
use Rattle.krml_intern.proofs.Erasing.{is_erased_still}
use Rattle.krml_types.specs.Definitions.{param_vars, body_scope}
use Rattle.krml_types.specs.Expressions.{type_of}
use Rattle.krml_types.specs.Judging.{Place, in_scope}
use Rattle.krml_types.proofs.Steps.{body_by}
use Rattle.krml_types.proofs.judge.Judge.body.Goals as goal

pub returns-clause-value : goal.returns-clause-value
returns-clause-value c =
    let v = c.in_ok-k.ensures.value in
    let w = c.in_ok-j.ensures.value in
    let at : c.params.new.self.place ≡ record { defs = c.args.self.now.place.defs; tvars = c.args.tvars.now; scope = body_scope c.args.params.now }
    = c.in_ok-params.ensures.value
    ∙ ap (λ (q : Place). in_scope q (record { vars = param_vars c.args.params.now ++ q.scope.vars; frame = q.scope.frame })) c.begin.ensures.place
    ∙ ap (λ vs. record { defs = c.args.self.now.place.defs; tvars = c.args.tvars.now; scope = record { vars = vs; frame = None } }) (append-nil (param_vars c.args.params.now)) in
    body_by (type_of c.args.self.now.place.defs c.args.tvars.now c.args.body.now (body_scope c.args.params.now)) v.0 (erased c.args.gives.now) w.0 c.same.result c.demand.result
    (sym (ap (λ (q : Place). type_of q.defs q.tvars c.args.body.now q.scope) at) ∙ v.1) w.1
    (c.same.ensures v.0 w.0 (is_erased_still c.type_of.new.self.table c.erased.new.self.table c.in_ok-j.ensures.grows c.in_ok-k.k v.0 v.2) w.2) c.demand.ensures
