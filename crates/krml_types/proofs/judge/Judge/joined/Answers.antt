use Rattle.std.proofs.Common.{rules, Some, sym, ap, subst, ◌∙◌}
use Rattle.krml_syntax.specs.Read.{◌>>=◌}
use Rattle.krml_types.specs.Judging.{IsNumberOf, GivesNumber}
use Rattle.krml_types.proofs.Steps.{joined_by, fails}
use Rattle.krml_types.proofs.judge.Judge.joined.Goals as goal

pub returns-in_err-demand-in-Some : goal.returns-in_err-demand-in-Some
returns-in_err-demand-in-Some c = λ r a n e.
    let m = subst (λ o. IsNumberOf c.args.self.now.table o r) c.in-Some.is n in
    subst (λ o. GivesNumber c.args.self.now.table c.from_residual.result o) (sym (joined_by r a m.0 c.same.result m.1 (c.same.ensures a m.0 e m.2)))
    (fails c.args.self.now.table _ _ c.demand.result c.from_residual.result c.in_err-demand-in-Some.field-0.0 c.demand.ensures (search rules) (search rules))

pub returns-in_ok-demand-in-Some : goal.returns-in_ok-demand-in-Some
returns-in_ok-demand-in-Some c = λ r a n e.
    let m = subst (λ o. IsNumberOf c.args.self.now.table o r) c.in-Some.is n in
    (m.0, joined_by r a m.0 c.same.result m.1 (c.same.ensures a m.0 e m.2) ∙ ap (λ o. o >>= λ u. Some m.0) c.in_ok-demand-in-Some.ensures, m.2)
