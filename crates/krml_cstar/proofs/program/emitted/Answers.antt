use Rattle.std.proofs.Common.{rules, ◌≡◌, ℕ, ◌≤◌, ◌^◌, length, ap, subst}
use Rattle.std.proofs.lemmas.Result.{IfOk-weaker}
use Rattle.krml_cstar.specs.declared.emitter.Emitter.{Emitter}
use Rattle.krml_cstar.specs.Translation.{code_of, params_from}
use Rattle.krml_cstar.proofs.program.emitted.Goals as goal

pub returns-clause-few : goal.returns-clause-few
returns-clause-few c =
    let m = c.new-emitter.result in
    let defs : m.defs.now ≡ c.args.defs.now = search rules in
    let scope : m.scope ≡ params_from 0 c.args.params.now = search rules in
    let next : m.next ≡ length c.args.params.now = search rules in
    let is : c.expr.new.self.next ≡ ((code_of c.args.defs.now c.args.body.now).run (params_from 0 c.args.params.now) (length c.args.params.now)).next
    = rw (← next, ← scope, ← defs) (ap (λ (m : Emitter). m.next) c.in_ok-given.ensures.state) in
    IfOk-weaker c.with_code.result _ _ (λ r built. subst (λ (n : ℕ). n ≤ 2 ^ 64) is c.few.ensures) c.with_code.ensures
