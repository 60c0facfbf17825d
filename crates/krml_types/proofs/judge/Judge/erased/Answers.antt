use Rattle.std.proofs.Common.{ap, ◌∙◌}
use Rattle.std.proofs.lemmas.Result.{IfOk-weaker}
use Rattle.krml_syntax.specs.Types.{erased}
use Rattle.krml_intern.proofs.Erasing.{is_erased}
use Rattle.krml_types.specs.Judging.{Around}
use Rattle.krml_types.proofs.Judged.{judge_still, place_still}
use Rattle.krml_types.proofs.judge.Judge.erased.Goals as goal

pub invariant_of-self : goal.invariant_of-self
invariant_of-self c = judge_still c.self.inside.index.now c.self.inside.types c.erased-k.new.self c.self.inside.components c.self.inside.scope c.erased-k.ensures.grows c.self.invariant

pub returns-clause-value : goal.returns-clause-value
returns-clause-value c = c.given.ensures c.erased-k.new.self (erased c.args.a.now) (IfOk-weaker c.erased-k.result _ _ (λ n m. is_erased c.erased-k.new.self n c.args.a.now m) c.erased-k.ensures.value)

pub returns-clause-place : goal.returns-clause-place
returns-clause-place c =
    place_still c.self.inside.index.now c.self.inside.tvars.now c.self.inside.types c.erased-k.new.self c.self.inside.components c.self.inside.scope c.self.inside.frame c.erased-k.ensures.grows c.self.invariant
    ∙ ap (λ (s : Around). s.place) c.self.view_is
