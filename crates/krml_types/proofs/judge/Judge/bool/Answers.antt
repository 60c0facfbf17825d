use Rattle.std.proofs.Common.{ap, ◌∙◌}
use Rattle.std.proofs.lemmas.Result.{IfOk-weaker}
use Rattle.krml_syntax.specs.declared.tree.Ty.TheVariants as ty
use Rattle.krml_types.specs.Judging.{Around}
use Rattle.krml_syntax.proofs.Types.{erased_bool}
use Rattle.krml_types.proofs.Judged.{judge_still, place_still}
use Rattle.krml_types.proofs.judge.Judge.bool.Goals as goal

pub invariant_of-self : goal.invariant_of-self
invariant_of-self c = judge_still c.self.inside.index.now c.self.inside.types c.bool-k.new.self c.self.inside.components c.self.inside.scope c.bool-k.ensures.grows c.self.invariant

pub returns-clause-value : goal.returns-clause-value
returns-clause-value c = c.given.ensures c.bool-k.new.self ty.Bool (IfOk-weaker c.bool-k.result _ _ (λ n m. record { means = m; plain = erased_bool }) c.bool-k.ensures.value)

pub returns-clause-place : goal.returns-clause-place
returns-clause-place c =
    place_still c.self.inside.index.now c.self.inside.tvars.now c.self.inside.types c.bool-k.new.self c.self.inside.components c.self.inside.scope c.self.inside.frame c.bool-k.ensures.grows c.self.invariant
    ∙ ap (λ (s : Around). s.place) c.self.view_is
