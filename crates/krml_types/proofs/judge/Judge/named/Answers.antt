use Rattle.std.proofs.Common.{map, ap, ◌∙◌}
use Rattle.std.proofs.lemmas.Result.{IfOk-weaker}
use Rattle.krml_syntax.specs.declared.tree.Ty.TheVariants as ty
use Rattle.krml_syntax.specs.Types.{erased}
use Rattle.krml_intern.proofs.Erasing.{named_plain, all_erased_plain}
use Rattle.krml_types.specs.Judging.{Around}
use Rattle.krml_types.proofs.Judged.{judge_still, place_still}
use Rattle.krml_types.proofs.judge.Judge.named.Goals as goal

pub invariant_of-self : goal.invariant_of-self
invariant_of-self c = judge_still c.self.inside.index.now c.self.inside.types c.named-k.new.self c.self.inside.components c.self.inside.scope c.named-k.ensures.grows c.self.invariant

pub returns-clause-value : goal.returns-clause-value
returns-clause-value c = c.given.ensures c.named-k.new.self (ty.Named c.args.x.now (map erased c.args.types.now)) (IfOk-weaker c.named-k.result _ _ (λ n m. record { means = m; plain = named_plain c.args.x.now (map erased c.args.types.now) (all_erased_plain c.args.types.now) }) c.named-k.ensures.value)

pub returns-clause-place : goal.returns-clause-place
returns-clause-place c =
    place_still c.self.inside.index.now c.self.inside.tvars.now c.self.inside.types c.named-k.new.self c.self.inside.components c.self.inside.scope c.self.inside.frame c.named-k.ensures.grows c.self.invariant
    ∙ ap (λ (s : Around). s.place) c.self.view_is
