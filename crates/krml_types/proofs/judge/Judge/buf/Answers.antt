use Rattle.std.proofs.Common.{sym, subst, ap, ◌∙◌}
use Rattle.std.proofs.lemmas.Result.{IfOk-weaker}
use Rattle.krml_syntax.specs.declared.tree.Ty.TheVariants as ty
use Rattle.krml_intern.specs.Table.{Means}
use Rattle.krml_intern.proofs.Erasing.{buf_plain}
use Rattle.krml_types.specs.Judging.{Around}
use Rattle.krml_types.proofs.Judged.{judge_still, place_still}
use Rattle.krml_types.proofs.judge.Judge.buf.Goals as goal

pub buf-k-requires : goal.buf-k-requires
buf-k-requires c = (c.requires.type, subst (λ (s : Around). Means s.table c.args.k c.requires.type) (sym c.self.view_is) c.requires.is.means)

pub invariant_of-self : goal.invariant_of-self
invariant_of-self c = judge_still c.self.inside.index.now c.self.inside.types c.buf-k.new.self c.self.inside.components c.self.inside.scope c.buf-k.ensures.grows c.self.invariant

pub returns-clause-value : goal.returns-clause-value
returns-clause-value c = λ a e. c.given.ensures c.buf-k.new.self (ty.Buf a) (IfOk-weaker c.buf-k.result _ _ (λ n m. record { means = m a (subst (λ (s : Around). Means s.table c.args.k a) (sym c.self.view_is) e.means); plain = buf_plain a e.plain }) c.buf-k.ensures.value)

pub returns-clause-place : goal.returns-clause-place
returns-clause-place c =
    place_still c.self.inside.index.now c.self.inside.tvars.now c.self.inside.types c.buf-k.new.self c.self.inside.components c.self.inside.scope c.self.inside.frame c.buf-k.ensures.grows c.self.invariant
    ∙ ap (λ (s : Around). s.place) c.self.view_is
