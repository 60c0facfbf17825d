use Rattle.std.proofs.Common.{sym, subst, ap, ◌∙◌}
use Rattle.std.proofs.lemmas.Result.{IfOk-weaker}
use Rattle.krml_syntax.specs.declared.tree.Ty.TheVariants as ty
use Rattle.krml_intern.specs.Table.{Means}
use Rattle.krml_intern.proofs.Erasing.{named_plain, args_plain}
use Rattle.krml_types.specs.Judging.{Around}
use Rattle.krml_types.proofs.Judged.{judge_still, place_still}
use Rattle.krml_types.proofs.judge.Judge.renamed.Goals as goal

pub renamed-k-requires : goal.renamed-k-requires
renamed-k-requires c = record { name = c.requires.name; args = c.requires.args; means = subst (λ (s : Around). Means s.table c.args.k (ty.Named c.requires.name c.requires.args)) (sym c.self.view_is) c.requires.is.means }

pub invariant_of-self : goal.invariant_of-self
invariant_of-self c = judge_still c.self.inside.index.now c.self.inside.types c.renamed-k.new.self c.self.inside.components c.self.inside.scope c.renamed-k.ensures.grows c.self.invariant

pub returns-clause-value : goal.returns-clause-value
returns-clause-value c = λ y args e. c.given.ensures c.renamed-k.new.self (ty.Named c.args.x.now args) (IfOk-weaker c.renamed-k.result _ _ (λ n m. record { means = m y args (subst (λ (s : Around). Means s.table c.args.k (ty.Named y args)) (sym c.self.view_is) e.means); plain = named_plain c.args.x.now args (args_plain y args e.plain) }) c.renamed-k.ensures.value)

pub returns-clause-place : goal.returns-clause-place
returns-clause-place c =
    place_still c.self.inside.index.now c.self.inside.tvars.now c.self.inside.types c.renamed-k.new.self c.self.inside.components c.self.inside.scope c.self.inside.frame c.renamed-k.ensures.grows c.self.invariant
    ∙ ap (λ (s : Around). s.place) c.self.view_is
