use Rattle.std.proofs.Common.{Bor, option_map, ◌≡◌, ℕ, List, Some, sym, subst, ap, ◌∙◌}
use Rattle.krml_syntax.specs.declared.tree.Ty.{Ty, out-Ty}
use Rattle.krml_syntax.specs.declared.tree.Ty.TheVariants as ty
use Rattle.krml_syntax.specs.Types.{erased, type_at}
use Rattle.krml_intern.specs.Table.{Means, AllMean, head_of}
use Rattle.krml_intern.specs.Unlabelled.{AllErased}
use Rattle.krml_types.specs.Judging.{Around, GivesNumber}
use Rattle.krml_ast.specs.Components.{written}
use Rattle.krml_types.specs.Instances.{part_at}
use Rattle.krml_intern.proofs.Erasing.{all_args_erased, is_erased}
use Rattle.std.proofs.lemmas.Result.{IfOk-weaker}
use Rattle.krml_types.proofs.Judged.{judge_still, place_still}
use Rattle.krml_types.proofs.Judges.{part_written, head_name}
use Rattle.krml_types.proofs.judge.Judge.computed.Goals as goal

pub erased_at-k-requires : goal.erased_at-k-requires
erased_at-k-requires c =
    let means : Means c.self.inside.types c.args.k (ty.Named c.requires.name c.requires.args) =
    subst (λ (s : Around). Means s.table c.args.k (ty.Named c.requires.name c.requires.args)) (sym c.self.view_is) c.requires.is.means in
    record {
      types = c.requires.args;
      all = all_args_erased c.self.inside.types c.as_slice.result.now c.requires.name c.requires.args
          (subst (λ ks. AllMean c.self.inside.types ks c.requires.args) (sym c.as_slice.ensures) (c.in_ok-args.ensures c.requires.name c.requires.args means)) c.requires.is.plain;
    }

pub invariant_of-self : goal.invariant_of-self
invariant_of-self c = judge_still c.self.inside.index.now c.self.inside.types c.erased_at-k.new.self c.self.inside.components c.self.inside.scope c.erased_at-k.ensures.grows c.self.invariant

pub returns-clause-value : goal.returns-clause-value
returns-clause-value c = λ x args e.
    let means : Means c.self.inside.types c.args.k (ty.Named x args) = subst (λ (s : Around). Means s.table c.args.k (ty.Named x args)) (sym c.self.view_is) e.means in
    let all : AllErased c.self.inside.types c.as_slice.result.now args = all_args_erased c.self.inside.types c.as_slice.result.now x args
    (subst (λ ks. AllMean c.self.inside.types ks args) (sym c.as_slice.ensures) (c.in_ok-args.ensures x args means)) e.plain in
    let head : Some c.in-Some.x.now ≡ head_of (out-Ty (ty.Named x args)) = ap (option_map (λ (y : Bor (List ℕ)). y.now)) (sym c.in-Some.is) ∙ c.name_of.ensures (ty.Named x args) means in
    let defs : c.names.result.now ≡ c.args.self.now.place.defs = c.names.ensures ∙ ap (λ (s : Around). s.place.defs) c.self.view_is in
    let by : written c.args.self.now.place.defs c.args.kind c.in-Some.x.now c.args.j ≡ Some (c.in-Some-written.vars.now, c.in-Some-written.ty.now) =
    subst (λ ds. written ds c.args.kind c.in-Some.x.now c.args.j ≡ Some (c.in-Some-written.vars.now, c.in-Some-written.ty.now)) defs
    (sym c.written.ensures ∙ ap (option_map (λ (w : Bor (List (List ℕ)) × Bor Ty). (w.0.now, w.1.now))) c.in-Some-written.is) in
    let part : part_at c.args.self.now.place.defs c.args.kind x args c.args.j ≡ Some (erased (type_at c.in-Some-written.vars.now args c.in-Some-written.ty.now)) =
    part_written c.args.self.now.place.defs c.args.kind x args c.args.j c.in-Some-written.vars.now c.in-Some-written.ty.now
    (subst (λ y. written c.args.self.now.place.defs c.args.kind y c.args.j ≡ Some (c.in-Some-written.vars.now, c.in-Some-written.ty.now)) (head_name c.in-Some.x.now x args head) by) in
    subst (λ r. GivesNumber c.erased_at-k.new.self c.given.result r) (sym part)
    (c.given.ensures c.erased_at-k.new.self (erased (type_at c.in-Some-written.vars.now args c.in-Some-written.ty.now))
    (IfOk-weaker c.erased_at-k.result _ _ (λ n m. is_erased c.erased_at-k.new.self n (type_at c.in-Some-written.vars.now args c.in-Some-written.ty.now) (m args all)) c.erased_at-k.ensures.value))

pub returns-clause-place : goal.returns-clause-place
returns-clause-place c =
    place_still c.self.inside.index.now c.self.inside.tvars.now c.self.inside.types c.erased_at-k.new.self c.self.inside.components c.self.inside.scope c.self.inside.frame c.erased_at-k.ensures.grows c.self.invariant
    ∙ ap (λ (s : Around). s.place) c.self.view_is
