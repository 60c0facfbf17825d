use Rattle.std.proofs.Common.{Ok, ◌≡◌, Some, sym, subst, ◌∙◌}
use Rattle.krml_syntax.specs.declared.tree.Ty.TheVariants as ty
use Rattle.krml_ast.specs.Components.{found_at}
use Rattle.krml_intern.specs.Unlabelled.{IsErased}
use Rattle.krml_types.specs.Judging.{IsFound, Place, Around, GivesNumber}
use Rattle.krml_types.specs.Instances.{part_at}
use Rattle.krml_types.proofs.Judged.{found_gives, judge_more, judge_same}
use Rattle.krml_types.proofs.Judges.{found_now}
use Rattle.krml_types.proofs.judge.Judge.component.Goals as goal
use Rattle.krml_types.proofs.judge.Judge.component.Goals.{in-Ok, in-Err}

pub returns-in-Some-clause-value : goal.returns-in-Some-clause-value
returns-in-Some-clause-value c = λ x args e.
    let here : found_at c.self.inside.components c.args.kind c.args.k c.args.j ≡ Some c.in-Some.n = sym c.get.ensures ∙ c.in-Some.is in
    let is : IsErased c.self.inside.types c.args.k (ty.Named x args) = subst (λ (s : Around). IsErased s.table c.args.k (ty.Named x args)) (sym c.self.view_is) e in
    subst (λ (s : Around). GivesNumber s.table (Ok c.in-Some.n) (part_at s.place.defs c.args.kind x args c.args.j)) c.self.view_is
    (found_gives c.self.inside.types c.self.inside.index.now c.args.kind c.args.k c.args.j c.in-Some.n x args (c.self.invariant.found c.args.kind c.args.k c.args.j c.in-Some.n here) is)

pub invariant_of-self : goal.invariant_of-self
invariant_of-self c =
    let found : IsFound c.self-2.inside.types c.self-2.inside.index.now c.args.kind c.args.k c.args.j c.in_ok-n.n =
    subst (λ (s : Around). IsFound s.table s.place.defs c.args.kind c.args.k c.args.j c.in_ok-n.n) (sym c.self-2.view_is)
    (subst (λ (p : Place). IsFound c.computed.new.self.table p.defs c.args.kind c.args.k c.args.j c.in_ok-n.n) (sym c.computed.ensures.place)
    (found_now c.args.self.now.table c.computed.new.self.table c.args.self.now.place.defs c.args.kind c.args.k c.args.j c.in_ok-n.n c.requires c.computed.ensures.grows c.in_ok-n.ensures.value)) in
    elim c.match-put.branch [
      | in-Ok w ↦ judge_more c.self-2.inside.index.now c.self-2.inside.types c.self-2.inside.components c.put.new.self c.self-2.inside.scope c.args.kind c.args.k c.args.j c.in_ok-n.n c.self-2.invariant found w.in-Ok.ensures.ok
      | in-Err w ↦ judge_same c.self-2.inside.index.now c.self-2.inside.types c.self-2.inside.components c.put.new.self c.self-2.inside.scope c.self-2.invariant w.in-Err.ensures.err
    ]
