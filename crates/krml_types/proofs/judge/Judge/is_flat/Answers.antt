use Rattle.std.proofs.Common.{not, Bor, option_map, ◌≡◌, ℕ, List, Some, None, sym, subst, ap, ◌∙◌}
use Rattle.krml_syntax.specs.declared.tree.Ty.{out-Ty}
use Rattle.krml_intern.specs.Table.{Means, head_of}
use Rattle.krml_types.specs.Judging.{Around}
use Rattle.krml_types.specs.Holds.{is_set, holders}
use Rattle.krml_types.specs.Types.{is_flat}
use Rattle.krml_types.proofs.Judges.{unit_flat, buf_flat, named_flat, other_flat}
use Rattle.krml_types.proofs.judge.Judge.is_flat.Goals as goal
use Rattle.krml_types.proofs.judge.Judge.is_flat.Goals.{then-is_unit-via-then-is_unit, then-is_unit-via-else-is_unit+then-is_some}

pub returns-then-is_unit : goal.returns-then-is_unit
returns-then-is_unit c = λ a e.
    let means : Means c.self.inside.types c.args.k a = subst (λ (s : Around). Means s.table c.args.k a) (sym c.self.view_is) e.means in
    elim c.then-is_unit.branch [
      | then-is_unit-via-then-is_unit w ↦ unit_flat c.args.self.now.place.defs a (sym w.if-is_unit.true ∙ c.is_unit.ensures a means)
      | then-is_unit-via-else-is_unit+then-is_some w ↦ buf_flat c.args.self.now.place.defs a c.self.inside.types w.element.result (sym w.is_some.ensures ∙ w.if-is_some.true) (w.element.ensures a means)
    ]

pub returns-in-Some : goal.returns-in-Some
returns-in-Some c = λ a e.
    let means : Means c.self.inside.types c.args.k a = subst (λ (s : Around). Means s.table c.args.k a) (sym c.self.view_is) e.means in
    let head : Some c.in-Some.x.now ≡ head_of (out-Ty a) = ap (option_map (λ (x : Bor (List ℕ)). x.now)) (sym c.in-Some.is) ∙ c.name_of.ensures a means in
    ap not c.is_holder.ensures
    ∙ subst (λ (s : Around). not (is_set c.self.inside.index.now (holders c.self.inside.index.now) c.in-Some.x.now) ≡ is_flat s.place.defs a) c.self.view_is
    (named_flat c.self.inside.index.now a c.in-Some.x.now head)

pub returns-in-None : goal.returns-in-None
returns-in-None c = λ a e.
    let means : Means c.self.inside.types c.args.k a = subst (λ (s : Around). Means s.table c.args.k a) (sym c.self.view_is) e.means in
    let head : None ≡ head_of (out-Ty a) = ap (option_map (λ (x : Bor (List ℕ)). x.now)) (sym c.in-None.is) ∙ c.name_of.ensures a means in
    other_flat c.args.self.now.place.defs a c.self.inside.types c.element.result (sym c.if-is_unit.false ∙ c.is_unit.ensures a means) (sym c.is_some.ensures ∙ c.if-is_some.false) (c.element.ensures a means) head
