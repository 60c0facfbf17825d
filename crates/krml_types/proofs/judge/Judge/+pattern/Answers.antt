-- What patterns bind.
use Rattle.std.proofs.Common.{Ok, Err, sym, ap, ◌∙◌, subst, arith}
use Rattle.krml_syntax.specs.declared.tree.Ty.TheVariants as ty
use Rattle.krml_syntax.specs.declared.tree.Pat.TheVariants as p
use Rattle.krml_intern.proofs.Puts.{grows_on}
use Rattle.krml_intern.proofs.Erasing.{is_erased_still}
use Rattle.krml_types.specs.Judging.{Place, Binds}
use Rattle.krml_types.proofs.InstanceNumbers.{any_binds, variable_binds, con_binds, make_binds, part_gives, no_part, no_match, one_matched, still_bound, all_matched}
use Rattle.krml_types.proofs.judge.Judge.+pattern.Goals as goal

pub bind-returns-in-Any-clause-value : goal.bind-returns-in-Any-clause-value
bind-returns-in-Any-clause-value t c = λ a e. any_binds c.args.self.now.place.defs c.args.pat.now a c.args.self.now.place c.in-Any.is

pub bind-returns-in-Bind-clause-value : goal.bind-returns-in-Bind-clause-value
bind-returns-in-Bind-clause-value t c = λ a e.
    subst (λ o. Binds c.bound.result o c.args.self.now.place c.bound.new.self.place) (sym (variable_binds c.args.self.now.place.defs c.args.pat.now c.in-Bind.x a c.args.self.now.place.scope.vars c.in-Bind.is))
    (c.bound.ensures.value a e)

pub bind-returns-in_ok-k-in-Con-clause-value : goal.bind-returns-in_ok-k-in-Con-clause-value
bind-returns-in_ok-k-in-Con-clause-value t c = λ a e.
    con_binds c.args.pat.now c.in-Con.x c.as_slice.result.now a c.con_parts.new.self.table c.args.self.now.place c.con_parts.new.self.place c.bind_parts.new.self.place c.in_ok-k-in-Con.k c.bind_parts.result
    (c.in-Con.is ∙ ap (λ qs. p.Con c.in-Con.x qs) (sym c.as_slice.ensures)) (c.in_ok-k-in-Con.ensures.value a e) c.in_ok-k-in-Con.ensures.place c.bind_parts.ensures.value

pub bind-returns-in_ok-k-in-Make-clause-value : goal.bind-returns-in_ok-k-in-Make-clause-value
bind-returns-in_ok-k-in-Make-clause-value t c = λ a e.
    make_binds c.args.pat.now c.in-Make.x c.as_slice-in-Make.result.now a c.args.self.now.table c.args.self.now.place c.bind_parts-in-Make.new.self.place c.in_ok-k-in-Make.k c.bind_parts-in-Make.result
    (c.in-Make.is ∙ ap (λ qs. p.Make c.in-Make.x qs) (sym c.as_slice-in-Make.ensures)) (c.in_ok-k-in-Make.ensures a e) c.bind_parts-in-Make.ensures.value

pub bind_parts-returns-in_err-part-clause-value : goal.bind_parts-returns-in_err-part-clause-value
bind_parts-returns-in_err-part-clause-value t c = λ types are.
    let old = c.args.self.now in
    let now = c.loop-j.self in
    let inv = c.loop-j.invariant in
    let u = c.component.new.self.table in
    let given = part_gives old.table now.table u old.place.defs now.place.defs c.args.kind c.args.k c.loop-j.j types (Err c.in_err-part.field-0.0) inv.1 (ap (λ (m : Place). m.defs) inv.0) are c.in_err-part.ensures.value in
    no_part old.place c.args.pats.now types c.loop-j.j c.index-pats-j.result now.place.scope.vars c.loop-j-test.true c.index-pats-j.is (inv.2 types are) u c.component.new.self.place c.in_err-part.field-0.0
    c.from_residual.result given c.from_residual.ensures.1

pub bind_parts-returns-in_err-bind-clause-value : goal.bind_parts-returns-in_err-bind-clause-value
bind_parts-returns-in_err-bind-clause-value t c = λ types are.
    let old = c.args.self.now in
    let now = c.loop-j.self in
    let inv = c.loop-j.invariant in
    let u = c.component.new.self.table in
    let given = part_gives old.table now.table u old.place.defs now.place.defs c.args.kind c.args.k c.loop-j.j types (Ok c.in_ok-part.part) inv.1 (ap (λ (m : Place). m.defs) inv.0) are c.in_ok-part.ensures.value in
    no_match old.place c.args.pats.now types c.loop-j.j c.index-pats-j.result now.place.scope.vars c.loop-j-test.true c.index-pats-j.is (inv.2 types are) u c.in_ok-part.part c.component.new.self.place
    c.bind.new.self.place c.in_err-bind.field-0.0 c.from_residual-in_err-bind.result (c.in_ok-part.ensures.place ∙ inv.0) given c.in_err-bind.ensures.value c.from_residual-in_err-bind.ensures.1

pub bind_parts-loop-j-preserved : goal.bind_parts-loop-j-preserved
bind_parts-loop-j-preserved t c =
    let old = c.args.self.now in
    let now = c.loop-j.self in
    let inv = c.loop-j.invariant in
    let mid = c.component.new.self in
    let new = c.bind.new.self in
    let some = c.in_ok-part.ensures.value c.requires.name c.requires.args (is_erased_still old.table now.table inv.1 c.args.k (ty.Named c.requires.name c.requires.args) c.requires.is) in (
      still_bound old.place mid.place new.place now.place.scope.vars mid.table c.in_ok-part.part some.0 c.index-pats-j.result c.in_ok-bind.field-0 (c.in_ok-part.ensures.place ∙ inv.0) some.2 c.in_ok-bind.ensures.value,
      grows_on old.table now.table new.table inv.1 (grows_on now.table mid.table new.table c.in_ok-part.ensures.grows c.in_ok-bind.ensures.grows),
      λ types are.
          let given = part_gives old.table now.table mid.table old.place.defs now.place.defs c.args.kind c.args.k c.loop-j.j types (Ok c.in_ok-part.part) inv.1 (ap (λ (m : Place). m.defs) inv.0) are c.in_ok-part.ensures.value in
          one_matched old.place c.args.pats.now types c.loop-j.j c.index-pats-j.result now.place.scope.vars c.loop-j-test.true c.index-pats-j.is (inv.2 types are) mid.table c.in_ok-part.part mid.place new.place
          c.in_ok-bind.field-0 (c.in_ok-part.ensures.place ∙ inv.0) given c.in_ok-bind.ensures.value,
    )

pub bind_parts-returns-clause-value : goal.bind_parts-returns-clause-value
bind_parts-returns-clause-value t c = λ types are.
    let old = c.args.self.now in
    let now = c.loop-j.self in
    let inv = c.loop-j.invariant in
    all_matched old.place now.place old.table now.table c.args.kind c.args.k c.loop-j.j c.args.pats.now types c.ends.result c.demand.result inv.0 inv.1 (inv.2 types are)
    (omega (arith, c.loop-j-test.false, c.loop-j.auto.j-end)) are c.ends.ensures c.demand.ensures
