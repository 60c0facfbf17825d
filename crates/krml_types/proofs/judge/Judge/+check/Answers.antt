-- The types of expressions, by number.
use Rattle.std.proofs.Common.{rules, ◌≡◌, ◌+◌, [], length, map, drop, Some, Ok, refl, sym, ap, subst, ◌∙◌, ◌&&◌}
use Rattle.krml_syntax.specs.Read.{◌>>=◌}
use Rattle.krml_ast.specs.Typing.{with_vars, in_loop}
use Rattle.krml_intern.specs.Table.{Table}
use Rattle.krml_intern.specs.Unlabelled.{IsErased}
use Rattle.krml_intern.proofs.Erasing.{is_erased_still}
use Rattle.krml_intern.proofs.Puts.{grows_on}
use Rattle.krml_types.specs.Expressions.{apply_type, applied_step, each_has, items_from, type_of, item_of, arm_of, case_of, read_type, access_step, layer_of, may_alloc, is_result}
use Rattle.krml_trace.specs.Gives.{Gives}
use Rattle.krml_types.specs.Judging.{Place, GivesNumber, AreApplied, in_scope}
use Rattle.krml_types.specs.Instances.{make_at, con_at, call_at}
use Rattle.krml_types.specs.Parts.{demand, is_value}
use Rattle.krml_types.specs.Scopes.{cut_scope, is_framed}
use Rattle.krml_types.proofs.ArmsByNumber.{arm_binds, arm_at, arm_none, distinct_added, unbound}
use Rattle.krml_types.proofs.LayersOfForms.{make_layer, con_layer, call_layer}
use Rattle.krml_types.proofs.Scopes.{cut_back}
use Rattle.krml_types.proofs.Moved.{same_has, moved_has}
use Rattle.krml_types.proofs.Steps.{has_by, has_unit_by, fails, component_at, ends_at, handed_on, handed, handed_number, unmet_number, seen_as, each_has_past, each_has_fails, each_has_more, each_has_end, drop_all, number_still, arms_more, arms_fail, cases_more, cases_fail, tests_more, tests_fail, items_more, items_fail, unled}
use Rattle.krml_syntax.specs.declared.tree.Ty.{out-Ty}
use Rattle.krml_syntax.specs.Types.{int_ty, u32, erased, element_of}
use Rattle.krml_types.proofs.StepsOnBuffers.{bin_step, shift_step, cmp_step, read_step, write_step, slice_step, framed_step, alloc_step, fill_step, one_fails, one_has, second_fails, second_has, index_fails, at_index, filled_at, write_then, slice_then, write_none, slice_none, frame_fails, frame_then, result_fails, result_is, alloc_then, fill_then}
use Rattle.krml_types.specs.Types.{is_type}
use Rattle.krml_types.proofs.Blocks.{items_cut}
use Rattle.krml_types.proofs.InstanceNumbers.{number_is}
use Rattle.krml_types.proofs.StepsOnFlow.{there_has, there_type, there_bool, there_unit, there_u32, there_turn, unmet, table_of, grows_from, grows_by, on_any, if_none, if_fails, if_gives, do_at, while_none, while_fails, while_gives, for_fails, for_at, case_at, let_fails, let_gives, let_leads}
use Rattle.krml_types.proofs.judge.Judge.+check.Goals as goal
use Rattle.krml_syntax.specs.declared.tree.Ty.TheVariants as ty

pub applied-returns-in_ok-at-in-Make-clause-value : goal.applied-returns-in_ok-at-in-Make-clause-value
applied-returns-in_ok-at-in-Make-clause-value t c =
    let v = c.in_ok-at-in-Make.ensures.value in
    let p = c.in_ok-at-in-Make.ensures.place in
    let w = c.apply.ensures.value v.0 (subst (λ (q : Place). AreApplied c.make_at.new.self.table q.defs c.in_ok-at-in-Make.at v.0) (sym p) v.2) in
    subst (λ o. GivesNumber c.apply.new.self.table c.apply.result o)
    (ap (λ es. apply_type (map (type_of c.args.self.now.place.defs c.args.self.now.place.tvars) es) (Some v.0) c.args.self.now.place.scope) c.as_slice-in-Make.ensures
    ∙ ap (λ o. apply_type (map (type_of c.args.self.now.place.defs c.args.self.now.place.tvars) c.in-Make.es) o c.args.self.now.place.scope) (sym v.1)
    ∙ ap (λ ts. apply_type (map (type_of c.args.self.now.place.defs c.args.self.now.place.tvars) c.in-Make.es) (make_at c.args.self.now.place.defs c.args.self.now.place.tvars c.in-Make.x ts) c.args.self.now.place.scope) c.as_slice.ensures
    ∙ sym (ap (λ l. applied_step c.args.self.now.place.defs c.args.self.now.place.tvars l c.args.self.now.place.scope) (make_layer c.args.self.now.place.defs c.args.self.now.place.tvars c.args.e.now c.in-Make.x c.in-Make.args c.in-Make.es c.in-Make.is)))
    (subst (λ (q : Place). GivesNumber c.apply.new.self.table c.apply.result (apply_type (map (type_of q.defs q.tvars) c.as_slice-in-Make.result.now) (Some v.0) q.scope)) p w)

pub applied-returns-in_ok-at-in-Con-clause-value : goal.applied-returns-in_ok-at-in-Con-clause-value
applied-returns-in_ok-at-in-Con-clause-value t c =
    let v = c.in_ok-at-in-Con.ensures.value in
    let p = c.in_ok-at-in-Con.ensures.place in
    let w = c.apply-in-Con.ensures.value v.0 (subst (λ (q : Place). AreApplied c.con_at.new.self.table q.defs c.in_ok-at-in-Con.at v.0) (sym p) v.2) in
    subst (λ o. GivesNumber c.apply-in-Con.new.self.table c.apply-in-Con.result o)
    (ap (λ es. apply_type (map (type_of c.args.self.now.place.defs c.args.self.now.place.tvars) es) (Some v.0) c.args.self.now.place.scope) c.as_slice-in-Con-2.ensures
    ∙ ap (λ o. apply_type (map (type_of c.args.self.now.place.defs c.args.self.now.place.tvars) c.in-Con.es) o c.args.self.now.place.scope) (sym v.1)
    ∙ ap (λ ts. apply_type (map (type_of c.args.self.now.place.defs c.args.self.now.place.tvars) c.in-Con.es) (con_at c.args.self.now.place.defs c.args.self.now.place.tvars c.in-Con.x ts) c.args.self.now.place.scope) c.as_slice-in-Con.ensures
    ∙ sym (ap (λ l. applied_step c.args.self.now.place.defs c.args.self.now.place.tvars l c.args.self.now.place.scope) (con_layer c.args.self.now.place.defs c.args.self.now.place.tvars c.args.e.now c.in-Con.x c.in-Con.args c.in-Con.es c.in-Con.is)))
    (subst (λ (q : Place). GivesNumber c.apply-in-Con.new.self.table c.apply-in-Con.result (apply_type (map (type_of q.defs q.tvars) c.as_slice-in-Con-2.result.now) (Some v.0) q.scope)) p w)

pub applied-returns-in_ok-at-in-Call-clause-value : goal.applied-returns-in_ok-at-in-Call-clause-value
applied-returns-in_ok-at-in-Call-clause-value t c =
    let v = c.in_ok-at-in-Call.ensures.value in
    let p = c.in_ok-at-in-Call.ensures.place in
    let w = c.apply-in-Call.ensures.value v.0 (subst (λ (q : Place). AreApplied c.call_at.new.self.table q.defs c.in_ok-at-in-Call.at v.0) (sym p) v.2) in
    subst (λ o. GivesNumber c.apply-in-Call.new.self.table c.apply-in-Call.result o)
    (ap (λ es. apply_type (map (type_of c.args.self.now.place.defs c.args.self.now.place.tvars) es) (Some v.0) c.args.self.now.place.scope) c.as_slice-in-Call-2.ensures
    ∙ ap (λ o. apply_type (map (type_of c.args.self.now.place.defs c.args.self.now.place.tvars) c.in-Call.es) o c.args.self.now.place.scope) (sym v.1)
    ∙ ap (λ ts. apply_type (map (type_of c.args.self.now.place.defs c.args.self.now.place.tvars) c.in-Call.es) (call_at c.args.self.now.place.defs c.args.self.now.place.tvars c.in-Call.x ts) c.args.self.now.place.scope) c.as_slice-in-Call.ensures
    ∙ sym (ap (λ l. applied_step c.args.self.now.place.defs c.args.self.now.place.tvars l c.args.self.now.place.scope) (call_layer c.args.self.now.place.defs c.args.self.now.place.tvars c.args.e.now c.in-Call.x c.in-Call.args c.in-Call.es c.in-Call.is)))
    (subst (λ (q : Place). GivesNumber c.apply-in-Call.new.self.table c.apply-in-Call.result (apply_type (map (type_of q.defs q.tvars) c.as_slice-in-Call-2.result.now) (Some v.0) q.scope)) p w)

pub applied-returns-in_ok-at-in-Call-clause-grows : goal.applied-returns-in_ok-at-in-Call-clause-grows
applied-returns-in_ok-at-in-Call-clause-grows t c = search (rules, grows_on)

pub apply-returns-in_err-each_has-clause-value : goal.apply-returns-in_err-each_has-clause-value
apply-returns-in_err-each_has-clause-value t c =
    λ i all. fails c.each_has.new.self.table _ _ c.each_has.result c.from_residual.result c.in_err-each_has.field-0.0 (c.each_has.ensures.value i.takes all.takes) (search rules) (search rules)

pub apply-returns-clause-value : goal.apply-returns-clause-value
apply-returns-clause-value t c =
    λ i all. (i.gives, ap (λ o. o >>= λ u. Some i.gives) (c.in_ok-each_has.ensures.value i.takes all.takes), is_erased_still c.args.self.now.table c.each_has.new.self.table c.in_ok-each_has.ensures.grows c.args.at.gives i.gives all.gives)

pub arm-returns-in_err-bind-clause-value : goal.arm-returns-in_err-bind-clause-value
arm-returns-in_err-bind-clause-value t c =
    λ s e. unbound c.bind.new.self.table c.bind.result c.from_residual.result c.in_err-bind.field-0.0 _ _ c.args.self.now.place c.bind.new.self.place (c.bind.ensures.value s e) (search rules) (search rules)
    (arm_none c.args.self.now.place.defs c.args.self.now.place.tvars c.args.arm.now s c.args.self.now.place.scope)

pub arm-returns-in_err-demand-clause-value : goal.arm-returns-in_err-demand-clause-value
arm-returns-in_err-demand-clause-value t c =
    λ s e.
    let b = c.in_ok-bind.ensures.value s e in
    let m = arm_binds c.args.self.now.place.defs c.args.arm.now.pat s c.args.self.now.place.scope.vars b.0 b.1 in
    let d_is = c.are_distinct.ensures ∙ distinct_added c.bind.new.self.place.scope.vars c.len-before.result m.0 c.args.self.now.place.scope.vars (ap (λ (q : Place). q.scope.vars) b.2 ∙ m.1) c.len-before.ensures in
    let at = arm_at c.args.self.now.place.defs c.args.self.now.place.tvars c.args.arm.now s c.args.self.now.place.scope m.0 m.2 ∙ ap (λ y. demand y >>= λ u. type_of c.args.self.now.place.defs c.args.self.now.place.tvars c.args.arm.now.body (with_vars m.0 c.args.self.now.place.scope)) (sym d_is) in
    subst (λ o. GivesNumber c.bind.new.self.table c.from_residual-in_err-demand.result o) (sym at)
    (fails c.bind.new.self.table (demand c.are_distinct.result) (λ u. type_of c.args.self.now.place.defs c.args.self.now.place.tvars c.args.arm.now.body (with_vars m.0 c.args.self.now.place.scope)) c.demand.result c.from_residual-in_err-demand.result
    c.in_err-demand.field-0.0 c.demand.ensures (search rules) (search rules))

pub arm-returns-in_err-j-clause-value : goal.arm-returns-in_err-j-clause-value
arm-returns-in_err-j-clause-value t c =
    λ s e.
    let b = c.in_ok-bind.ensures.value s e in
    let m = arm_binds c.args.self.now.place.defs c.args.arm.now.pat s c.args.self.now.place.scope.vars b.0 b.1 in
    let d_is = c.are_distinct.ensures ∙ distinct_added c.bind.new.self.place.scope.vars c.len-before.result m.0 c.args.self.now.place.scope.vars (ap (λ (q : Place). q.scope.vars) b.2 ∙ m.1) c.len-before.ensures in
    let at = arm_at c.args.self.now.place.defs c.args.self.now.place.tvars c.args.arm.now s c.args.self.now.place.scope m.0 m.2 ∙ ap (λ y. demand y >>= λ u. type_of c.args.self.now.place.defs c.args.self.now.place.tvars c.args.arm.now.body (with_vars m.0 c.args.self.now.place.scope)) (sym d_is) in
    let there = at ∙ ap (λ o. o >>= λ u. type_of c.args.self.now.place.defs c.args.self.now.place.tvars c.args.arm.now.body (with_vars m.0 c.args.self.now.place.scope)) c.in_ok-demand.ensures
    ∙ ap (λ vs. type_of c.args.self.now.place.defs c.args.self.now.place.tvars c.args.arm.now.body (record { vars = vs; frame = c.args.self.now.place.scope.frame })) (sym m.1)
    ∙ sym (ap (λ (q : Place). type_of q.defs q.tvars c.args.arm.now.body q.scope) b.2) in
    handed_number c.type_of.new.self.table c.type_of.new.self.table c.type_of.result c.from_residual-in_err-j.result c.in_err-j.field-0.0 _ _ c.type_of.ensures.value (search rules) (search rules) (λ none. there ∙ none)

pub arm-returns-clause-value : goal.arm-returns-clause-value
arm-returns-clause-value t c =
    λ s e.
    let b = c.in_ok-bind.ensures.value s e in
    let m = arm_binds c.args.self.now.place.defs c.args.arm.now.pat s c.args.self.now.place.scope.vars b.0 b.1 in
    let d_is = c.are_distinct.ensures ∙ distinct_added c.bind.new.self.place.scope.vars c.len-before.result m.0 c.args.self.now.place.scope.vars (ap (λ (q : Place). q.scope.vars) b.2 ∙ m.1) c.len-before.ensures in
    let at = arm_at c.args.self.now.place.defs c.args.self.now.place.tvars c.args.arm.now s c.args.self.now.place.scope m.0 m.2 ∙ ap (λ y. demand y >>= λ u. type_of c.args.self.now.place.defs c.args.self.now.place.tvars c.args.arm.now.body (with_vars m.0 c.args.self.now.place.scope)) (sym d_is) in
    let there = at ∙ ap (λ o. o >>= λ u. type_of c.args.self.now.place.defs c.args.self.now.place.tvars c.args.arm.now.body (with_vars m.0 c.args.self.now.place.scope)) c.in_ok-demand.ensures
    ∙ ap (λ vs. type_of c.args.self.now.place.defs c.args.self.now.place.tvars c.args.arm.now.body (record { vars = vs; frame = c.args.self.now.place.scope.frame })) (sym m.1)
    ∙ sym (ap (λ (q : Place). type_of q.defs q.tvars c.args.arm.now.body q.scope) b.2) in
    let v = c.in_ok-j.ensures.value in
    (v.0, there ∙ v.1, subst (λ (t : Table). IsErased t c.in_ok-j.j v.0) (sym c.cut.ensures.table) v.2)

pub arm-returns-clause-place : goal.arm-returns-clause-place
arm-returns-clause-place t c =
    let b = c.in_ok-bind.ensures.value c.requires.type c.requires.is in
    let m = arm_binds c.args.self.now.place.defs c.args.arm.now.pat c.requires.type c.args.self.now.place.scope.vars b.0 b.1 in
    c.cut.ensures.place ∙ ap (λ (q : Place). in_scope q (cut_scope c.len-before.result q.scope)) (c.in_ok-j.ensures.place ∙ b.2)
    ∙ ap (λ n. in_scope c.args.self.now.place (cut_scope n (record { vars = b.0; frame = c.args.self.now.place.scope.frame }))) c.len-before.ensures
    ∙ ap (λ vs. in_scope c.args.self.now.place (cut_scope (length c.args.self.now.place.scope.vars) (record { vars = vs; frame = c.args.self.now.place.scope.frame }))) m.1 ∙ ap (λ g. in_scope c.args.self.now.place g) (cut_back m.0 c.args.self.now.place.scope)

pub arms-returns-in_err-joined-clause-value : goal.arms-returns-in_err-joined-clause-value
arms-returns-in_err-joined-clause-value t c =
    λ s e.
    let i = c.loop-arm.invariant.2 s e in
    let v = c.in_ok-j.ensures.value s (is_erased_still c.args.self.now.table c.loop-arm.self.table c.loop-arm.invariant.1 c.args.k s e) in
    handed_number c.arm.new.self.table c.arm.new.self.table c.joined.result c.from_residual-in_err-joined.result c.in_err-joined.field-0.0 _ _
    (c.joined.ensures i.0 v.0 (number_still c.loop-arm.self.table c.arm.new.self.table c.in_ok-j.ensures.grows c.loop-arm.found i.0 i.1) v.2) (search rules) (search rules) (λ none.
    sym i.2
    ∙ arms_fail (arm_of c.args.self.now.place.defs c.args.self.now.place.tvars) c.args.arms.now c.loop-arm.arm-index c.arm-item.result s c.args.self.now.place.scope i.0 v.0 (search rules) (search rules)
    (sym (ap (λ (p : Place). arm_of p.defs p.tvars c.arm-item.result s p.scope) c.loop-arm.invariant.0) ∙ v.1) none)

pub arms-loop-arm-preserved : goal.arms-loop-arm-preserved
arms-loop-arm-preserved t c =
    let grown = grows_on c.args.self.now.table c.loop-arm.self.table c.arm.new.self.table c.loop-arm.invariant.1 c.in_ok-j.ensures.grows in (
      c.in_ok-j.ensures.place ∙ c.loop-arm.invariant.0,
      grown,
      λ s e.
          let i = c.loop-arm.invariant.2 s e in
          let v = c.in_ok-j.ensures.value s (is_erased_still c.args.self.now.table c.loop-arm.self.table c.loop-arm.invariant.1 c.args.k s e) in
          let w = c.in_ok-joined.ensures i.0 v.0 (number_still c.loop-arm.self.table c.arm.new.self.table c.in_ok-j.ensures.grows c.loop-arm.found i.0 i.1) v.2 in (
            Some w.0,
            (w.0, refl, w.2),
            sym (arms_more (arm_of c.args.self.now.place.defs c.args.self.now.place.tvars) c.args.arms.now c.loop-arm.arm-index c.arm-item.result s c.args.self.now.place.scope i.0 v.0 (search rules) (search rules)
                (sym (ap (λ (p : Place). arm_of p.defs p.tvars c.arm-item.result s p.scope) c.loop-arm.invariant.0) ∙ v.1) w.0 w.1) ∙ i.2,
          ),
    )

pub cases-returns-in_err-joined-clause-value : goal.cases-returns-in_err-joined-clause-value
cases-returns-in_err-joined-clause-value t c =
    let i = c.loop-case.invariant.2 in
    let v = c.in_ok-j.ensures.value in
    handed_number c.case.new.self.table c.case.new.self.table c.joined.result c.from_residual-in_err-joined.result c.in_err-joined.field-0.0 _ _
    (c.joined.ensures i.0 v.0 (number_still c.loop-case.self.table c.case.new.self.table c.in_ok-j.ensures.grows c.loop-case.found i.0 i.1) v.2) (search rules) (search rules) (λ none.
    sym i.2
    ∙ cases_fail (case_of c.args.self.now.place.defs c.args.self.now.place.tvars) c.args.cases.now c.loop-case.case-index c.case-item.result c.args.self.now.place.scope i.0 v.0 (search rules) (search rules)
    (sym (ap (λ (p : Place). case_of p.defs p.tvars c.case-item.result p.scope) c.loop-case.invariant.0) ∙ v.1) none)

pub cases-loop-case-preserved : goal.cases-loop-case-preserved
cases-loop-case-preserved t c =
    let grown = grows_on c.args.self.now.table c.loop-case.self.table c.case.new.self.table c.loop-case.invariant.1 c.in_ok-j.ensures.grows in
    let i = c.loop-case.invariant.2 in
    let v = c.in_ok-j.ensures.value in
    let w = c.in_ok-joined.ensures i.0 v.0 (number_still c.loop-case.self.table c.case.new.self.table c.in_ok-j.ensures.grows c.loop-case.found i.0 i.1) v.2 in (
      c.in_ok-j.ensures.place ∙ c.loop-case.invariant.0,
      grown,
      (
        Some w.0,
        (w.0, refl, w.2),
        sym (cases_more (case_of c.args.self.now.place.defs c.args.self.now.place.tvars) c.args.cases.now c.loop-case.case-index c.case-item.result c.args.self.now.place.scope i.0 v.0 (search rules) (search rules)
            (sym (ap (λ (p : Place). case_of p.defs p.tvars c.case-item.result p.scope) c.loop-case.invariant.0) ∙ v.1) w.0 w.1) ∙ i.2,
      ),
    )

pub each_has-returns-in_err-part-clause-value : goal.each_has-returns-in_err-part-clause-value
each_has-returns-in_err-part-clause-value t c =
    λ types all.
    let v = component_at c.args.self.now.table c.loop-j.self.table c.component.new.self.table c.loop-j.self.place c.args.self.now.place c.args.kind c.args.k c.loop-j.j types c.component.result
    c.loop-j.invariant.1 c.loop-j.invariant.0 all c.component.ensures.value in
    handed_on c.component.new.self.table c.component.result c.from_residual.result c.in_err-part.field-0.0 _ _ v (search rules) (search rules) (λ none.
    sym (c.loop-j.invariant.2 types all)
    ∙ each_has_past (type_of c.args.self.now.place.defs c.args.self.now.place.tvars) c.args.es.now types c.args.self.now.place.scope c.loop-j.j c.index-es-j.result (search rules) (search rules) none)

pub each_has-returns-in_err-has-clause-value : goal.each_has-returns-in_err-has-clause-value
each_has-returns-in_err-has-clause-value t c =
    λ types all.
    let at = c.in_ok-part.ensures.place ∙ c.loop-j.invariant.0 in
    let v = component_at c.args.self.now.table c.loop-j.self.table c.component.new.self.table c.loop-j.self.place c.args.self.now.place c.args.kind c.args.k c.loop-j.j types (Ok c.in_ok-part.part)
    c.loop-j.invariant.1 c.loop-j.invariant.0 all c.in_ok-part.ensures.value in
    handed c.has.result c.from_residual-in_err-has.result c.in_err-has.field-0.0 _ _ (c.has.ensures.value v.0 v.2) (search rules) (search rules) (λ none.
    sym (c.loop-j.invariant.2 types all)
    ∙ each_has_fails (type_of c.args.self.now.place.defs c.args.self.now.place.tvars) c.args.es.now types c.args.self.now.place.scope c.loop-j.j c.index-es-j.result (search rules) (search rules) v.0 v.1
    (sym (same_has c.component.new.self.place c.args.self.now.place c.index-es-j.result v.0 at) ∙ none))

pub each_has-loop-j-preserved : goal.each_has-loop-j-preserved
each_has-loop-j-preserved t c =
    let at = c.in_ok-part.ensures.place ∙ c.loop-j.invariant.0 in
    let grown = grows_on c.args.self.now.table c.loop-j.self.table c.component.new.self.table c.loop-j.invariant.1 c.in_ok-part.ensures.grows in (
      c.in_ok-has.ensures.place ∙ at,
      grows_on c.args.self.now.table c.component.new.self.table c.has.new.self.table grown c.in_ok-has.ensures.grows,
      λ types all.
          let v = component_at c.args.self.now.table c.loop-j.self.table c.component.new.self.table c.loop-j.self.place c.args.self.now.place c.args.kind c.args.k c.loop-j.j types (Ok c.in_ok-part.part)
          c.loop-j.invariant.1 c.loop-j.invariant.0 all c.in_ok-part.ensures.value in
          sym (each_has_more (type_of c.args.self.now.place.defs c.args.self.now.place.tvars) c.args.es.now types c.args.self.now.place.scope c.loop-j.j c.index-es-j.result (search rules) (search rules) v.0 v.1
          (sym (same_has c.component.new.self.place c.args.self.now.place c.index-es-j.result v.0 at) ∙ c.in_ok-has.ensures.value v.0 v.2))
          ∙ c.loop-j.invariant.2 types all,
    )

pub each_has-returns-clause-value : goal.each_has-returns-clause-value
each_has-returns-clause-value t c =
    λ types all.
    let ends = ends_at c.args.self.now.table c.loop-j.self.table c.loop-j.self.place c.args.self.now.place c.args.kind c.args.k (length c.args.es.now) types c.ends.result
    c.loop-j.invariant.1 c.loop-j.invariant.0 all (search rules) in
    let past : c.loop-j.j ≡ length c.args.es.now = search rules in
    let none : drop c.loop-j.j c.args.es.now ≡ [] = ap (λ n. drop n c.args.es.now) past ∙ drop_all c.args.es.now in
    subst (λ o. Gives c.demand.result o)
    (ap demand ends ∙ sym (each_has_end types c.args.self.now.place.scope (length c.args.es.now))
    ∙ ap (λ n. each_has [] (drop n types) c.args.self.now.place.scope) (sym past)
    ∙ sym (ap (λ xs. each_has (map (type_of c.args.self.now.place.defs c.args.self.now.place.tvars) xs) (drop c.loop-j.j types) c.args.self.now.place.scope) none)
    ∙ c.loop-j.invariant.2 types all)
    c.demand.ensures

pub has-returns-clause-value : goal.has-returns-clause-value
has-returns-clause-value t c =
    λ a e. has_by (type_of c.args.self.now.place.defs c.args.self.now.place.tvars c.args.e.now c.args.self.now.place.scope) a c.in_ok-j.ensures.value.0 c.same.result c.demand.result c.in_ok-j.ensures.value.1
    (c.same.ensures c.in_ok-j.ensures.value.0 a c.in_ok-j.ensures.value.2 (is_erased_still c.args.self.now.table c.type_of.new.self.table c.in_ok-j.ensures.grows c.args.k a e)) c.demand.ensures

pub has_unit-returns-clause-value : goal.has_unit-returns-clause-value
has_unit-returns-clause-value t c =
    let v = c.in_ok-k.ensures.value in
    has_unit_by (type_of c.args.self.now.place.defs c.args.self.now.place.tvars c.args.e.now c.args.self.now.place.scope) v.0 c.demand.result v.1 (subst (λ b. Gives c.demand.result (demand b)) (c.is_unit.ensures v.0 v.2) c.demand.ensures)

pub access-returns-in_err-has_int-in-Read-clause-value : goal.access-returns-in_err-has_int-in-Read-clause-value
access-returns-in_err-has_int-in-Read-clause-value t c =
    let v = c.in_ok-k-in-Read.ensures.value in
    index_fails c.args.self.now.place c.type_of.new.self.place c.in_ok-k-in-Read.ensures.place c.has_int.new.self.table c.get.result.now c.get-in-Read.result.now v.0 c.has_int.result c.from_residual-in_err-has_int-in-Read.result c.in_err-has_int-in-Read.field-0.0
    (access_step (layer_of c.args.self.now.place.defs c.args.self.now.place.tvars c.args.e.now) c.args.self.now.place.scope) v.1 c.has_int.ensures.value (search rules) (search rules) (λ none.
    (read_step c.args.self.now.place c.args.e.now c.in-Read.a c.in-Read.i c.get.result.now c.get-in-Read.result.now c.in-Read.is c.get.ensures c.get-in-Read.ensures) ∙ none)

pub access-returns-in_err-has_int-in-Write-clause-value : goal.access-returns-in_err-has_int-in-Write-clause-value
access-returns-in_err-has_int-in-Write-clause-value t c =
    let v = c.in_ok-k-in-Write.ensures.value in
    index_fails c.args.self.now.place c.type_of-in-Write.new.self.place c.in_ok-k-in-Write.ensures.place c.has_int-in-Write.new.self.table c.get-in-Write.result.now c.get-in-Write-2.result.now v.0 c.has_int-in-Write.result c.from_residual-in_err-has_int-in-Write.result c.in_err-has_int-in-Write.field-0.0
    (access_step (layer_of c.args.self.now.place.defs c.args.self.now.place.tvars c.args.e.now) c.args.self.now.place.scope) v.1 c.has_int-in-Write.ensures.value (search rules) (search rules) (λ none.
    (write_step c.args.self.now.place c.args.e.now c.in-Write.a c.in-Write.i c.in-Write.v c.get-in-Write.result.now c.get-in-Write-2.result.now c.in-Write.v c.in-Write.is c.get-in-Write.ensures c.get-in-Write-2.ensures refl) ∙ write_none c.args.self.now.place (read_type (type_of c.args.self.now.place.defs c.args.self.now.place.tvars c.get-in-Write.result.now) (type_of c.args.self.now.place.defs c.args.self.now.place.tvars c.get-in-Write-2.result.now) c.args.self.now.place.scope) c.in-Write.v none)

pub access-returns-in_err-element-in-Write-clause-value : goal.access-returns-in_err-element-in-Write-clause-value
access-returns-in_err-element-in-Write-clause-value t c =
    let v = c.in_ok-k-in-Write.ensures.value in
    let e = is_erased_still c.type_of-in-Write.new.self.table c.has_int-in-Write.new.self.table c.in_ok-has_int-in-Write.ensures.grows c.in_ok-k-in-Write.k v.0 v.2 in
    let read = at_index c.args.self.now.place c.type_of-in-Write.new.self.place c.in_ok-k-in-Write.ensures.place c.get-in-Write.result.now c.get-in-Write-2.result.now v.0 v.1 c.in_ok-has_int-in-Write.ensures.value in
    handed_number c.has_int-in-Write.new.self.table c.has_int-in-Write.new.self.table c.element-in-Write.result c.from_residual-in_err-element-in-Write.result c.in_err-element-in-Write.field-0.0
    (element_of (out-Ty v.0)) (access_step (layer_of c.args.self.now.place.defs c.args.self.now.place.tvars c.args.e.now) c.args.self.now.place.scope) (c.element-in-Write.ensures v.0 e) (search rules) (search rules) (λ none.
    (write_step c.args.self.now.place c.args.e.now c.in-Write.a c.in-Write.i c.in-Write.v c.get-in-Write.result.now c.get-in-Write-2.result.now c.in-Write.v c.in-Write.is c.get-in-Write.ensures c.get-in-Write-2.ensures refl) ∙ write_none c.args.self.now.place (read_type (type_of c.args.self.now.place.defs c.args.self.now.place.tvars c.get-in-Write.result.now) (type_of c.args.self.now.place.defs c.args.self.now.place.tvars c.get-in-Write-2.result.now) c.args.self.now.place.scope) c.in-Write.v (read ∙ none))

pub access-returns-in_err-has-in-Write-clause-value : goal.access-returns-in_err-has-in-Write-clause-value
access-returns-in_err-has-in-Write-clause-value t c =
    let v = c.in_ok-k-in-Write.ensures.value in
    let e = is_erased_still c.type_of-in-Write.new.self.table c.has_int-in-Write.new.self.table c.in_ok-has_int-in-Write.ensures.grows c.in_ok-k-in-Write.k v.0 v.2 in
    let read = at_index c.args.self.now.place c.type_of-in-Write.new.self.place c.in_ok-k-in-Write.ensures.place c.get-in-Write.result.now c.get-in-Write-2.result.now v.0 v.1 c.in_ok-has_int-in-Write.ensures.value in
    let w = c.in_ok-element-in-Write.ensures v.0 e in
    let step = (write_step c.args.self.now.place c.args.e.now c.in-Write.a c.in-Write.i c.in-Write.v c.get-in-Write.result.now c.get-in-Write-2.result.now c.get-in-Write-3.result.now c.in-Write.is c.get-in-Write.ensures c.get-in-Write-2.ensures c.get-in-Write-3.ensures) ∙ write_then c.args.self.now.place (read_type (type_of c.args.self.now.place.defs c.args.self.now.place.tvars c.get-in-Write.result.now) (type_of c.args.self.now.place.defs c.args.self.now.place.tvars c.get-in-Write-2.result.now) c.args.self.now.place.scope) c.get-in-Write-3.result.now w.0 (read ∙ w.1) in
    let at = c.in_ok-has_int-in-Write.ensures.place ∙ c.in_ok-k-in-Write.ensures.place in
    seen_as c.has.new.self.table c.from_residual-in_err-has-in-Write.result _ _ step
    (one_fails c.args.self.now.place c.has_int-in-Write.new.self.place at c.has.new.self.table c.get-in-Write-3.result.now w.0 ty.Unit c.has.result c.from_residual-in_err-has-in-Write.result
    c.in_err-has-in-Write.field-0.0 (c.has.ensures.value w.0 w.2) (search rules) (search rules))

pub access-returns-in_err-has_int-in-Slice-clause-value : goal.access-returns-in_err-has_int-in-Slice-clause-value
access-returns-in_err-has_int-in-Slice-clause-value t c =
    let v = c.in_ok-k-in-Slice.ensures.value in
    index_fails c.args.self.now.place c.type_of-in-Slice.new.self.place c.in_ok-k-in-Slice.ensures.place c.has_int-in-Slice.new.self.table c.get-in-Slice.result.now c.get-in-Slice-2.result.now v.0 c.has_int-in-Slice.result c.from_residual-in_err-has_int-in-Slice.result c.in_err-has_int-in-Slice.field-0.0
    (access_step (layer_of c.args.self.now.place.defs c.args.self.now.place.tvars c.args.e.now) c.args.self.now.place.scope) v.1 c.has_int-in-Slice.ensures.value (search rules) (search rules) (λ none.
    (slice_step c.args.self.now.place c.args.e.now c.in-Slice.a c.in-Slice.i c.in-Slice.n c.get-in-Slice.result.now c.get-in-Slice-2.result.now c.in-Slice.n c.in-Slice.is c.get-in-Slice.ensures c.get-in-Slice-2.ensures refl) ∙ slice_none c.args.self.now.place (read_type (type_of c.args.self.now.place.defs c.args.self.now.place.tvars c.get-in-Slice.result.now) (type_of c.args.self.now.place.defs c.args.self.now.place.tvars c.get-in-Slice-2.result.now) c.args.self.now.place.scope) c.in-Slice.n none)

pub access-returns-in_err-element-in-Slice-clause-value : goal.access-returns-in_err-element-in-Slice-clause-value
access-returns-in_err-element-in-Slice-clause-value t c =
    let v = c.in_ok-k-in-Slice.ensures.value in
    let e = is_erased_still c.type_of-in-Slice.new.self.table c.has_int-in-Slice.new.self.table c.in_ok-has_int-in-Slice.ensures.grows c.in_ok-k-in-Slice.k v.0 v.2 in
    let read = at_index c.args.self.now.place c.type_of-in-Slice.new.self.place c.in_ok-k-in-Slice.ensures.place c.get-in-Slice.result.now c.get-in-Slice-2.result.now v.0 v.1 c.in_ok-has_int-in-Slice.ensures.value in
    handed_number c.has_int-in-Slice.new.self.table c.has_int-in-Slice.new.self.table c.element-in-Slice.result c.from_residual-in_err-element-in-Slice.result c.in_err-element-in-Slice.field-0.0
    (element_of (out-Ty v.0)) (access_step (layer_of c.args.self.now.place.defs c.args.self.now.place.tvars c.args.e.now) c.args.self.now.place.scope) (c.element-in-Slice.ensures v.0 e) (search rules) (search rules) (λ none.
    (slice_step c.args.self.now.place c.args.e.now c.in-Slice.a c.in-Slice.i c.in-Slice.n c.get-in-Slice.result.now c.get-in-Slice-2.result.now c.in-Slice.n c.in-Slice.is c.get-in-Slice.ensures c.get-in-Slice-2.ensures refl) ∙ slice_none c.args.self.now.place (read_type (type_of c.args.self.now.place.defs c.args.self.now.place.tvars c.get-in-Slice.result.now) (type_of c.args.self.now.place.defs c.args.self.now.place.tvars c.get-in-Slice-2.result.now) c.args.self.now.place.scope) c.in-Slice.n (read ∙ none))

pub access-returns-in_err-has_int-in-Slice-2-clause-value : goal.access-returns-in_err-has_int-in-Slice-2-clause-value
access-returns-in_err-has_int-in-Slice-2-clause-value t c =
    let v = c.in_ok-k-in-Slice.ensures.value in
    let e = is_erased_still c.type_of-in-Slice.new.self.table c.has_int-in-Slice.new.self.table c.in_ok-has_int-in-Slice.ensures.grows c.in_ok-k-in-Slice.k v.0 v.2 in
    let read = at_index c.args.self.now.place c.type_of-in-Slice.new.self.place c.in_ok-k-in-Slice.ensures.place c.get-in-Slice.result.now c.get-in-Slice-2.result.now v.0 v.1 c.in_ok-has_int-in-Slice.ensures.value in
    let w = c.in_ok-element-in-Slice.ensures v.0 e in
    let step = (slice_step c.args.self.now.place c.args.e.now c.in-Slice.a c.in-Slice.i c.in-Slice.n c.get-in-Slice.result.now c.get-in-Slice-2.result.now c.get-in-Slice-3.result.now c.in-Slice.is c.get-in-Slice.ensures c.get-in-Slice-2.ensures c.get-in-Slice-3.ensures) ∙ slice_then c.args.self.now.place (read_type (type_of c.args.self.now.place.defs c.args.self.now.place.tvars c.get-in-Slice.result.now) (type_of c.args.self.now.place.defs c.args.self.now.place.tvars c.get-in-Slice-2.result.now) c.args.self.now.place.scope) c.get-in-Slice-3.result.now w.0 (read ∙ w.1) in
    let at = c.in_ok-has_int-in-Slice.ensures.place ∙ c.in_ok-k-in-Slice.ensures.place in
    seen_as c.has_int-in-Slice-2.new.self.table c.from_residual-in_err-has_int-in-Slice-2.result _ _ step
    (one_fails c.args.self.now.place c.has_int-in-Slice.new.self.place at c.has_int-in-Slice-2.new.self.table c.get-in-Slice-3.result.now u32 (ty.Buf w.0) c.has_int-in-Slice-2.result
    c.from_residual-in_err-has_int-in-Slice-2.result c.in_err-has_int-in-Slice-2.field-0.0 c.has_int-in-Slice-2.ensures.value (search rules) (search rules))

pub access-returns-in_ok-has_int-in-Read-clause-value : goal.access-returns-in_ok-has_int-in-Read-clause-value
access-returns-in_ok-has_int-in-Read-clause-value t c =
    let v = c.in_ok-k-in-Read.ensures.value in
    let e = is_erased_still c.type_of.new.self.table c.has_int.new.self.table c.in_ok-has_int-in-Read.ensures.grows c.in_ok-k-in-Read.k v.0 v.2 in
    let read = at_index c.args.self.now.place c.type_of.new.self.place c.in_ok-k-in-Read.ensures.place c.get.result.now c.get-in-Read.result.now v.0 v.1 c.in_ok-has_int-in-Read.ensures.value in
    seen_as c.has_int.new.self.table c.element.result _ _ ((read_step c.args.self.now.place c.args.e.now c.in-Read.a c.in-Read.i c.get.result.now c.get-in-Read.result.now c.in-Read.is c.get.ensures c.get-in-Read.ensures) ∙ read) (c.element.ensures v.0 e)

pub access-returns-in_ok-has-in-Write-clause-value : goal.access-returns-in_ok-has-in-Write-clause-value
access-returns-in_ok-has-in-Write-clause-value t c =
    let v = c.in_ok-k-in-Write.ensures.value in
    let e = is_erased_still c.type_of-in-Write.new.self.table c.has_int-in-Write.new.self.table c.in_ok-has_int-in-Write.ensures.grows c.in_ok-k-in-Write.k v.0 v.2 in
    let read = at_index c.args.self.now.place c.type_of-in-Write.new.self.place c.in_ok-k-in-Write.ensures.place c.get-in-Write.result.now c.get-in-Write-2.result.now v.0 v.1 c.in_ok-has_int-in-Write.ensures.value in
    let w = c.in_ok-element-in-Write.ensures v.0 e in
    let step = (write_step c.args.self.now.place c.args.e.now c.in-Write.a c.in-Write.i c.in-Write.v c.get-in-Write.result.now c.get-in-Write-2.result.now c.get-in-Write-3.result.now c.in-Write.is c.get-in-Write.ensures c.get-in-Write-2.ensures c.get-in-Write-3.ensures) ∙ write_then c.args.self.now.place (read_type (type_of c.args.self.now.place.defs c.args.self.now.place.tvars c.get-in-Write.result.now) (type_of c.args.self.now.place.defs c.args.self.now.place.tvars c.get-in-Write-2.result.now) c.args.self.now.place.scope) c.get-in-Write-3.result.now w.0 (read ∙ w.1) in
    let at = c.in_ok-has_int-in-Write.ensures.place ∙ c.in_ok-k-in-Write.ensures.place in
    seen_as c.unit.new.self.table c.unit.result _ _ step
    (one_has c.args.self.now.place c.has_int-in-Write.new.self.place at c.unit.new.self.table c.get-in-Write-3.result.now w.0 ty.Unit c.unit.result
    (c.in_ok-has-in-Write.ensures.value w.0 w.2) c.unit.ensures.value)

pub access-returns-in_ok-has_int-in-Slice-2-clause-value : goal.access-returns-in_ok-has_int-in-Slice-2-clause-value
access-returns-in_ok-has_int-in-Slice-2-clause-value t c =
    let v = c.in_ok-k-in-Slice.ensures.value in
    let e = is_erased_still c.type_of-in-Slice.new.self.table c.has_int-in-Slice.new.self.table c.in_ok-has_int-in-Slice.ensures.grows c.in_ok-k-in-Slice.k v.0 v.2 in
    let read = at_index c.args.self.now.place c.type_of-in-Slice.new.self.place c.in_ok-k-in-Slice.ensures.place c.get-in-Slice.result.now c.get-in-Slice-2.result.now v.0 v.1 c.in_ok-has_int-in-Slice.ensures.value in
    let w = c.in_ok-element-in-Slice.ensures v.0 e in
    let step = (slice_step c.args.self.now.place c.args.e.now c.in-Slice.a c.in-Slice.i c.in-Slice.n c.get-in-Slice.result.now c.get-in-Slice-2.result.now c.get-in-Slice-3.result.now c.in-Slice.is c.get-in-Slice.ensures c.get-in-Slice-2.ensures c.get-in-Slice-3.ensures) ∙ slice_then c.args.self.now.place (read_type (type_of c.args.self.now.place.defs c.args.self.now.place.tvars c.get-in-Slice.result.now) (type_of c.args.self.now.place.defs c.args.self.now.place.tvars c.get-in-Slice-2.result.now) c.args.self.now.place.scope) c.get-in-Slice-3.result.now w.0 (read ∙ w.1) in
    let at = c.in_ok-has_int-in-Slice.ensures.place ∙ c.in_ok-k-in-Slice.ensures.place in
    let still = is_erased_still c.has_int-in-Slice.new.self.table c.has_int-in-Slice-2.new.self.table c.in_ok-has_int-in-Slice-2.ensures.grows c.in_ok-element-in-Slice.element w.0 w.2 in
    seen_as c.buf.new.self.table c.buf.result _ _ step
    (one_has c.args.self.now.place c.has_int-in-Slice.new.self.place at c.buf.new.self.table c.get-in-Slice-3.result.now u32 (ty.Buf w.0) c.buf.result
    c.in_ok-has_int-in-Slice-2.ensures.value (c.buf.ensures.value w.0 still))

pub are_tests-returns-in_err-has_bool-clause-value : goal.are_tests-returns-in_err-has_bool-clause-value
are_tests-returns-in_err-has_bool-clause-value t c =
    handed c.has_bool.result c.from_residual.result c.in_err-has_bool.field-0.0 _ _ (moved_has c.loop-test.self.place c.args.self.now.place c.test-item.result _ c.has_bool.result c.loop-test.invariant.0 c.has_bool.ensures.value) (search rules) (search rules) (λ none.
    sym c.loop-test.invariant.2
    ∙ tests_fail (type_of c.args.self.now.place.defs c.args.self.now.place.tvars) c.args.tests.now c.args.self.now.place.scope c.loop-test.test-index c.test-item.result (search rules) (search rules) none)

pub are_tests-loop-test-preserved : goal.are_tests-loop-test-preserved
are_tests-loop-test-preserved t c = (
  c.in_ok-has_bool.ensures.place ∙ c.loop-test.invariant.0,
  grows_on c.args.self.now.table c.loop-test.self.table c.has_bool.new.self.table c.loop-test.invariant.1 c.in_ok-has_bool.ensures.grows,
  sym (tests_more (type_of c.args.self.now.place.defs c.args.self.now.place.tvars) c.args.tests.now c.args.self.now.place.scope c.loop-test.test-index c.test-item.result (search rules) (search rules)
      (sym (same_has c.loop-test.self.place c.args.self.now.place c.test-item.result _ c.loop-test.invariant.0) ∙ c.in_ok-has_bool.ensures.value))
      ∙ c.loop-test.invariant.2,
)

pub binary-returns-in_err-has_int-in-Bin-2-clause-value : goal.binary-returns-in_err-has_int-in-Bin-2-clause-value
binary-returns-in_err-has_int-in-Bin-2-clause-value t c =
    seen_as c.has_int-in-Bin.new.self.table c.from_residual-in_err-has_int-in-Bin-2.result _ _ (bin_step c.args.self.now.place c.args.e.now c.in-Bin.field-0 c.in-Bin.i c.in-Bin.a c.in-Bin.b c.get.result.now c.get-in-Bin.result.now c.in-Bin.is c.get.ensures c.get-in-Bin.ensures)
    (second_fails c.args.self.now.place c.has_int.new.self.place c.in_ok-has_int-in-Bin.ensures.place c.has_int-in-Bin.new.self.table c.get.result.now c.get-in-Bin.result.now (int_ty c.in-Bin.i) (int_ty c.in-Bin.i) (int_ty c.in-Bin.i) c.has_int-in-Bin.result
    c.from_residual-in_err-has_int-in-Bin-2.result c.in_err-has_int-in-Bin-2.field-0.0 c.in_ok-has_int-in-Bin.ensures.value c.has_int-in-Bin.ensures.value (search rules) (search rules))

pub binary-returns-in_err-has_int-in-Shift-2-clause-value : goal.binary-returns-in_err-has_int-in-Shift-2-clause-value
binary-returns-in_err-has_int-in-Shift-2-clause-value t c =
    seen_as c.has_int-in-Shift-2.new.self.table c.from_residual-in_err-has_int-in-Shift-2.result _ _ (shift_step c.args.self.now.place c.args.e.now c.in-Shift.field-0 c.in-Shift.i c.in-Shift.a c.in-Shift.n c.get-in-Shift.result.now c.get-in-Shift-2.result.now c.in-Shift.is c.get-in-Shift.ensures c.get-in-Shift-2.ensures)
    (second_fails c.args.self.now.place c.has_int-in-Shift.new.self.place c.in_ok-has_int-in-Shift.ensures.place c.has_int-in-Shift-2.new.self.table c.get-in-Shift.result.now c.get-in-Shift-2.result.now (int_ty c.in-Shift.i) u32 (int_ty c.in-Shift.i) c.has_int-in-Shift-2.result
    c.from_residual-in_err-has_int-in-Shift-2.result c.in_err-has_int-in-Shift-2.field-0.0 c.in_ok-has_int-in-Shift.ensures.value c.has_int-in-Shift-2.ensures.value (search rules) (search rules))

pub binary-returns-in_err-has_int-in-Cmp-2-clause-value : goal.binary-returns-in_err-has_int-in-Cmp-2-clause-value
binary-returns-in_err-has_int-in-Cmp-2-clause-value t c =
    seen_as c.has_int-in-Cmp-2.new.self.table c.from_residual-in_err-has_int-in-Cmp-2.result _ _ (cmp_step c.args.self.now.place c.args.e.now c.in-Cmp.field-0 c.in-Cmp.i c.in-Cmp.a c.in-Cmp.b c.get-in-Cmp.result.now c.get-in-Cmp-2.result.now c.in-Cmp.is c.get-in-Cmp.ensures c.get-in-Cmp-2.ensures)
    (second_fails c.args.self.now.place c.has_int-in-Cmp.new.self.place c.in_ok-has_int-in-Cmp.ensures.place c.has_int-in-Cmp-2.new.self.table c.get-in-Cmp.result.now c.get-in-Cmp-2.result.now (int_ty c.in-Cmp.i) (int_ty c.in-Cmp.i) ty.Bool c.has_int-in-Cmp-2.result
    c.from_residual-in_err-has_int-in-Cmp-2.result c.in_err-has_int-in-Cmp-2.field-0.0 c.in_ok-has_int-in-Cmp.ensures.value c.has_int-in-Cmp-2.ensures.value (search rules) (search rules))

pub binary-returns-in_ok-has_int-in-Bin-2-clause-value : goal.binary-returns-in_ok-has_int-in-Bin-2-clause-value
binary-returns-in_ok-has_int-in-Bin-2-clause-value t c =
    seen_as c.public.new.self.table c.public.result _ _ (bin_step c.args.self.now.place c.args.e.now c.in-Bin.field-0 c.in-Bin.i c.in-Bin.a c.in-Bin.b c.get.result.now c.get-in-Bin.result.now c.in-Bin.is c.get.ensures c.get-in-Bin.ensures)
    (second_has c.args.self.now.place c.has_int.new.self.place c.in_ok-has_int-in-Bin.ensures.place c.public.new.self.table c.get.result.now c.get-in-Bin.result.now (int_ty c.in-Bin.i) (int_ty c.in-Bin.i) (int_ty c.in-Bin.i) c.public.result
    c.in_ok-has_int-in-Bin.ensures.value c.in_ok-has_int-in-Bin-2.ensures.value c.public.ensures.value)

pub binary-returns-in_ok-has_int-in-Shift-2-clause-value : goal.binary-returns-in_ok-has_int-in-Shift-2-clause-value
binary-returns-in_ok-has_int-in-Shift-2-clause-value t c =
    seen_as c.public-in-Shift.new.self.table c.public-in-Shift.result _ _ (shift_step c.args.self.now.place c.args.e.now c.in-Shift.field-0 c.in-Shift.i c.in-Shift.a c.in-Shift.n c.get-in-Shift.result.now c.get-in-Shift-2.result.now c.in-Shift.is c.get-in-Shift.ensures c.get-in-Shift-2.ensures)
    (second_has c.args.self.now.place c.has_int-in-Shift.new.self.place c.in_ok-has_int-in-Shift.ensures.place c.public-in-Shift.new.self.table c.get-in-Shift.result.now c.get-in-Shift-2.result.now (int_ty c.in-Shift.i) u32 (int_ty c.in-Shift.i) c.public-in-Shift.result
    c.in_ok-has_int-in-Shift.ensures.value c.in_ok-has_int-in-Shift-2.ensures.value c.public-in-Shift.ensures.value)

pub binary-returns-in_ok-has_int-in-Cmp-2-clause-value : goal.binary-returns-in_ok-has_int-in-Cmp-2-clause-value
binary-returns-in_ok-has_int-in-Cmp-2-clause-value t c =
    seen_as c.bool.new.self.table c.bool.result _ _ (cmp_step c.args.self.now.place c.args.e.now c.in-Cmp.field-0 c.in-Cmp.i c.in-Cmp.a c.in-Cmp.b c.get-in-Cmp.result.now c.get-in-Cmp-2.result.now c.in-Cmp.is c.get-in-Cmp.ensures c.get-in-Cmp-2.ensures)
    (second_has c.args.self.now.place c.has_int-in-Cmp.new.self.place c.in_ok-has_int-in-Cmp.ensures.place c.bool.new.self.table c.get-in-Cmp.result.now c.get-in-Cmp-2.result.now (int_ty c.in-Cmp.i) (int_ty c.in-Cmp.i) ty.Bool c.bool.result
    c.in_ok-has_int-in-Cmp.ensures.value c.in_ok-has_int-in-Cmp-2.ensures.value c.bool.ensures.value)

pub case-returns-clause-value : goal.case-returns-clause-value
case-returns-clause-value t c =
    let body_is = there_type c.are_tests.new.self.place c.args.self.now.place c.args.case.now.body c.args.case.now.body c.in_ok-are_tests.ensures.place refl in
    seen_as c.type_of.new.self.table c.type_of.result _ _ (case_at c.args.self.now.place.defs c.args.self.now.place.tvars c.args.case.now c.as_slice.result.now c.args.self.now.place.scope c.as_slice.ensures c.in_ok-are_tests.ensures.value ∙ body_is) c.type_of.ensures.value

pub flow-returns-in_err-k-in-If-clause-value : goal.flow-returns-in_err-k-in-If-clause-value
flow-returns-in_err-k-in-If-clause-value t c =
    let tested = there_bool c.args.self.now.place c.args.self.now.place c.get.result.now c.in-If.c refl c.get.ensures ∙ c.in_ok-has_bool-in-If.ensures.value in
    let a_is = there_type c.has_bool.new.self.place c.args.self.now.place c.get-in-If.result.now c.in-If.a c.in_ok-has_bool-in-If.ensures.place c.get-in-If.ensures in
    handed_number c.type_of.new.self.table c.type_of.new.self.table c.type_of.result c.from_residual-in_err-k-in-If.result c.in_err-k-in-If.field-0.0 _ _ c.type_of.ensures.value (search rules) (search rules) (λ none.
    if_none c.args.self.now.place.defs c.args.self.now.place.tvars c.args.e.now c.in-If.c c.in-If.a c.in-If.b c.in-If.is c.args.self.now.place.scope tested (a_is ∙ none))

pub flow-returns-in_err-has-in-If-clause-value : goal.flow-returns-in_err-has-in-If-clause-value
flow-returns-in_err-has-in-If-clause-value t c =
    let tested = there_bool c.args.self.now.place c.args.self.now.place c.get.result.now c.in-If.c refl c.get.ensures ∙ c.in_ok-has_bool-in-If.ensures.value in
    let a_is = there_type c.has_bool.new.self.place c.args.self.now.place c.get-in-If.result.now c.in-If.a c.in_ok-has_bool-in-If.ensures.place c.get-in-If.ensures in
    let v = c.in_ok-k-in-If.ensures.value in
    let b_is = there_has c.type_of.new.self.place c.args.self.now.place c.get-in-If-2.result.now c.in-If.b v.0 (c.in_ok-k-in-If.ensures.place ∙ c.in_ok-has_bool-in-If.ensures.place) c.get-in-If-2.ensures in
    unmet_number c.has.new.self.table c.has.result c.from_residual-in_err-has-in-If.result c.in_err-has-in-If.field-0.0 _ _ (c.has.ensures.value v.0 v.2) (search rules) (search rules) (λ none.
    if_fails c.args.self.now.place.defs c.args.self.now.place.tvars c.args.e.now c.in-If.c c.in-If.a c.in-If.b c.in-If.is c.args.self.now.place.scope tested v.0 (a_is ∙ v.1) (b_is ∙ none))

pub flow-returns-in_err-k-in-Do-clause-value : goal.flow-returns-in_err-k-in-Do-clause-value
flow-returns-in_err-k-in-Do-clause-value t c =
    let l = c.in_ok-items-in-Do.ensures.value in
    let first = do_at c.args.self.now.place.defs c.args.self.now.place.tvars c.args.e.now c.in-Do.items c.as_slice-in-Do.result.now c.in-Do.a c.in-Do.is c.as_slice-in-Do.ensures c.args.self.now.place.scope l.0 l.1 in
    let a_is = there_type c.items.new.self.place (in_scope c.args.self.now.place l.0) c.get-in-Do.result.now c.in-Do.a l.2 c.get-in-Do.ensures in
    handed_number c.type_of-in-Do.new.self.table c.type_of-in-Do.new.self.table c.type_of-in-Do.result c.from_residual-in_err-k-in-Do.result c.in_err-k-in-Do.field-0.0 _ _ c.type_of-in-Do.ensures.value (search rules) (search rules) (λ none.
    first ∙ a_is ∙ none)

pub flow-returns-in_ok-has-in-If-clause-value : goal.flow-returns-in_ok-has-in-If-clause-value
flow-returns-in_ok-has-in-If-clause-value t c =
    let tested = there_bool c.args.self.now.place c.args.self.now.place c.get.result.now c.in-If.c refl c.get.ensures ∙ c.in_ok-has_bool-in-If.ensures.value in
    let a_is = there_type c.has_bool.new.self.place c.args.self.now.place c.get-in-If.result.now c.in-If.a c.in_ok-has_bool-in-If.ensures.place c.get-in-If.ensures in
    let v = c.in_ok-k-in-If.ensures.value in
    let b_is = there_has c.type_of.new.self.place c.args.self.now.place c.get-in-If-2.result.now c.in-If.b v.0 (c.in_ok-k-in-If.ensures.place ∙ c.in_ok-has_bool-in-If.ensures.place) c.get-in-If-2.ensures in
    (v.0, if_gives c.args.self.now.place.defs c.args.self.now.place.tvars c.args.e.now c.in-If.c c.in-If.a c.in-If.b c.in-If.is c.args.self.now.place.scope tested v.0 (a_is ∙ v.1) (b_is ∙ c.in_ok-has-in-If.ensures.value v.0 v.2), is_erased_still c.type_of.new.self.table c.has.new.self.table c.in_ok-has-in-If.ensures.grows c.in_ok-k-in-If.k v.0 v.2)

pub flow-returns-in_ok-k-in-Do-clause-value : goal.flow-returns-in_ok-k-in-Do-clause-value
flow-returns-in_ok-k-in-Do-clause-value t c =
    let l = c.in_ok-items-in-Do.ensures.value in
    let first = do_at c.args.self.now.place.defs c.args.self.now.place.tvars c.args.e.now c.in-Do.items c.as_slice-in-Do.result.now c.in-Do.a c.in-Do.is c.as_slice-in-Do.ensures c.args.self.now.place.scope l.0 l.1 in
    let a_is = there_type c.items.new.self.place (in_scope c.args.self.now.place l.0) c.get-in-Do.result.now c.in-Do.a l.2 c.get-in-Do.ensures in
    let v = c.in_ok-k-in-Do.ensures.value in
    (v.0, first ∙ a_is ∙ v.1, table_of c.type_of-in-Do.new.self.table c.cut.new.self.table c.in_ok-k-in-Do.k v.0 c.cut.ensures.table v.2)

pub flow-returns-in_ok-k-in-Do-clause-place : goal.flow-returns-in_ok-k-in-Do-clause-place
flow-returns-in_ok-k-in-Do-clause-place t c =
    let l = c.in_ok-items-in-Do.ensures.value in
    c.cut.ensures.place ∙ ap (λ (q : Place). in_scope q (cut_scope c.len-before.result q.scope)) (c.in_ok-k-in-Do.ensures.place ∙ l.2)
    ∙ ap (λ n. in_scope c.args.self.now.place (cut_scope n l.0)) c.len-before.ensures ∙ ap (λ g. in_scope c.args.self.now.place g) (items_cut c.args.self.now.place.defs c.args.self.now.place.tvars c.as_slice-in-Do.result.now c.args.self.now.place.scope l.0 l.1)

pub framed-returns-in_err-k-in-Frame-clause-value : goal.framed-returns-in_err-k-in-Frame-clause-value
framed-returns-in_err-k-in-Frame-clause-value t c =
    seen_as c.type_of.new.self.table c.from_residual.result _ _ (framed_step c.args.self.now.place c.args.e.now c.in-Frame.slots c.as_slice.result.now c.in-Frame.a c.get.result.now c.in-Frame.is c.as_slice.ensures c.get.ensures)
    (frame_fails c.args.self.now.place c.enter-around.new.self.place c.as_slice.result.now c.get.result.now c.enter-around.ensures.place c.type_of.new.self.table c.type_of.new.self.table c.type_of.result c.from_residual.result c.in_err-k-in-Frame.field-0.0
    c.type_of.ensures.value (search rules) (search rules))

pub framed-returns-in_err-demand-in-Frame-clause-value : goal.framed-returns-in_err-demand-in-Frame-clause-value
framed-returns-in_err-demand-in-Frame-clause-value t c =
    let v = c.in_ok-k-in-Frame.ensures.value in
    let step = (framed_step c.args.self.now.place c.args.e.now c.in-Frame.slots c.as_slice.result.now c.in-Frame.a c.get.result.now c.in-Frame.is c.as_slice.ensures c.get.ensures) ∙ frame_then c.args.self.now.place c.enter-around.new.self.place c.as_slice.result.now c.get.result.now c.enter-around.ensures.place v.0 v.1 in
    let erased = subst (λ (s : Table). IsErased s c.in_ok-k-in-Frame.k v.0) (sym c.enter.ensures.table) v.2 in
    let defs : c.enter.new.self.place.defs ≡ c.args.self.now.place.defs
    = ap (λ (q : Place). q.defs) c.enter.ensures.place ∙ ap (λ (q : Place). q.defs) c.in_ok-k-in-Frame.ensures.place ∙ ap (λ (q : Place). q.defs) c.enter-around.ensures.place in
    let test : c.is_result.result ≡ is_result c.args.self.now.place.defs v.0 = c.is_result.ensures v.0 erased ∙ ap (λ defs. is_result defs v.0) defs in
    seen_as c.enter.new.self.table c.from_residual-in_err-demand-in-Frame.result _ _ step
    (result_fails c.enter.new.self.table (is_result c.args.self.now.place.defs v.0) v.0 c.demand.result c.from_residual-in_err-demand-in-Frame.result c.in_err-demand-in-Frame.field-0.0
    (subst (λ b. Gives c.demand.result (demand b)) test c.demand.ensures) (search rules) (search rules))

pub framed-returns-in_ok-demand-in-Frame-clause-value : goal.framed-returns-in_ok-demand-in-Frame-clause-value
framed-returns-in_ok-demand-in-Frame-clause-value t c =
    let v = c.in_ok-k-in-Frame.ensures.value in
    let step = (framed_step c.args.self.now.place c.args.e.now c.in-Frame.slots c.as_slice.result.now c.in-Frame.a c.get.result.now c.in-Frame.is c.as_slice.ensures c.get.ensures) ∙ frame_then c.args.self.now.place c.enter-around.new.self.place c.as_slice.result.now c.get.result.now c.enter-around.ensures.place v.0 v.1 in
    let erased = subst (λ (s : Table). IsErased s c.in_ok-k-in-Frame.k v.0) (sym c.enter.ensures.table) v.2 in
    let defs : c.enter.new.self.place.defs ≡ c.args.self.now.place.defs
    = ap (λ (q : Place). q.defs) c.enter.ensures.place ∙ ap (λ (q : Place). q.defs) c.in_ok-k-in-Frame.ensures.place ∙ ap (λ (q : Place). q.defs) c.enter-around.ensures.place in
    let test : c.is_result.result ≡ is_result c.args.self.now.place.defs v.0 = c.is_result.ensures v.0 erased ∙ ap (λ defs. is_result defs v.0) defs in
    (v.0, step ∙ result_is (is_result c.args.self.now.place.defs v.0) v.0 (ap demand (sym test) ∙ c.in_ok-demand-in-Frame.ensures), erased)

pub framed-returns-in_ok-element-in-Alloc-clause-value : goal.framed-returns-in_ok-element-in-Alloc-clause-value
framed-returns-in_ok-element-in-Alloc-clause-value t c =
    let may : demand (is_framed c.args.self.now.place.scope.frame && may_alloc c.args.self.now.place.defs c.args.self.now.place.tvars c.in-Alloc.b c.in-Alloc.n) ≡ Some tt = search rules in
    let v = c.in_ok-element-in-Alloc.ensures.value in
    seen_as c.filled.new.self.table c.filled.result _ _ ((alloc_step c.args.self.now.place c.args.e.now c.in-Alloc.b c.in-Alloc.n c.in-Alloc.a c.get-in-Alloc.result.now c.in-Alloc.is c.get-in-Alloc.ensures) ∙ alloc_then c.args.self.now.place c.in-Alloc.b c.in-Alloc.n c.get-in-Alloc.result.now v.0 may v.1)
    (filled_at c.args.self.now.place c.erased.new.self.place c.in_ok-element-in-Alloc.ensures.place c.filled.new.self.table c.get-in-Alloc.result.now v.0 c.filled.result (c.filled.ensures.value v.0 v.2))

pub framed-returns-in_ok-element-in-Fill-clause-value : goal.framed-returns-in_ok-element-in-Fill-clause-value
framed-returns-in_ok-element-in-Fill-clause-value t c =
    let v = c.in_ok-element-in-Fill.ensures.value in
    seen_as c.filled-in-Fill.new.self.table c.filled-in-Fill.result _ _ ((fill_step c.args.self.now.place c.args.e.now c.in-Fill.k c.in-Fill.a c.get-in-Fill.result.now c.in-Fill.is c.get-in-Fill.ensures) ∙ fill_then c.args.self.now.place c.in-Fill.k c.get-in-Fill.result.now v.0 v.1)
    (filled_at c.args.self.now.place c.slot_type.new.self.place c.in_ok-element-in-Fill.ensures.place c.filled-in-Fill.new.self.table c.get-in-Fill.result.now v.0 c.filled-in-Fill.result (c.filled-in-Fill.ensures.value v.0 v.2))

pub item-returns-in_err-has-in-Let-clause-value : goal.item-returns-in_err-has-in-Let-clause-value
item-returns-in_err-has-in-Let-clause-value t c =
    let is = number_is c.erased.new.self.table c.in_ok-k-in-Let.k (erased c.in-Let.b) c.in_ok-k-in-Let.ensures.value in
    let a_is = there_has c.erased.new.self.place c.args.self.now.place c.in-Let.a c.in-Let.a (erased c.in-Let.b) c.in_ok-k-in-Let.ensures.place refl in
    let ok : demand (is_type c.args.self.now.place.defs c.args.self.now.place.tvars c.in-Let.b && is_value c.in-Let.b) ≡ Some tt = search rules in
    unmet c.has.result c.from_residual-in_err-has-in-Let.result c.in_err-has-in-Let.field-0.0 _ _ c.args.self.now.place c.has.new.self.place (c.has.ensures.value (erased c.in-Let.b) is) (search rules) (search rules) (λ none.
    let_fails c.args.self.now.place.defs c.args.self.now.place.tvars c.args.item.now c.in-Let.x c.in-Let.b c.in-Let.a c.in-Let.is c.args.self.now.place.scope ok (a_is ∙ none))

pub items-returns-in_err-item-clause-value : goal.items-returns-in_err-item-clause-value
items-returns-in_err-item-clause-value t c =
    unled c.item.result c.from_residual.result c.in_err-item.field-0.0 _ _ c.loop-item.self.place c.item.new.self.place c.args.self.now.place c.item.new.self.place c.item.ensures.value (search rules) (search rules) (λ none.
    sym c.loop-item.invariant.2
    ∙ items_fail (item_of c.args.self.now.place.defs c.args.self.now.place.tvars) c.args.items.now c.loop-item.self.place.scope c.loop-item.item-index c.item-item.result (search rules) (search rules)
    (sym (ap (λ (p : Place). item_of p.defs p.tvars c.item-item.result p.scope) c.loop-item.invariant.0) ∙ none))

pub items-loop-item-preserved : goal.items-loop-item-preserved
items-loop-item-preserved t c =
    let l = c.in_ok-item.ensures.value in
    let there : item_of c.args.self.now.place.defs c.args.self.now.place.tvars c.item-item.result c.loop-item.self.place.scope ≡ Some l.0 = sym (ap (λ (p : Place). item_of p.defs p.tvars c.item-item.result p.scope) c.loop-item.invariant.0) ∙ l.1 in
    let scope : c.item.new.self.place.scope ≡ l.0 = ap (λ (p : Place). p.scope) l.2 in
    let at : c.item.new.self.place ≡ in_scope c.args.self.now.place l.0 = l.2 ∙ ap (λ (p : Place). in_scope p l.0) c.loop-item.invariant.0 in (
      at ∙ ap (λ g. in_scope c.args.self.now.place g) (sym scope),
      grows_on c.args.self.now.table c.loop-item.self.table c.item.new.self.table c.loop-item.invariant.1 c.in_ok-item.ensures.grows,
      ap (λ g. items_from (map (item_of c.args.self.now.place.defs c.args.self.now.place.tvars) (drop (c.loop-item.item-index + 1) c.args.items.now)) g) scope
          ∙ sym (items_more (item_of c.args.self.now.place.defs c.args.self.now.place.tvars) c.args.items.now c.loop-item.self.place.scope c.loop-item.item-index c.item-item.result (search rules) (search rules) l.0 there) ∙ c.loop-item.invariant.2,
    )

pub repeated-returns-in_err-has_bool-in-While-clause-value : goal.repeated-returns-in_err-has_bool-in-While-clause-value
repeated-returns-in_err-has_bool-in-While-clause-value t c =
    let test_is = there_bool c.enter-around.new.self.place (in_scope c.args.self.now.place (in_loop c.args.self.now.place.scope)) c.get.result.now c.in-While.c c.enter-around.ensures.place c.get.ensures in
    unmet_number c.has_bool.new.self.table c.has_bool.result c.from_residual.result c.in_err-has_bool-in-While.field-0.0 _ _ c.has_bool.ensures.value (search rules) (search rules) (λ none.
    while_none c.args.self.now.place.defs c.args.self.now.place.tvars c.args.e.now c.in-While.c c.in-While.a c.in-While.is c.args.self.now.place.scope (test_is ∙ none))

pub repeated-returns-in_err-has_unit-in-While-clause-value : goal.repeated-returns-in_err-has_unit-in-While-clause-value
repeated-returns-in_err-has_unit-in-While-clause-value t c =
    let test_is = there_bool c.enter-around.new.self.place (in_scope c.args.self.now.place (in_loop c.args.self.now.place.scope)) c.get.result.now c.in-While.c c.enter-around.ensures.place c.get.ensures in
    let a_is = there_unit c.has_bool.new.self.place (in_scope c.args.self.now.place (in_loop c.args.self.now.place.scope)) c.get-in-While.result.now c.in-While.a (c.in_ok-has_bool-in-While.ensures.place ∙ c.enter-around.ensures.place) c.get-in-While.ensures in
    unmet_number c.has_unit.new.self.table c.has_unit.result c.from_residual-in_err-has_unit-in-While.result c.in_err-has_unit-in-While.field-0.0 _ _ c.has_unit.ensures.value (search rules) (search rules) (λ none.
    while_fails c.args.self.now.place.defs c.args.self.now.place.tvars c.args.e.now c.in-While.c c.in-While.a c.in-While.is c.args.self.now.place.scope (test_is ∙ c.in_ok-has_bool-in-While.ensures.value) (a_is ∙ none))

pub repeated-returns-in_err-has_int-in-For-2-clause-value : goal.repeated-returns-in_err-has_int-in-For-2-clause-value
repeated-returns-in_err-has_int-in-For-2-clause-value t c =
    let first = there_u32 c.args.self.now.place c.args.self.now.place c.get-in-For.result.now c.in-For.a refl c.get-in-For.ensures ∙ c.in_ok-has_int-in-For.ensures.value in
    let b_is = there_u32 c.has_int.new.self.place c.args.self.now.place c.get-in-For-2.result.now c.in-For.b c.in_ok-has_int-in-For.ensures.place c.get-in-For-2.ensures in
    unmet_number c.has_int-in-For.new.self.table c.has_int-in-For.result c.from_residual-in_err-has_int-in-For-2.result c.in_err-has_int-in-For-2.field-0.0 _ _ c.has_int-in-For.ensures.value (search rules) (search rules) (λ none.
    for_fails c.args.self.now.place.defs c.args.self.now.place.tvars c.args.e.now c.in-For.x c.in-For.a c.in-For.b c.in-For.c c.in-For.is c.args.self.now.place.scope first (b_is ∙ none))

pub repeated-returns-in_ok-has_unit-in-While-clause-value : goal.repeated-returns-in_ok-has_unit-in-While-clause-value
repeated-returns-in_ok-has_unit-in-While-clause-value t c =
    let test_is = there_bool c.enter-around.new.self.place (in_scope c.args.self.now.place (in_loop c.args.self.now.place.scope)) c.get.result.now c.in-While.c c.enter-around.ensures.place c.get.ensures in
    let a_is = there_unit c.has_bool.new.self.place (in_scope c.args.self.now.place (in_loop c.args.self.now.place.scope)) c.get-in-While.result.now c.in-While.a (c.in_ok-has_bool-in-While.ensures.place ∙ c.enter-around.ensures.place) c.get-in-While.ensures in
    seen_as c.unit.new.self.table c.unit.result _ _ (while_gives c.args.self.now.place.defs c.args.self.now.place.tvars c.args.e.now c.in-While.c c.in-While.a c.in-While.is c.args.self.now.place.scope (test_is ∙ c.in_ok-has_bool-in-While.ensures.value) (a_is ∙ c.in_ok-has_unit-in-While.ensures.value)) c.unit.ensures.value

pub repeated-returns-in_ok-has_int-in-For-2-clause-value : goal.repeated-returns-in_ok-has_int-in-For-2-clause-value
repeated-returns-in_ok-has_int-in-For-2-clause-value t c =
    let first = there_u32 c.args.self.now.place c.args.self.now.place c.get-in-For.result.now c.in-For.a refl c.get-in-For.ensures ∙ c.in_ok-has_int-in-For.ensures.value in
    let b_is = there_u32 c.has_int.new.self.place c.args.self.now.place c.get-in-For-2.result.now c.in-For.b c.in_ok-has_int-in-For.ensures.place c.get-in-For-2.ensures in
    let turn_is = there_turn c.has_int-in-For.new.self.place c.args.self.now.place c.in-For.x c.get-in-For-3.result.now c.in-For.c (c.in_ok-has_int-in-For-2.ensures.place ∙ c.in_ok-has_int-in-For.ensures.place) c.get-in-For-3.ensures in
    seen_as c.turn.new.self.table c.turn.result _ _ (for_at c.args.self.now.place.defs c.args.self.now.place.tvars c.args.e.now c.in-For.x c.in-For.a c.in-For.b c.in-For.c c.in-For.is c.args.self.now.place.scope first (b_is ∙ c.in_ok-has_int-in-For-2.ensures.value) ∙ turn_is) c.turn.ensures.value

pub item-returns-in_ok-push-in-Let-clause-value : goal.item-returns-in_ok-push-in-Let-clause-value
item-returns-in_ok-push-in-Let-clause-value t c =
    let is = number_is c.erased.new.self.table c.in_ok-k-in-Let.k (erased c.in-Let.b) c.in_ok-k-in-Let.ensures.value in
    let a_is = there_has c.erased.new.self.place c.args.self.now.place c.in-Let.a c.in-Let.a (erased c.in-Let.b) c.in_ok-k-in-Let.ensures.place refl in
    let ok : demand (is_type c.args.self.now.place.defs c.args.self.now.place.tvars c.in-Let.b && is_value c.in-Let.b) ≡ Some tt = search rules in
    let_leads _ c.args.self.now.place c.has.new.self.place c.push.new.self.place c.erased.new.self.table c.has.new.self.table c.in-Let.x c.in_ok-k-in-Let.k (erased c.in-Let.b)
    (let_gives c.args.self.now.place.defs c.args.self.now.place.tvars c.args.item.now c.in-Let.x c.in-Let.b c.in-Let.a c.in-Let.is c.args.self.now.place.scope ok (a_is ∙ c.in_ok-has-in-Let.ensures.value (erased c.in-Let.b) is)) (c.in_ok-has-in-Let.ensures.place ∙ c.in_ok-k-in-Let.ensures.place) is c.in_ok-has-in-Let.ensures.grows c.in_ok-push-in-Let.ensures.value

pub turn-returns-clause-grows : goal.turn-returns-clause-grows
turn-returns-clause-grows t c =
    let k_grows = grows_from c.enter-around.new.self.table c.args.self.now.table c.public.new.self.table c.enter-around.ensures.table c.in_ok-k.ensures.grows in
    let e_grows = grows_by c.args.self.now.table c.public.new.self.table c.push.new.self.table c.has_unit.new.self.table k_grows c.in_ok-push.ensures.table c.in_ok-has_unit.ensures.grows in
    on_any c.unit.result (grows_by c.args.self.now.table c.has_unit.new.self.table c.enter.new.self.table c.unit.new.self.table e_grows (c.enter.ensures.table ∙ c.cut.ensures.table) c.unit.ensures.grows)
