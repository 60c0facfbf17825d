use Rattle.std.proofs.Common.{rules, OnOk, ◌≡◌, ℕ, ◌+◌, ◌<◌, List, [], ◌∷◌, ◌++◌, length, take, get_or, refl, sym, ◌∙◌}
use Rattle.krml_syntax.specs.declared.tree.Arm.{Arm}
use Rattle.krml_syntax.specs.declared.tree.Case.{Case}
use Rattle.krml_syntax.specs.declared.tree.Item.{Item}
use Rattle.krml_syntax.specs.declared.tree.Expr.{Expr}
use Rattle.krml_hoist.specs.declared.hoister.Hoister.{Hoister}
use Rattle.krml_hoist.specs.Walk.{made, after, made_all, after_all, made_item, after_item, made_items, after_items, made_arm, after_arm, made_arms, after_arms, made_case, after_case, made_cases, after_cases, entered}
use Rattle.krml_hoist.proofs.Bodies.{on_ok, frame_walked}
use Rattle.krml_hoist.proofs.Turns.{one_more}
use Rattle.krml_hoist.proofs.Forms.{var_made, var_after, unit_made, unit_after, bool_made, bool_after, num_made, num_after, bin_made, bin_after, shift_made, shift_after, cmp_made, cmp_after, not_made, not_after, cast_made, cast_after, hide_made, hide_after, make_made, make_after, get_made, get_after, con_made, con_after, read_made, read_after, write_made, write_after, slice_made, slice_after, tab_made, tab_after, choice_made, choice_after, match_made, match_after, block_made, block_after, frame_made, alloc_made, alloc_after, while_made, while_after, for_made, for_after, call_made, call_after, cases_made, cases_after, tag_is_made, tag_is_after, part_made, part_after, fill_made, fill_after, let_made, let_after, run_made, run_after, arm_made, arm_after, case_made, case_after, no_all_made, no_all_after, last_all_made, last_all_after, no_items_made, no_items_after, last_items_made, last_items_after, no_arms_made, no_arms_after, last_arms_made, last_arms_after, no_cases_made, no_cases_after, last_cases_made, last_cases_after}
use Rattle.krml_hoist.proofs.hoister.Hoister.+hoist.Goals as goal

pub expr-returns-in-Var-clause-value : goal.expr-returns-in-Var-clause-value
expr-returns-in-Var-clause-value t c = rw (c.in-Var.is, var_made) (search rules)

pub expr-returns-in-Var-clause-state : goal.expr-returns-in-Var-clause-state
expr-returns-in-Var-clause-state t c = rw (c.in-Var.is, var_after) (search rules)

pub expr-returns-in-Unit-clause-value : goal.expr-returns-in-Unit-clause-value
expr-returns-in-Unit-clause-value t c = rw (c.in-Unit.is, unit_made) (search rules)

pub expr-returns-in-Unit-clause-state : goal.expr-returns-in-Unit-clause-state
expr-returns-in-Unit-clause-state t c = rw (c.in-Unit.is, unit_after) (on_ok c.new.result refl)

pub expr-returns-in-Bool-clause-value : goal.expr-returns-in-Bool-clause-value
expr-returns-in-Bool-clause-value t c = rw (c.in-Bool.is, bool_made) (search rules)

pub expr-returns-in-Bool-clause-state : goal.expr-returns-in-Bool-clause-state
expr-returns-in-Bool-clause-state t c = rw (c.in-Bool.is, bool_after) (search rules)

pub expr-returns-in-Num-clause-value : goal.expr-returns-in-Num-clause-value
expr-returns-in-Num-clause-value t c = rw (c.in-Num.is, num_made) (search rules)

pub expr-returns-in-Num-clause-state : goal.expr-returns-in-Num-clause-state
expr-returns-in-Num-clause-state t c = rw (c.in-Num.is, num_after) (search rules)

pub expr-returns-in-Bin-clause-value : goal.expr-returns-in-Bin-clause-value
expr-returns-in-Bin-clause-value t c = rw (c.in-Bin.is, bin_made) (search rules)

pub expr-returns-in-Bin-clause-state : goal.expr-returns-in-Bin-clause-state
expr-returns-in-Bin-clause-state t c = rw (c.in-Bin.is, bin_after) (search rules)

pub expr-returns-in-Shift-clause-value : goal.expr-returns-in-Shift-clause-value
expr-returns-in-Shift-clause-value t c = rw (c.in-Shift.is, shift_made) (search rules)

pub expr-returns-in-Shift-clause-state : goal.expr-returns-in-Shift-clause-state
expr-returns-in-Shift-clause-state t c = rw (c.in-Shift.is, shift_after) (search rules)

pub expr-returns-in-Cmp-clause-value : goal.expr-returns-in-Cmp-clause-value
expr-returns-in-Cmp-clause-value t c = rw (c.in-Cmp.is, cmp_made) (search rules)

pub expr-returns-in-Cmp-clause-state : goal.expr-returns-in-Cmp-clause-state
expr-returns-in-Cmp-clause-state t c = rw (c.in-Cmp.is, cmp_after) (search rules)

pub expr-returns-in-Not-clause-value : goal.expr-returns-in-Not-clause-value
expr-returns-in-Not-clause-value t c = rw (c.in-Not.is, not_made) (search rules)

pub expr-returns-in-Not-clause-state : goal.expr-returns-in-Not-clause-state
expr-returns-in-Not-clause-state t c = rw (c.in-Not.is, not_after) (search rules)

pub expr-returns-in-Cast-clause-value : goal.expr-returns-in-Cast-clause-value
expr-returns-in-Cast-clause-value t c = rw (c.in-Cast.is, cast_made) (search rules)

pub expr-returns-in-Cast-clause-state : goal.expr-returns-in-Cast-clause-state
expr-returns-in-Cast-clause-state t c = rw (c.in-Cast.is, cast_after) (search rules)

pub expr-returns-in-Hide-clause-value : goal.expr-returns-in-Hide-clause-value
expr-returns-in-Hide-clause-value t c = rw (c.in-Hide.is, hide_made) (search rules)

pub expr-returns-in-Hide-clause-state : goal.expr-returns-in-Hide-clause-state
expr-returns-in-Hide-clause-state t c = rw (c.in-Hide.is, hide_after) (search rules)

pub expr-returns-in-Make-clause-value : goal.expr-returns-in-Make-clause-value
expr-returns-in-Make-clause-value t c = rw (c.in-Make.is, make_made) (search rules)

pub expr-returns-in-Make-clause-state : goal.expr-returns-in-Make-clause-state
expr-returns-in-Make-clause-state t c = rw (c.in-Make.is, make_after) (search rules)

pub expr-returns-in-Get-clause-value : goal.expr-returns-in-Get-clause-value
expr-returns-in-Get-clause-value t c = rw (c.in-Get.is, get_made) (search rules)

pub expr-returns-in-Get-clause-state : goal.expr-returns-in-Get-clause-state
expr-returns-in-Get-clause-state t c = rw (c.in-Get.is, get_after) (search rules)

pub expr-returns-in-Con-clause-value : goal.expr-returns-in-Con-clause-value
expr-returns-in-Con-clause-value t c = rw (c.in-Con.is, con_made) (search rules)

pub expr-returns-in-Con-clause-state : goal.expr-returns-in-Con-clause-state
expr-returns-in-Con-clause-state t c = rw (c.in-Con.is, con_after) (search rules)

pub expr-returns-in-Read-clause-value : goal.expr-returns-in-Read-clause-value
expr-returns-in-Read-clause-value t c = rw (c.in-Read.is, read_made) (search rules)

pub expr-returns-in-Read-clause-state : goal.expr-returns-in-Read-clause-state
expr-returns-in-Read-clause-state t c = rw (c.in-Read.is, read_after) (search rules)

pub expr-returns-in-Write-clause-value : goal.expr-returns-in-Write-clause-value
expr-returns-in-Write-clause-value t c = rw (c.in-Write.is, write_made) (search rules)

pub expr-returns-in-Write-clause-state : goal.expr-returns-in-Write-clause-state
expr-returns-in-Write-clause-state t c = rw (c.in-Write.is, write_after) (search rules)

pub expr-returns-in-Slice-clause-value : goal.expr-returns-in-Slice-clause-value
expr-returns-in-Slice-clause-value t c = rw (c.in-Slice.is, slice_made) (search rules)

pub expr-returns-in-Slice-clause-state : goal.expr-returns-in-Slice-clause-state
expr-returns-in-Slice-clause-state t c = rw (c.in-Slice.is, slice_after) (search rules)

pub expr-returns-in-Tab-clause-value : goal.expr-returns-in-Tab-clause-value
expr-returns-in-Tab-clause-value t c = rw (c.in-Tab.is, tab_made) (search rules)

pub expr-returns-in-Tab-clause-state : goal.expr-returns-in-Tab-clause-state
expr-returns-in-Tab-clause-state t c = rw (c.in-Tab.is, tab_after) (search rules)

pub expr-returns-in-If-clause-value : goal.expr-returns-in-If-clause-value
expr-returns-in-If-clause-value t c = rw (c.in-If.is, choice_made) (search rules)

pub expr-returns-in-If-clause-state : goal.expr-returns-in-If-clause-state
expr-returns-in-If-clause-state t c = rw (c.in-If.is, choice_after) (search rules)

pub expr-returns-in-Match-clause-value : goal.expr-returns-in-Match-clause-value
expr-returns-in-Match-clause-value t c = rw (c.in-Match.is, match_made) (search rules)

pub expr-returns-in-Match-clause-state : goal.expr-returns-in-Match-clause-state
expr-returns-in-Match-clause-state t c = rw (c.in-Match.is, match_after) (search rules)

pub expr-returns-in-Do-clause-value : goal.expr-returns-in-Do-clause-value
expr-returns-in-Do-clause-value t c = rw (c.in-Do.is, block_made) (search rules)

pub expr-returns-in-Do-clause-state : goal.expr-returns-in-Do-clause-state
expr-returns-in-Do-clause-state t c = rw (c.in-Do.is, block_after) (search rules)

pub expr-returns-in-Frame-clause-value : goal.expr-returns-in-Frame-clause-value
expr-returns-in-Frame-clause-value t c = rw (c.in-Frame.is, frame_made) (search rules)

pub expr-returns-in-Frame-clause-state : goal.expr-returns-in-Frame-clause-state
expr-returns-in-Frame-clause-state t c =
    let m : Hoister = c.args.self.now in
    let m1 : Hoister = c.enter-outer.new.self in
    let m2 : Hoister = c.expr-a-in-Frame.new.self in
    let m3 : Hoister = c.leave-slots.new.self in
    let v = c.in-Frame in
    let begun : OnOk c.enter-outer.result (m1 ≡ entered v.own m) = search rules in
    let walked : OnOk c.expr-a-in-Frame.result (m2 ≡ after v.a m1) = search rules in
    rw v.is (frame_walked v.own v.a m m1 m2 m3 c.frame.result c.expr-a-in-Frame.result c.enter-outer.result c.leave-slots.result
    begun c.enter-outer.ensures.value walked c.leave-slots.ensures.state c.frame.ensures)

pub expr-returns-in-Alloc-clause-value : goal.expr-returns-in-Alloc-clause-value
expr-returns-in-Alloc-clause-value t c = rw (c.in-Alloc.is, alloc_made) (search rules)

pub expr-returns-in-Alloc-clause-state : goal.expr-returns-in-Alloc-clause-state
expr-returns-in-Alloc-clause-state t c = rw (c.in-Alloc.is, alloc_after) (search rules)

pub expr-returns-in-While-clause-value : goal.expr-returns-in-While-clause-value
expr-returns-in-While-clause-value t c = rw (c.in-While.is, while_made) (search rules)

pub expr-returns-in-While-clause-state : goal.expr-returns-in-While-clause-state
expr-returns-in-While-clause-state t c = rw (c.in-While.is, while_after) (search rules)

pub expr-returns-in-For-clause-value : goal.expr-returns-in-For-clause-value
expr-returns-in-For-clause-value t c = rw (c.in-For.is, for_made) (search rules)

pub expr-returns-in-For-clause-state : goal.expr-returns-in-For-clause-state
expr-returns-in-For-clause-state t c = rw (c.in-For.is, for_after) (search rules)

pub expr-returns-in-Call-clause-value : goal.expr-returns-in-Call-clause-value
expr-returns-in-Call-clause-value t c = rw (c.in-Call.is, call_made) (search rules)

pub expr-returns-in-Call-clause-state : goal.expr-returns-in-Call-clause-state
expr-returns-in-Call-clause-state t c = rw (c.in-Call.is, call_after) (search rules)

pub expr-returns-in-Cases-clause-value : goal.expr-returns-in-Cases-clause-value
expr-returns-in-Cases-clause-value t c = rw (c.in-Cases.is, cases_made) (search rules)

pub expr-returns-in-Cases-clause-state : goal.expr-returns-in-Cases-clause-state
expr-returns-in-Cases-clause-state t c = rw (c.in-Cases.is, cases_after) (search rules)

pub expr-returns-in-TagIs-clause-value : goal.expr-returns-in-TagIs-clause-value
expr-returns-in-TagIs-clause-value t c = rw (c.in-TagIs.is, tag_is_made) (search rules)

pub expr-returns-in-TagIs-clause-state : goal.expr-returns-in-TagIs-clause-state
expr-returns-in-TagIs-clause-state t c = rw (c.in-TagIs.is, tag_is_after) (search rules)

pub expr-returns-in-Part-clause-value : goal.expr-returns-in-Part-clause-value
expr-returns-in-Part-clause-value t c = rw (c.in-Part.is, part_made) (search rules)

pub expr-returns-in-Part-clause-state : goal.expr-returns-in-Part-clause-state
expr-returns-in-Part-clause-state t c = rw (c.in-Part.is, part_after) (search rules)

pub expr-returns-in-Fill-clause-value : goal.expr-returns-in-Fill-clause-value
expr-returns-in-Fill-clause-value t c = rw (c.in-Fill.is, fill_made) (search rules)

pub expr-returns-in-Fill-clause-state : goal.expr-returns-in-Fill-clause-state
expr-returns-in-Fill-clause-state t c = rw (c.in-Fill.is, fill_after) (search rules)

pub item-returns-in-Let-clause-value : goal.item-returns-in-Let-clause-value
item-returns-in-Let-clause-value t c = rw (c.in-Let.is, let_made) (search rules)

pub item-returns-in-Let-clause-state : goal.item-returns-in-Let-clause-state
item-returns-in-Let-clause-state t c = rw (c.in-Let.is, let_after) (search rules)

pub item-returns-in-Run-clause-value : goal.item-returns-in-Run-clause-value
item-returns-in-Run-clause-value t c = rw (c.in-Run.is, run_made) (search rules)

pub item-returns-in-Run-clause-state : goal.item-returns-in-Run-clause-state
item-returns-in-Run-clause-state t c = rw (c.in-Run.is, run_after) (search rules)

pub arm-returns-clause-value : goal.arm-returns-clause-value
arm-returns-clause-value t c = rw arm_made (search rules)

pub arm-returns-clause-state : goal.arm-returns-clause-state
arm-returns-clause-state t c = rw arm_after (search rules)

pub case-returns-clause-value : goal.case-returns-clause-value
case-returns-clause-value t c = rw case_made (search rules)

pub case-returns-clause-state : goal.case-returns-clause-state
case-returns-clause-state t c = rw case_after (search rules)

pub each-loop-e-init : goal.each-loop-e-init
each-loop-e-init t c = record { made = c.new-all.ensures ∙ sym (no_all_made c.args.self.now); walked = sym (no_all_after c.args.self.now) }

pub each-loop-e-preserved : goal.each-loop-e-preserved
each-loop-e-preserved t c =
    let m : Hoister = c.args.self.now in
    let s : Hoister = c.loop-e.self in
    let xs : List Expr = c.args.es.now in
    let i : ℕ = c.loop-e.e-index in
    let x : Expr = c.e-item.result in
    let v : Expr = c.in_ok-expr.field-0 in
    let within : i < length xs = search rules in
    let here : x ≡ get_or xs i x = search rules in
    let done : take (i + 1) xs ≡ take i xs ++ x ∷ [] = one_more xs i x within here in
    let walked : c.expr.new.self ≡ after x s = search rules in
    let value : v ≡ made x s = search rules in
    let pushed : c.push.new.self ≡ c.loop-e.all ++ v ∷ [] = search rules in
    let before : s ≡ after_all (take i xs) m = c.loop-e.invariant.walked in
    let made_before : c.loop-e.all ≡ made_all (take i xs) m = c.loop-e.invariant.made in
    let one : made_all (take i xs ++ x ∷ []) m ≡ made_all (take i xs) m ++ made x (after_all (take i xs) m) ∷ [] = last_all_made (take i xs) x m in
    let two : after_all (take i xs ++ x ∷ []) m ≡ after x (after_all (take i xs) m) = last_all_after (take i xs) x m in
    record {
      made = rw (done, one, pushed, value, before, made_before) refl;
      walked = rw (done, two, walked, before) refl;
    }

pub each_item-loop-i-init : goal.each_item-loop-i-init
each_item-loop-i-init t c = record { made = c.new-all.ensures ∙ sym (no_items_made c.args.self.now); walked = sym (no_items_after c.args.self.now) }

pub each_item-loop-i-preserved : goal.each_item-loop-i-preserved
each_item-loop-i-preserved t c =
    let m : Hoister = c.args.self.now in
    let s : Hoister = c.loop-i.self in
    let xs : List Item = c.args.items.now in
    let i : ℕ = c.loop-i.i-index in
    let x : Item = c.i-item.result in
    let v : Item = c.in_ok-item.field-0 in
    let within : i < length xs = search rules in
    let here : x ≡ get_or xs i x = search rules in
    let done : take (i + 1) xs ≡ take i xs ++ x ∷ [] = one_more xs i x within here in
    let walked : c.item.new.self ≡ after_item x s = search rules in
    let value : v ≡ made_item x s = search rules in
    let pushed : c.push.new.self ≡ c.loop-i.all ++ v ∷ [] = search rules in
    let before : s ≡ after_items (take i xs) m = c.loop-i.invariant.walked in
    let made_before : c.loop-i.all ≡ made_items (take i xs) m = c.loop-i.invariant.made in
    let one : made_items (take i xs ++ x ∷ []) m ≡ made_items (take i xs) m ++ made_item x (after_items (take i xs) m) ∷ [] = last_items_made (take i xs) x m in
    let two : after_items (take i xs ++ x ∷ []) m ≡ after_item x (after_items (take i xs) m) = last_items_after (take i xs) x m in
    record {
      made = rw (done, one, pushed, value, before, made_before) refl;
      walked = rw (done, two, walked, before) refl;
    }

pub each_arm-loop-a-init : goal.each_arm-loop-a-init
each_arm-loop-a-init t c = record { made = c.new-all.ensures ∙ sym (no_arms_made c.args.self.now); walked = sym (no_arms_after c.args.self.now) }

pub each_arm-loop-a-preserved : goal.each_arm-loop-a-preserved
each_arm-loop-a-preserved t c =
    let m : Hoister = c.args.self.now in
    let s : Hoister = c.loop-a.self in
    let xs : List Arm = c.args.arms.now in
    let i : ℕ = c.loop-a.a-index in
    let x : Arm = c.a-item.result in
    let v : Arm = c.in_ok-arm.field-0 in
    let within : i < length xs = search rules in
    let here : x ≡ get_or xs i x = search rules in
    let done : take (i + 1) xs ≡ take i xs ++ x ∷ [] = one_more xs i x within here in
    let walked : c.arm.new.self ≡ after_arm x s = search rules in
    let value : v ≡ made_arm x s = search rules in
    let pushed : c.push.new.self ≡ c.loop-a.all ++ v ∷ [] = search rules in
    let before : s ≡ after_arms (take i xs) m = c.loop-a.invariant.walked in
    let made_before : c.loop-a.all ≡ made_arms (take i xs) m = c.loop-a.invariant.made in
    let one : made_arms (take i xs ++ x ∷ []) m ≡ made_arms (take i xs) m ++ made_arm x (after_arms (take i xs) m) ∷ [] = last_arms_made (take i xs) x m in
    let two : after_arms (take i xs ++ x ∷ []) m ≡ after_arm x (after_arms (take i xs) m) = last_arms_after (take i xs) x m in
    record {
      made = rw (done, one, pushed, value, before, made_before) refl;
      walked = rw (done, two, walked, before) refl;
    }

pub each_case-loop-c-init : goal.each_case-loop-c-init
each_case-loop-c-init t c = record { made = c.new-all.ensures ∙ sym (no_cases_made c.args.self.now); walked = sym (no_cases_after c.args.self.now) }

pub each_case-loop-c-preserved : goal.each_case-loop-c-preserved
each_case-loop-c-preserved t c =
    let m : Hoister = c.args.self.now in
    let s : Hoister = c.loop-c.self in
    let xs : List Case = c.args.list.now in
    let i : ℕ = c.loop-c.c-index in
    let x : Case = c.c-item.result in
    let v : Case = c.in_ok-case.field-0 in
    let within : i < length xs = search rules in
    let here : x ≡ get_or xs i x = search rules in
    let done : take (i + 1) xs ≡ take i xs ++ x ∷ [] = one_more xs i x within here in
    let walked : c.case.new.self ≡ after_case x s = search rules in
    let value : v ≡ made_case x s = search rules in
    let pushed : c.push.new.self ≡ c.loop-c.all ++ v ∷ [] = search rules in
    let before : s ≡ after_cases (take i xs) m = c.loop-c.invariant.walked in
    let made_before : c.loop-c.all ≡ made_cases (take i xs) m = c.loop-c.invariant.made in
    let one : made_cases (take i xs ++ x ∷ []) m ≡ made_cases (take i xs) m ++ made_case x (after_cases (take i xs) m) ∷ [] = last_cases_made (take i xs) x m in
    let two : after_cases (take i xs ++ x ∷ []) m ≡ after_case x (after_cases (take i xs) m) = last_cases_after (take i xs) x m in
    record {
      made = rw (done, one, pushed, value, before, made_before) refl;
      walked = rw (done, two, walked, before) refl;
    }
