use Rattle.std.proofs.Common.{OnOk, IfOk, rules, ◌≡◌, ℕ, suc, ◌+◌, ◌<◌, true, false, List, [], ◌∷◌, ◌++◌, map, length, drop, get_or, refl, sym, ap, subst, ◌∙◌, arith}
use Rattle.std.proofs.Math.Seq.{drop-cons}
use Rattle.krml_trace.specs.declared.width.Width.TheVariants.{W8}
use Rattle.krml_syntax.specs.declared.tree.Expr.{Expr}
use Rattle.krml_syntax.specs.declared.tree.Ty.TheVariants as ty
use Rattle.krml_ctree.specs.declared.tree.CExpr.{CExpr}
use Rattle.krml_ctree.specs.declared.tree.CExpr.TheVariants as ce
use Rattle.krml_cstar.specs.declared.emitter.Emitter.{Emitter}
use Rattle.krml_cstar.specs.declared.given.Given.{Given}
use Rattle.krml_cstar.specs.Numbers.{widen, narrow, shift_op, kind}
use Rattle.krml_cstar.specs.Translation.{Outs, code_of, all, items, binary, shifted, compared}
use Rattle.krml_cstar.specs.Emitting.{item_code, after, after_all, after_items, beside, given, apart}
use Rattle.krml_cstar.proofs.Emits.{bin_is, shift_is, cmp_is, tab_is, if_is, do_is, while_is, for_is, call_is, binary_ty, two_state, two_value, two_alone, tab_state, if_unit_state, if_unit_value, if_value_state, if_value_value, do_state, do_value, while_state, for_state, call_state, call_value, all_step}
use Rattle.krml_cstar.proofs.emitter.Emitter.+emit.Goals as goal

pub expr-returns-in-Bin-clause-state : goal.expr-returns-in-Bin-clause-state
expr-returns-in-Bin-clause-state t c =
    let m : Emitter = c.args.self.now in
    let m1 : Emitter = c.expr-a.new.self in
    let m2 : Emitter = c.expr-b.new.self in
    let v = c.in-Bin in
    let is = ap (code_of m.defs.now) v.is ∙ bin_is m.defs.now v.op v.i v.a v.b in
    let h1 : OnOk c.expr-a.result (m1 ≡ after (code_of m.defs.now v.a) m) = search rules in
    let ha : IfOk c.expr-a.result (λ g. g ≡ given ((code_of m.defs.now v.a).run m.scope m.next)) = search rules in
    let h2 : OnOk c.expr-b.result (m2 ≡ after (code_of m1.defs.now v.b) m1) = search rules in
    let hb : IfOk c.expr-b.result (λ g. g ≡ given ((code_of m1.defs.now v.b).run m1.scope m1.next)) = search rules in
    two_state (λ ds. code_of ds v.a) (λ ds. code_of ds v.b) (binary v.op v.i) _ m m1 m2 c.binary.new.self c.binary.result c.expr-a.result c.expr-b.result is h1 ha h2 hb c.binary.ensures.state

pub expr-returns-in-Bin-clause-value : goal.expr-returns-in-Bin-clause-value
expr-returns-in-Bin-clause-value t c =
    let m : Emitter = c.args.self.now in
    let m1 : Emitter = c.expr-a.new.self in
    let m2 : Emitter = c.expr-b.new.self in
    let v = c.in-Bin in
    let is = ap (code_of m.defs.now) v.is ∙ bin_is m.defs.now v.op v.i v.a v.b in
    let h1 : OnOk c.expr-a.result (m1 ≡ after (code_of m.defs.now v.a) m) = search rules in
    let ha : IfOk c.expr-a.result (λ g. g ≡ given ((code_of m.defs.now v.a).run m.scope m.next)) = search rules in
    let h2 : OnOk c.expr-b.result (m2 ≡ after (code_of m1.defs.now v.b) m1) = search rules in
    let hb : IfOk c.expr-b.result (λ g. g ≡ given ((code_of m1.defs.now v.b).run m1.scope m1.next)) = search rules in
    two_value (λ ds. code_of ds v.a) (λ ds. code_of ds v.b) (binary v.op v.i) _ (ty.Int v.i) m m1 m2 c.binary.result c.expr-a.result c.expr-b.result is (binary_ty v.op v.i) h1 ha h2 hb c.binary.ensures.value

pub expr-returns-in-Shift-clause-state : goal.expr-returns-in-Shift-clause-state
expr-returns-in-Shift-clause-state t c =
    let m : Emitter = c.args.self.now in
    let m1 : Emitter = c.expr-a-in-Shift.new.self in
    let m2 : Emitter = c.expr-b-in-Shift.new.self in
    let v = c.in-Shift in
    let is = ap (code_of m.defs.now) v.is ∙ shift_is m.defs.now v.left v.i v.a v.b in
    let h1 : OnOk c.expr-a-in-Shift.result (m1 ≡ after (code_of m.defs.now v.a) m) = search rules in
    let h2 : OnOk c.expr-b-in-Shift.result (m2 ≡ after (code_of m1.defs.now v.b) m1) = search rules in
    two_alone (λ ds. code_of ds v.a) (λ ds. code_of ds v.b) (ty.Int v.i) (λ a b. narrow v.i.width (ce.Bin (shift_op v.left) (widen v.i.width a) b)) _ m m1 m2 c.shift.result c.expr-a-in-Shift.result c.expr-b-in-Shift.result is h1 h2 c.shift.ensures

pub expr-returns-in-Shift-clause-value : goal.expr-returns-in-Shift-clause-value
expr-returns-in-Shift-clause-value t c =
    let m : Emitter = c.args.self.now in
    let m1 : Emitter = c.expr-a-in-Shift.new.self in
    let m2 : Emitter = c.expr-b-in-Shift.new.self in
    let v = c.in-Shift in
    let is = ap (code_of m.defs.now) v.is ∙ shift_is m.defs.now v.left v.i v.a v.b in
    let h1 : OnOk c.expr-a-in-Shift.result (m1 ≡ after (code_of m.defs.now v.a) m) = search rules in
    let ha : IfOk c.expr-a-in-Shift.result (λ g. g ≡ given ((code_of m.defs.now v.a).run m.scope m.next)) = search rules in
    let h2 : OnOk c.expr-b-in-Shift.result (m2 ≡ after (code_of m1.defs.now v.b) m1) = search rules in
    let hb : IfOk c.expr-b-in-Shift.result (λ g. g ≡ given ((code_of m1.defs.now v.b).run m1.scope m1.next)) = search rules in
    two_value (λ ds. code_of ds v.a) (λ ds. code_of ds v.b) (shifted v.left v.i) _ (ty.Int v.i) m m1 m2 c.shift.result c.expr-a-in-Shift.result c.expr-b-in-Shift.result is (λ a b names n. refl) h1 ha h2 hb c.shift.ensures

pub expr-returns-in-Cmp-clause-state : goal.expr-returns-in-Cmp-clause-state
expr-returns-in-Cmp-clause-state t c =
    let m : Emitter = c.args.self.now in
    let m1 : Emitter = c.expr-a-in-Cmp.new.self in
    let m2 : Emitter = c.expr-b-in-Cmp.new.self in
    let v = c.in-Cmp in
    let is = ap (code_of m.defs.now) v.is ∙ cmp_is m.defs.now v.op v.i v.a v.b in
    let h1 : OnOk c.expr-a-in-Cmp.result (m1 ≡ after (code_of m.defs.now v.a) m) = search rules in
    let h2 : OnOk c.expr-b-in-Cmp.result (m2 ≡ after (code_of m1.defs.now v.b) m1) = search rules in
    two_alone (λ ds. code_of ds v.a) (λ ds. code_of ds v.b) ty.Bool (λ a b. ce.Cmp W8 (kind v.op) (widen v.i.width a) (widen v.i.width b)) _ m m1 m2 c.comparison.result c.expr-a-in-Cmp.result c.expr-b-in-Cmp.result is h1 h2 c.comparison.ensures

pub expr-returns-in-Cmp-clause-value : goal.expr-returns-in-Cmp-clause-value
expr-returns-in-Cmp-clause-value t c =
    let m : Emitter = c.args.self.now in
    let m1 : Emitter = c.expr-a-in-Cmp.new.self in
    let m2 : Emitter = c.expr-b-in-Cmp.new.self in
    let v = c.in-Cmp in
    let is = ap (code_of m.defs.now) v.is ∙ cmp_is m.defs.now v.op v.i v.a v.b in
    let h1 : OnOk c.expr-a-in-Cmp.result (m1 ≡ after (code_of m.defs.now v.a) m) = search rules in
    let ha : IfOk c.expr-a-in-Cmp.result (λ g. g ≡ given ((code_of m.defs.now v.a).run m.scope m.next)) = search rules in
    let h2 : OnOk c.expr-b-in-Cmp.result (m2 ≡ after (code_of m1.defs.now v.b) m1) = search rules in
    let hb : IfOk c.expr-b-in-Cmp.result (λ g. g ≡ given ((code_of m1.defs.now v.b).run m1.scope m1.next)) = search rules in
    two_value (λ ds. code_of ds v.a) (λ ds. code_of ds v.b) (compared v.op v.i) _ ty.Bool m m1 m2 c.comparison.result c.expr-a-in-Cmp.result c.expr-b-in-Cmp.result is (λ a b names n. refl) h1 ha h2 hb c.comparison.ensures

pub expr-returns-in-Tab-clause-state : goal.expr-returns-in-Tab-clause-state
expr-returns-in-Tab-clause-state t c =
    let m : Emitter = c.args.self.now in
    let m1 : Emitter = c.expr-a-in-Tab.new.self in
    let v = c.in-Tab in
    let is = ap (code_of m.defs.now) v.is ∙ tab_is m.defs.now v.x v.a in
    let h1 : OnOk c.expr-a-in-Tab.result (m1 ≡ after (code_of m.defs.now v.a) m) = search rules in
    let ha : IfOk c.expr-a-in-Tab.result (λ g. g ≡ given ((code_of m.defs.now v.a).run m.scope m.next)) = search rules in
    tab_state (λ ds. code_of ds v.a) v.x _ m m1 c.looked_up.new.self c.looked_up.result c.expr-a-in-Tab.result is h1 ha c.looked_up.ensures.state

pub expr-returns-then-gives_nothing-clause-state : goal.expr-returns-then-gives_nothing-clause-state
expr-returns-then-gives_nothing-clause-state t c =
    let m : Emitter = c.args.self.now in
    let m1 : Emitter = c.expr-test.new.self in
    let v = c.in-If in
    let is = ap (code_of m.defs.now) v.is ∙ if_is m.defs.now v.test v.a v.b in
    let h1 : OnOk c.expr-test.result (m1 ≡ after (code_of m.defs.now v.test) m) = search rules in
    let ht : IfOk c.expr-test.result (λ g. g ≡ given ((code_of m.defs.now v.test).run m.scope m.next)) = search rules in
    let m2 : Emitter = c.apart-yes.new.self in
    let m3 : Emitter = c.apart-no.new.self in
    let u : (code_of m1.defs.now v.a).unit ≡ true = ap (λ (x : Expr). (code_of m1.defs.now x).unit) (sym c.get-in-If-2.ensures) ∙ sym c.gives_nothing.ensures ∙ c.if-gives_nothing.true in
    let ha : OnOk c.apart-yes.result (m2 ≡ beside ((code_of m1.defs.now v.a).run m1.scope m1.next) m1) = search rules in
    let hav : IfOk c.apart-yes.result (λ g. g ≡ apart ((code_of m1.defs.now v.a).run m1.scope m1.next)) = search rules in
    let hb : OnOk c.apart-no.result (m3 ≡ beside ((code_of m2.defs.now v.b).run m2.scope m2.next) m2) = search rules in
    let hbv : IfOk c.apart-no.result (λ g. g ≡ apart ((code_of m2.defs.now v.b).run m2.scope m2.next)) = search rules in
    if_unit_state (λ ds. code_of ds v.test) (λ ds. code_of ds v.a) (λ ds. code_of ds v.b) _ m m1 m2 m3 c.branched.new.self c.branched.result c.expr-test.result c.apart-yes.result c.apart-no.result is h1 ht u ha hav hb hbv c.branched.ensures.state

pub expr-returns-then-gives_nothing-clause-value : goal.expr-returns-then-gives_nothing-clause-value
expr-returns-then-gives_nothing-clause-value t c =
    let m : Emitter = c.args.self.now in
    let m1 : Emitter = c.expr-test.new.self in
    let v = c.in-If in
    let is = ap (code_of m.defs.now) v.is ∙ if_is m.defs.now v.test v.a v.b in
    let h1 : OnOk c.expr-test.result (m1 ≡ after (code_of m.defs.now v.test) m) = search rules in
    let u : (code_of m1.defs.now v.a).unit ≡ true = ap (λ (x : Expr). (code_of m1.defs.now x).unit) (sym c.get-in-If-2.ensures) ∙ sym c.gives_nothing.ensures ∙ c.if-gives_nothing.true in
    let hav : IfOk c.apart-yes.result (λ g. g ≡ apart ((code_of m1.defs.now v.a).run m1.scope m1.next)) = search rules in
    if_unit_value (λ ds. code_of ds v.test) (λ ds. code_of ds v.a) (λ ds. code_of ds v.b) _ m m1 c.branched.result c.expr-test.result c.apart-yes.result is h1 u hav c.branched.ensures.value

pub expr-returns-else-gives_nothing-clause-state : goal.expr-returns-else-gives_nothing-clause-state
expr-returns-else-gives_nothing-clause-state t c =
    let m : Emitter = c.args.self.now in
    let m1 : Emitter = c.expr-test.new.self in
    let v = c.in-If in
    let is = ap (code_of m.defs.now) v.is ∙ if_is m.defs.now v.test v.a v.b in
    let h1 : OnOk c.expr-test.result (m1 ≡ after (code_of m.defs.now v.test) m) = search rules in
    let ht : IfOk c.expr-test.result (λ g. g ≡ given ((code_of m.defs.now v.test).run m.scope m.next)) = subst (λ (x : Expr). IfOk c.expr-test.result (λ (g : Given). g ≡ given ((code_of m.defs.now x).run m.scope m.next))) c.get-in-If.ensures c.expr-test.ensures.value in
    let m2 : Emitter = c.fresh-number.new.self in
    let m3 : Emitter = c.apart-yes-else-gives_nothing.new.self in
    let m4 : Emitter = c.apart-no-else-gives_nothing.new.self in
    let u : (code_of m1.defs.now v.a).unit ≡ false = ap (λ (x : Expr). (code_of m1.defs.now x).unit) (sym c.get-in-If-2.ensures) ∙ sym c.gives_nothing.ensures ∙ c.if-gives_nothing.false in
    let ha : OnOk c.apart-yes-else-gives_nothing.result (m3 ≡ beside ((code_of m2.defs.now v.a).run m2.scope m2.next) m2) = search rules in
    let hav : IfOk c.apart-yes-else-gives_nothing.result (λ g. g ≡ apart ((code_of m2.defs.now v.a).run m2.scope m2.next)) = search rules in
    let hb : OnOk c.apart-no-else-gives_nothing.result (m4 ≡ beside ((code_of m3.defs.now v.b).run m3.scope m3.next) m3) = search rules in
    let hbv : IfOk c.apart-no-else-gives_nothing.result (λ g. g ≡ apart ((code_of m3.defs.now v.b).run m3.scope m3.next)) = search rules in
    if_value_state (λ ds. code_of ds v.test) (λ ds. code_of ds v.a) (λ ds. code_of ds v.b) _ m m1 m2 m3 m4 c.chosen.new.self c.chosen.result c.expr-test.result c.fresh-number.result c.apart-yes-else-gives_nothing.result c.apart-no-else-gives_nothing.result is h1 ht u c.fresh-number.ensures.state c.fresh-number.ensures.value ha hav hb hbv c.chosen.ensures.state

pub expr-returns-else-gives_nothing-clause-value : goal.expr-returns-else-gives_nothing-clause-value
expr-returns-else-gives_nothing-clause-value t c =
    let m : Emitter = c.args.self.now in
    let m1 : Emitter = c.expr-test.new.self in
    let v = c.in-If in
    let is = ap (code_of m.defs.now) v.is ∙ if_is m.defs.now v.test v.a v.b in
    let h1 : OnOk c.expr-test.result (m1 ≡ after (code_of m.defs.now v.test) m) = search rules in
    let m2 : Emitter = c.fresh-number.new.self in
    let u : (code_of m1.defs.now v.a).unit ≡ false = ap (λ (x : Expr). (code_of m1.defs.now x).unit) (sym c.get-in-If-2.ensures) ∙ sym c.gives_nothing.ensures ∙ c.if-gives_nothing.false in
    let hav : IfOk c.apart-yes-else-gives_nothing.result (λ g. g ≡ apart ((code_of m2.defs.now v.a).run m2.scope m2.next)) = search rules in
    if_value_value (λ ds. code_of ds v.test) (λ ds. code_of ds v.a) (λ ds. code_of ds v.b) _ m m1 m2 c.chosen.result c.expr-test.result c.fresh-number.result c.apart-yes-else-gives_nothing.result is h1 u c.fresh-number.ensures.state c.fresh-number.ensures.value hav c.chosen.ensures.value

pub expr-returns-in-Do-clause-state : goal.expr-returns-in-Do-clause-state
expr-returns-in-Do-clause-state t c =
    let m : Emitter = c.args.self.now in
    let m1 : Emitter = c.items-items.new.self in
    let m2 : Emitter = c.expr-last.new.self in
    let v = c.in-Do in
    let is = ap (code_of m.defs.now) v.is ∙ do_is m.defs.now v.items v.a in
    let hl : c.len-before.result ≡ length m.scope = search rules in
    let h1 : OnOk c.items-items.result (m1 ≡ after_items (items (map (item_code m.defs.now) v.items) m.scope m.next) m) = search rules in
    let h2 : OnOk c.expr-last.result (m2 ≡ after (code_of m1.defs.now v.a) m1) = search rules in
    do_state (λ ds. code_of ds v.a) v.items _ m m1 m2 c.leave.new.self _ c.behind.result c.expr-last.result c.items-items.result is hl h1 h2 c.leave.ensures c.behind.ensures

pub expr-returns-in-Do-clause-value : goal.expr-returns-in-Do-clause-value
expr-returns-in-Do-clause-value t c =
    let m : Emitter = c.args.self.now in
    let m1 : Emitter = c.items-items.new.self in
    let v = c.in-Do in
    let is = ap (code_of m.defs.now) v.is ∙ do_is m.defs.now v.items v.a in
    let h1 : OnOk c.items-items.result (m1 ≡ after_items (items (map (item_code m.defs.now) v.items) m.scope m.next) m) = search rules in
    let ha : IfOk c.expr-last.result (λ g. g ≡ given ((code_of m1.defs.now v.a).run m1.scope m1.next)) = subst (λ (x : Expr). IfOk c.expr-last.result (λ (g : Given). g ≡ given ((code_of m1.defs.now x).run m1.scope m1.next))) c.get-in-Do.ensures c.expr-last.ensures.value in
    do_value (λ ds. code_of ds v.a) v.items _ m m1 c.behind.result c.expr-last.result c.items-items.result is h1 ha c.behind.ensures

pub expr-returns-in-While-clause-state : goal.expr-returns-in-While-clause-state
expr-returns-in-While-clause-state t c =
    let m : Emitter = c.args.self.now in
    let m1 : Emitter = c.apart-test.new.self in
    let m2 : Emitter = c.apart-body.new.self in
    let v = c.in-While in
    let is = ap (code_of m.defs.now) v.is ∙ while_is m.defs.now v.test v.a in
    let ha : OnOk c.apart-test.result (m1 ≡ beside ((code_of m.defs.now v.test).run m.scope m.next) m) = search rules in
    let hav : IfOk c.apart-test.result (λ g. g ≡ apart ((code_of m.defs.now v.test).run m.scope m.next)) = search rules in
    let hb : OnOk c.apart-body.result (m2 ≡ beside ((code_of m1.defs.now v.a).run m1.scope m1.next) m1) = search rules in
    let hbv : IfOk c.apart-body.result (λ g. g ≡ apart ((code_of m1.defs.now v.a).run m1.scope m1.next)) = search rules in
    while_state (λ ds. code_of ds v.test) (λ ds. code_of ds v.a) _ m m1 m2 c.tested.new.self c.tested.result c.apart-test.result c.apart-body.result is ha hav hb hbv c.tested.ensures.state

pub expr-returns-in-For-clause-state : goal.expr-returns-in-For-clause-state
expr-returns-in-For-clause-state t c =
    let m : Emitter = c.args.self.now in
    let m1 : Emitter = c.expr-first.new.self in
    let m2 : Emitter = c.expr-end.new.self in
    let m3 : Emitter = c.range-end.new.self in
    let m4 : Emitter = c.apart-body-in-For.new.self in
    let v = c.in-For in
    let is = ap (code_of m.defs.now) v.is ∙ for_is m.defs.now v.x v.a v.b v.e in
    let h1 : OnOk c.expr-first.result (m1 ≡ after (code_of m.defs.now v.a) m) = search rules in
    let ha : IfOk c.expr-first.result (λ g. g ≡ given ((code_of m.defs.now v.a).run m.scope m.next)) = subst (λ (x : Expr). IfOk c.expr-first.result (λ (g : Given). g ≡ given ((code_of m.defs.now x).run m.scope m.next))) c.get-in-For.ensures c.expr-first.ensures.value in
    let h2 : OnOk c.expr-end.result (m2 ≡ after (code_of m1.defs.now v.b) m1) = search rules in
    let hb : IfOk c.expr-end.result (λ g. g ≡ given ((code_of m1.defs.now v.b).run m1.scope m1.next)) = search rules in
    let hl : c.len-before-in-For.result ≡ length m2.scope = search rules in
    let he : OnOk c.apart-body-in-For.result (m4 ≡ beside ((code_of m3.defs.now v.e).run m3.scope m3.next) m3) = search rules in
    let hev : IfOk c.apart-body-in-For.result (λ g. g ≡ apart ((code_of m3.defs.now v.e).run m3.scope m3.next)) = search rules in
    for_state (λ ds. code_of ds v.a) (λ ds. code_of ds v.b) (λ ds. code_of ds v.e) v.x _ m m1 m2 m3 m4 c.leave-in-For.new.self c.counted.new.self _ c.counted.result c.expr-first.result c.expr-end.result c.range-end.result c.apart-body-in-For.result
    is h1 ha h2 hb hl c.range-end.ensures.state c.range-end.ensures.value he hev c.leave-in-For.ensures c.counted.ensures.state

pub expr-returns-in-Call-clause-state : goal.expr-returns-in-Call-clause-state
expr-returns-in-Call-clause-state t c =
    let m : Emitter = c.args.self.now in
    let m1 : Emitter = c.all-values-in-Call.new.self in
    let v = c.in-Call in
    let is = ap (code_of m.defs.now) v.is ∙ call_is m.defs.now v.f _ v.es in
    let h1 : OnOk c.all-values-in-Call.result (m1 ≡ after_all (all (map (code_of m.defs.now) v.es) m.scope m.next) m) = search rules in
    let hv : IfOk c.all-values-in-Call.result (λ vs. vs ≡ (all (map (code_of m.defs.now) v.es) m.scope m.next).values) = search rules in
    call_state (λ ds. map (code_of ds) v.es) v.f _ m m1 c.call.new.self c.call.result c.all-values-in-Call.result is h1 hv c.call.ensures.state

pub expr-returns-in-Call-clause-value : goal.expr-returns-in-Call-clause-value
expr-returns-in-Call-clause-value t c =
    let m : Emitter = c.args.self.now in
    let m1 : Emitter = c.all-values-in-Call.new.self in
    let v = c.in-Call in
    let is = ap (code_of m.defs.now) v.is ∙ call_is m.defs.now v.f _ v.es in
    let h1 : OnOk c.all-values-in-Call.result (m1 ≡ after_all (all (map (code_of m.defs.now) v.es) m.scope m.next) m) = search rules in
    let hv : IfOk c.all-values-in-Call.result (λ vs. vs ≡ (all (map (code_of m.defs.now) v.es) m.scope m.next).values) = search rules in
    call_value (λ ds. map (code_of ds) v.es) v.f _ m m1 c.call.result c.all-values-in-Call.result is h1 hv c.call.ensures.value

pub all-loop-e-preserved : goal.all-loop-e-preserved
all-loop-e-preserved t c =
    let m : Emitter = c.args.self.now in
    let s : Emitter = c.loop-e.self in
    let es : List Expr = c.args.es.now in
    let i : ℕ = c.loop-e.e-index in
    let x : Expr = c.e-item.result in
    let v : CExpr = c.in_ok-expr.field-0.value in
    let whole : Outs = all (map (code_of m.defs.now) es) m.scope m.next in
    let within : i < length es = search rules in
    let here : x ≡ get_or es i x = search rules in
    let one : suc i ≡ i + 1 = omega arith in
    let hl : drop i es ≡ x ∷ drop (i + 1) es = drop-cons es i x within ∙ ap (λ (y : Expr). y ∷ drop (suc i) es) (sym here) ∙ ap (λ (k : ℕ). x ∷ drop k es) one in
    let hs : s ≡ record m { code = s.code; next = s.next } = c.loop-e.invariant.rest in
    let ht : c.expr.new.self ≡ after (code_of s.defs.now x) s = search rules in
    let hv : v ≡ ((code_of s.defs.now x).run s.scope s.next).value = search rules in
    let hvs : c.push.new.self ≡ c.loop-e.values ++ v ∷ [] = search rules in
    let p = all_step code_of m s c.expr.new.self s.code s.next x (drop i es) (drop (i + 1) es) c.loop-e.values c.push.new.self v whole hs hl ht hv hvs
    c.loop-e.invariant.code c.loop-e.invariant.values c.loop-e.invariant.next in
    record { code = p.0; values = p.1; next = p.2; rest = p.3 }
