-- Each entry tells whether its name is new among those that are asked for.
use Rattle.std.proofs.Common.{◌≡◌, ◌-◌, ap, sym, ◌∙◌, Some, slice_get, arith}
use Rattle.krml_intern.proofs.Distinct.{distinct_still, distinct_none}
use Rattle.krml_intern.proofs.scope.Scope.are_distinct.Goals as goal

pub returns-then-is_from : goal.returns-then-is_from
returns-then-is_from c =
    let at : slice_get c.self.inside.items.items (c.loop-n.n - 1) ≡ Some c.in-Some.entry = ap (λ xs. slice_get xs (c.loop-n.n - 1)) (sym c.as_slice.ensures.value) ∙ sym c.entry_at.ensures ∙ c.in-Some.is in
    distinct_none c.self.inside.items.items c.loop-n.n c.args.len c.in-Some.entry c.is_from.result c.loop-n-test.true at c.is_from.ensures c.if-is_from.true c.loop-n.invariant.1 ∙ c.loop-n.invariant.2

pub loop-n-preserved : goal.loop-n-preserved
loop-n-preserved c =
    let at : slice_get c.self.inside.items.items (c.loop-n.n - 1) ≡ Some c.in-Some.entry = ap (λ xs. slice_get xs (c.loop-n.n - 1)) (sym c.as_slice.ensures.value) ∙ sym c.entry_at.ensures ∙ c.in-Some.is in
    let on = distinct_still c.self.inside.items.items c.loop-n.n c.args.len c.in-Some.entry c.is_from.result c.loop-n-test.true at c.is_from.ensures c.if-is_from.false c.loop-n.invariant.1 in
    (omega (arith, c.loop-n.invariant.0), on.0, on.1 ∙ c.loop-n.invariant.2)
