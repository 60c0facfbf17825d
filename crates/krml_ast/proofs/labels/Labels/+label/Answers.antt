use Rattle.std.proofs.Common.{◌≡◌, IfOk, ◌<◌, ◌≤◌, length, slice_index_or, sym, ◌∙◌, subst}
use Rattle.krml_ast.specs.Labelled.{labelled_in}
use Rattle.krml_ast.proofs.Labelled.{tab_labelled, no_cases_labelled, cases_labelled}
use Rattle.krml_ast.proofs.labels.Labels.+label.Goals as goal

pub expr-returns-in-Tab-clause-value : goal.expr-returns-in-Tab-clause-value
expr-returns-in-Tab-clause-value t c =
    rw (c.in-Tab.is) (c.table.ensures ∙ sym (tab_labelled c.args.self.now.names.now c.in-Tab.x c.in-Tab.field-1 _))

pub expr-returns-in-empty-clause-value : goal.expr-returns-in-empty-clause-value
expr-returns-in-empty-clause-value t c =
    rw (c.in-Cases.is) (sym (no_cases_labelled c.args.self.now.names.now c.in-Cases.cases _
    (subst (λ z. length z < 1) c.as_slice-in-Cases.ensures c.in-empty.len_below)))

pub expr-returns-in-len1-up-clause-value : goal.expr-returns-in-len1-up-clause-value
expr-returns-in-len1-up-clause-value t c =
    let first = cases_labelled c.args.self.now.names.now c.in-Cases.cases c.case-item.result _
    (subst (λ z. 1 ≤ length z) c.as_slice-in-Cases.ensures c.in-len1-up.len_at_least)
    (subst (λ z. c.case-item.result ≡ slice_index_or z 0 c.case-item.result) c.as_slice-in-Cases.ensures c.case-item.is) in
    rw (c.in-Cases.is) (subst (λ z. IfOk c.expr-in-len1-up.result (λ r. r ≡ z)) (sym first) c.expr-in-len1-up.ensures.value)
