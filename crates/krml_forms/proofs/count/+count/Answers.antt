use Rattle.std.proofs.Common.{arith}
use Rattle.krml_forms.proofs.Counts.{on_err, count_part}
use Rattle.krml_forms.proofs.count.+count.Goals as goal

pub count_of-returns-in_err-form_count-clause-past : goal.count_of-returns-in_err-form_count-clause-past
count_of-returns-in_err-form_count-clause-past t c =
    let part = count_part c.args.forms.now c.loop-form.form-index c.form-item.result c.loop-form-test.true c.form-item.is in
    on_err c.from_residual.result (omega (arith, c.in_err-form_count.ensures.past))

pub count_of-returns-in_err-count-clause-past : goal.count_of-returns-in_err-count-clause-past
count_of-returns-in_err-count-clause-past t c =
    let part = count_part c.args.forms.now c.loop-form.form-index c.form-item.result c.loop-form-test.true c.form-item.is in
    let this = c.in_ok-form_count.ensures.count in
    on_err c.from_residual-in_err-count.result (omega (arith, c.in_err-count.ensures.past))
