use Rattle.krml_forms.proofs.Joins.{one_more}
use Rattle.krml_forms.proofs.write.+write.Goals as goal

pub write_list-loop-i-preserved : goal.write_list-loop-i-preserved
write_list-loop-i-preserved t c =
    one_more c.args.out.now.items c.loop-i.out.items c.write_space.new.out.items c.write_form.new.out.items c.args.forms.now c.loop-i.i c.index-forms-i.result c.loop-i-test.true c.index-forms-i.is c.loop-i.invariant c.in_ok-write_space.ensures c.in_ok-write_form.ensures
