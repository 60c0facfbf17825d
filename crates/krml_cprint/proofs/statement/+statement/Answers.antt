use Rattle.krml_cprint.proofs.Listed.{arm_printed}
use Rattle.krml_cprint.proofs.statement.+statement.Goals as goal

pub ifs-loop-i-preserved : goal.ifs-loop-i-preserved
ifs-loop-i-preserved t c =
    arm_printed c.loop-i.out.items c.arm.new.out.items _ c.args.arms.now c.loop-i.i c.args.level c.index-arms-i.result c.loop-i-test.true c.index-arms-i.is c.in_ok-arm.ensures c.loop-i.invariant
