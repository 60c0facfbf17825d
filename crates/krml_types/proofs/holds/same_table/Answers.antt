use Rattle.std.proofs.Common.{rules, ◌<◌, length, sym, ◌∙◌}
use Rattle.krml_types.proofs.Holders.{longer}
use Rattle.krml_types.proofs.holds.same_table.Goals as goal

pub returns-in_default : goal.returns-in_default
returns-in_default c =
    let l : c.loop-set.set-index < length c.args.table.now = search rules in
    sym (longer c.loop-set.set-index c.args.table.now c.loop-set.left.now l c.in_default.len_below) ∙ c.loop-set.invariant
