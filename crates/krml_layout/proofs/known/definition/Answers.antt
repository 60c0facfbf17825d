use Rattle.std.proofs.Common.{rules}
use Rattle.krml_layout.proofs.Lookups.{search_on}
use Rattle.krml_layout.proofs.known.definition.Goals as goal

pub loop-left-preserved : goal.loop-left-preserved
loop-left-preserved c =
    search_on c.args.defs.now c.loop-left.left.now c.args.x.now c.def-item.result c.in-len1-up.len_at_least (search rules)
    (search rules) c.loop-left.invariant
