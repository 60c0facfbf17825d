use Rattle.std.proofs.Common.{rules, take, ◌∙◌}
use Rattle.krml_layout.specs.Found.{has}
use Rattle.krml_layout.proofs.Maps.{map_aligned, next_small, next_put}
use Rattle.krml_layout.proofs.layouts.layouts_of.Goals as goal

pub add-requires-clause-aligned : goal.add-requires-clause-aligned
add-requires-clause-aligned c = map_aligned (has c.loop-def.layouts) (take c.loop-def.def-index c.args.defs.now) c.loop-def.invariant

pub add-requires-clause-fits : goal.add-requires-clause-fits
add-requires-clause-fits c =
    next_small (has c.loop-def.layouts) c.args.defs.now c.requires c.loop-def.def-index c.def-item.result (search rules)
    (search rules) c.loop-def.invariant

pub loop-def-preserved : goal.loop-def-preserved
loop-def-preserved c = λ x.
    c.in_ok-add.ensures x
    ∙ next_put (has c.loop-def.layouts) c.args.defs.now c.requires c.loop-def.def-index c.def-item.result (search rules)
    (search rules) c.loop-def.invariant x
