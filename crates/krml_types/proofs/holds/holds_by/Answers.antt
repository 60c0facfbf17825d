use Rattle.std.proofs.Common.{rules, ◌≡◌, ◌∙◌}
use Rattle.krml_syntax.specs.declared.tree.Ty.{out-Ty}
use Rattle.krml_types.specs.Holds.{part_in, part_holds}
use Rattle.krml_types.proofs.Holders.{part_is}
use Rattle.krml_types.proofs.holds.holds_by.Goals as goal

pub returns : goal.returns
returns c =
    let by : c.part_holds.result ≡ part_holds c.args.table.now (part_in c.args.names.now (out-Ty c.args.a.now)) = search rules in
    by ∙ part_is c.args.names.now c.args.table.now (out-Ty c.args.a.now)
