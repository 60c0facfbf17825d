use Rattle.std.proofs.Common.{rules, ◌≡◌, ◌∙◌}
use Rattle.krml_types.specs.Holds.{at_place, struct_place, part_holds}
use Rattle.krml_types.proofs.Holders.{place_is}
use Rattle.krml_types.proofs.holds.is_set.Goals as goal

pub returns : goal.returns
returns c =
    let by : c.part_holds.result ≡ part_holds c.args.table.now (at_place (struct_place c.args.names.now c.args.x.now)) = search rules in
    by ∙ place_is c.args.names.now c.args.table.now c.args.x.now
