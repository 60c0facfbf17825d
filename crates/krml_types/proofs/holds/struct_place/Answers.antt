use Rattle.std.proofs.Common.{rules}
use Rattle.krml_types.proofs.Holders.{struct_place_is}
use Rattle.krml_types.proofs.holds.struct_place.Goals as goal

pub returns-in_err-struct_named : goal.returns-in_err-struct_named
returns-in_err-struct_named c = rw (struct_place_is c.args.names.now c.args.x.now) (search rules)

pub returns : goal.returns
returns c = rw (struct_place_is c.args.names.now c.args.x.now) (search rules)
