use Rattle.krml_limits.proofs.Within.{within, none_where_within}
use Rattle.krml_limits.proofs.law.none_exceeded.Goals as goal

pub returns : goal.returns
returns c forms defs = (within forms defs, none_where_within forms defs)
