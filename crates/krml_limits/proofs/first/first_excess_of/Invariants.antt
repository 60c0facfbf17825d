use Rattle.std.proofs.Common.{◌≡◌, drop}
use Rattle.krml_syntax.specs.Limits.{first_excess_of}
use Rattle.krml_limits.proofs.first.first_excess_of.Given as goal

abbrev pub invariant-loop-kind : goal.invariant-loop-kind
invariant-loop-kind l = first_excess_of (drop l.kind-index l.kinds) l.forms l.defs ≡ first_excess_of l.kinds l.forms l.defs
