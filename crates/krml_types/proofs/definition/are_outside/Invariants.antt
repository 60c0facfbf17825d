use Rattle.std.proofs.Common.{◌≡◌, drop}
use Rattle.krml_types.specs.Definitions.{are_outside}
use Rattle.krml_types.proofs.definition.are_outside.Given as goal

abbrev pub invariant-loop-param : goal.invariant-loop-param
invariant-loop-param l = are_outside (drop l.param-index l.params) ≡ are_outside l.params
