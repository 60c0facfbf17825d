use Rattle.std.proofs.Common.{◌≡◌, drop}
use Rattle.krml_ast.specs.Places.{is_among}
use Rattle.krml_types.proofs.formed.is_among.Given as goal

abbrev pub invariant-loop-v : goal.invariant-loop-v
invariant-loop-v l = is_among (drop l.v-index l.vars) l.x ≡ is_among l.vars l.x
