use Rattle.std.proofs.Common.{◌≡◌, map, take}
use Rattle.krml_syntax.specs.Types.{type_at}
use Rattle.krml_ast.proofs.types.+apply.Given as goal

abbrev pub invariant-each_at-loop-ty : goal.invariant-each_at-loop-ty
invariant-each_at-loop-ty l = l.all ≡ map (type_at l.vars l.args) (take l.ty-index l.types)
