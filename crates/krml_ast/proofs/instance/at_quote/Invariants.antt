use Rattle.std.proofs.Common.{◌≡◌, ◌++◌, take, drop, option_map}
use Rattle.krml_ast.specs.Instances.{at_quote}
use Rattle.krml_ast.proofs.instance.at_quote.Given as goal

abbrev pub invariant-loop-n : goal.invariant-loop-n
invariant-loop-n l = at_quote l.x ≡ option_map (λ p. (take l.n l.x ++ p.0, p.1)) (at_quote (drop l.n l.x))
