-- Scopes that grow and are cut back.
use Rattle.std.proofs.Common.{◌≡◌, length, ap}
use Rattle.krml_ast.specs.Typing.{Vars, Scope, with_vars}
use Rattle.krml_ast.proofs.Scopes.{cut_off}
use Rattle.krml_types.specs.Scopes.{cut_scope}

pub cut_back : (more : Vars) (g : Scope) → cut_scope (length g.vars) (with_vars more g) ≡ g
cut_back more g = ap (λ vars. record { vars = vars; frame = g.frame }) (cut_off more g.vars)
