-- Variables in scope, as the emitter has them.
use Rattle.std.specs.Prelude.{ℕ, ◌-◌, List, [], ◌∷◌, drop, length}
use Rattle.krml_cstar.specs.declared.locals.Local.{Local}
use Rattle.krml_cstar.specs.Variables.{KnownVars, Known}

-- a variable behind references
abbrev pub known : Local → Known
known l = record { name = l.name.now; emitted = l.emitted; ty = l.ty }

-- the oldest n variables
abbrev pub cut : ℕ → KnownVars → KnownVars
cut n names = drop (length names - n) names

-- each variable's name with its place, from the oldest on
abbrev pub placed : KnownVars → List (List ℕ × ℕ)
placed [] = []
placed (k ∷ names) = (k.name, length names) ∷ placed names
