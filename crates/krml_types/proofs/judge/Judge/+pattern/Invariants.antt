-- The patterns behind bind what all of them do, in a scope with the variables so far.
use Rattle.std.proofs.Common.{◌≡◌, List, map, drop}
use Rattle.krml_syntax.specs.declared.tree.Ty.{Ty}
use Rattle.krml_intern.specs.Table.{Grows}
use Rattle.krml_types.specs.Judging.{AreParts, in_scope}
use Rattle.krml_types.specs.Patterns.{binds, parts_bind}
use Rattle.krml_types.proofs.judge.Judge.+pattern.Given as goal

abbrev pub invariant-bind_parts-loop-j : goal.invariant-bind_parts-loop-j
invariant-bind_parts-loop-j l =
    (l.self.place ≡ in_scope l.fn.self.place (record { vars = l.self.place.scope.vars; frame = l.fn.self.place.scope.frame })) × Grows l.fn.self.table l.self.table
    × ((types : List Ty) → AreParts l.fn.self.table l.fn.self.place.defs l.kind l.k types
    → parts_bind (map (binds l.fn.self.place.defs) (drop l.j l.pats)) (drop l.j types) l.self.place.scope.vars
    ≡ parts_bind (map (binds l.fn.self.place.defs) l.pats) types l.fn.self.place.scope.vars)
