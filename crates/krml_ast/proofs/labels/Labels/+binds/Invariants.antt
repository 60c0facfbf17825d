use Rattle.std.proofs.Common.{◌≡◌, map, drop}
use Rattle.krml_ast.specs.Labelled.{parts_bind, binds}
use Rattle.krml_ast.proofs.labels.Labels.+binds.Given as goal

abbrev pub invariant-bind_parts-loop-pat : goal.invariant-bind_parts-loop-pat
invariant-bind_parts-loop-pat l =
    parts_bind (map (binds l.self.names.now) (drop l.pat-index l.pats)) l.left l.vars
    ≡ parts_bind (map (binds l.initial.self.names.now) l.initial.pats) l.initial.types l.initial.vars
