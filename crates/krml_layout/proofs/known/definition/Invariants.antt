use Rattle.std.proofs.Common.{◌≡◌, List, ◌++◌, length}
use Rattle.krml_syntax.specs.declared.tree.Def.{Def}
use Rattle.krml_ast.specs.Names.{type_named}
use Rattle.krml_layout.proofs.known.definition.Given as goal

abbrev pub invariant-loop-left : goal.invariant-loop-left
invariant-loop-left l = (after : List Def) × (l.left ++ after ≡ l.defs) × (type_named l.left l.x ≡ type_named l.defs l.x)

abbrev pub decreases-loop-left : goal.decreases-loop-left
decreases-loop-left l = length l.left
