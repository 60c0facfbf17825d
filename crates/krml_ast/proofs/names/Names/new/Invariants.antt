use Rattle.std.proofs.Common.{◌≡◌, ℕ, List, take}
use Rattle.krml_ast.specs.declared.kind.NameKind.{NameKind}
use Rattle.krml_ast.specs.Found.{has_of}
use Rattle.krml_ast.specs.Places.{place_of}
use Rattle.krml_ast.proofs.names.Names.new.Given as goal

abbrev pub invariant-loop-k : goal.invariant-loop-k
invariant-loop-k l = (kind : NameKind) (x : List ℕ) → has_of kind l.places x ≡ place_of kind (take l.k l.defs) x
