use Rattle.std.proofs.Common.{◌≡◌, ℕ, List, drop}
use Rattle.krml_ast.specs.Found.{has}
use Rattle.krml_ast.specs.Places.{is_among, cons_of, place_or}
use Rattle.krml_ast.proofs.first_places.FirstPlaces.add_cons.Given as goal

abbrev pub invariant-loop-con : goal.invariant-loop-con
invariant-loop-con l = (x : List ℕ) → place_or (has l.self x) (is_among (cons_of (drop l.con-index l.cons)) x) l.place
    ≡ place_or (has l.initial.self x) (is_among (cons_of l.cons) x) l.place
