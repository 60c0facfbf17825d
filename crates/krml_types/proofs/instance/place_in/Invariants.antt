-- The place of the first field of a name, counted from where the search is.
use Rattle.std.proofs.Common.{◌≡◌, ◌+◌, drop, option_map}
use Rattle.krml_types.specs.Judging.{place_in}
use Rattle.krml_types.proofs.instance.place_in.Given as goal

abbrev pub invariant-loop-j : goal.invariant-loop-j
invariant-loop-j l = place_in l.fields l.y ≡ option_map (λ k. l.j + k) (place_in (drop l.j l.fields) l.y)
