use Rattle.std.proofs.Common.{◌≡◌, map, take}
use Rattle.std.specs.List.{sum_by}
use Rattle.krml_match.specs.Counted.{counted}
use Rattle.krml_match.proofs.leaves.of_fields.Given as goal

abbrev pub invariant-loop-field : goal.invariant-loop-field
invariant-loop-field l = l.all ≡ sum_by (counted l.counts l.names) (map (λ f. f.ty) (take l.field-index l.fields))
