use Rattle.std.proofs.Common.{◌≡◌, drop}
use Rattle.std.specs.List.{flat_map}
use Rattle.krml_syntax.specs.Limits.{first_above, alloc_lengths}
use Rattle.krml_limits.proofs.elements.+elements.Given as goal

abbrev pub invariant-long_alloc_of-loop-form : goal.invariant-long_alloc_of-loop-form
invariant-long_alloc_of-loop-form l = first_above l.limit (flat_map alloc_lengths (drop l.form-index l.forms)) ≡ first_above l.limit (flat_map alloc_lengths l.forms)
