use Rattle.std.proofs.Common.{◌≡◌}
use Rattle.std.specs.Iterator.Adapters.{zip_first, zip_second}
use Rattle.std.specs.Slice.Iter.{iter_rest}
use Rattle.krml_syntax.specs.Limits.{first_above, counts_each}
use Rattle.krml_limits.specs.Uncounted.{HasUncounted}
use Rattle.krml_limits.proofs.first.excess_each.Given as goal

abbrev pub invariant-loop-form : goal.invariant-loop-form
invariant-loop-form l = record {
  same : first_above l.limit (counts_each l.kind (iter_rest (zip_first l.form-iterator)) (iter_rest (zip_second l.form-iterator))) ≡ first_above l.limit (counts_each l.kind l.forms l.defs);
  past : HasUncounted (iter_rest (zip_first l.form-iterator)) → HasUncounted l.forms;
}
