use Rattle.std.proofs.Common.{inr, sym, ◌∙◌, subst}
use Rattle.std.specs.Iterator.Adapters.{zip_first, zip_second}
use Rattle.std.specs.Slice.Iter.{iter_rest}
use Rattle.std.proofs.lemmas.Slice.Zip.{either_empty_from_Zip}
use Rattle.krml_syntax.specs.Limits.{first_above, counts_each}
use Rattle.krml_limits.specs.Uncounted.{HasUncounted}
use Rattle.krml_limits.proofs.Above.{pair_finds, pair_goes, pairs_end}
use Rattle.krml_limits.proofs.first.excess_each.Goals as goal

pub returns-in-Some-2-clause-first : goal.returns-in-Some-2-clause-first
returns-in-Some-2-clause-first c =
    pair_finds c.args.kind c.args.limit _ (iter_rest (zip_first c.next.new.self)) _ (iter_rest (zip_second c.next.new.self)) c.in-Some.form.now c.in-Some.def.now c.in-Some-2.count _
    c.in-Some.ensures.steps.0 c.in-Some.ensures.steps.1 c.loop-form.invariant.same (sym c.in_ok-count.ensures.first ∙ c.in-Some-2.is)

pub loop-form-preserved : goal.loop-form-preserved
loop-form-preserved c = record {
  same = pair_goes c.args.kind c.args.limit (iter_rest (zip_first c.loop-form.form-iterator)) (iter_rest (zip_first c.next.new.self)) (iter_rest (zip_second c.loop-form.form-iterator)) (iter_rest (zip_second c.next.new.self)) c.in-Some.form.now c.in-Some.def.now (first_above c.args.limit (counts_each c.args.kind c.args.forms.now c.args.defs.now))
      c.in-Some.ensures.steps.0 c.in-Some.ensures.steps.1 c.loop-form.invariant.same (sym c.in_ok-count.ensures.first ∙ c.in_default.is);
  past = λ more. c.loop-form.invariant.past (subst HasUncounted (sym c.in-Some.ensures.steps.0) (inr more));
}

pub returns-clause-first : goal.returns-clause-first
returns-clause-first c =
    pairs_end c.args.kind c.args.limit (iter_rest (zip_first c.loop-form.form-iterator)) (iter_rest (zip_second c.loop-form.form-iterator)) _
    (either_empty_from_Zip c.loop-form.form-iterator c.next.new.self c.next.result c.in-None.is c.next.ensures.steps) c.loop-form.invariant.same
