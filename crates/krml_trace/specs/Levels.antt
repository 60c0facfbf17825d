-- Calls under a bound, for any language.
use Rattle.std.specs.Prelude.{ℕ, zero, suc}
use Rattle.krml_trace.specs.declared.why.Why.TheVariants.{Deep}
use Rattle.krml_trace.specs.Run.{State, Ran, ends}

-- What calls of a language mean: X is what is called, and A what it gives.
abbrev pub Calls : (E M X A : Type 0) → Type 0
Calls E M X A = X → State E M → Ran E M A

-- What a call means with so many levels left: what its body means, where the calls in that are one level deeper. A call for
-- which no level is left ends the run.
abbrev pub within : {E M X A : Type 0} → (Calls E M X A → Calls E M X A) → ℕ → Calls E M X A
within body zero x s = ends Deep s
within body (suc levels) x s = body (within body levels) x s
