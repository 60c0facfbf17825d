-- Calls at every level, by induction.
use Rattle.std.proofs.Common.{ℕ, zero, suc}
use Rattle.krml_trace.specs.Run.{State, Ran, ends}
use Rattle.krml_trace.specs.declared.why.Why.TheVariants.{Deep}
use Rattle.krml_trace.specs.Levels.{within}

-- What holds of calls for which no level is left, and of a body where it holds of the calls in it, holds at every level.
pub within_holds : {E M X A : Type 0} (H : (X → State E M → Ran E M A) → Type 0) (body : (X → State E M → Ran E M A) → X → State E M → Ran E M A)
    → H (λ x s. ends Deep s) → ((calls : X → State E M → Ran E M A) → H calls → H (body calls)) → (levels : ℕ) → H (within body levels)
within_holds H body none more zero = none
within_holds H body none more (suc levels) = more (within body levels) (within_holds H body none more levels)

-- The same of the calls of two languages with as many levels.
pub within_both : {E M X A E' M' X' A' : Type 0} (H : (X → State E M → Ran E M A) → (X' → State E' M' → Ran E' M' A') → Type 0)
    (body : (X → State E M → Ran E M A) → X → State E M → Ran E M A) (body' : (X' → State E' M' → Ran E' M' A') → X' → State E' M' → Ran E' M' A')
    → H (λ x s. ends Deep s) (λ y s. ends Deep s)
    → ((calls : X → State E M → Ran E M A) (calls' : X' → State E' M' → Ran E' M' A') → H calls calls' → H (body calls) (body' calls'))
    → (levels : ℕ) → H (within body levels) (within body' levels)
within_both H body body' none more zero = none
within_both H body body' none more (suc levels) = more (within body levels) (within body' levels) (within_both H body body' none more levels)
