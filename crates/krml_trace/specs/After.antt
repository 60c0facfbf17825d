-- What holds where a run goes on.
use Rattle.krml_trace.specs.declared.why.Why.TheVariants.{Spent, Deep, Stuck, Undefined, Trapped}
use Rattle.krml_trace.specs.Run.{State, Ran, Goes, Ends}

-- Where a run goes on, this holds of its value and state. Where it ends, that is for want of ticks or levels, or because it
-- is stuck: never Undefined, and never Trapped.
abbrev pub After : {E M A : Type 0} → (A → State E M → Type 0) → Ran E M A → Type 0
After P (Goes a s) = P a s
After P (Ends Undefined es) = ⊥
After P (Ends Trapped es) = ⊥
After P (Ends Spent es) = Unit {0}
After P (Ends Deep es) = Unit {0}
After P (Ends (Stuck c) es) = Unit {0}
