-- Loops of runs under a bound, for any language.
use Rattle.std.specs.Prelude.{ℕ, zero, suc}
use Rattle.krml_trace.specs.declared.why.Why.TheVariants as why
use Rattle.krml_trace.specs.Run.{State, Ran, Goes, bind, ends, tick}

-- A turn of a loop leads to another turn from there, or the loop is over with a value.
pub data Turn (X A : Type 0) : Type 0 where
  Again : X → Turn X A
  Over : A → Turn X A

-- another turn costs a tick
abbrev pub turned : {E M X A : Type 0} → Turn X A → (X → State E M → Ran E M A) → State E M → Ran E M A
turned (Again y) next s = tick s (next y)
turned (Over a) next s = Goes a s

-- so many turns at most
abbrev pub turns : {E M X A : Type 0} → ℕ → (X → State E M → Ran E M (Turn X A)) → X → State E M → Ran E M A
turns zero turn x s = ends why.Spent s
turns (suc n) turn x s = bind (turn x s) (λ r s. turned r (turns n turn) s)

-- A loop from x on. It spends a tick a turn, so it has at most one turn more than there are ticks.
abbrev pub loop : {E M X A : Type 0} → (X → State E M → Ran E M (Turn X A)) → X → State E M → Ran E M A
loop turn x s = turns (suc s.ticks) turn x s
