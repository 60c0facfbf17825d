-- Runs under a bound, for events of any type E and memory of any type M: what the meaning of each language is made of.
-- A step takes a state. It goes on with a value and the next state, or it ends the run, and the events up to there stay.
use Rattle.std.specs.Prelude.{ℕ, zero, suc, Bool, true, false, List, ◌∷◌, reverse, Option, Some, None}
use Rattle.krml_trace.specs.declared.outcome.Outcome.{Outcome}
use Rattle.krml_trace.specs.declared.outcome.Outcome.TheVariants as outcome
use Rattle.krml_trace.specs.declared.why.Why.{Why}
use Rattle.krml_trace.specs.declared.why.Why.TheVariants as why

-- The ticks that are left, the language's memory, and the events so far, the newest first.
pub record State (E M : Type 0) : Type 0 where
  pub ticks : ℕ
  pub memory : M
  pub events : List E

-- A step went on with a value, or ended the run.
pub data Ran (E M A : Type 0) : Type 0 where
  Goes : A → State E M → Ran E M A
  Ends : Why → List E → Ran E M A

-- One step and then another, which has the value of the first.
abbrev pub bind : {E M A A' : Type 0} → Ran E M A → (A → State E M → Ran E M A') → Ran E M A'
bind (Goes a s) next = next a s
bind (Ends w es) next = Ends w es

-- the state with an event more
abbrev pub leave : {E M : Type 0} → E → State E M → State E M
leave e s = record s { events = e ∷ s.events }

-- the run ends here
abbrev pub ends : {E M A : Type 0} → Why → State E M → Ran E M A
ends w s = Ends w s.events

-- goes on with what is there, and ends where there is nothing
abbrev pub with_some : {E M A X : Type 0} → Why → Option X → State E M → (X → Ran E M A) → Ran E M A
with_some w None s next = ends w s
with_some w (Some x) s next = next x

-- goes on where the test holds
abbrev pub check : {E M A : Type 0} → Why → Bool → State E M → Ran E M A → Ran E M A
check w true s next = next
check w false s next = ends w s

-- one of n ticks
abbrev pub spend : {E M A : Type 0} → ℕ → State E M → (State E M → Ran E M A) → Ran E M A
spend zero s next = ends why.Spent s
spend (suc n) s next = next (record s { ticks = n })

-- A tick is spent. Where none is left, the run ends.
abbrev pub tick : {E M A : Type 0} → State E M → (State E M → Ran E M A) → Ran E M A
tick s next = spend s.ticks s next

abbrev pub ended : Why → Outcome
ended why.Spent = outcome.Spent
ended why.Deep = outcome.Deep
ended (why.Stuck cause) = outcome.Stuck cause
ended why.Undefined = outcome.Undefined
ended why.Trapped = outcome.Trapped

-- The outcome of a run: `done` says what it is where the run goes on to its end.
abbrev pub outcome_of : {E M A : Type 0} → (A → State E M → Outcome) → Ran E M A → Outcome
outcome_of done (Goes a s) = done a s
outcome_of done (Ends w es) = ended w

-- The events of a run, the oldest first.
abbrev pub events_of : {E M A : Type 0} → Ran E M A → List E
events_of (Goes a s) = reverse s.events
events_of (Ends w es) = reverse es

-- Done, spent or deep.
abbrev pub NotStuck : Outcome → Type 0
NotStuck (outcome.Done result buffers) = Unit {0}
NotStuck outcome.Spent = Unit {0}
NotStuck outcome.Deep = Unit {0}
NotStuck (outcome.Stuck cause) = ⊥
NotStuck outcome.Undefined = ⊥
NotStuck outcome.Trapped = ⊥
