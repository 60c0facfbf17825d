-- How a host calls a program of any language: arguments go in, and at the end the result and what the arguments' blocks hold
-- come out. E are the language's events, X what a function is given for an argument, B its blocks, F its functions, R their
-- results, and W what a run comes to.
use Rattle.std.specs.Prelude.{ℕ, List, [], ◌∷◌, ◌++◌, map, length, take, Option, Some, None, IsSome, unwrap_or}
use Rattle.krml_trace.specs.declared.argument.Arg.{Arg}
use Rattle.krml_trace.specs.declared.arguments.Arguments.{Arguments}
use Rattle.krml_trace.specs.declared.bound.Bound.{Bound}
use Rattle.krml_trace.specs.declared.outcome.Outcome.{Outcome}
use Rattle.krml_trace.specs.declared.outcome.Outcome.TheVariants as outcome
use Rattle.krml_trace.specs.Run.{State, Ran, outcome_of, events_of}

-- ---- arguments

-- What an argument is in a language: what the function is given, or that with a block and an event. A block is the next one,
-- and what is given and the event tell its number.
pub data Passing (E X B : Type 0) : Type 0 where
  Plain : X → Passing E X B
  Buffer : (ℕ → X) → B → (ℕ → E) → Passing E X B

-- What arguments come to: what the function is given, the last one first, the blocks, and their events, the newest first.
pub record Passed (E X B : Type 0) : Type 0 where
  pub given : List X
  pub memory : List B
  pub events : List E

abbrev pub nothing : {E X B : Type 0} → Passed E X B
nothing = record { given = []; memory = []; events = [] }

abbrev pub pass : {E X B : Type 0} → Passed E X B → Passing E X B → Passed E X B
pass p (Plain x) = record p { given = x ∷ p.given }
pass p (Buffer x b e) = record { given = x (length p.memory) ∷ p.given; memory = p.memory ++ b ∷ []; events = e (length p.memory) ∷ p.events }

-- arguments from left to right
abbrev pub pass_all : {E X B : Type 0} → Passed E X B → List (Passing E X B) → Passed E X B
pass_all p [] = p
pass_all p (a ∷ args) = pass_all (pass p a) args

abbrev pub passed : {E X B : Type 0} → List (Passing E X B) → Passed E X B
passed args = pass_all nothing args

-- What a run begins with: a function, and what its arguments come to.
pub record Start (E X B F : Type 0) : Type 0 where
  pub function : F
  pub passed : Passed E X B

-- ---- results

-- What a host sees at the end: a result as a number, where there is one, the numbers of a block, where it has them, and what
-- an outcome and events are as a run.
pub record Seen (E B R W : Type 0) : Type 0 where
  pub scalar : R → Option ℕ
  pub numbers : B → List (Option ℕ)
  pub run : Outcome → List E → W

-- the final contents of a block, with 0 for an element that has no number
abbrev pub contents : {E B R W : Type 0} → Seen E B R W → B → List ℕ
contents seen b = map (λ n. unwrap_or n 0) (seen.numbers b)

-- A run that went to its end is done with its result, and the first so many blocks, which are the arguments'.
abbrev pub done : {E B R W : Type 0} → Seen E B R W → ℕ → R → State E (List B) → Outcome
done seen buffers r s = outcome.Done (seen.scalar r) (map (contents seen) (take buffers s.memory))

-- what is seen of a run
abbrev pub run_of : {E B R W : Type 0} → Seen E B R W → ℕ → Ran E (List B) R → W
run_of seen buffers r = seen.run (outcome_of (done seen buffers) r) (events_of r)

-- ---- runs

-- A program, as a host calls it: the start of an entry on arguments, where the program has that entry and the arguments fit
-- it, and what the function of a start does with so many levels left.
pub record Program (E X B F R : Type 0) : Type 0 where
  pub start : List ℕ → List Arg → Option (Start E X B F)
  pub enter : ℕ → Start E X B F → State E (List B) → Ran E (List B) R

-- The arguments fit an entry of the program.
abbrev pub ArgumentsFit : {E X B F R : Type 0} → Program E X B F R → List ℕ → Arguments → Type 0
ArgumentsFit p entry args = IsSome (p.start entry args.items)

-- the state that a run begins in
abbrev pub begin : {E X B : Type 0} → Bound → Passed E X B → State E (List B)
begin bound p = record { ticks = bound.ticks; memory = p.memory; events = p.events }

abbrev pub run_from : {E X B F R : Type 0} → Program E X B F R → Bound → Start E X B F → Ran E (List B) R
run_from p bound b = p.enter bound.depth b (begin bound b.passed)

abbrev pub run_started : {E X B F R W : Type 0} → Seen E B R W → Program E X B F R → Bound → Option (Start E X B F) → W
run_started seen p bound (Some b) = run_of seen (length b.passed.memory) (run_from p bound b)
run_started seen p bound None = seen.run outcome.Undefined []

-- The run of an entry on arguments under a bound. Where there is no such entry, or the arguments do not fit it, the run is
-- Undefined and has no events.
abbrev pub run : {E X B F R W : Type 0} → Seen E B R W → Program E X B F R → List ℕ → Arguments → Bound → W
run seen p entry args bound = run_started seen p bound (p.start entry args.items)
