-- Two runs, of one language or of two, of which the second follows the first.
-- A pass and the meanings around it are told apart by three things: the ends of the first run that the second has too, what
-- the first's events become, and where the second may trap though the first goes on. What the values and the memories have in common is a relation.
use Rattle.std.specs.Prelude.{◌≡◌, ◌⊎◌, Bool, true, false, List, ◌++◌}
use Rattle.krml_trace.specs.declared.why.Why.{Why}
use Rattle.krml_trace.specs.declared.why.Why.TheVariants.{Trapped}
use Rattle.krml_trace.specs.Run.{State, Ran, Goes, Ends}

-- Where the second run may trap while the first goes on: nowhere, or where this holds of the first's events so far, the newest first.
pub data Traps (E : Type 0) : Type 1 where
  Never : Traps E
  Where : (List E → Type 0) → Traps E

-- The ends of the first run that the second has too, what its events become, the newest first, and where the second may trap.
-- Where an end is not kept, nothing is said of the second run.
pub record Shares (E E' : Type 0) : Type 1 where
  pub keeps : Why → Bool
  pub events : List E → List E'
  pub traps : Traps E

-- The state of the second run beside one of the first, with a memory of its own: the ticks are the same, and the events are
-- those that the first's become.
abbrev pub beside : {E M E' M' : Type 0} → (List E → List E') → State E M → M' → State E' M'
beside events s m = record { ticks = s.ticks; memory = m; events = events s.events }

-- Events that came to be from others: there are more of them.
pub record Reaches (E : Type 0) (before after : List E) : Type 0 where
  pub newer : List E
  pub is : after ≡ newer ++ before

-- The second run trapped where the first had left these events and went on.
pub record HasTrapped {E E' M' A' : Type 0} (P : List E → Type 0) (events : List E → List E') (es : List E) (r : Ran E' M' A') : Type 0 where
  pub at : List E
  pub passed : Reaches E at es
  pub allowed : P at
  pub is : r ≡ Ends Trapped (events at)

-- this, or the second run trapped where it may
abbrev pub OrTrapped : {E E' M' A' : Type 0} → Traps E → (List E → List E') → List E → Ran E' M' A' → Type 0 → Type 0
OrTrapped Never events es r X = X
OrTrapped (Where P) events es r X = X ⊎ HasTrapped P events es r

-- this, where the end is kept
abbrev pub WhereKept : Bool → Type 0 → Type 0
WhereKept true X = X
WhereKept false X = Unit {0}

-- The second run goes on beside the first, and its value and memory stand to the first's as R says.
pub record Went {E M E' M' A A' : Type 0} (events : List E → List E') (R : A → State E M → A' → M' → Type 0) (a : A) (s : State E M) (r : Ran E' M' A') : Type 0 where
  pub to : A'
  pub memory : M'
  pub is : r ≡ Goes to (beside events s memory)
  pub holds : R a s to memory

-- with what the runs share, part by part
abbrev pub FollowsBy : {E M E' M' A A' : Type 0} → (Why → Bool) → (List E → List E') → Traps E → (A → State E M → A' → M' → Type 0) → Ran E M A → Ran E' M' A' → Type 0
FollowsBy keeps events t R (Goes a s) r = OrTrapped t events s.events r (Went events R a s r)
FollowsBy keeps events t R (Ends w es) r = WhereKept (keeps w) (OrTrapped t events es r (r ≡ Ends w (events es)))

-- The second run follows the first: it goes on where the first goes on, ends where it ends, or trapped on the way.
abbrev pub Follows : {E M E' M' A A' : Type 0} → Shares E E' → (A → State E M → A' → M' → Type 0) → Ran E M A → Ran E' M' A' → Type 0
Follows sh R r r' = FollowsBy sh.keeps sh.events sh.traps R r r'

-- The events of a run come to be from these: no step takes an event back.
abbrev pub Stays : {E M A : Type 0} → List E → Ran E M A → Type 0
Stays {E} es (Goes a s) = Reaches E es s.events
Stays {E} es (Ends w es') = Reaches E es es'

-- What a further step of the first run has to keep, so that a second run that has trapped still follows it.
abbrev pub TrapStays : {E M A : Type 0} → Traps E → List E → Ran E M A → Type 0
TrapStays Never es r = Unit {0}
TrapStays (Where P) es r = Stays es r
