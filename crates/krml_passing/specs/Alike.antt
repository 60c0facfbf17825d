-- Runs of the source side by side, before a pass and after it: the second follows the first, in the image of its state.
-- What else is said of the values and the memory where a run goes on, is a relation that the pass chooses.
use Rattle.std.specs.Prelude.{◌≡◌, ℕ, List, map}
use Rattle.krml_trace.specs.Follows.{Shares, Never, Follows}
use Rattle.krml_syntax.specs.declared.tree.Slot.{Slot}
use Rattle.krml_ast.specs.declared.event.SourceEvent.{SourceEvent}
use Rattle.krml_meaning.specs.declared.value.Value.{Value}
use Rattle.krml_meaning.specs.State.{Block, SourceState, SourceRan, Env, Sem}
use Rattle.krml_meaning.specs.Numbered.{Numbered}
use Rattle.krml_meaning.specs.Meaning as src
use Rattle.krml_passing.specs.Images.{Images, memory_image, events_image, state_image}

-- ---- runs

-- What is said of two values, one of each run, and of the first run's memory.
abbrev pub Both : Type 0 → Type 0 → Type 1
Both A A' = A → A' → List Block → Type 0

-- The second memory is the image of the first's, and this holds.
pub record InImage (im : Images) {A A' : Type 0} (R : Both A A') (a : A) (s : SourceState) (b : A') (m : List Block) : Type 0 where
  pub memory : m ≡ memory_image im s.memory
  pub holds : R a b s.memory

abbrev pub shared : Images → Shares SourceEvent SourceEvent
shared im = record { keeps = im.keeps; events = events_image im; traps = Never }

-- The second run is like the first: where the first goes on, it goes on in the image of the state, with values of which this
-- holds; where the first ends and the end is kept, it ends for the same reason, with the images of the events.
abbrev pub Alike : (im : Images) {A A' : Type 0} → Both A A' → SourceRan A → SourceRan A' → Type 0
Alike im R r r' = Follows (shared im) (InImage im R) r r'

-- ---- expressions

-- How the scopes of two expressions stand to one another, over a memory of the first run.
abbrev pub Scopes : Type 1
Scopes = Env → Env → List Block → Type 0

-- What is said of a value of the first run, or of several.
abbrev pub Of : Type 0 → Type 1
Of A = A → List Block → Type 0

-- nothing
abbrev pub any : {A : Type 0} → Of A
any x m = Unit {0}

module _ (im : Images) where
  -- the second value is the image of the first
  abbrev pub IsImage : Both Value Value
  IsImage x x' m = x' ≡ im.value x

  -- so it is, this holds of the first, and the scopes still stand to one another
  abbrev pub Gives : Scopes → Of Value → Env → Env → Both Value Value
  Gives I P env env' x x' m = (x' ≡ im.value x) × P x m × I env env' m

  abbrev pub GivesAll : Scopes → Of (List Value) → Env → Env → Both (List Value) (List Value)
  GivesAll I P env env' xs xs' m = (xs' ≡ map im.value xs) × P xs m × I env env' m

  -- The second expression does what the first does, from scopes that stand so to one another.
  pub record Same (I : Scopes) (a a' : Sem) : Type 0 where
    pub run : (env env' : Env) (s : SourceState) → I env env' s.memory → Alike im IsImage (a env s) (a' env' (state_image im s))

  -- It does, and where it goes on, this holds of its value, and the scopes still stand so in the memory that it leaves.
  pub record Does (I : Scopes) (P : Of Value) (a a' : Sem) : Type 0 where
    pub run : (env env' : Env) (s : SourceState) → I env env' s.memory
        → Alike im (Gives I P env env') (a env s) (a' env' (state_image im s))

  -- The same of several, from left to right.
  pub record DoAll (I : Scopes) (P : Of (List Value)) (es es' : List Sem) : Type 0 where
    pub run : (env env' : Env) (s : SourceState) → I env env' s.memory
        → Alike im (GivesAll I P env env') (src.values es env s) (src.values es' env' (state_image im s))

  -- What stands in a `do` leads to scopes that stand to one another as J says.
  pub record Leads (I J : Scopes) (step step' : src.Step) : Type 0 where
    pub run : (env env' : Env) (s : SourceState) → I env env' s.memory → Alike im J (step env s) (step' env' (state_image im s))

-- What something means stands so to what the other means, wherever its slots are numbered from; the slots become others, and
-- are as many.
pub record SameOf (slot : Slot → Slot) {A B : Type 0} (R : A → B → Type 0) (n : Numbered A) (n' : Numbered B) : Type 0 where
  pub slots : n'.slots ≡ map slot n.slots
  pub from : (k : ℕ) → R (n.from k) (n'.from k)
