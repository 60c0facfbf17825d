-- Two runs side by side: a run of a target does what a run of a source does, unless the source is stuck.
-- It is the following of runs (`Follows`) where want of ticks and of levels is kept, the second run does not trap, and its memory is a
-- function of the first's. So the target's state is the image of the source's, and both have the same ticks.
use Rattle.std.proofs.Common.{◌≡◌, ℕ, Bool, true, false, if◌then◌else◌, List, Option, Some, None, refl}
use Rattle.krml_trace.specs.declared.outcome.Cause.{Cause}
use Rattle.krml_trace.specs.declared.why.Why.{Why}
use Rattle.krml_trace.specs.declared.why.Why.TheVariants as why
use Rattle.krml_trace.specs.Run.{State, Ran, Goes, bind, with_some, check, tick}
use Rattle.krml_trace.specs.After.{After}
use Rattle.krml_trace.specs.Loop.{Turn, Again, Over, loop}
use Rattle.krml_trace.specs.Follows.{Shares, Never, beside, Follows}
use Rattle.krml_trace.proofs.After.{Turned}
use Rattle.krml_trace.proofs.Follows as follow

-- What events, the newest first, and memory become.
pub record Image (E M E' M' : Type 0) : Type 0 where
  pub events : List E → List E'
  pub memory : M → M'

-- What a state becomes.
abbrev pub image_state : {E M E' M' : Type 0} → Image E M E' M' → State E M → State E' M'
image_state im s = beside im.events s (im.memory s.memory)

-- the ends that are kept: not those of a run that is stuck
abbrev pub unless_stuck : Why → Bool
unless_stuck why.Spent = true
unless_stuck why.Deep = true
unless_stuck (why.Stuck c) = false
unless_stuck why.Undefined = false
unless_stuck why.Trapped = false

abbrev pub shared : {E M E' M' : Type 0} → Image E M E' M' → Shares E E'
shared im = record { keeps = unless_stuck; events = im.events; traps = Never }

-- The second memory is the image of the first's, and the values stand to one another as R says.
pub record InImage {E M E' M' A A' : Type 0} (im : Image E M E' M') (R : A → A' → Type 0) (a : A) (s : State E M) (b : A') (m : M') : Type 0 where
  pub memory : m ≡ im.memory s.memory
  pub value : R a b

-- The second run does what the first does. Nothing is said where the first is stuck.
abbrev pub Simulates : {E M E' M' A A' : Type 0} → Image E M E' M' → (A → A' → Type 0) → Ran E M A → Ran E' M' A' → Type 0
Simulates im R r r' = Follows (shared im) (InImage im R) r r'

module _ {E M E' M' : Type 0} (im : Image E M E' M') where
  -- what is shown of the image of a state is shown of each memory beside it that is the image
  in_image : {A A' C C' : Type 0} (R : A → A' → Type 0) (Q : C → C' → Type 0) (r : Ran E M C) (go' : A' → State E' M' → Ran E' M' C') (a : A) (s : State E M) (b : A') (m : M')
      → InImage im R a s b m → (R a b → Simulates im Q r (go' b (image_state im s))) → Simulates im Q r (go' b (beside im.events s m))
  in_image R Q r go' a s b m i k = rw i.memory (k i.value)

  -- both go on
  pub goes : {A A' : Type 0} (R : A → A' → Type 0) (a : A) (b : A') (s : State E M) → R a b → Simulates im R (Goes a s) (Goes b (image_state im s))
  goes R a b s h = follow.follows_goes (shared im) (InImage im R) a s b (im.memory s.memory) (record { memory = refl; value = h })

  -- both have a further step
  pub sim_bind : {A A' C C' : Type 0} (R : A → A' → Type 0) (Q : C → C' → Type 0) (r : Ran E M A) (r' : Ran E' M' A') (go : A → State E M → Ran E M C) (go' : A' → State E' M' → Ran E' M' C')
      → Simulates im R r r' → ((a : A) (b : A') (s : State E M) → R a b → Simulates im Q (go a s) (go' b (image_state im s))) → Simulates im Q (bind r go) (bind r' go')
  sim_bind R Q r r' go go' h k = follow.follows_bind (shared im) (InImage im R) (InImage im Q) r r' go go' (λ a s. tt) h (λ a s b m i. in_image R Q (go a s) go' a s b m i (k a b s))

  -- only the source has a further step
  pub sim_last : {A A' C : Type 0} (R : A → A' → Type 0) (Q : C → A' → Type 0) (r : Ran E M A) (r' : Ran E' M' A') (go : A → State E M → Ran E M C)
      → Simulates im R r r' → ((a : A) (b : A') (s : State E M) → R a b → Simulates im Q (go a s) (Goes b (image_state im s))) → Simulates im Q (bind r go) r'
  sim_last R Q r r' go h k = follow.follows_last (shared im) (InImage im R) (InImage im Q) r r' go (λ a s. tt) h (λ a s b m i. in_image R Q (go a s) (λ b s. Goes b s) a s b m i (k a b s))

  -- only the target has a further step
  pub sim_more : {A A' C' : Type 0} (R : A → A' → Type 0) (Q : A → C' → Type 0) (r : Ran E M A) (r' : Ran E' M' A') (go' : A' → State E' M' → Ran E' M' C')
      → Simulates im R r r' → ((a : A) (b : A') (s : State E M) → R a b → Simulates im Q (Goes a s) (go' b (image_state im s))) → Simulates im Q r (bind r' go')
  sim_more R Q r r' go' h k = follow.follows_more (shared im) (InImage im R) (InImage im Q) r r' go' h (λ a s b m i. in_image R Q (Goes a s) go' a s b m i (k a b s))

  -- the target's last step gives back what it has
  pub sim_end : {A A' : Type 0} (Q : A → A' → Type 0) (r : Ran E M A) (r' : Ran E' M' A') → Simulates im Q r r' → Simulates im Q r (bind r' (λ b s. Goes b s))
  sim_end Q r r' h = sim_more Q Q r r' (λ b s. Goes b s) h (λ a b s q. goes Q a b s q)

  -- the source goes on with what is there; where there is nothing, it is stuck
  pub sim_some : {A A' X : Type 0} (Q : A → A' → Type 0) (o : Option X) (s : State E M) (go : X → Ran E M A) (r' : Ran E' M' A')
      → ((x : X) → o ≡ Some x → Simulates im Q (go x) r') → Simulates im Q (with_some why.Undefined o s go) r'
  sim_some Q None s go r' k = tt
  sim_some Q (Some x) s go r' k = k x refl

  -- both spend a tick
  pub sim_tick : {A A' : Type 0} (Q : A → A' → Type 0) (s : State E M) (go : State E M → Ran E M A) (go' : State E' M' → Ran E' M' A')
      → ((s : State E M) → Simulates im Q (go s) (go' (image_state im s))) → Simulates im Q (tick s go) (tick (image_state im s) go')
  sim_tick Q s go go' k = follow.follows_tick (shared im) (InImage im Q) s (im.memory s.memory) go go' (λ n. k (record s { ticks = n }))

  -- with what is known of the source's own run
  known : {A A' : Type 0} (P : A → State E M → Type 0) (R : A → A' → Type 0) (r : Ran E M A) (r' : Ran E' M' A') → After P r → Simulates im R r r'
      → Follows (shared im) (λ a s b m. P a s × InImage im R a s b m) r r'
  known P R r r' p h = follow.follows_after (shared im) P (InImage im R) r r' p h

-- The same with what is known of the source's own run, which is handed on: that is where the soundness of its typing comes in.
module _ {E M E' M' : Type 0} (im : Image E M E' M') where
  pub sim_bind_after : {A A' C C' : Type 0} (P : A → State E M → Type 0) (R : A → A' → Type 0) (Q : C → C' → Type 0) (r : Ran E M A) (r' : Ran E' M' A')
      (go : A → State E M → Ran E M C) (go' : A' → State E' M' → Ran E' M' C') → After P r → Simulates im R r r'
      → ((a : A) (b : A') (s : State E M) → P a s → R a b → Simulates im Q (go a s) (go' b (image_state im s))) → Simulates im Q (bind r go) (bind r' go')
  sim_bind_after P R Q r r' go go' p h k = follow.follows_bind (shared im) (λ a s b m. P a s × InImage im R a s b m) (InImage im Q) r r' go go' (λ a s. tt) (known im P R r r' p h)
      (λ a s b m i. in_image im R Q (go a s) go' a s b m i.1 (k a b s i.0))

  pub sim_last_after : {A A' C : Type 0} (P : A → State E M → Type 0) (R : A → A' → Type 0) (Q : C → A' → Type 0) (r : Ran E M A) (r' : Ran E' M' A')
      (go : A → State E M → Ran E M C) → After P r → Simulates im R r r'
      → ((a : A) (b : A') (s : State E M) → P a s → R a b → Simulates im Q (go a s) (Goes b (image_state im s))) → Simulates im Q (bind r go) r'
  sim_last_after P R Q r r' go p h k = follow.follows_last (shared im) (λ a s b m. P a s × InImage im R a s b m) (InImage im Q) r r' go (λ a s. tt) (known im P R r r' p h)
      (λ a s b m i. in_image im R Q (go a s) (λ b s. Goes b s) a s b m i.1 (k a b s i.0))

  pub sim_more_after : {A A' C' : Type 0} (P : A → State E M → Type 0) (R : A → A' → Type 0) (Q : A → C' → Type 0) (r : Ran E M A) (r' : Ran E' M' A')
      (go' : A' → State E' M' → Ran E' M' C') → After P r → Simulates im R r r'
      → ((a : A) (b : A') (s : State E M) → P a s → R a b → Simulates im Q (Goes a s) (go' b (image_state im s))) → Simulates im Q r (bind r' go')
  sim_more_after P R Q r r' go' p h k = follow.follows_more (shared im) (λ a s b m. P a s × InImage im R a s b m) (InImage im Q) r r' go' (known im P R r r' p h)
      (λ a s b m i. in_image im R Q (Goes a s) go' a s b m i.1 (k a b s i.0))

  -- the values stand to one another in a weaker way
  pub sim_so : {A A' : Type 0} (R Q : A → A' → Type 0) (r : Ran E M A) (r' : Ran E' M' A') → Simulates im R r r' → ((a : A) (b : A') → R a b → Q a b) → Simulates im Q r r'
  sim_so R Q r r' h k = follow.follows_so (shared im) (InImage im R) (InImage im Q) r r' h (λ a s b m i. record { memory = i.memory; value = k a b i.value })

  -- where there is nothing, or the test fails, the source is stuck
  pub sim_found : {A A' X : Type 0} (Q : A → A' → Type 0) (c : Cause) (o : Option X) (s : State E M) (go : X → Ran E M A) (r' : Ran E' M' A')
      → ((x : X) → o ≡ Some x → Simulates im Q (go x) r') → Simulates im Q (with_some (why.Stuck c) o s go) r'
  sim_found Q c None s go r' k = tt
  sim_found Q c (Some x) s go r' k = k x refl

  pub sim_check : {A A' : Type 0} (Q : A → A' → Type 0) (c : Cause) (b : Bool) (s : State E M) (r : Ran E M A) (r' : Ran E' M' A')
      → (b ≡ true → Simulates im Q r r') → Simulates im Q (check (why.Stuck c) b s r) r'
  sim_check Q c true s r r' k = k refl
  sim_check Q c false s r r' k = tt

  -- both take the same branch
  pub sim_if : {A A' : Type 0} (Q : A → A' → Type 0) (b : Bool) (r u : Ran E M A) (r' u' : Ran E' M' A') → (b ≡ true → Simulates im Q r r') → (b ≡ false → Simulates im Q u u')
      → Simulates im Q (if b then r else u) (if b then r' else u')
  sim_if Q b r u r' u' h k = follow.follows_if (shared im) (InImage im Q) b r u r' u' h k

-- Loops side by side. Each turn of the source keeps I, and each turn of the target does what the source's does.
module _ {E M E' M' X X' A A' : Type 0} (im : Image E M E' M') (R : X → X' → Type 0) (Q : A → A' → Type 0) where
  -- both go on, or both are over
  abbrev pub BothTurned : Turn X A → Turn X' A' → Type 0
  BothTurned (Again x) (Again y) = R x y
  BothTurned (Over a) (Over b) = Q a b
  BothTurned (Again x) (Over b) = ⊥
  BothTurned (Over a) (Again y) = ⊥

  module _ (I : X → State E M → Type 0) (turn : X → State E M → Ran E M (Turn X A)) (turn' : X' → State E' M' → Ran E' M' (Turn X' A'))
      (on : (x : X) (s : State E M) (n : ℕ) → I x s → I x (record s { ticks = n }))
      (kept : (x : X) (s : State E M) → I x s → After (Turned I (λ a s. Unit {0})) (turn x s))
      (each : (x : X) (y : X') (s : State E M) → I x s → R x y → Simulates im BothTurned (turn x s) (turn' y (image_state im s))) where
    -- the next turn's start in the image, with what the source keeps
    abbrev Starts : X → State E M → X' → M' → Type 0
    Starts x s y m = I x s × InImage im R x s y m

    both : (t : Turn X A) (s : State E M) (t' : Turn X' A') (m : M') → Turned I (λ a s. Unit {0}) t s × InImage im BothTurned t s t' m
        → follow.BothTurned (shared im) Starts (InImage im Q) turn turn' t s t' m
    both (Again x) s (Again y) m h = (h.0, record { memory = h.1.memory; value = h.1.value })
    both (Over a) s (Over b) m h = record { memory = h.1.memory; value = h.1.value }
    both (Again x) s (Over b) m h = absurd h.1.value
    both (Over a) s (Again y) m h = absurd h.1.value

    turn_follows : (x : X) (s : State E M) (y : X') (m : M') → Starts x s y m
        → Follows (shared im) (follow.BothTurned (shared im) Starts (InImage im Q) turn turn') (turn x s) (turn' y (beside im.events s m))
    turn_follows x s y m h = follow.follows_so (shared im) _ (follow.BothTurned (shared im) Starts (InImage im Q) turn turn') (turn x s) (turn' y (beside im.events s m))
        (known im (Turned I (λ a s. Unit {0})) BothTurned (turn x s) (turn' y (beside im.events s m)) (kept x s h.0)
        (in_image im R BothTurned (turn x s) turn' x s y m h.1 (each x y s h.0))) both

    pub loop_sim : (x : X) (y : X') (s : State E M) → I x s → R x y → Simulates im Q (loop turn x s) (loop turn' y (image_state im s))
    loop_sim x y s i h = follow.loops_follow (shared im) Starts (InImage im Q) turn turn' (λ x s y m n k. (on x s n k.0, record { memory = k.1.memory; value = k.1.value })) (λ n t s. tt) turn_follows
        x s y (im.memory s.memory) (i, record { memory = refl; value = h })
