-- Laws of runs that are alike: steps in a row, tests, look-ups and loops side by side.
use Rattle.std.proofs.Common.{◌≡◌, ℕ, Bool, if◌then◌else◌, List, Option, Some, None, option_map, refl, sym, subst}
use Rattle.krml_trace.specs.declared.why.Why.{Why}
use Rattle.krml_trace.specs.Run.{Goes, bind, ends, with_some, check, tick}
use Rattle.krml_trace.specs.After.{After}
use Rattle.krml_trace.specs.Loop.{Turn, Again, Over, loop}
use Rattle.krml_trace.specs.Follows.{beside}
use Rattle.krml_trace.proofs.Follows as follow
use Rattle.krml_meaning.specs.State.{Block, SourceState, SourceRan}
use Rattle.krml_passing.specs.Images.{Images, memory_image, events_image, state_image}
use Rattle.krml_passing.specs.Alike.{Both, InImage, shared, Alike}

module _ (im : Images) where
  -- both go on
  pub alike_goes : {A A' : Type 0} (R : Both A A') (a : A) (b : A') (s : SourceState) → R a b s.memory
      → Alike im R (Goes a s) (Goes b (state_image im s))
  alike_goes R a b s h = follow.follows_goes (shared im) (InImage im R) a s b (memory_image im s.memory)
      (record { memory = refl; holds = h })

  -- both end here
  pub alike_ends : {A A' : Type 0} (Q : Both A A') (w : Why) (s : SourceState)
      → Alike im {A = A} {A' = A'} Q (ends w s) (ends w (state_image im s))
  alike_ends Q w s = follow.follows_ends (shared im) (InImage im Q) w s (memory_image im s.memory)

  -- where the second run is equal to one that is like the first
  pub alike_to : {A A' : Type 0} (Q : Both A A') (r : SourceRan A) {r' r'' : SourceRan A'} → r' ≡ r'' → Alike im Q r r'' → Alike im Q r r'
  alike_to Q r e h = subst (Alike im Q r) (sym e) h

  -- both have a further step
  pub alike_bind : {A A' C C' : Type 0} (R : Both A A') (Q : Both C C') (r : SourceRan A) (r' : SourceRan A') (go : A → SourceState
      → SourceRan C) (go' : A' → SourceState → SourceRan C')
      → Alike im R r r' → ((a : A) (b : A') (s : SourceState) → R a b s.memory → Alike im Q (go a s) (go' b (state_image im s)))
      → Alike im Q (bind r go) (bind r' go')
  alike_bind R Q r r' go go' h k = follow.follows_bind (shared im) (InImage im R) (InImage im Q) r r' go go' (λ a s. tt) h
      (λ a s b m i. rw i.memory (k a b s i.holds))

  -- less is said
  pub alike_so : {A A' : Type 0} (R Q : Both A A') (r : SourceRan A) (r' : SourceRan A') → Alike im R r r'
      → ((a : A) (b : A') (m : List Block) → R a b m → Q a b m) → Alike im Q r r'
  alike_so R Q r r' h k = follow.follows_so (shared im) (InImage im R) (InImage im Q) r r' h
      (λ a s b m i. record { memory = i.memory; holds = k a b s.memory i.holds })

  -- what is known of the first run alone, as well: that is where the soundness of its typing comes in
  pub alike_after : {A A' : Type 0} (P : A → SourceState → Type 0) (R Q : Both A A') (r : SourceRan A) (r' : SourceRan A') → After P r
      → Alike im R r r'
      → ((a : A) (b : A') (s : SourceState) → P a s → R a b s.memory → Q a b s.memory) → Alike im Q r r'
  alike_after P R Q r r' p h k = follow.follows_so (shared im) _ (InImage im Q) r r' (follow.follows_after (shared im) P
      (InImage im R) r r' p h)
      (λ a s b m i. record { memory = i.1.memory; holds = k a b s i.0 i.1.holds })

  -- both go on with what is there
  pub alike_some : {A A' X X' : Type 0} (Q : Both A A') (g : X → X') (w : Why) (o : Option X) (o' : Option X') (s : SourceState) (go : X
      → SourceRan A) (go' : X' → SourceRan A')
      → o' ≡ option_map g o → ((x : X) → o ≡ Some x → Alike im Q (go x) (go' (g x)))
      → Alike im Q (with_some w o s go) (with_some w o' (state_image im s) go')
  alike_some Q g w None o' s go go' h k = rw h (alike_ends Q w s)
  alike_some Q g w (Some x) o' s go go' h k = rw h (k x refl)

  pub alike_check : {A A' : Type 0} (Q : Both A A') (w : Why) (b : Bool) (s : SourceState) (r : SourceRan A) (r' : SourceRan A')
      → Alike im Q r r'
      → Alike im Q (check w b s r) (check w b (state_image im s) r')
  alike_check Q w b s r r' h = follow.follows_check (shared im) (InImage im Q) w b s (memory_image im s.memory) r r' (λ e. h)

  pub alike_if : {A A' : Type 0} (Q : Both A A') (b : Bool) (r u : SourceRan A) (r' u' : SourceRan A') → Alike im Q r r' → Alike im Q u u'
      → Alike im Q (if b then r else u) (if b then r' else u')
  alike_if Q b r u r' u' h k = follow.follows_if (shared im) (InImage im Q) b r u r' u' (λ e. h) (λ e. k)

  -- both spend a tick
  pub alike_tick : {A A' : Type 0} (Q : Both A A') (s : SourceState) (go : SourceState → SourceRan A) (go' : SourceState → SourceRan A')
      → ((n : ℕ) → Alike im Q (go (record s { ticks = n })) (go' (state_image im (record s { ticks = n }))))
      → Alike im Q (tick s go) (tick (state_image im s) go')
  alike_tick Q s go go' k = follow.follows_tick (shared im) (InImage im Q) s (memory_image im s.memory) go go' k

-- Loops side by side: R holds of what they are at, and Q of what they give.
module _ (im : Images) {X X' A A' : Type 0} (R : Both X X') (Q : Both A A') where
  -- both go on, or both are over
  abbrev pub BothTurned : Both (Turn X A) (Turn X' A')
  BothTurned (Again x) (Again y) m = R x y m
  BothTurned (Over a) (Over b) m = Q a b m
  BothTurned (Again x) (Over b) m = ⊥
  BothTurned (Over a) (Again y) m = ⊥

  module _ (turn : X → SourceState → SourceRan (Turn X A)) (turn' : X' → SourceState → SourceRan (Turn X' A'))
      (each : (x : X) (y : X') (s : SourceState) → R x y s.memory → Alike im BothTurned (turn x s) (turn' y (state_image im s))) where
    abbrev Turned : Turn X A → SourceState → Turn X' A' → List Block → Type 0
    Turned = follow.BothTurned (shared im) (InImage im R) (InImage im Q) turn turn'

    both_turned : (t : Turn X A) (s : SourceState) (t' : Turn X' A') (m : List Block) → InImage im BothTurned t s t' m → Turned t s t' m
    both_turned (Again x) s (Again y) m h = record { memory = h.memory; holds = h.holds }
    both_turned (Over a) s (Over b) m h = record { memory = h.memory; holds = h.holds }
    both_turned (Again x) s (Over b) m h = absurd h.holds
    both_turned (Over a) s (Again y) m h = absurd h.holds

    pub alike_loop : (x : X) (y : X') (s : SourceState) → R x y s.memory → Alike im Q (loop turn x s) (loop turn' y (state_image im s))
    alike_loop x y s h = follow.loops_follow (shared im) (InImage im R) (InImage im Q) turn turn'
        (λ x s y m n i. record { memory = i.memory; holds = i.holds }) (λ n t s. tt)
        (λ x s y m i. follow.follows_so (shared im) (InImage im BothTurned) Turned (turn x s) (turn' y (beside (events_image im) s m))
        (rw i.memory (each x y s i.holds)) both_turned)
        x s y (memory_image im s.memory) (record { memory = refl; holds = h })
