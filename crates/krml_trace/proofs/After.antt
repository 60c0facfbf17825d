-- What holds of the value and the state where a run goes on. A run of which that is said never ends Undefined or Trapped.
use Rattle.std.proofs.Common.{◌≡◌, ℕ, zero, suc, Bool, true, false, if◌then◌else◌, Option, Some, None, refl}
use Rattle.krml_trace.specs.declared.outcome.Cause.{Cause}
use Rattle.krml_trace.specs.declared.why.Why.{Why}
use Rattle.krml_trace.specs.declared.why.Why.TheVariants.{Spent, Deep, Stuck, Undefined, Trapped}
use Rattle.krml_trace.specs.Run.{State, Ran, Goes, Ends, bind, with_some, spend, tick, check}
use Rattle.krml_trace.specs.Loop.{Turn, Again, Over, turned, turns, loop}
use Rattle.krml_trace.specs.After.{After}

module _ {E M : Type 0} where
  pub after_bind : {A A' : Type 0} (P : A → State E M → Type 0) (Q : A' → State E M → Type 0) (r : Ran E M A) (next : A → State E M → Ran E M A')
      → After P r → ((a : A) (s : State E M) → P a s → After Q (next a s)) → After Q (bind r next)
  after_bind P Q (Goes a s) next h k = k a s h
  after_bind P Q (Ends Undefined es) next h k = h
  after_bind P Q (Ends Trapped es) next h k = h
  after_bind P Q (Ends Spent es) next h k = tt
  after_bind P Q (Ends Deep es) next h k = tt
  after_bind P Q (Ends (Stuck c) es) next h k = tt

  pub after_so : {A : Type 0} (P Q : A → State E M → Type 0) (r : Ran E M A) → After P r → ((a : A) (s : State E M) → P a s → Q a s) → After Q r
  after_so P Q (Goes a s) h k = k a s h
  after_so P Q (Ends Undefined es) h k = h
  after_so P Q (Ends Trapped es) h k = h
  after_so P Q (Ends Spent es) h k = tt
  after_so P Q (Ends Deep es) h k = tt
  after_so P Q (Ends (Stuck c) es) h k = tt

  pub after_tick : {A : Type 0} (Q : A → State E M → Type 0) (s : State E M) (next : State E M → Ran E M A) → ((n : ℕ) → After Q (next (record s { ticks = n })))
      → After Q (tick s next)
  after_tick Q s next k = at s.ticks
    where
      at : (n : ℕ) → After Q (spend n s next)
      at zero = tt
      at (suc n) = k n

  pub after_some : {A X : Type 0} (Q : A → State E M → Type 0) (w : Why) (o : Option X) (x : X) (s : State E M) (next : X → Ran E M A) → o ≡ Some x → After Q (next x)
      → After Q (with_some w o s next)
  after_some Q w o x s next e h = rw e h

  -- where nothing may be there, the run is stuck
  pub after_found : {A X : Type 0} (Q : A → State E M → Type 0) (c : Cause) (o : Option X) (s : State E M) (next : X → Ran E M A) → ((x : X) → o ≡ Some x → After Q (next x))
      → After Q (with_some (Stuck c) o s next)
  after_found Q c None s next h = tt
  after_found Q c (Some x) s next h = h x refl

  pub after_check : {A : Type 0} (Q : A → State E M → Type 0) (c : Cause) (b : Bool) (s : State E M) (r : Ran E M A) → (b ≡ true → After Q r)
      → After Q (check (Stuck c) b s r)
  after_check Q c true s r h = h refl
  after_check Q c false s r h = tt

  pub after_if : {A : Type 0} (Q : A → State E M → Type 0) (b : Bool) (r r' : Ran E M A) → (b ≡ true → After Q r) → (b ≡ false → After Q r')
      → After Q (if b then r else r')
  after_if Q true r r' h k = h refl
  after_if Q false r r' h k = k refl

  -- what holds of the end of a turn: of the next turn's start, or of the value of the loop
  abbrev pub Turned : {X A : Type 0} → (X → State E M → Type 0) → (A → State E M → Type 0) → Turn X A → State E M → Type 0
  Turned I Q (Again x) s = I x s
  Turned I Q (Over a) s = Q a s

  after_turned : {X A : Type 0} (I : X → State E M → Type 0) (Q : A → State E M → Type 0) (next : X → State E M → Ran E M A) (r : Turn X A) (s : State E M)
      → ((x : X) (n : ℕ) → I x s → After Q (next x (record s { ticks = n }))) → Turned I Q r s → After Q (turned r next s)
  after_turned I Q next (Again x) s k h = after_tick Q s (next x) (λ n. k x n h)
  after_turned I Q next (Over a) s k h = h

  module _ {X A : Type 0} (I : X → State E M → Type 0) (Q : A → State E M → Type 0) (turn : X → State E M → Ran E M (Turn X A))
      (on : (x : X) (s : State E M) (n : ℕ) → I x s → I x (record s { ticks = n })) (each : (x : X) (s : State E M) → I x s → After (Turned I Q) (turn x s)) where
    turns_after : (n : ℕ) (x : X) (s : State E M) → I x s → After Q (turns n turn x s)
    turns_after zero x s h = tt
    turns_after (suc n) x s h = after_bind (Turned I Q) Q (turn x s) _ (each x s h) (λ r s1 h1.
        after_turned I Q (turns n turn) r s1 (λ y k hy. turns_after n y (record s1 { ticks = k }) (on y s1 k hy)) h1)

    -- a loop keeps what each of its turns keeps
    pub loop_after : (x : X) (s : State E M) → I x s → After Q (loop turn x s)
    loop_after x s h = turns_after (suc s.ticks) x s h
