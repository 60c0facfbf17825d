-- The laws of a run that follows another: steps in a row, loops and calls side by side.
use Rattle.std.proofs.Common.{◌≡◌, ◌∙◌, inl, inr, ℕ, zero, suc, Bool, true, false, if◌then◌else◌, List, [], ◌∷◌, ◌++◌, Option, Some, None, refl, ap}
use Rattle.krml_trace.specs.declared.why.Why.{Why}
use Rattle.krml_trace.specs.declared.why.Why.TheVariants.{Spent, Deep}
use Rattle.krml_trace.specs.Run.{State, Ran, Goes, Ends, bind, ends, with_some, check, spend, tick}
use Rattle.krml_trace.specs.After.{After}
use Rattle.krml_trace.specs.Loop.{Turn, Again, Over, turned, turns, loop}
use Rattle.krml_trace.specs.Levels.{within}
use Rattle.krml_trace.specs.Follows.{Traps, Never, Where, Shares, beside, Reaches, HasTrapped, OrTrapped, WhereKept, Went, FollowsBy, Follows, Stays, TrapStays}
use Rattle.krml_trace.proofs.Levels.{within_holds, within_both}

-- ---- events that came to be from others

module _ {E : Type 0} where
  -- none is new
  pub reaches_itself : (es : List E) → Reaches E es es
  reaches_itself es = record { newer = []; is = refl }

  -- one is new
  pub reaches_next : (e : E) (es : List E) → Reaches E es (e ∷ es)
  reaches_next e es = record { newer = e ∷ []; is = refl }

  grouped : (xs ys zs : List E) → xs ++ (ys ++ zs) ≡ (xs ++ ys) ++ zs
  grouped [] ys zs = refl
  grouped (x ∷ xs) ys zs = ap (λ l. x ∷ l) (grouped xs ys zs)

  pub reaches_on : (es es1 es2 : List E) → Reaches E es es1 → Reaches E es1 es2 → Reaches E es es2
  reaches_on es es1 es2 h k = record { newer = k.newer ++ h.newer; is = k.is ∙ ap (λ l. k.newer ++ l) h.is ∙ grouped k.newer h.newer es }

-- ---- no step takes an event back

module _ {E M : Type 0} where
  pub stays_on : {A : Type 0} (es es1 : List E) (r : Ran E M A) → Reaches E es es1 → Stays es1 r → Stays es r
  stays_on es es1 (Goes a s) h k = reaches_on es es1 s.events h k
  stays_on es es1 (Ends w es2) h k = reaches_on es es1 es2 h k

  pub stays_bind : {A A' : Type 0} (es : List E) (r : Ran E M A) (next : A → State E M → Ran E M A') → Stays es r
      → ((a : A) (s : State E M) → Stays s.events (next a s)) → Stays es (bind r next)
  stays_bind es (Goes a s) next h k = stays_on es s.events (next a s) h (k a s)
  stays_bind es (Ends w es1) next h k = h

  pub stays_some : {A X : Type 0} (w : Why) (o : Option X) (s : State E M) (next : X → Ran E M A) → ((x : X) → Stays s.events (next x)) → Stays s.events (with_some w o s next)
  stays_some w None s next k = reaches_itself s.events
  stays_some w (Some x) s next k = k x

  pub stays_check : {A : Type 0} (w : Why) (b : Bool) (s : State E M) (r : Ran E M A) → Stays s.events r → Stays s.events (check w b s r)
  stays_check w true s r h = h
  stays_check w false s r h = reaches_itself s.events

  pub stays_tick : {A : Type 0} (s : State E M) (next : State E M → Ran E M A) → ((n : ℕ) → Stays s.events (next (record s { ticks = n }))) → Stays s.events (tick s next)
  stays_tick s next k = at s.ticks
    where
      at : (n : ℕ) → Stays s.events (spend n s next)
      at zero = reaches_itself s.events
      at (suc n) = k n

  pub stays_if : {A : Type 0} (es : List E) (b : Bool) (r r' : Ran E M A) → Stays es r → Stays es r' → Stays es (if b then r else r')
  stays_if es true r r' h k = h
  stays_if es false r r' h k = k

  module _ {X A : Type 0} (turn : X → State E M → Ran E M (Turn X A)) (each : (x : X) (s : State E M) → Stays s.events (turn x s)) where
    turned_stays : (n : ℕ) → ((x : X) (s : State E M) → Stays s.events (turns n turn x s)) → (t : Turn X A) (s : State E M) → Stays s.events (turned t (turns n turn) s)
    turned_stays n k (Again x) s = stays_tick s (turns n turn x) (λ m. k x (record s { ticks = m }))
    turned_stays n k (Over a) s = reaches_itself s.events

    turns_stay : (n : ℕ) (x : X) (s : State E M) → Stays s.events (turns n turn x s)
    turns_stay zero x s = reaches_itself s.events
    turns_stay (suc n) x s = stays_bind s.events (turn x s) _ (each x s) (λ t s1. turned_stays n (turns_stay n) t s1)

    pub loop_stays : (x : X) (s : State E M) → Stays s.events (loop turn x s)
    loop_stays x s = turns_stay (suc s.ticks) x s

  pub levels_stay : {X A : Type 0} (body : (X → State E M → Ran E M A) → X → State E M → Ran E M A)
      → ((calls : X → State E M → Ran E M A) → ((x : X) (s : State E M) → Stays s.events (calls x s)) → (x : X) (s : State E M) → Stays s.events (body calls x s))
      → (levels : ℕ) (x : X) (s : State E M) → Stays s.events (within body levels x s)
  levels_stay body more levels = within_holds (λ calls. (x : _) (s : State E M) → Stays s.events (calls x s)) body (λ x s. reaches_itself s.events) more levels

-- ---- where it is kept, or trapped

kept : {X : Type 0} (b : Bool) → X → WhereKept b X
kept true x = x
kept false x = tt

where_kept : {X Y : Type 0} (b : Bool) → (X → Y) → WhereKept b X → WhereKept b Y
where_kept true f x = f x
where_kept false f x = tt

module _ {E E' M' : Type 0} (events : List E → List E') where
  or_this : {A' X : Type 0} (t : Traps E) (es : List E) (r : Ran E' M' A') → X → OrTrapped t events es r X
  or_this Never es r x = x
  or_this (Where P) es r x = inl x

  -- what holds of either run that did not trap, where a run that trapped stays as it is
  or_so : {A' C' X Y : Type 0} (t : Traps E) (es : List E) (r : Ran E' M' A') (u : Ran E' M' C') → (X → Y) → ((P : List E → Type 0) → HasTrapped P events es r → HasTrapped P events es u)
      → OrTrapped t events es r X → OrTrapped t events es u Y
  or_so Never es r u f g x = f x
  or_so (Where P) es r u f g (inl x) = inl (f x)
  or_so (Where P) es r u f g (inr y) = inr (g P y)

  -- a run that has trapped has no further step
  trapped_bind : {A' C' : Type 0} (P : List E → Type 0) (es : List E) (r : Ran E' M' A') (next : A' → State E' M' → Ran E' M' C') → HasTrapped P events es r → HasTrapped P events es (bind r next)
  trapped_bind P es r next h = record { at = h.at; passed = h.passed; allowed = h.allowed; is = ap (λ z. bind z next) h.is }

module _ {E M E' M' : Type 0} (keeps : Why → Bool) (events : List E → List E') where
  -- a run that has trapped follows what the first does further
  trapped_follows : {A A' : Type 0} (P : List E → Type 0) (Q : A → State E M → A' → M' → Type 0) (es : List E) (u : Ran E M A) (r : Ran E' M' A')
      → HasTrapped P events es r → Stays es u → FollowsBy keeps events (Where P) Q u r
  trapped_follows P Q es (Goes a s) r h k = inr (record { at = h.at; passed = reaches_on h.at es s.events h.passed k; allowed = h.allowed; is = h.is })
  trapped_follows P Q es (Ends w es1) r h k = kept (keeps w) (inr (record { at = h.at; passed = reaches_on h.at es es1 h.passed k; allowed = h.allowed; is = h.is }))

  -- what is shown where the second run went on is shown
  or_follows : {A A' C' : Type 0} (t : Traps E) (Q : A → State E M → A' → M' → Type 0) (es : List E) (u : Ran E M A) (r : Ran E' M' C') (r' : Ran E' M' A') (X : Type 0)
      → ((P : List E → Type 0) → HasTrapped P events es r → HasTrapped P events es r') → TrapStays t es u
      → OrTrapped t events es r X → (X → FollowsBy keeps events t Q u r') → FollowsBy keeps events t Q u r'
  or_follows Never Q es u r r' X g k x f = f x
  or_follows (Where P) Q es u r r' X g k (inl x) f = f x
  or_follows (Where P) Q es u r r' X g k (inr y) f = trapped_follows P Q es u r' (g P y) k

  -- both have a further step
  bind_by : {A A' C C' : Type 0} (t : Traps E) (R : A → State E M → A' → M' → Type 0) (Q : C → State E M → C' → M' → Type 0) (r : Ran E M A) (r' : Ran E' M' A')
      (go : A → State E M → Ran E M C) (go' : A' → State E' M' → Ran E' M' C') → ((a : A) (s : State E M) → TrapStays t s.events (go a s)) → FollowsBy keeps events t R r r'
      → ((a : A) (s : State E M) (b : A') (m : M') → R a s b m → FollowsBy keeps events t Q (go a s) (go' b (beside events s m))) → FollowsBy keeps events t Q (bind r go) (bind r' go')
  bind_by t R Q (Goes a s) r' go go' stay h k = or_follows t Q s.events (go a s) r' (bind r' go') (Went events R a s r') (λ P. trapped_bind events P s.events r' go') (stay a s) h
      (λ went. rw went.is (k a s went.to went.memory went.holds))
  bind_by t R Q (Ends w es) r' go go' stay h k = where_kept (keeps w) (or_so events t es r' (bind r' go') (λ is. ap (λ z. bind z go') is) (λ P. trapped_bind events P es r' go')) h

  -- only the first has a further step
  last_by : {A A' C : Type 0} (t : Traps E) (R : A → State E M → A' → M' → Type 0) (Q : C → State E M → A' → M' → Type 0) (r : Ran E M A) (r' : Ran E' M' A')
      (go : A → State E M → Ran E M C) → ((a : A) (s : State E M) → TrapStays t s.events (go a s)) → FollowsBy keeps events t R r r'
      → ((a : A) (s : State E M) (b : A') (m : M') → R a s b m → FollowsBy keeps events t Q (go a s) (Goes b (beside events s m))) → FollowsBy keeps events t Q (bind r go) r'
  last_by t R Q (Goes a s) r' go stay h k = or_follows t Q s.events (go a s) r' r' (Went events R a s r') (λ P y. y) (stay a s) h (λ went. rw went.is (k a s went.to went.memory went.holds))
  last_by t R Q (Ends w es) r' go stay h k = h

  -- only the second has a further step
  more_by : {A A' C' : Type 0} (t : Traps E) (R : A → State E M → A' → M' → Type 0) (Q : A → State E M → C' → M' → Type 0) (r : Ran E M A) (r' : Ran E' M' A')
      (go' : A' → State E' M' → Ran E' M' C') → FollowsBy keeps events t R r r'
      → ((a : A) (s : State E M) (b : A') (m : M') → R a s b m → FollowsBy keeps events t Q (Goes a s) (go' b (beside events s m))) → FollowsBy keeps events t Q r (bind r' go')
  more_by Never R Q (Goes a s) r' go' h k = rw h.is (k a s h.to h.memory h.holds)
  more_by (Where P) R Q (Goes a s) r' go' (inl h) k = rw h.is (k a s h.to h.memory h.holds)
  more_by (Where P) R Q (Goes a s) r' go' (inr y) k = inr (trapped_bind events P s.events r' go' y)
  more_by t R Q (Ends w es) r' go' h k = where_kept (keeps w) (or_so events t es r' (bind r' go') (λ is. ap (λ z. bind z go') is) (λ P. trapped_bind events P es r' go')) h

  so_by : {A A' : Type 0} (t : Traps E) (R Q : A → State E M → A' → M' → Type 0) (r : Ran E M A) (r' : Ran E' M' A') → FollowsBy keeps events t R r r'
      → ((a : A) (s : State E M) (b : A') (m : M') → R a s b m → Q a s b m) → FollowsBy keeps events t Q r r'
  so_by t R Q (Goes a s) r' h k = or_so events t s.events r' r' (λ went. record { to = went.to; memory = went.memory; is = went.is; holds = k a s went.to went.memory went.holds }) (λ P y. y) h
  so_by t R Q (Ends w es) r' h k = h

  after_by : {A A' : Type 0} (t : Traps E) (P : A → State E M → Type 0) (R : A → State E M → A' → M' → Type 0) (r : Ran E M A) (r' : Ran E' M' A') → After P r → FollowsBy keeps events t R r r'
      → FollowsBy keeps events t (λ a s b m. P a s × R a s b m) r r'
  after_by t P R (Goes a s) r' p h = or_so events t s.events r' r' (λ went. record { to = went.to; memory = went.memory; is = went.is; holds = (p, went.holds) }) (λ P y. y) h
  after_by t P R (Ends w es) r' p h = h

-- ---- the laws

-- both are there, and stand to one another as S says, or neither is
abbrev pub BothThere : {X X' : Type 0} → (X → X' → Type 0) → Option X → Option X' → Type 0
BothThere S None None = Unit {0}
BothThere S (Some x) (Some y) = S x y
BothThere S None (Some y) = ⊥
BothThere S (Some x) None = ⊥

module _ {E M E' M' : Type 0} (sh : Shares E E') where
  -- both go on
  pub follows_goes : {A A' : Type 0} (R : A → State E M → A' → M' → Type 0) (a : A) (s : State E M) (b : A') (m : M') → R a s b m → Follows sh R (Goes a s) (Goes b (beside sh.events s m))
  follows_goes R a s b m h = or_this sh.events sh.traps s.events (Goes b (beside sh.events s m)) (record { to = b; memory = m; is = refl; holds = h })

  -- both end for the same reason
  pub follows_ends : {A A' : Type 0} (R : A → State E M → A' → M' → Type 0) (w : Why) (s : State E M) (m : M') → Follows sh R (ends w s) (ends w (beside sh.events s m))
  follows_ends {A' = A'} R w s m = kept (sh.keeps w) (or_this sh.events {A' = A'} sh.traps s.events (Ends w (sh.events s.events)) refl)

  -- both have a further step; where the second may trap, the first's takes no event back
  pub follows_bind : {A A' C C' : Type 0} (R : A → State E M → A' → M' → Type 0) (Q : C → State E M → C' → M' → Type 0) (r : Ran E M A) (r' : Ran E' M' A')
      (go : A → State E M → Ran E M C) (go' : A' → State E' M' → Ran E' M' C') → ((a : A) (s : State E M) → TrapStays sh.traps s.events (go a s)) → Follows sh R r r'
      → ((a : A) (s : State E M) (b : A') (m : M') → R a s b m → Follows sh Q (go a s) (go' b (beside sh.events s m))) → Follows sh Q (bind r go) (bind r' go')
  follows_bind R Q r r' go go' stay h k = bind_by sh.keeps sh.events sh.traps R Q r r' go go' stay h k

  -- only the first has a further step
  pub follows_last : {A A' C : Type 0} (R : A → State E M → A' → M' → Type 0) (Q : C → State E M → A' → M' → Type 0) (r : Ran E M A) (r' : Ran E' M' A')
      (go : A → State E M → Ran E M C) → ((a : A) (s : State E M) → TrapStays sh.traps s.events (go a s)) → Follows sh R r r'
      → ((a : A) (s : State E M) (b : A') (m : M') → R a s b m → Follows sh Q (go a s) (Goes b (beside sh.events s m))) → Follows sh Q (bind r go) r'
  follows_last R Q r r' go stay h k = last_by sh.keeps sh.events sh.traps R Q r r' go stay h k

  -- only the second has a further step
  pub follows_more : {A A' C' : Type 0} (R : A → State E M → A' → M' → Type 0) (Q : A → State E M → C' → M' → Type 0) (r : Ran E M A) (r' : Ran E' M' A')
      (go' : A' → State E' M' → Ran E' M' C') → Follows sh R r r'
      → ((a : A) (s : State E M) (b : A') (m : M') → R a s b m → Follows sh Q (Goes a s) (go' b (beside sh.events s m))) → Follows sh Q r (bind r' go')
  follows_more R Q r r' go' h k = more_by sh.keeps sh.events sh.traps R Q r r' go' h k

  -- the values and memories stand to one another in a weaker way
  pub follows_so : {A A' : Type 0} (R Q : A → State E M → A' → M' → Type 0) (r : Ran E M A) (r' : Ran E' M' A') → Follows sh R r r'
      → ((a : A) (s : State E M) (b : A') (m : M') → R a s b m → Q a s b m) → Follows sh Q r r'
  follows_so R Q r r' h k = so_by sh.keeps sh.events sh.traps R Q r r' h k

  -- with what is known of the first's own run
  pub follows_after : {A A' : Type 0} (P : A → State E M → Type 0) (R : A → State E M → A' → M' → Type 0) (r : Ran E M A) (r' : Ran E' M' A') → After P r → Follows sh R r r'
      → Follows sh (λ a s b m. P a s × R a s b m) r r'
  follows_after P R r r' p h = after_by sh.keeps sh.events sh.traps P R r r' p h

  -- both go on with what is there, and end where there is nothing
  pub follows_some : {A A' X X' : Type 0} (Q : A → State E M → A' → M' → Type 0) (S : X → X' → Type 0) (w : Why) (o : Option X) (o' : Option X') (s : State E M) (m : M')
      (go : X → Ran E M A) (go' : X' → Ran E' M' A') → BothThere S o o' → ((x : X) (y : X') → S x y → Follows sh Q (go x) (go' y))
      → Follows sh Q (with_some w o s go) (with_some w o' (beside sh.events s m) go')
  follows_some Q S w None None s m go go' h k = follows_ends Q w s m
  follows_some Q S w (Some x) (Some y) s m go go' h k = k x y h
  follows_some Q S w None (Some y) s m go go' h k = absurd h
  follows_some Q S w (Some x) None s m go go' h k = absurd h

  -- both go on where a test holds, and end where it does not
  pub follows_check : {A A' : Type 0} (Q : A → State E M → A' → M' → Type 0) (w : Why) (b : Bool) (s : State E M) (m : M') (r : Ran E M A) (r' : Ran E' M' A')
      → (b ≡ true → Follows sh Q r r') → Follows sh Q (check w b s r) (check w b (beside sh.events s m) r')
  follows_check Q w true s m r r' k = k refl
  follows_check Q w false s m r r' k = follows_ends Q w s m

  -- both take the same branch
  pub follows_if : {A A' : Type 0} (Q : A → State E M → A' → M' → Type 0) (b : Bool) (r u : Ran E M A) (r' u' : Ran E' M' A') → (b ≡ true → Follows sh Q r r') → (b ≡ false → Follows sh Q u u')
      → Follows sh Q (if b then r else u) (if b then r' else u')
  follows_if Q true r u r' u' h k = h refl
  follows_if Q false r u r' u' h k = k refl

  -- both spend a tick
  pub follows_tick : {A A' : Type 0} (Q : A → State E M → A' → M' → Type 0) (s : State E M) (m : M') (go : State E M → Ran E M A) (go' : State E' M' → Ran E' M' A')
      → ((n : ℕ) → Follows sh Q (go (record s { ticks = n })) (go' (beside sh.events (record s { ticks = n }) m))) → Follows sh Q (tick s go) (tick (beside sh.events s m) go')
  follows_tick Q s m go go' k = at s.ticks
    where
      at : (n : ℕ) → Follows sh Q (spend n s go) (spend n (beside sh.events s m) go')
      at zero = follows_ends Q Spent s m
      at (suc n) = k n

  -- Loops side by side: each turn of the second follows one of the first, and what they have in common does not look at the ticks.
  module _ {X X' A A' : Type 0} (R : X → State E M → X' → M' → Type 0) (Q : A → State E M → A' → M' → Type 0) (turn : X → State E M → Ran E M (Turn X A)) (turn' : X' → State E' M' → Ran E' M' (Turn X' A')) where
    -- both go on, or both are over
    abbrev pub BothTurned : Turn X A → State E M → Turn X' A' → M' → Type 0
    BothTurned (Again x) s (Again y) m = R x s y m
    BothTurned (Over a) s (Over b) m = Q a s b m
    BothTurned (Again x) s (Over b) m = ⊥
    BothTurned (Over a) s (Again y) m = ⊥

    module _ (on : (x : X) (s : State E M) (y : X') (m : M') (n : ℕ) → R x s y m → R x (record s { ticks = n }) y m)
        (stay : (n : ℕ) (t : Turn X A) (s : State E M) → TrapStays sh.traps s.events (turned t (turns n turn) s))
        (each : (x : X) (s : State E M) (y : X') (m : M') → R x s y m → Follows sh BothTurned (turn x s) (turn' y (beside sh.events s m))) where
      turned_follow : (n : ℕ) → ((x : X) (s : State E M) (y : X') (m : M') → R x s y m → Follows sh Q (turns n turn x s) (turns n turn' y (beside sh.events s m)))
          → (t : Turn X A) (s : State E M) (t' : Turn X' A') (m : M') → BothTurned t s t' m → Follows sh Q (turned t (turns n turn) s) (turned t' (turns n turn') (beside sh.events s m))
      turned_follow n k (Again x) s (Again y) m h = follows_tick Q s m (turns n turn x) (turns n turn' y) (λ j. k x (record s { ticks = j }) y m (on x s y m j h))
      turned_follow n k (Over a) s (Over b) m h = follows_goes Q a s b m h
      turned_follow n k (Again x) s (Over b) m h = absurd h
      turned_follow n k (Over a) s (Again y) m h = absurd h

      turns_follow : (n : ℕ) (x : X) (s : State E M) (y : X') (m : M') → R x s y m → Follows sh Q (turns n turn x s) (turns n turn' y (beside sh.events s m))
      turns_follow zero x s y m h = follows_ends Q Spent s m
      turns_follow (suc n) x s y m h = follows_bind BothTurned Q (turn x s) (turn' y (beside sh.events s m)) _ _ (stay n) (each x s y m h) (λ t s1 t' m1 h1. turned_follow n (turns_follow n) t s1 t' m1 h1)

      pub loops_follow : (x : X) (s : State E M) (y : X') (m : M') → R x s y m → Follows sh Q (loop turn x s) (loop turn' y (beside sh.events s m))
      loops_follow x s y m h = turns_follow (suc s.ticks) x s y m h

  -- Calls side by side, with as many levels: the bodies follow where the calls in them do.
  pub levels_follow : {X X' A A' : Type 0} (R : X → State E M → X' → M' → Type 0) (Q : A → State E M → A' → M' → Type 0)
      (body : (X → State E M → Ran E M A) → X → State E M → Ran E M A) (body' : (X' → State E' M' → Ran E' M' A') → X' → State E' M' → Ran E' M' A')
      → ((calls : X → State E M → Ran E M A) (calls' : X' → State E' M' → Ran E' M' A')
      → ((x : X) (s : State E M) (y : X') (m : M') → R x s y m → Follows sh Q (calls x s) (calls' y (beside sh.events s m)))
      → (x : X) (s : State E M) (y : X') (m : M') → R x s y m → Follows sh Q (body calls x s) (body' calls' y (beside sh.events s m)))
      → (levels : ℕ) (x : X) (s : State E M) (y : X') (m : M') → R x s y m → Follows sh Q (within body levels x s) (within body' levels y (beside sh.events s m))
  levels_follow R Q body body' more levels = within_both (λ calls calls'. (x : _) (s : State E M) (y : _) (m : M') → R x s y m → Follows sh Q (calls x s) (calls' y (beside sh.events s m)))
      body body' (λ x s y m h. follows_ends Q Deep s m) more levels
