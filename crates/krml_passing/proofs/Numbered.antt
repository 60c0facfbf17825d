-- What is numbered by slots, side by side: the slots become others, and their numbers stay.
use Rattle.std.proofs.Common.{◌≡◌, ℕ, ◌+◌, List, [], ◌∷◌, map, length, flat_map, refl, sym, ap, ◌∙◌, subst}
use Rattle.std.proofs.lemmas.List.{map-append, length-map}
use Rattle.krml_syntax.specs.declared.tree.Slot.{Slot}
use Rattle.krml_syntax.specs.Spelling.{Each}
use Rattle.krml_meaning.specs.Numbered.{Numbered, none, one, two, three, many, each_from}
use Rattle.krml_passing.specs.Alike.{SameOf}

module _ (slot : Slot → Slot) where
  -- both sides by what they are equal to
  pub moved : {A B : Type 0} (R : A → B → Type 0) {m n : Numbered A} {m' n' : Numbered B} → m ≡ n → m' ≡ n' → SameOf slot R n n'
      → SameOf slot R m m'
  moved R {m = m} {n = n} {m' = m'} {n' = n'} e e' h = subst (λ z. SameOf slot R z m') (sym e) (subst (SameOf slot R n) (sym e') h)

  as_many : {A B : Type 0} {R : A → B → Type 0} (n : Numbered A) (n' : Numbered B) → SameOf slot R n n' → length n'.slots ≡ length n.slots
  as_many n n' h = ap length h.slots ∙ length-map n.slots slot

  pub none_of : {A B : Type 0} (R : A → B → Type 0) {a : A} {b : B} → R a b → SameOf slot R (none a) (none b)
  none_of R h = record { slots = refl; from = λ k. h }

  module _ {A A' B B' : Type 0} where
    pub one_of : {R : A → A' → Type 0} (Q : B → B' → Type 0) {f : A → B} {f' : A' → B'} {n : Numbered A} {n' : Numbered A'}
        → SameOf slot R n n'
        → ((a : A) (a' : A') → R a a' → Q (f a) (f' a')) → SameOf slot Q (one f n) (one f' n')
    one_of Q h step = record { slots = h.slots; from = λ k. step _ _ (h.from k) }

  module _ {A A' B B' C C' : Type 0} where
    pub two_of : {R : A → A' → Type 0} {S : B → B' → Type 0} (Q : C → C' → Type 0) {f : A → B → C} {f' : A' → B' → C'}
        {n : Numbered A} {n' : Numbered A'} {o : Numbered B} {o' : Numbered B'} → SameOf slot R n n' → SameOf slot S o o'
        → ((a : A) (b : B) (a' : A') (b' : B') → R a a' → S b b' → Q (f a b) (f' a' b')) → SameOf slot Q (two f n o) (two f' n' o')
    two_of {R = R} {S = S} Q {n = n} {n' = n'} {o = o} {o' = o'} hn ho step = record {
      slots = rw (hn.slots, ho.slots) (sym (map-append slot n.slots o.slots));
      from = λ k. step _ _ _ _ (hn.from k)
          (subst (λ l. S (o.from (k + length n.slots)) (o'.from (k + l))) (sym (as_many n n' hn)) (ho.from (k + length n.slots)));
    }

  pub three_of : {A A' B B' C C' D D' : Type 0} {R : A → A' → Type 0} {S : B → B' → Type 0} {T : C → C' → Type 0} (Q : D → D' → Type 0)
      {f : A → B → C → D} {f' : A' → B' → C' → D'} {n : Numbered A} {n' : Numbered A'} {o : Numbered B} {o' : Numbered B'}
      {p : Numbered C} {p' : Numbered C'} → SameOf slot R n n' → SameOf slot S o o' → SameOf slot T p p'
      → ((a : A) (b : B) (c : C) (a' : A') (b' : B') (c' : C') → R a a' → S b b' → T c c' → Q (f a b c) (f' a' b' c'))
      → SameOf slot Q (three f n o p) (three f' n' o' p')
  three_of {C = C} {C' = C'} {T = T} Q {f = f} {f' = f'} hn ho hp step = two_of Q {f = λ g x. g x} {f' = λ g x. g x}
      (two_of (λ g g'. (c : C) (c' : C') → T c c' → Q (g c) (g' c')) {f = f} {f' = f'} hn ho
      (λ a b a' b' r s c c' t. step a b c a' b' c' r s t)) hp
      (λ g c g' c' h t. h c c' t)

  module _ {A A' : Type 0} {R : A → A' → Type 0} where
    all_slots : (ns : List (Numbered A)) (ns' : List (Numbered A')) → Each (SameOf slot R) ns ns'
        → flat_map (λ n. n.slots) ns' ≡ map slot (flat_map (λ n. n.slots) ns)
    all_slots ns ns' Each.none = refl
    all_slots ns ns' (Each.one {x = n} {xs = more} {ys = more'} h hs) =
        rw (h.slots, all_slots more more' hs) (sym (map-append slot n.slots (flat_map (λ n. n.slots) more)))

    each_same : (ns : List (Numbered A)) (ns' : List (Numbered A')) → Each (SameOf slot R) ns ns' → (k : ℕ)
        → Each R (each_from ns k) (each_from ns' k)
    each_same ns ns' Each.none k = Each.none
    each_same ns ns' (Each.one {x = n} {y = n'} {xs = more} {ys = more'} h hs) k = Each.one (h.from k)
        (subst (λ l. Each R (each_from more (k + length n.slots)) (each_from more' (k + l))) (sym (as_many n n' h))
        (each_same more more' hs (k + length n.slots)))

    pub many_of : {B B' : Type 0} (Q : B → B' → Type 0) {f : List A → B} {f' : List A'
        → B'} {ns : List (Numbered A)} {ns' : List (Numbered A')}
        → Each (SameOf slot R) ns ns' → ((xs : List A) (xs' : List A') → Each R xs xs' → Q (f xs) (f' xs'))
        → SameOf slot Q (many f ns) (many f' ns')
    many_of Q {ns = ns} {ns' = ns'} hs step = record { slots = all_slots ns ns' hs; from = λ k. step _ _ (each_same ns ns' hs k) }

-- related part by part
pub each_map : {X A B : Type 0} (R : A → B → Type 0) (f : X → A) (g : X → B) → ((x : X) → R (f x) (g x)) → (xs : List X)
    → Each R (map f xs) (map g xs)
each_map R f g h [] = Each.none
each_map R f g h (x ∷ xs) = Each.one (h x) (each_map R f g h xs)
