-- The walk over what is numbered: over parts one behind the other it goes on from where it is behind the part before.
use Rattle.std.proofs.Common.{◌≡◌, ℕ, List, [], ◌∷◌, ◌++◌, Option, None, refl, sym, ap, ◌∙◌, length-append, append_assoc, append-nil}
use Rattle.std.specs.Option.{option_or}
use Rattle.krml_trace.specs.First.{first}
use Rattle.krml_trace.proofs.First.{or_none, or_or}
use Rattle.krml_syntax.specs.declared.tree.Slot.{Slot}
use Rattle.krml_syntax.specs.declared.tree.Def.{Def}
use Rattle.krml_meaning.specs.Numbered.{Numbered, none, one, two, three}
use Rattle.krml_hoist.specs.declared.hoister.Hoister.{Hoister}
use Rattle.krml_hoist.specs.Walk.{here, behind, all}

abbrev walked : Hoister → List Slot → Option ℕ → Hoister
walked m slots large = record m { slots = m.slots ++ slots; large = option_or m.large large }

pub none_behind : {A : Type 0} (large : List Def → A → Option ℕ) (a : A) (m : Hoister) → large m.layouts.now a ≡ None
    → behind large (none a) m ≡ m
none_behind large a m is = ap (walked m []) is
    ∙ ap (λ (z : List Slot). record m { slots = z; large = option_or m.large None }) (append-nil m.slots)
    ∙ ap (λ (z : Option ℕ). record m { large = z }) (or_none m.large)

pub one_behind : {A B : Type 0} (la : List Def → A → Option ℕ) (lb : List Def → B → Option ℕ) (f : A → B) (n : Numbered A) (m : Hoister)
    → ((defs : List Def) (a : A) → lb defs (f a) ≡ la defs a) → behind lb (one f n) m ≡ behind la n m
one_behind la lb f n m is = ap (walked m n.slots) (is m.layouts.now (here n m))

module _ {A B C : Type 0} (la : List Def → A → Option ℕ) (lb : List Def → B → Option ℕ) (f : A → B → C) (a : Numbered A) (b : Numbered B)
    (m : Hoister) where
  pub two_here : here (two f a b) m ≡ f (here a m) (here b (behind la a m))
  two_here = ap (λ k. f (here a m) (b.from k)) (sym (length-append m.slots a.slots))

  pub two_behind : (lc : List Def → C → Option ℕ) → ((defs : List Def) (x : A) (y : B) → lc defs (f x y) ≡ option_or (la defs x) (lb defs y))
      → behind lc (two f a b) m ≡ behind lb b (behind la a m)
  two_behind lc is =
      let next : Hoister = behind la a m in
      ap (λ z. walked m (a.slots ++ b.slots) (lc m.layouts.now z)) two_here
      ∙ ap (walked m (a.slots ++ b.slots)) (is m.layouts.now (here a m) (here b next))
      ∙ ap (λ (z : List Slot). record m { slots = z; large = option_or m.large (option_or (la m.layouts.now (here a m)) (lb m.layouts.now (here b next))) })
      (sym (append_assoc m.slots a.slots b.slots))
      ∙ ap (λ (z : Option ℕ). record m { slots = (m.slots ++ a.slots) ++ b.slots; large = z })
      (sym (or_or m.large (la m.layouts.now (here a m)) (lb m.layouts.now (here b next))))

module _ {A B C D : Type 0} (la : List Def → A → Option ℕ) (lb : List Def → B → Option ℕ) (lc : List Def → C → Option ℕ) (f : A → B → C → D)
    (a : Numbered A) (b : Numbered B) (c : Numbered C) (m : Hoister) where
  abbrev of_two : List Def → A × B → Option ℕ
  of_two defs p = option_or (la defs p.0) (lb defs p.1)

  abbrev pair : Numbered (A × B)
  pair = two (λ x y. (x, y)) a b

  pair_behind : behind of_two pair m ≡ behind lb b (behind la a m)
  pair_behind = two_behind la lb (λ x y. (x, y)) a b m of_two (λ defs x y. refl)

  pub three_here : here (three f a b c) m ≡ f (here a m) (here b (behind la a m)) (here c (behind lb b (behind la a m)))
  three_here = two_here of_two lc (λ p z. f p.0 p.1 z) pair c m
      ∙ ap (λ (p : A × B). f p.0 p.1 (here c (behind of_two pair m))) (two_here la lb (λ x y. (x, y)) a b m)
      ∙ ap (λ (z : Hoister). f (here a m) (here b (behind la a m)) (here c z)) pair_behind

  pub three_behind : (ld : List Def → D → Option ℕ)
      → ((defs : List Def) (x : A) (y : B) (z : C) → ld defs (f x y z) ≡ option_or (la defs x) (option_or (lb defs y) (lc defs z)))
      → behind ld (three f a b c) m ≡ behind lc c (behind lb b (behind la a m))
  three_behind ld is = two_behind of_two lc (λ p z. f p.0 p.1 z) pair c m ld
      (λ defs p z. is defs p.0 p.1 z ∙ sym (or_or (la defs p.0) (lb defs p.1) (lc defs z)))
      ∙ ap (λ (z : Hoister). behind lc c z) pair_behind

-- ---- several

module _ {A : Type 0} (large : List Def → A → Option ℕ) where
  abbrev pub of_each : List Def → List A → Option ℕ
  of_each defs xs = first (large defs) xs

  pub all_none : (m : Hoister) → behind of_each (all []) m ≡ m
  all_none m = none_behind of_each [] m refl

  first_here : (n : Numbered A) (ns : List (Numbered A)) (m : Hoister)
      → here (all (n ∷ ns)) m ≡ here n m ∷ here (all ns) (behind large n m)
  first_here n ns m = two_here large of_each (λ x xs. x ∷ xs) n (all ns) m

  first_behind : (n : Numbered A) (ns : List (Numbered A)) (m : Hoister)
      → behind of_each (all (n ∷ ns)) m ≡ behind of_each (all ns) (behind large n m)
  first_behind n ns m = two_behind large of_each (λ x xs. x ∷ xs) n (all ns) m of_each (λ defs x xs. refl)

  -- one more at the end
  pub last_behind : (ns : List (Numbered A)) (n : Numbered A) (m : Hoister)
      → behind of_each (all (ns ++ n ∷ [])) m ≡ behind large n (behind of_each (all ns) m)
  last_behind [] n m = first_behind n [] m ∙ all_none (behind large n m) ∙ ap (λ (z : Hoister). behind large n z) (sym (all_none m))
  last_behind (x ∷ ns) n m = first_behind x (ns ++ n ∷ []) m ∙ last_behind ns n (behind large x m)
      ∙ ap (λ (z : Hoister). behind large n z) (sym (first_behind x ns m))

  pub last_here : (ns : List (Numbered A)) (n : Numbered A) (m : Hoister)
      → here (all (ns ++ n ∷ [])) m ≡ here (all ns) m ++ here n (behind of_each (all ns) m) ∷ []
  last_here [] n m = ap (λ (z : Hoister). here n z ∷ []) (sym (all_none m))
  last_here (x ∷ ns) n m = first_here x (ns ++ n ∷ []) m ∙ ap (λ z. here x m ∷ z) (last_here ns n (behind large x m))
      ∙ ap (λ (z : Hoister). here x m ∷ here (all ns) (behind large x m) ++ here n z ∷ []) (sym (first_behind x ns m))
      ∙ ap (λ z. z ++ here n (behind of_each (all (x ∷ ns)) m) ∷ []) (sym (first_here x ns m))
