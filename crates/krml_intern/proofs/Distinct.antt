-- Names in scope are apart where none hides one of them.
use Prim.Native.Nat.{zero, suc}
use Rattle.std.proofs.Common.{◌≡◌, ℕ, ◌-◌, ◌<◌, ◌≤◌, Bool, true, false, not, ◌&&◌, if◌then◌else◌, List, [], ◌∷◌, ◌++◌, length, take, reverse, slice_get, Option, Some, None, refl, sym, ap, subst, ◌∙◌, arith}
use Rattle.std.specs.Bool.{Decides}
use Rattle.std.specs.Option.{MatchOption}
use Rattle.std.specs.Str.{bytes_eq}
use Rattle.std.proofs.Math.Seq.{take-suc}
use Rattle.std.proofs.lemmas.Slice.Eq.{bytes_eq-Decides}
use Rattle.std.proofs.lemmas.Option.{get_or_from_slice_get, slice_get_within}
use Rattle.std.proofs.lemmas.List.{reverse-append, length-reverse, length-take-le}
use Rattle.krml_intern.specs.declared.entry.Entry.{Entry}
use Rattle.krml_intern.specs.Scope.{is_new, are_distinct, shown, newest, KnowHidden}

turned : (x y : List ℕ) (b : Bool) → bytes_eq x y ≡ b → bytes_eq y x ≡ b
turned x y true e = (bytes_eq-Decides y x).1 (sym ((bytes_eq-Decides x y).0 e))
turned x y false e = go (bytes_eq y x) refl
  where
    go : (b : Bool) → bytes_eq y x ≡ b → bytes_eq y x ≡ false
    go true f = let back : bytes_eq x y ≡ true = (bytes_eq-Decides x y).1 (sym ((bytes_eq-Decides y x).0 f)) in let both : true ≡ false = sym back ∙ e in absurd (cc)
    go false f = f

within : (es : List Entry) (x : List ℕ) (k : ℕ) → newest es x ≡ Some k → k < length es
within [] x k e = absurd (cc)
within (a ∷ es) x k e = go (bytes_eq a.name.now x) (within es x k) e
  where
    go : (b : Bool) → (newest es x ≡ Some k → k < length es) → (if b then Some (length es) else newest es x) ≡ Some k → k < length (a ∷ es)
    go true later f = let here : length es ≡ k = cc in omega (arith, here)
    go false later f = let l = later f in omega (arith, l)

-- one that hides none of those is new among them
abbrev Fresh : List Entry → List ℕ → ℕ → Type 0
Fresh es x n = ((k : ℕ) → newest es x ≡ Some k → k < n) → is_new (take (length es - n) (shown es)) x ≡ true

fresh : (es : List Entry) (x : List ℕ) (n : ℕ) → Fresh es x n
fresh [] x n h = none (0 - n)
  where
    none : (d : ℕ) → is_new (take d (shown [])) x ≡ true
    none zero = refl
    none (suc d) = refl
fresh (a ∷ es) x n h = go (fresh es x n) (suc (length es) - n) refl
  where
    on : Fresh es x n → (m : ℕ) → length es - n ≡ m → n ≤ length es → (b : Bool) → bytes_eq a.name.now x ≡ b → (not (bytes_eq x a.name.now) && is_new (take m (shown es)) x) ≡ true
    on later m e l true is = let here = h (length es) (ap (λ b. if b then Some (length es) else newest es x) is) in absurd (omega (arith, here, l))
    on later m e l false is =
        ap (λ b. not b && is_new (take m (shown es)) x) (turned a.name.now x false is)
        ∙ ap (λ d. is_new (take d (shown es)) x) (sym e)
        ∙ later (λ k f. h k (ap (λ b. if b then Some (length es) else newest es x) is ∙ f))

    go : Fresh es x n → (d : ℕ) → suc (length es) - n ≡ d → is_new (take (suc (length es) - n) (shown (a ∷ es))) x ≡ true
    go later zero e = ap (λ d. is_new (take d (shown (a ∷ es))) x) e
    go later (suc m) e = ap (λ d. is_new (take d (shown (a ∷ es))) x) e ∙ on later m (omega (arith, e)) (omega (arith, e)) (bytes_eq a.name.now x) refl

-- one that hides one of those is not
known : (es : List Entry) (x : List ℕ) (n k : ℕ) → newest es x ≡ Some k → n ≤ k → is_new (take (length es - n) (shown es)) x ≡ false
known [] x n k e l = absurd (cc)
known (a ∷ es) x n k e l = ap (λ d. is_new (take d (shown (a ∷ es))) x) next ∙ go (λ f. known es x n k f l) (bytes_eq a.name.now x) refl e
  where
    under : n ≤ length es
    under = let far = within (a ∷ es) x k e in omega (arith, far, l)

    next : suc (length es) - n ≡ suc (length es - n)
    next = let u = under in omega (arith, u)

    go : (newest es x ≡ Some k → is_new (take (length es - n) (shown es)) x ≡ false) → (b : Bool) → bytes_eq a.name.now x ≡ b → (if b then Some (length es) else newest es x) ≡ Some k → (not (bytes_eq x a.name.now) && is_new (take (length es - n) (shown es)) x) ≡ false
    go later true is f = ap (λ b. not b && is_new (take (length es - n) (shown es)) x) (turned a.name.now x true is)
    go later false is f = ap (λ b. not b && is_new (take (length es - n) (shown es)) x) (turned a.name.now x false is) ∙ later f

-- ---- one more

more : (es : List Entry) (a : Entry) (n : ℕ) → n ≤ length es
    → are_distinct (take (suc (length es) - n) (shown (a ∷ es))) ≡ (is_new (take (length es - n) (shown es)) a.name.now && are_distinct (take (length es - n) (shown es)))
more es a n l = let next : suc (length es) - n ≡ suc (length es - n) = omega (arith, l) in ap (λ d. are_distinct (take d (shown (a ∷ es)))) next

same : (es : List Entry) (a : Entry) (n : ℕ) → n ≤ length es → KnowHidden (a ∷ es) → ((k : ℕ) → a.hidden ≡ Some k → k < n)
    → are_distinct (take (length es - n) (shown es)) ≡ are_distinct (take (suc (length es) - n) (shown (a ∷ es)))
same es a n l hidden h =
    sym (more es a n l ∙ ap (λ b. b && are_distinct (take (length es - n) (shown es))) (fresh es a.name.now n (λ k e. h k (hidden.0 ∙ e))))

none : (es : List Entry) (a : Entry) (n k : ℕ) → n ≤ length es → KnowHidden (a ∷ es) → a.hidden ≡ Some k → n ≤ k → false ≡ are_distinct (take (suc (length es) - n) (shown (a ∷ es)))
none es a n k l hidden e m =
    sym (more es a n l ∙ ap (λ b. b && are_distinct (take (length es - n) (shown es))) (known es a.name.now n k (sym hidden.0 ∙ e) m))

-- ---- the newest of the first items

newest_of : (items : List Entry) (j : ℕ) (a : Entry) → slice_get items j ≡ Some a → reverse (take (suc j) items) ≡ a ∷ reverse (take j items)
newest_of items j a at =
    ap reverse (take-suc items j a (slice_get_within items j a at) ∙ ap (λ b. take j items ++ b ∷ []) (get_or_from_slice_get items j a a at)) ∙ reverse-append (take j items) (a ∷ [])

long : (items : List Entry) (j : ℕ) (a : Entry) → slice_get items j ≡ Some a → length (reverse (take j items)) ≡ j
long items j a at = let l = slice_get_within items j a at in length-reverse (take j items) ∙ length-take-le j items (omega (arith, l))

abbrev Among : List Entry → ℕ → ℕ → Bool
Among items n m = are_distinct (take (m - n) (shown (reverse (take m items))))

last_same : (items : List Entry) (j n : ℕ) (a : Entry) → n ≤ j → slice_get items j ≡ Some a → ((k : ℕ) → a.hidden ≡ Some k → k < n)
    → KnowHidden (reverse (take (suc j) items)) → KnowHidden (reverse (take j items)) × (Among items n j ≡ Among items n (suc j))
last_same items j n a l at h hidden =
    let es = reverse (take j items) in
    let is = newest_of items j a at in
    let len = long items j a at in
    let there : KnowHidden (a ∷ es) = subst KnowHidden is hidden in (
      there.1,
      ap (λ m. are_distinct (take (m - n) (shown es))) (sym len) ∙ same es a n (omega (arith, l, len)) there h
          ∙ ap (λ m. are_distinct (take (suc m - n) (shown (a ∷ es)))) len ∙ ap (λ z. are_distinct (take (suc j - n) (shown z))) (sym is),
    )

last_none : (items : List Entry) (j n k : ℕ) (a : Entry) → n ≤ j → slice_get items j ≡ Some a → a.hidden ≡ Some k → n ≤ k
    → KnowHidden (reverse (take (suc j) items)) → false ≡ Among items n (suc j)
last_none items j n k a l at e m hidden =
    let es = reverse (take j items) in
    let is = newest_of items j a at in
    let len = long items j a at in
    none es a n k (omega (arith, l, len)) (subst KnowHidden is hidden) e m
    ∙ ap (λ m. are_distinct (take (suc m - n) (shown (a ∷ es)))) len ∙ ap (λ z. are_distinct (take (suc j - n) (shown z))) (sym is)

pub distinct_still : (items : List Entry) (m n : ℕ) (a : Entry) (r : Bool) → n < m → slice_get items (m - 1) ≡ Some a → MatchOption a.hidden (r ≡ false) (λ k. Decides r (n ≤ k)) → r ≡ false
    → KnowHidden (reverse (take m items))
    → KnowHidden (reverse (take (m - 1) items)) × (are_distinct (take (m - 1 - n) (shown (reverse (take (m - 1) items)))) ≡ are_distinct (take (m - n) (shown (reverse (take m items)))))
distinct_still items m n a r l at answer miss hidden =
    let is : suc (m - 1) ≡ m = omega (arith, l) in
    subst (λ i. KnowHidden (reverse (take i items)) → KnowHidden (reverse (take (m - 1) items)) × (Among items n (m - 1) ≡ Among items n i)) is
    (last_same items (m - 1) n a (omega (arith, l)) at below) hidden
  where
    below : (k : ℕ) → a.hidden ≡ Some k → k < n
    below k e =
        let there = (subst (λ (o : Option ℕ). MatchOption o (r ≡ false) (λ k. Decides r (n ≤ k))) e answer).1 in
        let under : n ≤ k → ⊥ = λ least. let both : true ≡ false = sym (there least) ∙ miss in absurd (cc) in
        omega (arith, under)

pub distinct_none : (items : List Entry) (m n : ℕ) (a : Entry) (r : Bool) → n < m → slice_get items (m - 1) ≡ Some a → MatchOption a.hidden (r ≡ false) (λ k. Decides r (n ≤ k)) → r ≡ true
    → KnowHidden (reverse (take m items)) → false ≡ are_distinct (take (m - n) (shown (reverse (take m items))))
distinct_none items m n a r l at answer sure hidden = go a.hidden refl answer
  where
    go : (o : Option ℕ) → a.hidden ≡ o → MatchOption o (r ≡ false) (λ k. Decides r (n ≤ k)) → false ≡ are_distinct (take (m - n) (shown (reverse (take m items))))
    go None e miss = let both : true ≡ false = sym sure ∙ miss in absurd (cc)
    go (Some k) e decides =
        let is : suc (m - 1) ≡ m = omega (arith, l) in
        subst (λ i. KnowHidden (reverse (take i items)) → false ≡ Among items n i) is
        (last_none items (m - 1) n k a (omega (arith, l)) at e (decides.0 sure)) hidden
