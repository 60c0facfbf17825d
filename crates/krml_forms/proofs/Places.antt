-- Faults and lists that are too deep, place by place.
use Rattle.std.proofs.Common.{◌≡◌, ◌≢◌, ℕ, suc, ◌+◌, ◌-◌, ◌<◌, ◌≤◌, ◌==◌, Bool, true, false, cond, eqb, nat_le, List, [], ◌∷◌, length, drop, get_or, Option, Some, None, refl, sym, ap, ◌∙◌, subst, arith, below_more, add-one, drop-cons}
use Rattle.std.proofs.lemmas.List.Sums.{count_by_more_yes, count_by_more_no}
use Rattle.std.proofs.lemmas.Bool.Decides.{nat_tests}
use Rattle.krml_forms.specs.Text.{plain_in, plain_byte, comment_after}
use Rattle.krml_forms.specs.Faults.{is_alphabet, opened, closed, Fault, Deep, IsFirst, HasNone}
use Rattle.krml_forms.specs.Scan.{depth_after}

-- so many lists are open at a place, and no fault stands before it
pub record SoFar (p : List ℕ) (i depth : ℕ) : Type 0 where
  pub depth_is : depth + closed p i ≡ opened p i
  pub fits : depth ≤ i
  pub none : (k : ℕ) → k < i → Fault p k → ⊥

-- no list before a place is too deep
abbrev pub Shallow : List ℕ → ℕ → Type 0
Shallow p i = (k : ℕ) → k < i → Deep p k → ⊥

pub start : (p : List ℕ) (d : ℕ) → d ≡ 0 → SoFar p 0 d
start p d z = record { depth_is = omega (arith, z); fits = omega arith; none = λ k h. absurd (omega arith) }

pub start_shallow : (p : List ℕ) → Shallow p 0
start_shallow p = λ k h. absurd (omega arith)

-- ---- what a byte does

data Step (d b : ℕ) : Option ℕ → Type 0 where
  opens : b ≡ 40 → Step d b (Some (d + 1))
  closes : b ≡ 41 → 0 < d → Step d b (Some (d - 1))
  nothing : b ≡ 41 → d ≡ 0 → Step d b None
  stays : b ≢ 40 → b ≢ 41 → is_alphabet b ≡ true → Step d b (Some d)
  foreign : is_alphabet b ≡ false → Step d b None

other : (d b : ℕ) → b ≢ 40 → b ≢ 41 → (t : Bool) → is_alphabet b ≡ t → Step d b (cond t (Some d) None)
other d b n m true e = stays n m e
other d b n m false e = foreign e

closing : (d b : ℕ) → b ≡ 41 → (t : Bool) → eqb d 0 ≡ t → Step d b (cond t None (Some (d - 1)))
closing d b e true z = nothing e (grind (arith, nat_tests))
closing d b e false z = closes e (grind (arith, nat_tests))

not_opening : (d b : ℕ) → b ≢ 40 → (t : Bool) → eqb b 41 ≡ t → Step d b (cond t (cond (eqb d 0) None (Some (d - 1))) (cond (is_alphabet b) (Some d) None))
not_opening d b n true e = closing d b (grind (arith, nat_tests)) (eqb d 0) refl
not_opening d b n false e = other d b n (grind (arith, nat_tests)) (is_alphabet b) refl

first : (d b : ℕ) (t : Bool) → eqb b 40 ≡ t → Step d b (cond t (Some (d + 1)) (cond (eqb b 41) (cond (eqb d 0) None (Some (d - 1))) (cond (is_alphabet b) (Some d) None)))
first d b true e = opens (grind (arith, nat_tests))
first d b false e = not_opening d b (grind (arith, nat_tests)) (eqb b 41) refl

step_of : (d b : ℕ) → Step d b (depth_after d b)
step_of d b = first d b (eqb b 40) refl

module _ (p : List ℕ) (i d b : ℕ) (at : i < length p) (is : get_or p i 0 ≡ b) (s : SoFar p i d) where
  opened_more : b ≡ 40 → opened p (i + 1) ≡ opened p i + 1
  opened_more e = count_by_more_yes (λ c. c == 40) p i 0 at (grind (arith, nat_tests))

  opened_same : b ≢ 40 → opened p (i + 1) ≡ opened p i
  opened_same e = count_by_more_no (λ c. c == 40) p i 0 at (grind (arith, nat_tests))

  closed_more : b ≡ 41 → closed p (i + 1) ≡ closed p i + 1
  closed_more e = count_by_more_yes (λ c. c == 41) p i 0 at (grind (arith, nat_tests))

  closed_same : b ≢ 41 → closed p (i + 1) ≡ closed p i
  closed_same e = count_by_more_no (λ c. c == 41) p i 0 at (grind (arith, nat_tests))

  -- no fault here
  sound : is_alphabet b ≡ true → (b ≡ 41 → 0 < d) → Fault p i → ⊥
  sound al up (Fault.foreign l f) = let t : is_alphabet (get_or p i 0) ≡ true = ap is_alphabet is ∙ al in absurd (cc)
  sound al up (Fault.closes_nothing l e o) = let u : 0 < d = up (sym is ∙ e) in absurd (omega (arith, s.depth_is))
  sound al up (Fault.stays_open e o) = absurd (omega arith)

  no_more : (Fault p i → ⊥) → (k : ℕ) → k < i + 1 → Fault p k → ⊥
  no_more here = below_more (λ k. Fault p k → ⊥) i s.none here

  after : (o : Option ℕ) → Step d b o → (d' : ℕ) → o ≡ Some d' → SoFar p (i + 1) d'
  after _ (opens e) d' q = let v : d + 1 ≡ d' = cc in
      record { depth_is = omega (arith, s.depth_is, opened_more e, closed_same (λ z. absurd (omega arith))); fits = omega (arith, s.fits); none = no_more (sound (ap is_alphabet e) (λ z. absurd (omega arith))) }
  after _ (closes e u) d' q = let v : d - 1 ≡ d' = cc in
      record { depth_is = omega (arith, s.depth_is, closed_more e, opened_same (λ z. absurd (omega arith))); fits = omega (arith, s.fits); none = no_more (sound (ap is_alphabet e) (λ z. u)) }
  after _ (nothing e z) d' q = absurd (cc)
  after _ (stays n m al) d' q = let v : d ≡ d' = cc in
      record { depth_is = omega (arith, s.depth_is, opened_same n, closed_same m); fits = omega (arith, s.fits); none = no_more (sound al (λ z. absurd (m z))) }
  after _ (foreign f) d' q = absurd (cc)

  -- one byte further
  pub goes_on : (d' : ℕ) → depth_after d b ≡ Some d' → SoFar p (i + 1) d'
  goes_on d' e = after (depth_after d b) (step_of d b) d' e

  fault_here : (o : Option ℕ) → Step d b o → o ≡ None → Fault p i
  fault_here _ (opens e) q = absurd (cc)
  fault_here _ (closes e u) q = absurd (cc)
  fault_here _ (nothing e z) q = Fault.closes_nothing at (is ∙ e) (omega (arith, s.depth_is))
  fault_here _ (stays n m al) q = absurd (cc)
  fault_here _ (foreign f) q = Fault.foreign at (ap is_alphabet is ∙ f)

  pub stops : depth_after d b ≡ None → IsFirst (Fault p) i
  stops e = (fault_here (depth_after d b) (step_of d b) e, s.none)

  not_deep : (b ≡ 40 → d < 64) → Deep p i → ⊥
  not_deep low h = let u : d < 64 = low (sym is ∙ h.1) in absurd (omega (arith, s.depth_is, h.2))

  pub stays_shallow : (b ≡ 40 → d < 64) → Shallow p i → Shallow p (i + 1)
  stays_shallow low h = below_more (λ k. Deep p k → ⊥) i h (not_deep low)

  pub is_deep : b ≡ 40 → 64 ≤ d → Shallow p i → IsFirst (Deep p) i
  is_deep e u h = ((at, is ∙ e, omega (arith, s.depth_is)), h)

-- ---- the end

module _ (p : List ℕ) (n d : ℕ) (whole : n ≡ length p) (s : SoFar p n d) where
  pub open_at_end : 0 < d → IsFirst (Fault p) n
  open_at_end u = (Fault.stays_open whole (omega (arith, s.depth_is)), s.none)

  past : (k : ℕ) → n ≤ k → d ≡ 0 → Fault p k → ⊥
  past k l z (Fault.foreign at f) = absurd (omega arith)
  past k l z (Fault.closes_nothing at e o) = absurd (omega arith)
  past k l z (Fault.stays_open e o) = let same : k ≡ n = omega arith in
      let q : closed p n < opened p n = subst (λ m. closed p m < opened p m) same o in absurd (omega (arith, s.depth_is))

  pub all_closed : d ≡ 0 → HasNone (Fault p)
  all_closed z = λ k f. go k f (nat_le n k) refl
    where
      go : (k : ℕ) → Fault p k → (t : Bool) → nat_le n k ≡ t → ⊥
      go k f true e = past k (grind (arith, nat_tests)) z f
      go k f false e = s.none k (grind (arith, nat_tests)) f

pub all_shallow : (p : List ℕ) (n : ℕ) → n ≡ length p → Shallow p n → HasNone (Deep p)
all_shallow p n whole h = λ k deep. h k (omega (arith, deep.0)) deep

-- ---- comments

pub length_plain : (bs : List ℕ) (c : Bool) → length (plain_in c bs) ≡ length bs
length_plain [] c = refl
length_plain (b ∷ bs) c = ap suc (length_plain bs (comment_after c b))

-- the byte at a place, and what is behind it
pub split : (bs : List ℕ) (i : ℕ) → i < length bs → drop i bs ≡ get_or bs i 0 ∷ drop (i + 1) bs
split bs i l = rw add-one (drop-cons bs i 0 l)

-- one byte of a text further, the same without its comments
pub turn : (p text : List ℕ) (i : ℕ) (c : Bool) → i < length text → i < length p → drop i p ≡ plain_in c (drop i text)
    → (get_or p i 0 ≡ plain_byte c (get_or text i 0)) × (drop (i + 1) p ≡ plain_in (comment_after c (get_or text i 0)) (drop (i + 1) text))
turn p text i c l m e =
    let d : get_or p i 0 ∷ drop (i + 1) p ≡ plain_byte c (get_or text i 0) ∷ plain_in (comment_after c (get_or text i 0)) (drop (i + 1) text) = sym (split p i m) ∙ e ∙ ap (plain_in c) (split text i l) in
    (cc, cc)

-- the byte of a text that is read next, without comments
pub inside_plain : (text : List ℕ) (i : ℕ) → i < length text → i < length (plain_in false text)
inside_plain text i l = omega (arith, length_plain text false)
