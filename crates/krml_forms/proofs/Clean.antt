-- A text of forms has no fault, and where they have 64 levels at most, no list is too deep.
use Rattle.std.proofs.Common.{◌≡◌, ◌≢◌, ℕ, suc, ◌+◌, ◌-◌, ◌<◌, Bool, true, false, cond, eqb, nat_lt, List, [], ◌∷◌, ◌++◌, length, drop, get_or, Option, Some, None, refl, sym, ap, ◌∙◌, arith}
use Rattle.std.proofs.lemmas.Bool.Decides.{nat_tests}
use Rattle.krml_trace.specs.Byte.{is_white}
use Rattle.krml_forms.specs.declared.form.Form.{Form}
use Rattle.krml_forms.specs.declared.form.Form.TheVariants.{Atom, List as Node}
use Rattle.krml_forms.specs.Text.{Token, Open, Close, Foreign, is_word, symbol, plain, HasForms}
use Rattle.krml_forms.specs.Levels.{AllWithin}
use Rattle.krml_forms.specs.Faults.{is_alphabet, Fault, Deep, HasNone, IsFaultAt, IsDeepAt}
use Rattle.krml_forms.specs.Nest.{nest}
use Rattle.krml_forms.specs.Cut.{after_word, tokens_after}
use Rattle.krml_forms.specs.Scan.{depth_after}
use Rattle.krml_forms.proofs.Cuts.{tokens_are_cut}
use Rattle.krml_forms.proofs.Nested.{guarded}
use Rattle.krml_forms.proofs.Nesting.{forms_again}
use Rattle.krml_forms.proofs.Places.{SoFar, Shallow, start, start_shallow, goes_on, stays_shallow, all_closed, all_shallow, split}

-- ---- what a byte does to the depth

opens_one : (d b : ℕ) → b ≡ 40 → depth_after d b ≡ Some (d + 1)
opens_one d b e = rw e refl

closes_one : (d b : ℕ) → b ≡ 41 → depth_after (suc d) b ≡ Some d
closes_one d b e =
    let z : eqb (suc d) 0 ≡ false = grind (arith, nat_tests) in
    let m : suc d - 1 ≡ d = omega arith in
    rw (e, z, m) refl

if_not : {A : Type 0} (t : Bool) (x y : A) → t ≡ false → cond t x y ≡ y
if_not true x y e = absurd (cc)
if_not false x y e = refl

stays : (d b : ℕ) → b ≢ 40 → b ≢ 41 → is_alphabet b ≡ true → depth_after d b ≡ Some d
stays d b n m a =
    let alphabet : Option ℕ = cond (is_alphabet b) (Some d) None in
    let closing : Option ℕ = cond (eqb d 0) None (Some (d - 1)) in
    if_not (eqb b 40) (Some (d + 1)) (cond (eqb b 41) closing alphabet) (grind (arith, nat_tests)) ∙ if_not (eqb b 41) closing alphabet (grind (arith, nat_tests)) ∙ ap (λ t. cond t (Some d) None) a

word_is_alphabet : (b : ℕ) → is_word b ≡ true → is_alphabet b ≡ true
word_is_alphabet b h = rw h refl

white_is_alphabet : (b : ℕ) → is_white b ≡ true → is_alphabet b ≡ true
white_is_alphabet b h = grind (arith, nat_tests)

not_word : (b : ℕ) (c : ℕ) → is_word c ≡ false → is_word b ≡ true → b ≢ c
not_word b c n h = λ e. let t : is_word c ≡ true = ap is_word (sym e) ∙ h in absurd (cc)

-- ---- from a place on

-- the word so far is one more form
peeled : (w : List ℕ) (outer : List (List Form)) (inner : List Form) → (more : List Form) × ((ts : List Token) → nest outer inner (after_word w ts) ≡ nest outer more ts)
peeled [] outer inner = (inner, λ ts. refl)
peeled (b ∷ w) outer inner = (inner ++ Atom (b ∷ w) ∷ [], λ ts. refl)

none_open : (outer : List (List Form)) (inner forms : List Form) → nest outer inner [] ≡ Some forms → length outer ≡ 0
none_open [] inner forms e = refl
none_open (up ∷ outer) inner forms e = absurd (cc)

abbrev IsClean : List ℕ → Type 0
IsClean p = HasNone (Fault p) × HasNone (Deep p)

module _ (p : List ℕ) where
  -- where the rest of a text without comments is read as forms
  abbrev CleanFrom : List ℕ → Type 0
  CleanFrom bs = (i : ℕ) (w : List ℕ) (outer : List (List Form)) (inner forms : List Form) → drop i p ≡ bs → length p ≡ i + length bs
      → SoFar p i (length outer) → Shallow p i → nest outer inner (tokens_after w bs) ≡ Some forms → IsClean p

  at_end : CleanFrom []
  at_end i w outer inner forms e whole s h q =
      let m = peeled w outer inner in
      let z : length outer ≡ 0 = none_open outer m.0 forms (sym (m.1 []) ∙ q) in
      let n : i ≡ length p = omega (arith, whole) in
      (all_closed p i (length outer) n s z, all_shallow p i n h)

  module _ (b : ℕ) (bs : List ℕ) (rest : CleanFrom bs) (i : ℕ) (e : drop i p ≡ b ∷ bs) (whole : length p ≡ i + length (b ∷ bs)) where
    inside : i < length p
    inside = omega (arith, whole)

    here : get_or p i 0 ≡ b
    here = let q : get_or p i 0 ∷ drop (i + 1) p ≡ b ∷ bs = sym (split p i inside) ∙ e in cc

    behind : drop (i + 1) p ≡ bs
    behind = let q : get_or p i 0 ∷ drop (i + 1) p ≡ b ∷ bs = sym (split p i inside) ∙ e in cc

    short : length p ≡ (i + 1) + length bs
    short = omega (arith, whole)

    step : (w : List ℕ) (outer next : List (List Form)) (inner forms : List Form) → SoFar p i (length outer) → Shallow p i
        → depth_after (length outer) b ≡ Some (length next) → (b ≡ 40 → length outer < 64) → nest next inner (tokens_after w bs) ≡ Some forms → IsClean p
    step w outer next inner forms s h d low q =
        rest (i + 1) w next inner forms behind short (goes_on p i (length outer) b inside here s (length next) d) (stays_shallow p i (length outer) b inside here s low h) q

    symbols : (outer : List (List Form)) (inner forms : List Form) (t u v : Bool) → eqb b 40 ≡ t → eqb b 41 ≡ u → is_white b ≡ v → SoFar p i (length outer) → Shallow p i
        → nest outer inner (cond t (Open ∷ tokens_after [] bs) (cond u (Close ∷ tokens_after [] bs) (cond v (tokens_after [] bs) (Foreign ∷ tokens_after [] bs)))) ≡ Some forms → IsClean p
    symbols outer inner forms true u v x y z s h q =
        let g = guarded (nat_lt (length outer) 64) (nest (inner ∷ outer) [] (tokens_after [] bs)) forms q in
        let low : length outer < 64 = grind (arith, nat_tests, g.0) in
        let d : depth_after (length outer) b ≡ Some (length (inner ∷ outer)) = opens_one (length outer) b (grind (arith, nat_tests)) ∙ ap Some (omega arith) in
        step [] outer (inner ∷ outer) [] forms s h d (λ _. low) g.1
    symbols [] inner forms false true v x y z s h q = absurd (cc)
    symbols (up ∷ outer) inner forms false true v x y z s h q =
        let n : b ≢ 40 = grind (arith, nat_tests) in
        step [] (up ∷ outer) outer (up ++ Node inner ∷ []) forms s h (closes_one (length outer) b (grind (arith, nat_tests))) (λ k. absurd (n k)) q
    symbols outer inner forms false false true x y z s h q =
        let n : b ≢ 40 = grind (arith, nat_tests) in
        let m : b ≢ 41 = grind (arith, nat_tests) in
        step [] outer outer inner forms s h (stays (length outer) b n m (white_is_alphabet b z)) (λ k. absurd (n k)) q
    symbols outer inner forms false false false x y z s h q = absurd (cc)

    byte : (w : List ℕ) (outer : List (List Form)) (inner forms : List Form) (t : Bool) → is_word b ≡ t → SoFar p i (length outer) → Shallow p i
        → nest outer inner (cond t (tokens_after (w ++ b ∷ []) bs) (after_word w (symbol b (tokens_after [] bs)))) ≡ Some forms → IsClean p
    byte w outer inner forms true x s h q =
        let n : b ≢ 40 = not_word b 40 refl x in
        let m : b ≢ 41 = not_word b 41 refl x in
        step (w ++ b ∷ []) outer outer inner forms s h (stays (length outer) b n m (word_is_alphabet b x)) (λ k. absurd (n k)) q
    byte w outer inner forms false x s h q =
        let m = peeled w outer inner in
        symbols outer m.0 forms (eqb b 40) (eqb b 41) (is_white b) refl refl refl s h (sym (m.1 (symbol b (tokens_after [] bs))) ∙ q)

  clean_from : (bs : List ℕ) → CleanFrom bs
  clean_from [] = at_end
  clean_from (b ∷ bs) = λ i w outer inner forms e whole s h q. byte b bs (clean_from bs) i e whole w outer inner forms (is_word b) refl s h q

-- ---- a whole text

-- the forms of a text are read
pub read_again : (text : List ℕ) (forms : List Form) → HasForms text forms → AllWithin 64 forms → nest [] [] (tokens_after [] (plain text)) ≡ Some forms
read_again text forms has within = ap (nest [] []) (tokens_are_cut (plain text) ∙ has) ∙ forms_again forms within

is_clean : (text : List ℕ) (forms : List Form) → HasForms text forms → AllWithin 64 forms → IsClean (plain text)
is_clean text forms has within =
    clean_from (plain text) (plain text) 0 [] [] [] forms refl (omega arith) (start (plain text) 0 refl) (start_shallow (plain text)) (read_again text forms has within)

pub no_fault : (text : List ℕ) (forms : List Form) → HasForms text forms → AllWithin 64 forms → HasNone (IsFaultAt text)
no_fault text forms has within = (is_clean text forms has within).0

pub no_deep : (text : List ℕ) (forms : List Form) → HasForms text forms → AllWithin 64 forms → HasNone (IsDeepAt text)
no_deep text forms has within = (is_clean text forms has within).1
