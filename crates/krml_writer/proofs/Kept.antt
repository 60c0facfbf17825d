-- What forms that differ in how their numbers are written have in common.
use Rattle.std.proofs.Common.{◌≡◌, ℕ, ◌+◌, ◌<◌, ◌≤◌, ◌^◌, Bool, true, false, ◌==◌, nat_lt, List, [], ◌∷◌, ◌++◌, map, sum, length, codes, Some, None, refl, sym, ap, ◌∙◌, subst, arith}
use Rattle.std.specs.Fmt.{decimal}
use Rattle.std.specs.List.{flat_map}
use Rattle.std.specs.Str.{bytes_eq}
use Rattle.std.proofs.lemmas.Bool.Decides.{nat_tests}
use Rattle.std.proofs.lemmas.Fmt.{length-decimal-le}
use Rattle.std.proofs.lemmas.List.Sums.{sum_by-cons}
use Rattle.std.proofs.lemmas.Slice.Eq.{bytes_eq-Decides}
use Rattle.krml_forms.specs.declared.form.Form.{Form, out-Form}
use Rattle.krml_forms.specs.declared.form.Form.TheVariants.{Atom, List as Node, outs-Atom, outs-List}
use Rattle.krml_forms.specs.declared.form.Form.TheFolds.{fold_out-Form}
use Rattle.krml_forms.specs.Levels.{Within, AllWithin, form_count}
use Rattle.krml_forms.specs.Writing.{Writable, AllWritable}
use Rattle.krml_forms.proofs.Layer.{atom_within, list_within, list_inside, count_of_atom, count_of_list}
use Rattle.krml_syntax.specs.Limits.{word_length, level_word_lengths, word_lengths, is_alloc_in, own_length, alloc_lengths, first_above}
use Rattle.krml_syntax.specs.Number.{IsNumber, number_of, number_at}
use Rattle.krml_syntax.proofs.Numbers.{number_at_again}
use Rattle.krml_syntax.proofs.Limits.{elements_of_atom, elements_of_list}
use Rattle.krml_writer.proofs.Alike.{Alike, AllAlike}
use Rattle.krml_writer.proofs.WordBytes.{decimal_is_word}

-- ---- words

mutual
  pub writable : {f g : Form} → Alike f g → Writable g
  writable (Alike.word h) = Writable.atom h
  writable (Alike.number {n = n} is l) = Writable.atom (decimal_is_word n l)
  writable (Alike.list a) = Writable.list (all_writable a)

  pub all_writable : {fs gs : List Form} → AllAlike fs gs → AllWritable gs
  all_writable AllAlike.none = AllWritable.none
  all_writable (AllAlike.one a more) = AllWritable.one (writable a) (all_writable more)

-- ---- levels

mutual
  pub same_levels : {f g : Form} → Alike f g → (n : ℕ) → Within n f → Within n g
  same_levels (Alike.word h) n within = within
  same_levels (Alike.number {n = m} is l) n within = atom_within n (decimal m)
  same_levels (Alike.list {fs = fs} {gs = gs} a) n within =
      let inside = list_inside n fs within in
      subst (λ i. Within i (Node gs)) (sym inside.1) (list_within inside.0 gs (all_same_levels a inside.0 inside.2))

  pub all_same_levels : {fs gs : List Form} → AllAlike fs gs → (n : ℕ) → AllWithin n fs → AllWithin n gs
  all_same_levels AllAlike.none n within = tt
  all_same_levels (AllAlike.one a more) n within = (same_levels a n within.0, all_same_levels more n within.1)

-- ---- how many forms there are

sum_of_more : (f : Form) (fs : List Form) → sum (map form_count (f ∷ fs)) ≡ form_count f + sum (map form_count fs)
sum_of_more f fs = sum_by-cons (λ n. n) (form_count f) (map form_count fs)

mutual
  pub same_count : {f g : Form} → Alike f g → form_count f ≡ form_count g
  same_count (Alike.word h) = refl
  same_count (Alike.number {w = w} {n = n} is l) = count_of_atom w ∙ sym (count_of_atom (decimal n))
  same_count (Alike.list {fs = fs} {gs = gs} a) = rw (count_of_list fs, count_of_list gs, all_same_count a) refl

  all_same_count : {fs gs : List Form} → AllAlike fs gs → sum (map form_count fs) ≡ sum (map form_count gs)
  all_same_count AllAlike.none = refl
  all_same_count (AllAlike.one {f = f} {g = g} {fs = fs} {gs = gs} a more) =
      rw (sum_of_more f fs, sum_of_more g gs, same_count a, all_same_count more) refl

-- ---- the lengths of words

-- no count is above the limit
abbrev pub Fits : ℕ → List ℕ → Type 0
Fits limit ns = first_above limit ns ≡ None

pub both_fit : (limit : ℕ) (ms ns : List ℕ) → Fits limit ms → Fits limit ns → Fits limit (ms ++ ns)
both_fit limit [] ns a b = b
both_fit limit (m ∷ ms) ns a b = go (nat_lt limit m) refl (λ rest. both_fit limit ms ns rest b)
  where
    go : (t : Bool) → nat_lt limit m ≡ t → (Fits limit ms → Fits limit (ms ++ ns)) → Fits limit ((m ∷ ms) ++ ns)
    go true e more = let some : Some m ≡ None = rw e at a in absurd (cc)
    go false e more = rw e (more (rw e at a))

pub parts_fit : (limit : ℕ) (ms ns : List ℕ) → Fits limit (ms ++ ns) → Fits limit ms × Fits limit ns
parts_fit limit [] ns a = (refl, a)
parts_fit limit (m ∷ ms) ns a = go (nat_lt limit m) refl (parts_fit limit ms ns)
  where
    go : (t : Bool) → nat_lt limit m ≡ t → (Fits limit (ms ++ ns) → Fits limit ms × Fits limit ns) → Fits limit (m ∷ ms) × Fits limit ns
    go true e more = let some : Some m ≡ None = rw e at a in absurd (cc)
    go false e more = let p = more (rw e at a) in (rw e p.0, p.1)

word_length_within : (w : List ℕ) → word_length w ≤ length w
word_length_within [] = omega arith
word_length_within (b ∷ bs) = go (b == 39) refl
  where
    go : (t : Bool) → (b == 39) ≡ t → word_length (b ∷ bs) ≤ length (b ∷ bs)
    go true e = rw e (omega arith)
    go false e = rw e (omega arith)

decimal_fits : (n : ℕ) → n < 2 ^ 64 → Fits 64 (word_length (decimal n) ∷ [])
decimal_fits n l =
    let short : length (decimal n) ≤ 20 = length-decimal-le 20 n (omega arith) (omega arith) l in
    let shorter : word_length (decimal n) ≤ length (decimal n) = word_length_within (decimal n) in
    let few : nat_lt 64 (word_length (decimal n)) ≡ false = grind (arith, nat_tests) in
    rw few refl

lengths_of_atom : (w : List ℕ) → word_lengths (Atom w) ≡ word_length w ∷ []
lengths_of_atom w = rw (fold_out-Form (List ℕ) level_word_lengths (Atom w), outs-Atom w) refl

lengths_of_list : (fs : List Form) → word_lengths (Node fs) ≡ flat_map (λ ns. ns) (map word_lengths fs)
lengths_of_list fs = rw (fold_out-Form (List ℕ) level_word_lengths (Node fs), outs-List fs) refl

abbrev all_lengths : List Form → List ℕ
all_lengths fs = flat_map (λ ns. ns) (map word_lengths fs)

mutual
  pub names_fit : {f g : Form} → Alike f g → Fits 64 (word_lengths f) → Fits 64 (word_lengths g)
  names_fit (Alike.word h) fit = fit
  names_fit (Alike.number {n = n} is l) fit = rw (lengths_of_atom (decimal n)) (decimal_fits n l)
  names_fit (Alike.list {fs = fs} {gs = gs} a) fit = rw (lengths_of_list gs) (all_names_fit a (rw (lengths_of_list fs) at fit))

  all_names_fit : {fs gs : List Form} → AllAlike fs gs → Fits 64 (all_lengths fs) → Fits 64 (all_lengths gs)
  all_names_fit AllAlike.none fit = refl
  all_names_fit (AllAlike.one {f = f} {g = g} {fs = fs} {gs = gs} a more) fit =
      let p = parts_fit 64 (word_lengths f) (all_lengths fs) fit in
      both_fit 64 (word_lengths g) (all_lengths gs) (names_fit a p.0) (all_names_fit more p.1)

-- ---- the numbers of elements

pub same_number : {f g : Form} → Alike f g → number_at f ≡ number_at g
same_number (Alike.word h) = refl
same_number (Alike.number {w = w} {n = n} is l) = number_at_again w n is l ∙ sym (number_at_again (decimal n) n IsNumber.decimal_digits l)
same_number (Alike.list {fs = fs} {gs = gs} a) = rw (outs-List fs, outs-List gs) refl

abbrev is_alloc : Form → Bool
is_alloc f = is_alloc_in (out-Form f)

alloc_is_no_number : number_at (Atom (codes "alloc")) ≡ None
unfolding number_of
alloc_is_no_number = rw (outs-Atom (codes "alloc")) refl

number_is_no_alloc : (w : List ℕ) (n : ℕ) → IsNumber w n → n < 2 ^ 64 → is_alloc (Atom w) ≡ false
number_is_no_alloc w n is l = rw (outs-Atom w) (go (bytes_eq w (codes "alloc")) refl)
  where
    go : (t : Bool) → bytes_eq w (codes "alloc") ≡ t → t ≡ false
    go true e =
        let same : w ≡ codes "alloc" = (bytes_eq-Decides w (codes "alloc")).0 e in
        let some : number_at (Atom (codes "alloc")) ≡ Some n = ap (λ v. number_at (Atom v)) (sym same) ∙ number_at_again w n is l in
        let none : Some n ≡ None = sym some ∙ alloc_is_no_number in
        absurd (cc)
    go false e = refl

same_head : {f g : Form} → Alike f g → is_alloc f ≡ is_alloc g
same_head (Alike.word h) = refl
same_head (Alike.number {w = w} {n = n} is l) = number_is_no_alloc w n is l ∙ sym (number_is_no_alloc (decimal n) n IsNumber.decimal_digits l)
same_head (Alike.list {fs = fs} {gs = gs} a) = rw (outs-List fs, outs-List gs) refl

same_own_length : {fs gs : List Form} → AllAlike fs gs → own_length fs ≡ own_length gs
same_own_length (AllAlike.one a (AllAlike.one b (AllAlike.one c (AllAlike.one d AllAlike.none)))) = rw (same_head a, same_number c) refl
same_own_length _ = refl

mutual
  pub same_allocs : {f g : Form} → Alike f g → alloc_lengths f ≡ alloc_lengths g
  same_allocs (Alike.word h) = refl
  same_allocs (Alike.number {w = w} {n = n} is l) = elements_of_atom w ∙ sym (elements_of_atom (decimal n))
  same_allocs (Alike.list {fs = fs} {gs = gs} a) = rw (elements_of_list fs, elements_of_list gs, same_own_length a, all_same_allocs a) refl

  all_same_allocs : {fs gs : List Form} → AllAlike fs gs → flat_map alloc_lengths fs ≡ flat_map alloc_lengths gs
  all_same_allocs AllAlike.none = refl
  all_same_allocs (AllAlike.one a more) = rw (same_allocs a, all_same_allocs more) refl
