-- What limits count in a form, level by level, and counts that are not above a limit.
use Rattle.std.proofs.Common.{◌≡◌, ℕ, ◌≤◌, Bool, true, false, if◌then◌else◌, nat_lt, List, [], ◌∷◌, ◌++◌, map, Some, None, refl, sym, ap, ◌∙◌, arith}
use Rattle.std.specs.List.{AllByRecursion, flat_map}
use Rattle.std.proofs.lemmas.Bool.Decides.{nat_tests}
use Rattle.krml_forms.specs.declared.form.Form.{Form, out-Form, roll-out-Form}
use Rattle.krml_forms.specs.declared.form.Form.TheVariants.{Atom, List as Node, outs-Atom, outs-List}
use Rattle.krml_forms.specs.declared.form.Form.TheFolds.{para-roll-Form, map-Form, fold_out-Form}
use Rattle.krml_syntax.specs.Limits.{level_word_lengths, word_lengths, own_length, level_alloc_lengths, alloc_lengths, first_above}

-- ---- words

joined : (fs : List Form) → flat_map (λ ns. ns) (map word_lengths fs) ≡ flat_map word_lengths fs
joined [] = refl
joined (f ∷ fs) = ap (λ ns. word_lengths f ++ ns) (joined fs)

pub words_of_list : (fs : List Form) → word_lengths (Node fs) ≡ flat_map word_lengths fs
words_of_list fs = rw (fold_out-Form (List ℕ) level_word_lengths (Node fs), outs-List fs) (joined fs)

-- ---- elements

abbrev with_lengths : Form → Form × List ℕ
with_lengths f = (f, alloc_lengths f)

level : (f : Form) → alloc_lengths f ≡ level_alloc_lengths (map-Form Form (Form × List ℕ) with_lengths (out-Form f))
level f = ap alloc_lengths (sym (roll-out-Form f)) ∙ para-roll-Form (List ℕ) level_alloc_lengths (out-Form f)

pub elements_of_atom : (w : List ℕ) → alloc_lengths (Atom w) ≡ []
elements_of_atom w = level (Atom w) ∙ ap (λ x. level_alloc_lengths (map-Form Form (Form × List ℕ) with_lengths x)) (outs-Atom w)

forms : (fs : List Form) → map (λ x. x.0) (map with_lengths fs) ≡ fs
forms [] = refl
forms (f ∷ fs) = ap (λ gs. f ∷ gs) (forms fs)

lengths : (fs : List Form) → flat_map (λ x. x.1) (map with_lengths fs) ≡ flat_map alloc_lengths fs
lengths [] = refl
lengths (f ∷ fs) = ap (λ ns. alloc_lengths f ++ ns) (lengths fs)

pub elements_of_list : (fs : List Form) → alloc_lengths (Node fs) ≡ own_length fs ++ flat_map alloc_lengths fs
elements_of_list fs =
    level (Node fs) ∙ ap (λ x. level_alloc_lengths (map-Form Form (Form × List ℕ) with_lengths x)) (outs-List fs)
    ∙ ap (λ gs. own_length gs ++ flat_map (λ x. x.1) (map with_lengths fs)) (forms fs)
    ∙ ap (λ ns. own_length fs ++ ns) (lengths fs)

-- ---- counts above a limit

-- no count is above a limit where none is the first
pub none_above : (limit : ℕ) (ns : List ℕ) → first_above limit ns ≡ None → AllByRecursion (λ n. n ≤ limit) ns
none_above limit [] e = tt
none_above limit (n ∷ ns) e = go (nat_lt limit n) refl (none_above limit ns) e
  where
    go : (b : Bool) → nat_lt limit n ≡ b → (first_above limit ns ≡ None → AllByRecursion (λ n. n ≤ limit) ns) → (if b then Some n else first_above limit ns) ≡ None
        → (n ≤ limit) × AllByRecursion (λ n. n ≤ limit) ns
    go true test more e = absurd (cc)
    go false test more e = (grind (arith, nat_tests), more e)
