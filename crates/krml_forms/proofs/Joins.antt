-- One more part of a list, behind a space.
use Rattle.std.proofs.Common.{◌≡◌, ℕ, ◌+◌, ◌<◌, List, [], ◌∷◌, ◌++◌, map, take, length, get_or, sym, ap, ◌∙◌, append_assoc, arith}
use Rattle.std.proofs.lemmas.List.{append-nil, map_push, take_more, length-take-le, length-map}
use Rattle.krml_forms.specs.declared.form.Form.{Form}
use Rattle.krml_forms.specs.Writing.{spaced, joined, space, form_text}

spaced_push : (ts : List (List ℕ)) (t : List ℕ) → spaced (ts ++ t ∷ []) ≡ spaced ts ++ 32 ∷ t
spaced_push [] t = ap (λ u. 32 ∷ u) (append-nil t)
spaced_push (s ∷ ts) t = ap (λ u. 32 ∷ s ++ u) (spaced_push ts t) ∙ ap (λ u. 32 ∷ u) (sym (append_assoc s (spaced ts) (32 ∷ t)))

joined_push : (ts : List (List ℕ)) (t : List ℕ) → joined (ts ++ t ∷ []) ≡ joined ts ++ (space (length ts) ++ t)
joined_push [] t = append-nil t
joined_push (s ∷ ts) t = ap (λ u. s ++ u) (spaced_push ts t) ∙ sym (append_assoc s (spaced ts) (32 ∷ t))

joined_more : (fs : List Form) (i : ℕ) (f : Form) → i < length fs → f ≡ get_or fs i f → joined (map form_text (take (i + 1) fs)) ≡ joined (map form_text (take i fs)) ++ (space i ++ form_text f)
joined_more fs i f l e =
    let t : take (i + 1) fs ≡ take i fs ++ f ∷ [] = take_more fs i f l ∙ ap (λ g. take i fs ++ g ∷ []) (sym e) in
    let m : map form_text (take (i + 1) fs) ≡ map form_text (take i fs) ++ form_text f ∷ [] = ap (map form_text) t ∙ map_push form_text (take i fs) f in
    let n : length (map form_text (take i fs)) ≡ i = simp length-map (length-take-le i fs (omega arith)) in
    ap joined m ∙ joined_push (map form_text (take i fs)) (form_text f) ∙ ap (λ k. joined (map form_text (take i fs)) ++ (space k ++ form_text f)) n

-- what is written after one more turn
pub one_more : (before now then behind : List ℕ) (fs : List Form) (i : ℕ) (f : Form) → i < length fs → f ≡ get_or fs i f → now ≡ before ++ 40 ∷ joined (map form_text (take i fs))
    → then ≡ now ++ space i → behind ≡ then ++ form_text f → behind ≡ before ++ 40 ∷ joined (map form_text (take (i + 1) fs))
one_more before now then behind fs i f l e a b c = rw (c, b, a, joined_more fs i f l e) (simp append_assoc)
