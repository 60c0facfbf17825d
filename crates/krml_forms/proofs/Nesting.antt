-- The tokens of forms of few levels are read as those forms.
use Rattle.std.proofs.Common.{◌≡◌, ℕ, zero, suc, ◌+◌, ◌<◌, List, [], ◌∷◌, ◌++◌, length, Some, refl, sym, ap, ◌∙◌, append_assoc, arith}
use Rattle.std.proofs.lemmas.List.{append-nil}
use Rattle.std.proofs.lemmas.Bool.Decides.{nat_tests}
use Rattle.krml_forms.specs.declared.form.Form.{Form, out-Form}
use Rattle.krml_forms.specs.declared.form.Form.TheOpen.{Form-F}
use Rattle.krml_forms.specs.declared.form.Form.TheVariants.{List as Node}
use Rattle.krml_forms.specs.Text.{Token, Open, Close, form_tokens}
use Rattle.krml_forms.specs.Levels.{within_in, ListWithin, Within, AllWithin}
use Rattle.krml_forms.specs.Nest.{nest}
use Rattle.krml_forms.proofs.Layer.{is_atom, is_list, flat, tokens_of_atom, tokens_of_list}

-- where n levels are left, a form of n levels is taken
abbrev TakesForm : ℕ → Type 0
TakesForm n = (outer : List (List Form)) (inner : List Form) (f : Form) (ts : List Token) → length outer + n ≡ 64 → Within n f → nest outer inner (form_tokens f ++ ts) ≡ nest outer (inner ++ f ∷ []) ts

abbrev TakesForms : ℕ → Type 0
TakesForms n = (outer : List (List Form)) (inner fs : List Form) (ts : List Token) → length outer + n ≡ 64 → AllWithin n fs → nest outer inner (flat fs ++ ts) ≡ nest outer (inner ++ fs) ts

takes_forms : (n : ℕ) → TakesForm n → TakesForms n
takes_forms n one outer inner [] ts room w = rw append-nil refl
takes_forms n one outer inner (f ∷ fs) ts room w =
    let first : nest outer inner (form_tokens f ++ (flat fs ++ ts)) ≡ nest outer (inner ++ f ∷ []) (flat fs ++ ts) = one outer inner f (flat fs ++ ts) room w.0 in
    let others : nest outer (inner ++ f ∷ []) (flat fs ++ ts) ≡ nest outer ((inner ++ f ∷ []) ++ fs) ts = takes_forms n one outer (inner ++ f ∷ []) fs ts room w.1 in
    let before : (form_tokens f ++ flat fs) ++ ts ≡ form_tokens f ++ (flat fs ++ ts) = simp append_assoc in
    let behind : (inner ++ f ∷ []) ++ fs ≡ inner ++ f ∷ fs = simp append_assoc in
    ap (nest outer inner) before ∙ first ∙ others ∙ ap (λ gs. nest outer gs ts) behind

opens : (outer : List (List Form)) (inner : List Form) (ts : List Token) → length outer < 64 → nest outer inner (Open ∷ ts) ≡ nest (inner ∷ outer) [] ts
opens outer inner ts room = grind (arith, nat_tests)

takes_list : (n : ℕ) → TakesForms n → (outer : List (List Form)) (inner fs : List Form) (ts : List Token) → length outer + suc n ≡ 64 → AllWithin n fs
    → nest outer inner ((Open ∷ flat fs ++ Close ∷ []) ++ ts) ≡ nest outer (inner ++ Node fs ∷ []) ts
takes_list n all outer inner fs ts room w =
    let regroup : (flat fs ++ Close ∷ []) ++ ts ≡ flat fs ++ Close ∷ ts = simp append_assoc in
    let below : length outer < 64 = omega arith in
    let left : length (inner ∷ outer) + n ≡ 64 = omega arith in
    ap (λ us. nest outer inner (Open ∷ us)) regroup ∙ opens outer inner (flat fs ++ Close ∷ ts) below ∙ all (inner ∷ outer) [] fs (Close ∷ ts) left w

takes_level : (n : ℕ) (outer : List (List Form)) (inner : List Form) (f : Form) (ts : List Token) (x : Form-F Form)
    → ((fs : List Form) → ListWithin n fs → nest outer inner ((Open ∷ flat fs ++ Close ∷ []) ++ ts) ≡ nest outer (inner ++ Node fs ∷ []) ts)
    → out-Form f ≡ x → within_in (ListWithin n) x → nest outer inner (form_tokens f ++ ts) ≡ nest outer (inner ++ f ∷ []) ts
takes_level n outer inner f ts (Form-F.Atom v) list e w = rw (tokens_of_atom f v e, is_atom f v e) refl
takes_level n outer inner f ts (Form-F.List fs) list e w = rw (tokens_of_list f fs e, is_list f fs e) (list fs w)

takes_form : (n : ℕ) → TakesForm n
unfolding ListWithin
takes_form zero outer inner f ts room w = takes_level zero outer inner f ts (out-Form f) (λ fs v. absurd v) refl w
takes_form (suc n) outer inner f ts room w = takes_level (suc n) outer inner f ts (out-Form f) (λ fs v. takes_list n (takes_forms n (takes_form n)) outer inner fs ts room v) refl w

pub forms_again : (fs : List Form) → AllWithin 64 fs → nest [] [] (flat fs) ≡ Some fs
forms_again fs w =
    let e : nest [] [] (flat fs ++ []) ≡ nest [] fs [] = takes_forms 64 (takes_form 64) [] [] fs [] refl w in
    ap (nest [] []) (sym (append-nil (flat fs))) ∙ e
