-- One level of a form, and its tokens.
use Rattle.std.proofs.Common.{◌≡◌, ℕ, zero, suc, ◌+◌, sum, List, [], ◌∷◌, ◌++◌, map, refl, sym, ap, ◌∙◌, subst}
use Rattle.std.specs.List.{flat_map}
use Rattle.krml_forms.specs.declared.form.Form.{Form, out-Form, roll-Form, roll-out-Form}
use Rattle.krml_forms.specs.declared.form.Form.TheOpen.{Form-F}
use Rattle.krml_forms.specs.declared.form.Form.TheVariants.{Atom, List as Node, outs-Atom, outs-List}
use Rattle.krml_forms.specs.declared.form.Form.TheFolds.{fold_out-Form}
use Rattle.krml_forms.specs.Text.{Token, Open, Close, Word, level_tokens, form_tokens}
use Rattle.krml_forms.specs.Levels.{within_in, ListWithin, Within, AllWithin, level_count, form_count}

-- forms of one level are one form
same_level : (f g : Form) → out-Form f ≡ out-Form g → f ≡ g
same_level f g e = sym (roll-out-Form f) ∙ ap roll-Form e ∙ roll-out-Form g

pub is_atom : (f : Form) (w : List ℕ) → out-Form f ≡ Form-F.Atom w → f ≡ Atom w
is_atom f w e = same_level f (Atom w) (e ∙ sym (outs-Atom w))

pub is_list : (f : Form) (fs : List Form) → out-Form f ≡ Form-F.List fs → f ≡ Node fs
is_list f fs e = same_level f (Node fs) (e ∙ sym (outs-List fs))

-- ---- tokens

-- the tokens of forms in a row
abbrev pub flat : List Form → List Token
flat fs = flat_map form_tokens fs

pub tokens_of_atom : (f : Form) (w : List ℕ) → out-Form f ≡ Form-F.Atom w → form_tokens f ≡ Word w ∷ []
tokens_of_atom f w e = rw (fold_out-Form (List Token) level_tokens f, e) refl

flat-map : (fs : List Form) → flat_map (λ ts. ts) (map form_tokens fs) ≡ flat fs
flat-map [] = refl
flat-map (f ∷ fs) = ap (λ ts. form_tokens f ++ ts) (flat-map fs)

pub tokens_of_list : (f : Form) (fs : List Form) → out-Form f ≡ Form-F.List fs → form_tokens f ≡ Open ∷ flat fs ++ Close ∷ []
tokens_of_list f fs e = rw (fold_out-Form (List Token) level_tokens f, e) (ap (λ ts. Open ∷ ts ++ Close ∷ []) (flat-map fs))

-- ---- levels

pub atom_within : (n : ℕ) (w : List ℕ) → Within n (Atom w)
atom_within n w = subst (within_in (ListWithin n)) (sym (outs-Atom w)) tt

pub list_within : (n : ℕ) (fs : List Form) → AllWithin n fs → Within (suc n) (Node fs)
unfolding ListWithin
list_within n fs a = subst (within_in (ListWithin (suc n))) (sym (outs-List fs)) a

-- a list takes a level of its own
pub list_inside : (n : ℕ) (fs : List Form) → Within n (Node fs) → (m : ℕ) × (n ≡ suc m) × AllWithin m fs
unfolding ListWithin
list_inside zero fs w = absurd (subst (within_in (ListWithin zero)) (outs-List fs) w)
list_inside (suc m) fs w = (m, refl, subst (within_in (ListWithin (suc m))) (outs-List fs) w)

in_more : (inner more : List Form → Type 0) → ((fs : List Form) → inner fs → more fs) → (x : Form-F Form) → within_in inner x → within_in more x
in_more inner more h (Form-F.Atom w) a = tt
in_more inner more h (Form-F.List fs) a = h fs a

all_more : (m : ℕ) → ((f : Form) → Within m f → Within (suc m) f) → (fs : List Form) → AllWithin m fs → AllWithin (suc m) fs
all_more m more [] a = tt
all_more m more (f ∷ fs) a = (more f a.0, all_more m more fs a.1)

list_more : (n : ℕ) (fs : List Form) → ListWithin n fs → ListWithin (suc n) fs
unfolding ListWithin
list_more zero fs a = absurd a
list_more (suc m) fs a = all_more m (λ f. in_more (ListWithin m) (ListWithin (suc m)) (list_more m) (out-Form f)) fs a

-- what has few levels has at most one more
pub within_more : (n : ℕ) (f : Form) → Within n f → Within (suc n) f
within_more n f = in_more (ListWithin n) (ListWithin (suc n)) (list_more n) (out-Form f)

-- ---- how many forms

pub count_of_atom : (w : List ℕ) → form_count (Atom w) ≡ 1
count_of_atom w = rw (fold_out-Form ℕ level_count (Atom w), outs-Atom w) refl

pub count_of_list : (fs : List Form) → form_count (Node fs) ≡ sum (map form_count fs) + 1
count_of_list fs = rw (fold_out-Form ℕ level_count (Node fs), outs-List fs) refl
