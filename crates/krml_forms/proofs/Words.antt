-- The atoms of the forms of a text are words.
use Rattle.std.proofs.Common.{◌≡◌, ℕ, zero, suc, Bool, true, false, cond, eqb, List, [], ◌∷◌, ◌++◌, refl, sym, subst}
use Rattle.std.specs.List.{AllByRecursion}
use Rattle.krml_trace.specs.Byte.{is_white}
use Rattle.krml_forms.specs.declared.form.Form.{Form, out-Form}
use Rattle.krml_forms.specs.declared.form.Form.TheOpen.{Form-F}
use Rattle.krml_forms.specs.Text.{Token, Open, Close, Word, Foreign, is_word, begins_word, join_word, symbol, cut, plain, form_tokens, HasForms}
use Rattle.krml_forms.specs.Levels.{within_in, ListWithin, Within, AllWithin}
use Rattle.krml_forms.specs.Writing.{IsWord, Writable, AllWritable}
use Rattle.krml_forms.proofs.Layer.{is_atom, is_list, flat, tokens_of_atom, tokens_of_list}

-- ---- tokens

abbrev IsSound : Token → Type 0
IsSound (Word w) = IsWord w
IsSound _ = Unit {0}

abbrev AllSound : List Token → Type 0
AllSound ts = AllByRecursion IsSound ts

one_byte : (b : ℕ) → is_word b ≡ true → IsWord (b ∷ [])
one_byte b h = rw h refl

more_bytes : (b : ℕ) (w : List ℕ) → is_word b ≡ true → IsWord w → IsWord (b ∷ w)
more_bytes b [] h v = absurd v
more_bytes b (c ∷ w) h v = rw (h, v) refl

join_sound : (goes_on : Bool) (b : ℕ) (ts : List Token) → is_word b ≡ true → AllSound ts → AllSound (join_word goes_on b ts)
join_sound true b (Word w ∷ ts) h s = (more_bytes b w h s.0, s.1)
join_sound true b [] h s = (one_byte b h, s)
join_sound true b (Open ∷ ts) h s = (one_byte b h, s)
join_sound true b (Close ∷ ts) h s = (one_byte b h, s)
join_sound true b (Foreign ∷ ts) h s = (one_byte b h, s)
join_sound false b ts h s = (one_byte b h, s)

symbol_sound : (t u v : Bool) (ts : List Token) → AllSound ts → AllSound (cond t (Open ∷ ts) (cond u (Close ∷ ts) (cond v ts (Foreign ∷ ts))))
symbol_sound true u v ts s = (tt, s)
symbol_sound false true v ts s = (tt, s)
symbol_sound false false true ts s = s
symbol_sound false false false ts s = (tt, s)

cut_sound : (bs : List ℕ) → AllSound (cut bs)
cut_sound [] = tt
cut_sound (b ∷ bs) = next (is_word b) refl (cut_sound bs)
  where
    next : (t : Bool) → is_word b ≡ t → AllSound (cut bs) → AllSound (cond t (join_word (begins_word bs) b (cut bs)) (symbol b (cut bs)))
    next true h s = join_sound (begins_word bs) b (cut bs) h s
    next false h s = symbol_sound (eqb b 40) (eqb b 41) (is_white b) (cut bs) s

-- ---- forms

front_sound : (ts us : List Token) → AllSound (ts ++ us) → AllSound ts
front_sound [] us s = tt
front_sound (t ∷ ts) us s = (s.0, front_sound ts us s.1)

back_sound : (ts us : List Token) → AllSound (ts ++ us) → AllSound us
back_sound [] us s = s
back_sound (t ∷ ts) us s = back_sound ts us s.1

abbrev FormsWritable : ℕ → Type 0
FormsWritable n = (fs : List Form) → AllWithin n fs → AllSound (flat fs) → AllWritable fs

forms_writable : (n : ℕ) → ((f : Form) → Within n f → AllSound (form_tokens f) → Writable f) → FormsWritable n
forms_writable n one [] w s = AllWritable.none
forms_writable n one (f ∷ fs) w s = AllWritable.one (one f w.0 (front_sound (form_tokens f) (flat fs) s)) (forms_writable n one fs w.1 (back_sound (form_tokens f) (flat fs) s))

level_writable : (n : ℕ) (f : Form) (x : Form-F Form) → ((fs : List Form) → ListWithin n fs → AllSound (flat fs) → AllWritable fs) → out-Form f ≡ x → within_in (ListWithin n) x → AllSound (form_tokens f) → Writable f
level_writable n f (Form-F.Atom v) list e w s =
    let sound : AllSound (Word v ∷ []) = subst AllSound (tokens_of_atom f v e) s in
    subst Writable (sym (is_atom f v e)) (Writable.atom sound.0)
level_writable n f (Form-F.List fs) list e w s =
    let sound : AllSound (Open ∷ flat fs ++ Close ∷ []) = subst AllSound (tokens_of_list f fs e) s in
    subst Writable (sym (is_list f fs e)) (Writable.list (list fs w (front_sound (flat fs) (Close ∷ []) sound.1)))

form_writable : (n : ℕ) (f : Form) → Within n f → AllSound (form_tokens f) → Writable f
unfolding ListWithin
form_writable zero f w s = level_writable zero f (out-Form f) (λ fs v. absurd v) refl w s
form_writable (suc n) f w s = level_writable (suc n) f (out-Form f) (λ fs v. forms_writable n (form_writable n) fs v) refl w s

pub all_writable : (text : List ℕ) (forms : List Form) → HasForms text forms → AllWithin 64 forms → AllWritable forms
all_writable text forms has within = forms_writable 64 (form_writable 64) forms within (subst AllSound has (cut_sound (plain text)))
