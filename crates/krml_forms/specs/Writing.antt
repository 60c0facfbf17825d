-- The text of forms.
use Rattle.std.specs.Prelude.{◌≡◌, ℕ, zero, suc, true, List, [], ◌∷◌, ◌++◌}
use Rattle.std.specs.List.{flat_map, list_all}
use Rattle.krml_forms.specs.declared.form.Form.{Form}
use Rattle.krml_forms.specs.declared.form.Form.TheOpen.{Form-F}
use Rattle.krml_forms.specs.declared.form.Form.TheVariants.{Atom, List as Node}
use Rattle.krml_forms.specs.declared.form.Form.TheFolds.{fold-Form}
use Rattle.krml_forms.specs.Text.{is_word}

-- each text behind a space
abbrev pub spaced : List (List ℕ) → List ℕ
spaced [] = []
spaced (t ∷ ts) = 32 ∷ t ++ spaced ts

-- texts with single spaces between them
abbrev pub joined : List (List ℕ) → List ℕ
joined [] = []
joined (t ∷ ts) = t ++ spaced ts

-- An atom is its bytes, a list its parts between parentheses.
abbrev pub level_text : Form-F (List ℕ) → List ℕ
level_text (Form-F.Atom w) = w
level_text (Form-F.List ts) = 40 ∷ joined ts ++ 41 ∷ []

abbrev pub form_text : Form → List ℕ
form_text = fold-Form (List ℕ) level_text

-- Each form on a line of its own.
abbrev pub forms_text : List Form → List ℕ
forms_text forms = flat_map (λ f. form_text f ++ 10 ∷ []) forms

-- what stands before a part of a list that has so many parts before it
abbrev pub space : ℕ → List ℕ
space zero = []
space (suc before) = 32 ∷ []

-- A word is a run of letters, digits, `_` and `'` of one byte at least.
abbrev pub IsWord : List ℕ → Type 0
IsWord [] = ⊥
IsWord (b ∷ w) = list_all is_word (b ∷ w) ≡ true

-- Each atom of a form is a word.
mutual
  pub data Writable : Form → Type 0 where
    atom : {w : List ℕ} → IsWord w → Writable (Atom w)
    list : {fs : List Form} → AllWritable fs → Writable (Node fs)

  pub data AllWritable : List Form → Type 0 where
    none : AllWritable []
    one : {f : Form} {fs : List Form} → Writable f → AllWritable fs → AllWritable (f ∷ fs)
