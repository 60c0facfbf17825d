-- How deep the lists of a text nest, and how many forms a form has.
use Rattle.std.specs.Prelude.{ℕ, zero, suc, ◌+◌, List, sum}
use Rattle.std.specs.List.{AllByRecursion}
use Rattle.krml_forms.specs.declared.form.Form.{Form, out-Form}
use Rattle.krml_forms.specs.declared.form.Form.TheOpen.{Form-F}
use Rattle.krml_forms.specs.declared.form.Form.TheFolds.{fold-Form}

abbrev pub within_in : (List Form → Type 0) → Form-F Form → Type 0
within_in inner (Form-F.Atom w) = Unit {0}
within_in inner (Form-F.List fs) = inner fs

-- A list and those in it have at most n levels.
unfoldable pub ListWithin : ℕ → List Form → Type 0
ListWithin zero fs = ⊥
ListWithin (suc n) fs = AllByRecursion (λ f. within_in (ListWithin n) (out-Form f)) fs

abbrev pub Within : ℕ → Form → Type 0
Within n f = within_in (ListWithin n) (out-Form f)

abbrev pub AllWithin : ℕ → List Form → Type 0
AllWithin n fs = AllByRecursion (Within n) fs

-- how many forms a form has: itself, and those in it
abbrev pub level_count : Form-F ℕ → ℕ
level_count (Form-F.Atom w) = 1
level_count (Form-F.List ns) = sum ns + 1

abbrev pub form_count : Form → ℕ
form_count = fold-Form ℕ level_count
