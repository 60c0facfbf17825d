-- Forms that have more forms than a u64 counts.
use Rattle.std.specs.Prelude.{◌⊎◌, ◌≤◌, ◌^◌, List, [], ◌∷◌}
use Rattle.krml_forms.specs.Levels.{form_count}
use Rattle.krml_forms.specs.declared.form.Form.{Form}

-- Some form has 2 to the power 64 forms or more.
abbrev pub HasUncounted : List Form → Type 0
HasUncounted [] = ⊥
HasUncounted (f ∷ fs) = (2 ^ 64 ≤ form_count f) ⊎ HasUncounted fs
