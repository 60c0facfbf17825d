-- How a list of forms is read.
use Rattle.std.specs.Prelude.{ℕ, zero, suc, List, [], ◌∷◌, ◌++◌, Option, Some, None}
use Rattle.krml_forms.specs.declared.form.Form.{Form}
use Rattle.krml_forms.specs.declared.form.Form.TheOpen.{Form-F}
use Rattle.krml_syntax.specs.Read.{◌>>=◌}

-- what forms are read as, one by one, behind what those before them are
unfoldable pub each_after : {X : Type 0} → (Form → Option X) → List X → List Form → Option (List X)
each_after read done [] = Some done
each_after read done (f ∷ fs) = do
  x ← read f
  each_after read (done ++ x ∷ []) fs

abbrev pub each_of : {X : Type 0} → (Form → Option X) → List Form → Option (List X)
each_of read fs = each_after read [] fs

-- a list is read by what stands in it
abbrev pub list_in : {X : Type 0} → (List Form → Option X) → Form-F Form → Option X
list_in read (Form-F.Atom w) = None
list_in read (Form-F.List fs) = read fs

-- and takes a level of its own
abbrev pub below : {X : Type 0} → (ℕ → List Form → Option X) → ℕ → List Form → Option X
below read zero fs = None
below read (suc n) fs = read n fs
