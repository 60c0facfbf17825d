-- What a form is read as: a type.
use Rattle.std.specs.Prelude.{ℕ, zero, suc, Bool, true, false, if◌then◌else◌, ◌==◌, List, [], ◌∷◌, Option, Some, None}
use Rattle.krml_forms.specs.declared.form.Form.{Form, out-Form}
use Rattle.krml_forms.specs.declared.form.Form.TheOpen.{Form-F}
use Rattle.krml_syntax.specs.declared.tree.Ty.{Ty}
use Rattle.krml_syntax.specs.declared.tree.Ty.TheVariants as t
use Rattle.krml_syntax.specs.Read.{◌>>=◌}
use Rattle.krml_reader.specs.declared.keyword.Keyword.{Keyword}
use Rattle.krml_reader.specs.declared.keyword.Keyword.TheVariants as k
use Rattle.krml_reader.specs.Each.{each_of, list_in, below}
use Rattle.krml_reader.specs.Keyword.{keyword_of, keyword_at}
use Rattle.krml_reader.specs.Words.{name_of, name_at}

abbrev pub named_of : List ℕ → Option Ty
named_of w = do
  x ← name_of w
  Some (t.Named x [])

abbrev pub word_by : Option Keyword → List ℕ → Option Ty
word_by (Some k.Boolean) w = Some t.Bool
word_by (Some k.Unit) w = Some t.Unit
word_by (Some (k.Int i)) w = Some (t.Int i)
word_by _ w = named_of w

abbrev pub word_of : List ℕ → Option Ty
word_of w = word_by (keyword_of w) w

abbrev pub variable_of : List ℕ → Option Ty
variable_of x = do
  n ← name_of x
  Some (t.Var n)

-- a quote begins a type variable
abbrev pub atom_of : List ℕ → Option Ty
atom_of [] = word_of []
atom_of (b ∷ x) = if b == 39 then variable_of x else word_of (b ∷ x)

abbrev pub buffer_by : (Form → Option Ty) → List Form → Option Ty
buffer_by ty (f ∷ []) = do
  a ← ty f
  Some (t.Buf a)
buffer_by ty _ = None

abbrev pub applied_by : (Form → Option Ty) → Form → List Form → Option Ty
applied_by ty head [] = None
applied_by ty head (f ∷ fs) = do
  x ← name_at head
  bs ← each_of ty (f ∷ fs)
  Some (t.Named x bs)

abbrev pub is_buf_word : Option Keyword → Bool
is_buf_word (Some k.Buf) = true
is_buf_word _ = false

abbrev pub is_buf : Form → Bool
is_buf f = is_buf_word (keyword_at f)

abbrev pub list_by : (Form → Option Ty) → List Form → Option Ty
list_by ty [] = None
list_by ty (head ∷ rest) = if is_buf head then buffer_by ty rest else applied_by ty head rest

abbrev pub ty_in : (List Form → Option Ty) → Form-F Form → Option Ty
ty_in inner (Form-F.Atom w) = atom_of w
ty_in inner (Form-F.List fs) = inner fs

-- what a list is read as, where it and the lists in it may have so many levels
unfoldable pub list_at : ℕ → List Form → Option Ty
list_at zero fs = None
list_at (suc n) fs = list_by (λ f. ty_in (list_at n) (out-Form f)) fs

abbrev pub ty_at : ℕ → Form → Option Ty
ty_at n f = ty_in (list_at n) (out-Form f)

-- types one by one, each of so many levels
abbrev pub tys_of : ℕ → List Form → Option (List Ty)
tys_of n fs = each_of (ty_at n) fs

-- (T..)
abbrev pub tys_at : ℕ → Form → Option (List Ty)
tys_at n f = list_in (below tys_of n) (out-Form f)
