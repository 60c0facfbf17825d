-- What a form is read as: a pattern.
use Rattle.std.specs.Prelude.{ℕ, zero, suc, if◌then◌else◌, List, [], ◌∷◌, codes, Option, Some, None}
use Rattle.std.specs.Str.{bytes_eq}
use Rattle.krml_forms.specs.declared.form.Form.{Form, out-Form}
use Rattle.krml_forms.specs.declared.form.Form.TheOpen.{Form-F}
use Rattle.krml_syntax.specs.declared.tree.IntTy.{IntTy}
use Rattle.krml_syntax.specs.declared.tree.Pat.{Pat}
use Rattle.krml_syntax.specs.declared.tree.Pat.TheVariants as p
use Rattle.krml_syntax.specs.Read.{◌>>=◌}
use Rattle.krml_reader.specs.declared.keyword.Keyword.{Keyword}
use Rattle.krml_reader.specs.declared.keyword.Keyword.TheVariants as k
use Rattle.krml_reader.specs.Each.{each_of}
use Rattle.krml_reader.specs.Keyword.{keyword_of, keyword_at}
use Rattle.krml_reader.specs.Words.{name_of, name_at, number_of_width}

abbrev pub bound_of : List ℕ → Option Pat
bound_of w = do
  x ← name_of w
  Some (p.Bind x)

abbrev pub word_by : Option Keyword → List ℕ → Option Pat
word_by (Some (k.Truth b)) w = Some (p.Bool b)
word_by _ w = bound_of w

abbrev pub atom_of : List ℕ → Option Pat
atom_of w = if bytes_eq w (codes "_") then Some p.Any else word_by (keyword_of w) w

abbrev pub number_of : IntTy → List Form → Option Pat
number_of i (f ∷ []) = do
  n ← number_of_width i.width f
  Some (p.Num i n)
number_of i _ = None

-- a name, and patterns
abbrev pub parts_by : (Form → Option Pat) → List Form → Option (List ℕ × List Pat)
parts_by pat [] = None
parts_by pat (name ∷ fs) = do
  x ← name_at name
  ps ← each_of pat fs
  Some (x, ps)

abbrev pub con_by : (Form → Option Pat) → List Form → Option Pat
con_by pat fs = do
  xps ← parts_by pat fs
  Some (p.Con xps.0 xps.1)

abbrev pub make_by : (Form → Option Pat) → List Form → Option Pat
make_by pat fs = do
  xps ← parts_by pat fs
  Some (p.Make xps.0 xps.1)

abbrev pub head_by : (Form → Option Pat) → Option Keyword → List Form → Option Pat
head_by pat (Some (k.Int i)) rest = number_of i rest
head_by pat (Some k.Con) rest = con_by pat rest
head_by pat (Some k.Make) rest = make_by pat rest
head_by pat _ rest = None

abbrev pub list_by : (Form → Option Pat) → List Form → Option Pat
list_by pat [] = None
list_by pat (head ∷ rest) = head_by pat (keyword_at head) rest

abbrev pub pat_in : (List Form → Option Pat) → Form-F Form → Option Pat
pat_in inner (Form-F.Atom w) = atom_of w
pat_in inner (Form-F.List fs) = inner fs

-- what a list is read as, where it and the lists in it may have so many levels
unfoldable pub list_at : ℕ → List Form → Option Pat
list_at zero fs = None
list_at (suc n) fs = list_by (λ f. pat_in (list_at n) (out-Form f)) fs

abbrev pub pat_at : ℕ → Form → Option Pat
pat_at n f = pat_in (list_at n) (out-Form f)

-- patterns one by one, each of so many levels
abbrev pub pats_of : ℕ → List Form → Option (List Pat)
pats_of n fs = each_of (pat_at n) fs

abbrev pub parts_at : ℕ → List Form → Option (List ℕ × List Pat)
parts_at n = parts_by (pat_at n)

abbrev pub con_at : ℕ → List Form → Option Pat
con_at n = con_by (pat_at n)

abbrev pub make_at : ℕ → List Form → Option Pat
make_at n = make_by (pat_at n)
