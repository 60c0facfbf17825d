-- What a word is read as: a name, a type variable, an integer type, a number.
use Rattle.std.specs.Prelude.{ℕ, ◌^◌, if◌then◌else◌, ◌==◌, nat_lt, List, [], ◌∷◌, Option, Some, None}
use Rattle.krml_trace.specs.declared.width.Width.{Width}
use Rattle.krml_trace.specs.Width.{bits}
use Rattle.krml_forms.specs.declared.form.Form.{Form, out-Form}
use Rattle.krml_forms.specs.declared.form.Form.TheOpen.{Form-F}
use Rattle.krml_syntax.specs.declared.tree.IntTy.{IntTy}
use Rattle.krml_syntax.specs.Name.{is_name}
use Rattle.krml_syntax.specs.Number.{number_at}
use Rattle.krml_syntax.specs.Read.{◌>>=◌}
use Rattle.krml_reader.specs.declared.keyword.Keyword.{Keyword}
use Rattle.krml_reader.specs.declared.keyword.Keyword.TheVariants as k
use Rattle.krml_reader.specs.Keyword.{keyword_at}

-- ---- names

abbrev pub name_of : List ℕ → Option (List ℕ)
name_of w = if is_name w then Some w else None

abbrev pub name_in : Form-F Form → Option (List ℕ)
name_in (Form-F.Atom w) = name_of w
name_in (Form-F.List fs) = None

abbrev pub name_at : Form → Option (List ℕ)
name_at f = name_in (out-Form f)

-- ---- type variables

abbrev pub var_of : List ℕ → Option (List ℕ)
var_of [] = None
var_of (b ∷ x) = if b == 39 then name_of x else None

abbrev pub var_in : Form-F Form → Option (List ℕ)
var_in (Form-F.Atom w) = var_of w
var_in (Form-F.List fs) = None

abbrev pub var_at : Form → Option (List ℕ)
var_at f = var_in (out-Form f)

-- ---- integer types

abbrev pub int_of : Option Keyword → Option IntTy
int_of (Some (k.Int i)) = Some i
int_of _ = None

abbrev pub int_at : Form → Option IntTy
int_at f = int_of (keyword_at f)

-- ---- numbers

abbrev pub number_of_width : Width → Form → Option ℕ
number_of_width w f = do
  n ← number_at f
  if nat_lt n (2 ^ bits w) then Some n else None

abbrev pub length_by : ℕ → Option ℕ
length_by n = if n == 0 then None else (if nat_lt n (2 ^ 32) then Some n else None)

abbrev pub length_at : Form → Option ℕ
length_at f = number_at f >>= length_by
