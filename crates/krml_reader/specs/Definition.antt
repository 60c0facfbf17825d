-- What a form is read as: a definition.
use Rattle.std.specs.Prelude.{ℕ, List, [], ◌∷◌, Option, Some, None}
use Rattle.krml_forms.specs.declared.form.Form.{Form, out-Form}
use Rattle.krml_syntax.specs.declared.tree.Field.{Field}
use Rattle.krml_syntax.specs.declared.tree.Con.{Con}
use Rattle.krml_syntax.specs.declared.tree.Def.{Def}
use Rattle.krml_syntax.specs.declared.tree.Def.TheVariants as d
use Rattle.krml_syntax.specs.Read.{◌>>=◌}
use Rattle.krml_reader.specs.declared.keyword.Keyword.{Keyword}
use Rattle.krml_reader.specs.declared.keyword.Keyword.TheVariants as k
use Rattle.krml_reader.specs.Each.{each_of, list_in, below}
use Rattle.krml_reader.specs.Keyword.{keyword_at}
use Rattle.krml_reader.specs.Words.{name_at, var_at, int_at, number_of_width}
use Rattle.krml_reader.specs.Types.{ty_at, tys_of}
use Rattle.krml_reader.specs.Expression.{expr_at}

-- ---- type variables

abbrev pub vars_of : List Form → Option (List (List ℕ))
vars_of fs = each_of var_at fs

abbrev pub vars_at : Form → Option (List (List ℕ))
vars_at f = list_in vars_of (out-Form f)

-- ---- fields and parameters

abbrev pub field_by : ℕ → List Form → Option Field
field_by n (name ∷ ty ∷ []) = do
  x ← name_at name
  a ← ty_at n ty
  Some (record { name = x; ty = a })
field_by n _ = None

-- a field of so many levels
abbrev pub field_at : ℕ → Form → Option Field
field_at n f = list_in (below field_by n) (out-Form f)

abbrev pub fields_of : ℕ → List Form → Option (List Field)
fields_of n fs = each_of (field_at n) fs

abbrev pub fields_at : ℕ → Form → Option (List Field)
fields_at n f = list_in (below fields_of n) (out-Form f)

-- ---- constructors

abbrev pub con_by : ℕ → List Form → Option Con
con_by n [] = None
con_by n (name ∷ fs) = do
  x ← name_at name
  bs ← tys_of n fs
  Some (record { name = x; args = bs })

abbrev pub con_at : ℕ → Form → Option Con
con_at n f = list_in (below con_by n) (out-Form f)

abbrev pub cons_of : ℕ → List Form → Option (List Con)
cons_of n fs = each_of (con_at n) fs

-- ---- definitions, whose lists have 64 levels at most, and those in them 63

abbrev pub struct_of : List Form → Option Def
struct_of (name ∷ vars ∷ f ∷ fs) = do
  x ← name_at name
  vs ← vars_at vars
  bs ← fields_of 63 (f ∷ fs)
  Some (d.Struct x vs bs)
struct_of _ = None

abbrev pub sum_of : List Form → Option Def
sum_of (name ∷ vars ∷ f ∷ fs) = do
  x ← name_at name
  vs ← vars_at vars
  bs ← cons_of 63 (f ∷ fs)
  Some (d.Sum x vs bs)
sum_of _ = None

abbrev pub table_of : List Form → Option Def
table_of (name ∷ ty ∷ f ∷ fs) = do
  x ← name_at name
  i ← int_at ty
  ns ← each_of (number_of_width i.width) (f ∷ fs)
  Some (d.Table x i ns)
table_of _ = None

abbrev pub fun_of : List Form → Option Def
fun_of (name ∷ vars ∷ params ∷ result ∷ body ∷ []) = do
  x ← name_at name
  vs ← vars_at vars
  ps ← fields_at 63 params
  a ← ty_at 63 result
  b ← expr_at 63 body
  Some (d.Fun x vs ps a b)
fun_of _ = None

abbrev pub entry_of : List Form → Option Def
entry_of (name ∷ []) = do
  x ← name_at name
  Some (d.Entry x)
entry_of _ = None

abbrev pub behind : Option Keyword → List Form → Option Def
behind (Some k.Struct) rest = struct_of rest
behind (Some k.Sum) rest = sum_of rest
behind (Some k.Table) rest = table_of rest
behind (Some k.Fun) rest = fun_of rest
behind (Some k.Entry) rest = entry_of rest
behind _ rest = None

abbrev pub def_by : List Form → Option Def
def_by [] = None
def_by (head ∷ rest) = behind (keyword_at head) rest

abbrev pub def_at : Form → Option Def
def_at f = list_in def_by (out-Form f)
