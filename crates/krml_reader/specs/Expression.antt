-- What a form is read as: an expression, a branch of a match, an item of a do.
use Rattle.std.specs.Prelude.{ℕ, zero, suc, Bool, true, false, if◌then◌else◌, List, [], ◌∷◌, Option, Some, None}
use Rattle.krml_forms.specs.declared.form.Form.{Form, out-Form}
use Rattle.krml_forms.specs.declared.form.Form.TheOpen.{Form-F}
use Rattle.krml_syntax.specs.declared.tree.IntTy.{IntTy}
use Rattle.krml_syntax.specs.declared.tree.Ty.{Ty}
use Rattle.krml_syntax.specs.declared.tree.Arm.{Arm, roll-Arm}
use Rattle.krml_syntax.specs.declared.tree.Item.{Item}
use Rattle.krml_syntax.specs.declared.tree.Item.TheVariants as item
use Rattle.krml_syntax.specs.declared.tree.Expr.{Expr}
use Rattle.krml_syntax.specs.declared.tree.Expr.TheVariants as e
use Rattle.krml_syntax.specs.Read.{◌>>=◌}
use Rattle.krml_reader.specs.declared.keyword.Keyword.{Keyword}
use Rattle.krml_reader.specs.declared.keyword.Keyword.TheVariants as k
use Rattle.krml_reader.specs.Each.{each_of, list_in}
use Rattle.krml_reader.specs.Keyword.{keyword_of, keyword_at}
use Rattle.krml_reader.specs.Words.{name_of, name_at, int_at, number_of_width, length_at}
use Rattle.krml_reader.specs.Types.{ty_at, tys_at}
use Rattle.krml_reader.specs.Pattern.{pat_at}

-- ---- words

-- x
abbrev pub variable_of : List ℕ → Option Expr
variable_of w = do
  x ← name_of w
  Some (e.Var x)

-- a word, and the keyword that it is: unit, true and false are no variables
abbrev pub word_by : Option Keyword → List ℕ → Option Expr
word_by (Some k.Unit) w = Some e.Unit
word_by (Some (k.Truth b)) w = Some (e.Bool b)
word_by _ w = variable_of w

-- ---- what stands behind a keyword

-- an expression
abbrev pub one_by : (Form → Option Expr) → List Form → Option Expr
one_by expr (f ∷ []) = expr f
one_by expr _ = None

-- two expressions
abbrev pub two_by : (Form → Option Expr) → List Form → Option (Expr × Expr)
two_by expr (f ∷ g ∷ []) = do
  a ← expr f
  b ← expr g
  Some (a, b)
two_by expr _ = None

-- three expressions
abbrev pub three_by : (Form → Option Expr) → List Form → Option (Expr × Expr × Expr)
three_by expr (f ∷ g ∷ h ∷ []) = do
  a ← expr f
  b ← expr g
  c ← expr h
  Some (a, b, c)
three_by expr _ = None

-- an integer type and an expression
abbrev pub typed_by : (Form → Option Expr) → List Form → Option (IntTy × Expr)
typed_by expr (ty ∷ f ∷ []) = do
  i ← int_at ty
  a ← expr f
  Some (i, a)
typed_by expr _ = None

-- an integer type and two operands
abbrev pub operands_by : (Form → Option Expr) → List Form → Option (IntTy × Expr × Expr)
operands_by expr (ty ∷ f ∷ g ∷ []) = do
  i ← int_at ty
  a ← expr f
  b ← expr g
  Some (i, a, b)
operands_by expr _ = None

-- a name and an expression
abbrev pub named_by : (Form → Option Expr) → List Form → Option (List ℕ × Expr)
named_by expr (name ∷ f ∷ []) = do
  x ← name_at name
  a ← expr f
  Some (x, a)
named_by expr _ = None

-- a name, types between parentheses, and expressions
abbrev pub applied_by : ℕ → (Form → Option Expr) → List Form → Option (List ℕ × List Ty × List Expr)
applied_by n expr (name ∷ tys ∷ fs) = do
  x ← name_at name
  bs ← tys_at n tys
  es ← each_of expr fs
  Some (x, bs, es)
applied_by n expr _ = None

-- (I N), behind I
abbrev pub num_of : IntTy → List Form → Option Expr
num_of i (f ∷ []) = do
  n ← number_of_width i.width f
  Some (e.Num i n)
num_of i _ = None

-- (cast I J e)
abbrev pub cast_by : (Form → Option Expr) → List Form → Option Expr
cast_by expr (from ∷ to ∷ f ∷ []) = do
  i ← int_at from
  j ← int_at to
  a ← expr f
  Some (e.Cast i j a)
cast_by expr _ = None

-- (alloc T n e)
abbrev pub alloc_by : ℕ → (Form → Option Expr) → List Form → Option Expr
alloc_by n expr (ty ∷ len ∷ f ∷ []) = do
  a ← ty_at n ty
  l ← length_at len
  b ← expr f
  Some (e.Alloc a l b)
alloc_by n expr _ = None

-- (for x a b e)
abbrev pub for_by : (Form → Option Expr) → List Form → Option Expr
for_by expr (name ∷ f ∷ g ∷ h ∷ []) = do
  x ← name_at name
  a ← expr f
  b ← expr g
  c ← expr h
  Some (e.For x a b c)
for_by expr _ = None

-- one or more
abbrev pub some_of : {X : Type 0} → (Form → Option X) → List Form → Option (List X)
some_of read [] = None
some_of read (f ∷ fs) = each_of read (f ∷ fs)

-- (match e (P a)..)
abbrev pub match_by : (Form → Option Expr) → (Form → Option Arm) → List Form → Option Expr
match_by expr arm [] = None
match_by expr arm (f ∷ fs) = do
  a ← expr f
  xs ← some_of arm fs
  Some (e.Match a xs)

-- one more form before those
abbrev pub before_last : Form → Option (List Form × Form) → List Form × Form
before_last f None = ([], f)
before_last f (Some parts) = (f ∷ parts.0, parts.1)

-- all but the last, and the last
unfoldable pub split_last : List Form → Option (List Form × Form)
split_last [] = None
split_last (f ∷ fs) = Some (before_last f (split_last fs))

-- (do ITEM.. e)
abbrev pub do_by : (Form → Option Expr) → (Form → Option Item) → List Form → Option Expr
do_by expr item fs = do
  parts ← split_last fs
  xs ← some_of item parts.0
  a ← expr parts.1
  Some (e.Do xs a)

-- ---- lists, by their keyword; the last three readers are those of expressions, branches and items

-- what runs, and how often
unfoldable pub control_by : ℕ → (Form → Option Expr) → (Form → Option Arm) → (Form → Option Item) → Keyword → List Form → Option Expr
control_by n expr arm item k.If fs = do
  p ← three_by expr fs
  Some (e.If p.0 p.1 p.2)
control_by n expr arm item k.Match fs = match_by expr arm fs
control_by n expr arm item k.Do fs = do_by expr item fs
control_by n expr arm item k.Frame fs = do
  a ← one_by expr fs
  Some (e.Frame [] a)
control_by n expr arm item k.While fs = do
  p ← two_by expr fs
  Some (e.While p.0 p.1)
control_by n expr arm item k.For fs = for_by expr fs
control_by n expr arm item k.Call fs = do
  p ← applied_by n expr fs
  Some (e.Call p.0 p.1 p.2)
control_by n expr arm item _ fs = None

-- values that are made and taken apart, and buffers
unfoldable pub access_by : ℕ → (Form → Option Expr) → (Form → Option Arm) → (Form → Option Item) → Keyword → List Form → Option Expr
access_by n expr arm item k.Make fs = do
  p ← applied_by n expr fs
  Some (e.Make p.0 p.1 p.2)
access_by n expr arm item k.Get fs = do
  p ← named_by expr fs
  Some (e.Get p.0 p.1)
access_by n expr arm item k.Con fs = do
  p ← applied_by n expr fs
  Some (e.Con p.0 p.1 p.2)
access_by n expr arm item k.Read fs = do
  p ← two_by expr fs
  Some (e.Read p.0 p.1)
access_by n expr arm item k.Write fs = do
  p ← three_by expr fs
  Some (e.Write p.0 p.1 p.2)
access_by n expr arm item k.Slice fs = do
  p ← three_by expr fs
  Some (e.Slice p.0 p.1 p.2)
access_by n expr arm item k.Tab fs = do
  p ← named_by expr fs
  Some (e.Tab p.0 p.1)
access_by n expr arm item k.Alloc fs = alloc_by n expr fs
access_by n expr arm item c fs = control_by n expr arm item c fs

-- integers and truth values
unfoldable pub operation_by : ℕ → (Form → Option Expr) → (Form → Option Arm) → (Form → Option Item) → Keyword → List Form → Option Expr
operation_by n expr arm item (k.Int i) fs = num_of i fs
operation_by n expr arm item (k.Bin op) fs = do
  p ← operands_by expr fs
  Some (e.Bin op p.0 p.1 p.2)
operation_by n expr arm item (k.Shift left) fs = do
  p ← operands_by expr fs
  Some (e.Shift left p.0 p.1 p.2)
operation_by n expr arm item (k.Cmp op) fs = do
  p ← operands_by expr fs
  Some (e.Cmp op p.0 p.1 p.2)
operation_by n expr arm item k.Not fs = do
  a ← one_by expr fs
  Some (e.Not a)
operation_by n expr arm item k.Cast fs = cast_by expr fs
operation_by n expr arm item k.Hide fs = do
  p ← typed_by expr fs
  Some (e.Hide p.0 p.1)
operation_by n expr arm item c fs = access_by n expr arm item c fs

-- a list, by the keyword that stands first and what stands behind it
abbrev pub headed_by : ℕ → (Form → Option Expr) → (Form → Option Arm) → (Form → Option Item) → Option Keyword → List Form → Option Expr
headed_by n expr arm item None fs = None
headed_by n expr arm item (Some c) fs = operation_by n expr arm item c fs

abbrev pub list_by : ℕ → (Form → Option Expr) → (Form → Option Arm) → (Form → Option Item) → List Form → Option Expr
list_by n expr arm item [] = None
list_by n expr arm item (head ∷ fs) = headed_by n expr arm item (keyword_at head) fs

-- (P a)
abbrev pub arm_by : ℕ → (Form → Option Expr) → List Form → Option Arm
arm_by n expr (pat ∷ f ∷ []) = do
  p ← pat_at n pat
  a ← expr f
  Some (roll-Arm (record { pat = p; body = a }))
arm_by n expr _ = None

-- (let x T a)
abbrev pub let_by : ℕ → (Form → Option Expr) → List Form → Option Item
let_by n expr (head ∷ name ∷ ty ∷ f ∷ []) = do
  x ← name_at name
  a ← ty_at n ty
  b ← expr f
  Some (item.Let x a b)
let_by n expr _ = None

abbrev pub is_let_word : Option Keyword → Bool
is_let_word (Some k.Let) = true
is_let_word _ = false

-- whether a list begins with `let`
abbrev pub is_let : List Form → Bool
is_let [] = false
is_let (head ∷ fs) = is_let_word (keyword_at head)

-- ---- forms of a number of levels

-- a word or a list
abbrev pub expr_in : (List Form → Option Expr) → Form-F Form → Option Expr
expr_in list (Form-F.Atom w) = word_by (keyword_of w) w
expr_in list (Form-F.List fs) = list fs

-- an expression as an item
abbrev pub run_by : Option Expr → Option Item
run_by expr = do
  a ← expr
  Some (item.Run a)

-- a list that begins with `let` is no expression
abbrev pub item_in : (List Form → Option Item) → Option Expr → Form-F Form → Option Item
item_in list expr (Form-F.Atom w) = run_by expr
item_in list expr (Form-F.List fs) = if is_let fs then list fs else run_by expr

-- what a list is read as, where it and the lists in it may have so many levels
unfoldable mutual
  pub list_at : ℕ → List Form → Option Expr
  list_at zero fs = None
  list_at (suc n) fs =
      list_by n (λ f. expr_in (list_at n) (out-Form f)) (λ f. list_in (arm_list_at n) (out-Form f)) (λ f. item_in (let_at n) (expr_in (list_at n) (out-Form f)) (out-Form f)) fs

  pub arm_list_at : ℕ → List Form → Option Arm
  arm_list_at zero fs = None
  arm_list_at (suc n) fs = arm_by n (λ f. expr_in (list_at n) (out-Form f)) fs

  pub let_at : ℕ → List Form → Option Item
  let_at zero fs = None
  let_at (suc n) fs = let_by n (λ f. expr_in (list_at n) (out-Form f)) fs

-- the expression that a form is read as
abbrev pub expr_at : ℕ → Form → Option Expr
expr_at n f = expr_in (list_at n) (out-Form f)

abbrev pub arm_at : ℕ → Form → Option Arm
arm_at n f = list_in (arm_list_at n) (out-Form f)

abbrev pub item_at : ℕ → Form → Option Item
item_at n f = item_in (let_at n) (expr_at n f) (out-Form f)

abbrev pub control_at : ℕ → Keyword → List Form → Option Expr
control_at n = control_by n (expr_at n) (arm_at n) (item_at n)

abbrev pub access_at : ℕ → Keyword → List Form → Option Expr
access_at n = access_by n (expr_at n) (arm_at n) (item_at n)

abbrev pub operation_at : ℕ → Keyword → List Form → Option Expr
operation_at n = operation_by n (expr_at n) (arm_at n) (item_at n)
