-- What the names of a file mean: the first definition of a kind that has the name.
use Rattle.std.specs.Prelude.{ℕ, if◌then◌else◌, List, Option, Some, None, option_map}
use Rattle.std.specs.Str.{bytes_eq}
use Rattle.krml_trace.specs.First.{first}
use Rattle.krml_syntax.specs.declared.tree.IntTy.{IntTy}
use Rattle.krml_syntax.specs.declared.tree.Ty.{Ty}
use Rattle.krml_syntax.specs.declared.tree.Field.{Field}
use Rattle.krml_syntax.specs.declared.tree.Con.{Con}
use Rattle.krml_syntax.specs.declared.tree.Def.{Def}
use Rattle.krml_syntax.specs.declared.tree.Def.TheVariants as d
use Rattle.krml_syntax.specs.Read.{◌>>=◌}

-- What a struct or a sum is made of, and its type variables.
pub data Composite : Type 0 where
  Struct : (vars : List (List ℕ)) → (fields : List Field) → Composite
  Sum : (vars : List (List ℕ)) → (cons : List Con) → Composite

-- structs and sums are one kind
abbrev pub type_here : List ℕ → Def → Option Composite
type_here x (d.Struct name vars fields) = if bytes_eq name x then Some (Struct vars fields) else None
type_here x (d.Sum name vars cons) = if bytes_eq name x then Some (Sum vars cons) else None
type_here x (d.Table name ty nums) = None
type_here x (d.Fun name vars params result body) = None
type_here x (d.Entry name) = None

abbrev pub type_named : List Def → List ℕ → Option Composite
type_named defs x = first (type_here x) defs

-- a struct: its type variables and its fields
abbrev pub struct_of : Composite → Option (List (List ℕ) × List Field)
struct_of (Struct vars fields) = Some (vars, fields)
struct_of (Sum vars cons) = None

abbrev pub struct_named : List Def → List ℕ → Option (List (List ℕ) × List Field)
struct_named defs x = type_named defs x >>= struct_of

-- a sum: its type variables and its constructors
abbrev pub sum_of : Composite → Option (List (List ℕ) × List Con)
sum_of (Struct vars fields) = None
sum_of (Sum vars cons) = Some (vars, cons)

abbrev pub sum_named : List Def → List ℕ → Option (List (List ℕ) × List Con)
sum_named defs x = type_named defs x >>= sum_of

abbrev pub vars_of : Composite → List (List ℕ)
vars_of (Struct vars fields) = vars
vars_of (Sum vars cons) = vars

-- the type variables of a struct or a sum
abbrev pub vars_named : List Def → List ℕ → Option (List (List ℕ))
vars_named defs x = option_map vars_of (type_named defs x)

-- the types of the arguments of a constructor of these
abbrev pub args_here : List ℕ → Con → Option (List Ty)
args_here x c = if bytes_eq c.name x then Some c.args else None

abbrev pub con_in : List Con → List ℕ → Option (List Ty)
con_in cons x = first (args_here x) cons

-- A constructor: its sum, the type variables of that, and the types of its arguments.
pub record Constructor : Type 0 where
  pub sum : List ℕ
  pub vars : List (List ℕ)
  pub args : List Ty

abbrev pub con_from : List ℕ → List (List ℕ) → List Ty → Constructor
con_from sum vars args = record { sum = sum; vars = vars; args = args }

abbrev pub con_here : List ℕ → Def → Option Constructor
con_here x (d.Sum name vars cons) = option_map (con_from name vars) (con_in cons x)
con_here x (d.Struct name vars fields) = None
con_here x (d.Table name ty nums) = None
con_here x (d.Fun name vars params result body) = None
con_here x (d.Entry name) = None

abbrev pub con_named : List Def → List ℕ → Option Constructor
con_named defs x = first (con_here x) defs

abbrev pub table_here : List ℕ → Def → Option IntTy
table_here x (d.Table name ty nums) = if bytes_eq name x then Some ty else None
table_here x (d.Struct name vars fields) = None
table_here x (d.Sum name vars cons) = None
table_here x (d.Fun name vars params result body) = None
table_here x (d.Entry name) = None

abbrev pub table_named : List Def → List ℕ → Option IntTy
table_named defs x = first (table_here x) defs

-- What a call needs of a function.
pub record Signature : Type 0 where
  pub vars : List (List ℕ)
  pub params : List Field
  pub result : Ty

abbrev pub fun_here : List ℕ → Def → Option Signature
fun_here x (d.Fun name vars params result body) = if bytes_eq name x then Some (record { vars = vars; params = params; result = result }) else None
fun_here x (d.Struct name vars fields) = None
fun_here x (d.Sum name vars cons) = None
fun_here x (d.Table name ty nums) = None
fun_here x (d.Entry name) = None

abbrev pub fun_named : List Def → List ℕ → Option Signature
fun_named defs x = first (fun_here x) defs

abbrev pub field_here : List ℕ → Field → Option Ty
field_here x f = if bytes_eq f.name x then Some f.ty else None

abbrev pub field_named : List Field → List ℕ → Option Ty
field_named fields x = first (field_here x) fields
