-- Which definitions of a file are well typed.
use Rattle.std.specs.Prelude.{◌≡◌, ℕ, ◌<◌, ◌^◌, List, [], ◌∷◌, map, take, slice_get, Some, None}
use Rattle.std.specs.List.{AllByRecursion, Contains, IsDistinct, flat_map}
use Rattle.std.specs.Str.{bytes_eq}
use Rattle.krml_trace.specs.Width.{bits}
use Rattle.krml_syntax.specs.declared.tree.IntTy.{IntTy}
use Rattle.krml_syntax.specs.declared.tree.Ty.{Ty}
use Rattle.krml_syntax.specs.declared.tree.Ty.TheVariants as t
use Rattle.krml_syntax.specs.declared.tree.Field.{Field}
use Rattle.krml_syntax.specs.declared.tree.Con.{Con}
use Rattle.krml_syntax.specs.declared.tree.Expr.{Expr}
use Rattle.krml_syntax.specs.declared.tree.Def.{Def}
use Rattle.krml_syntax.specs.declared.tree.Def.TheVariants as d
use Rattle.krml_ast.specs.Names.{Signature, fun_named}
use Rattle.krml_syntax.specs.Types.{erased}
use Rattle.krml_ast.specs.IsType.{IsValue, IsFlat, IsType}
use Rattle.krml_ast.specs.Typing.{HasType, IsResult}

-- ---- the names that definitions give, kind by kind

abbrev pub type_name : Def → List (List ℕ)
type_name (d.Struct x vars fields) = x ∷ []
type_name (d.Sum x vars cons) = x ∷ []
type_name _ = []

abbrev pub con_names : Def → List (List ℕ)
con_names (d.Sum x vars cons) = map (λ c. c.name) cons
con_names _ = []

abbrev pub table_name : Def → List (List ℕ)
table_name (d.Table x ty nums) = x ∷ []
table_name _ = []

abbrev pub fun_name : Def → List (List ℕ)
fun_name (d.Fun x vars params result body) = x ∷ []
fun_name _ = []

abbrev pub entry_name : Def → List (List ℕ)
entry_name (d.Entry x) = x ∷ []
entry_name _ = []

-- No name of a kind that a definition gives was given before, or twice by itself.
abbrev pub AreNew : (Def → List (List ℕ)) → List Def → Def → Type 0
AreNew names before def = IsDistinct bytes_eq (names def) × AllByRecursion (λ x. Contains (flat_map names before) x → ⊥) (names def)

abbrev pub names_of : List Field → List (List ℕ)
names_of fields = map (λ f. f.name) fields

-- ---- entries

-- bool, an integer, or a buffer of integers
pub data IsOutside : Ty → Type 0 where
  bool : IsOutside t.Bool
  int : (i : IntTy) → IsOutside (t.Int i)
  buf : (i : IntTy) → IsOutside (t.Buf (t.Int i))

-- unit, bool or an integer
pub data IsAnswer : Ty → Type 0 where
  unit : IsAnswer t.Unit
  bool : IsAnswer t.Bool
  int : (i : IntTy) → IsAnswer (t.Int i)

-- ---- definitions

-- A definition is well typed in a file, behind the definitions before it.
pub data WellTyped (defs before : List Def) : Def → Type 0 where
  -- its fields have value types of earlier structs and sums
  struct : {x : List ℕ} {vars : List (List ℕ)} {fields : List Field} → AreNew type_name before (d.Struct x vars fields)
      → IsDistinct bytes_eq vars → IsDistinct bytes_eq (names_of fields)
      → AllByRecursion (λ f. IsType before vars f.ty × IsValue f.ty) fields → WellTyped defs before (d.Struct x vars fields)
  -- the arguments of its constructors have flat types of earlier structs and sums
  sum : {x : List ℕ} {vars : List (List ℕ)} {cons : List Con} → AreNew type_name before (d.Sum x vars cons) → AreNew con_names before (d.Sum x vars cons)
      → IsDistinct bytes_eq vars → AllByRecursion (λ c. AllByRecursion (λ a. IsType before vars a × IsFlat before a) c.args) cons
      → WellTyped defs before (d.Sum x vars cons)
  -- its numbers fit
  table : {x : List ℕ} {i : IntTy} {nums : List ℕ} → AreNew table_name before (d.Table x i nums) → AllByRecursion (λ n. n < 2 ^ bits i.width) nums
      → WellTyped defs before (d.Table x i nums)
  -- its body has the type of its result
  fun : {x : List ℕ} {vars : List (List ℕ)} {params : List Field} {result : Ty} {body : Expr} → AreNew fun_name before (d.Fun x vars params result body)
      → IsDistinct bytes_eq vars → IsDistinct bytes_eq (names_of params) → AllByRecursion (λ p. IsType defs vars p.ty × IsValue p.ty) params
      → IsType defs vars result → IsResult defs result
      → HasType defs vars (record { vars = map (λ p. (p.name, erased p.ty)) params; frame = None }) body (erased result)
      → WellTyped defs before (d.Fun x vars params result body)
  -- it names a function without type variables whose types a caller from outside can give and take
  entry : {x : List ℕ} {f : Signature} → AreNew entry_name before (d.Entry x) → fun_named defs x ≡ Some f → f.vars ≡ []
      → AllByRecursion (λ p. IsOutside p.ty) f.params → IsAnswer f.result → WellTyped defs before (d.Entry x)

-- The definition of a number is well typed.
abbrev pub IsWellTyped : List Def → ℕ → Type 0
IsWellTyped defs k = (def : Def) → slice_get defs k ≡ Some def → WellTyped defs (take k defs) def

-- Each definition is well typed.
abbrev pub AreWellTyped : List Def → Type 0
AreWellTyped defs = (k : ℕ) → IsWellTyped defs k
