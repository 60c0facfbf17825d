-- What a run takes of the definitions of a well typed file.
use Rattle.std.proofs.Common.{◌≡◌, ℕ, ◌<◌, ◌^◌, List, map, Some, None, slice_get}
use Rattle.std.specs.List.{AllByRecursion, IsDistinct}
use Rattle.std.specs.Str.{bytes_eq}
use Rattle.krml_trace.specs.Width.{bits}
use Rattle.krml_syntax.specs.declared.tree.IntTy.{IntTy}
use Rattle.krml_syntax.specs.declared.tree.Field.{Field}
use Rattle.krml_syntax.specs.declared.tree.Con.{Con}
use Rattle.krml_syntax.specs.declared.tree.Def.{Def}
use Rattle.krml_ast.specs.Names.{Struct, Sum, Constructor, Signature, type_named, con_named, table_named, fun_named}
use Rattle.krml_syntax.specs.Types.{erased}
use Rattle.krml_ast.specs.IsType.{IsFlat, IsType}
use Rattle.krml_ast.specs.Typing.{IsResult, HasType}
use Rattle.krml_ast.specs.WellTyped.{names_of}
use Rattle.krml_meaning.specs.Meaning.{Function, Table, con_place, table_from, function_named}

-- a constructor stands in its sum
pub record InSum (defs : List Def) (x : List ℕ) (c : Constructor) : Type 0 where
  pub cons : List Con
  pub k : ℕ
  pub con : Con
  pub is : type_named defs c.sum ≡ Some (Sum c.vars cons)
  pub there : slice_get cons k ≡ Some con
  pub args : con.args ≡ c.args
  pub place : con_place defs x ≡ Some (k, c.args)

-- the numbers of a table fit
pub record InTable (defs : List Def) (x : List ℕ) (i : IntTy) : Type 0 where
  pub table : Table
  pub is : table_from 0 defs x ≡ Some table
  pub ty : table.ty ≡ i
  pub fit : AllByRecursion (λ n. n < 2 ^ bits i.width) table.nums

-- a function has a well typed body
pub record IsFunction (defs : List Def) (x : List ℕ) (f : Signature) : Type 0 where
  pub body : Function
  pub is : function_named defs x ≡ Some body
  pub vars : body.tvars ≡ f.vars
  pub params : body.params ≡ f.params
  pub distinct : IsDistinct bytes_eq (names_of f.params)
  pub each : AllByRecursion (λ p. IsType defs f.vars p.ty) f.params
  pub result : IsType defs f.vars f.result
  pub gives : IsResult defs f.result
  pub typed : HasType defs f.vars (record { vars = map (λ p. (p.name, erased p.ty)) f.params; frame = None }) body.body (erased f.result)

pub record Facts (defs : List Def) : Type 0 where
  pub fields : (x : List ℕ) (vars : List (List ℕ)) (fields : List Field) → type_named defs x ≡ Some (Struct vars fields) → AllByRecursion (λ f. IsType defs vars f.ty) fields
  pub cons : (x : List ℕ) (vars : List (List ℕ)) (cons : List Con) (k : ℕ) (c : Con) → type_named defs x ≡ Some (Sum vars cons) → slice_get cons k ≡ Some c
      → AllByRecursion (λ a. IsType defs vars a × IsFlat defs a) c.args
  pub con : (x : List ℕ) (c : Constructor) → con_named defs x ≡ Some c → InSum defs x c
  pub table : (x : List ℕ) (i : IntTy) → table_named defs x ≡ Some i → InTable defs x i
  pub function : (x : List ℕ) (f : Signature) → fun_named defs x ≡ Some f → IsFunction defs x f

pub same_struct : (vs ws : List (List ℕ)) (fs gs : List Field) → Struct vs fs ≡ Struct ws gs → (vs ≡ ws) × (fs ≡ gs)
same_struct vs ws fs gs e = (cc, cc)

pub same_sum : (vs ws : List (List ℕ)) (cs ds : List Con) → Sum vs cs ≡ Sum ws ds → (vs ≡ ws) × (cs ≡ ds)
same_sum vs ws cs ds e = (cc, cc)
