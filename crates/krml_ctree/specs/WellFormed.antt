-- Well formed programs: names in scope, and types that agree exactly. The clauses cited are of ISO/IEC 9899:2011.
use Rattle.std.specs.Prelude.{◌≡◌, ℕ, ◌≤◌, Bool, true, false, List, [], ◌∷◌, ◌++◌, map, length, Option, Some, None}
use Rattle.std.specs.List.{Contains, IsDistinct, AllByRecursion, flat_map}
use Rattle.std.specs.Str.{bytes_eq}
use Rattle.krml_trace.specs.declared.width.Width.{Width}
use Rattle.krml_trace.specs.Limits.{max_elements}
use Rattle.krml_ctree.specs.declared.tree.CType.{CType}
use Rattle.krml_ctree.specs.declared.tree.CType.TheVariants as t
use Rattle.krml_ctree.specs.declared.tree.CBin.{CBin}
use Rattle.krml_ctree.specs.declared.tree.CBin.TheVariants as op
use Rattle.krml_ctree.specs.declared.tree.CmpKind.{CmpKind}
use Rattle.krml_ctree.specs.declared.tree.CVar.{CVar}
use Rattle.krml_ctree.specs.declared.tree.CArray.{CArray}
use Rattle.krml_ctree.specs.declared.tree.CExpr.{CExpr}
use Rattle.krml_ctree.specs.declared.tree.CExpr.TheVariants as e
use Rattle.krml_ctree.specs.declared.tree.CStatement.{CStatement}
use Rattle.krml_ctree.specs.declared.tree.CStatement.TheVariants as s
use Rattle.krml_ctree.specs.declared.tree.CStatement.TheOpen.{CStatement-F, CArm-F}
use Rattle.krml_ctree.specs.declared.tree.CStatement.TheFolds.{fold-CStatement}
use Rattle.krml_ctree.specs.declared.tree.CArm.{CArm, out-CArm}
use Rattle.krml_ctree.specs.declared.tree.CStruct.{CStruct}
use Rattle.krml_ctree.specs.declared.tree.CTable.{CTable}
use Rattle.krml_ctree.specs.declared.tree.CFun.{CFun}
use Rattle.krml_ctree.specs.declared.tree.CProgram.{CProgram}
use Rattle.krml_ctree.specs.Text.{width_type}
use Rattle.krml_ctree.specs.Shape.{KeepsShapes}

-- ---- types

-- a type of numbers, or one that names one of these structs, or a pointer to such a type
pub data IsKnown (structs : List CStruct) : CType → Type 0 where
  number : (w : Width) → IsKnown structs (width_type w)
  struct : (s : CStruct) → Contains structs s → IsKnown structs (t.Struct s.name)
  pointer : {a : CType} → IsKnown structs a → IsKnown structs (t.Ptr a)

mutual
  -- a type whose values hold no pointer
  pub data HoldsNoPointer (structs : List CStruct) : CType → Type 0 where
    number : (w : Width) → HoldsNoPointer structs (width_type w)
    struct : (s : CStruct) → Contains structs s → FieldsHoldNoPointer structs s.fields → HoldsNoPointer structs (t.Struct s.name)

  pub data FieldsHoldNoPointer (structs : List CStruct) : List CVar → Type 0 where
    no_field : FieldsHoldNoPointer structs []
    one_field : {f : CVar} {fields : List CVar} → HoldsNoPointer structs f.ty → FieldsHoldNoPointer structs fields → FieldsHoldNoPointer structs (f ∷ fields)

-- The types of operands: unsigned integers of 32 and 64 bits. With `int` of 32 bits the integer promotions change neither
-- (6.3.1.1p2), but they would make an `int` of a `uint8_t`.
pub data IsArithmetic : CType → Type 0 where
  short : IsArithmetic t.U32
  long : IsArithmetic t.U64

-- ---- expressions

-- What may be used at a place: a parameter or a variable, or an array, whose name is a pointer to its first element (6.3.2.1p3).
pub record Declared : Type 0 where
  pub name : List ℕ
  pub ty : CType
  pub array : Bool

abbrev pub Scope : Type 0
Scope = List Declared

abbrev pub of_var : CVar → Declared
of_var v = record { name = v.name; ty = v.ty; array = false }

abbrev pub of_array : CArray → Declared
of_array a = record { name = a.name; ty = t.Ptr a.ty; array = true }

-- two operands of one type with a result of that type (6.3.1.8p1)
pub data IsPlainOperator : CBin → Type 0 where
  add : IsPlainOperator op.Add
  sub : IsPlainOperator op.Sub
  mul : IsPlainOperator op.Mul
  and : IsPlainOperator op.And
  or : IsPlainOperator op.Or
  xor : IsPlainOperator op.Xor

pub data IsShift : CBin → Type 0 where
  left : IsShift op.Shl
  right : IsShift op.Shr

module _ (p : CProgram) where
  mutual
    -- In a scope an expression has a type.
    pub data HasType (g : Scope) : CExpr → CType → Type 0 where
      -- a variable has the type of its declaration
      var : (d : Declared) → Contains g d → HasType g (e.Var d.name) d.ty
      lit : (w : Width) (n : ℕ) → HasType g (e.Lit w n) (width_type w)
      -- a number of any width as one of another
      cast : (w v : Width) {a : CExpr} → HasType g a (width_type v) → HasType g (e.Cast w a) (width_type w)
      bin : {o : CBin} {ty : CType} {a b : CExpr} → IsPlainOperator o → IsArithmetic ty → HasType g a ty → HasType g b ty → HasType g (e.Bin o a b) ty
      shift : {o : CBin} {ty : CType} {a b : CExpr} → IsShift o → IsArithmetic ty → HasType g a ty → HasType g b t.U32 → HasType g (e.Bin o a b) ty
      -- a pointer moved up (6.5.6p8)
      moved : (ty : CType) {a b : CExpr} → HasType g a (t.Ptr ty) → HasType g b t.U32 → HasType g (e.Bin op.Add a b) (t.Ptr ty)
      -- a comparison of operands of one type (6.5.8) has the type of the width that it is converted to
      cmp : (w : Width) {o : CmpKind} (ty : CType) {a b : CExpr} → IsArithmetic ty → HasType g a ty → HasType g b ty → HasType g (e.Cmp w o a b) (width_type w)
      -- a value for each field, in order (6.7.9p17)
      build : (s : CStruct) {es : List CExpr} → Contains p.structs s → HaveTypes g es s.fields → HasType g (e.Build s.name es) (t.Struct s.name)
      field : (s : CStruct) (f : CVar) {a : CExpr} → Contains p.structs s → Contains s.fields f → HasType g a (t.Struct s.name) → HasType g (e.Field a f.name) f.ty

    -- values for variables, one by one
    pub data HaveTypes (g : Scope) : List CExpr → List CVar → Type 0 where
      no_value : HaveTypes g [] []
      one_value : {a : CExpr} {es : List CExpr} {v : CVar} {vars : List CVar} → HasType g a v.ty → HaveTypes g es vars → HaveTypes g (a ∷ es) (v ∷ vars)

  -- A condition is a number of any width (6.8.4.1p1).
  pub data IsCondition (g : Scope) (a : CExpr) : Type 0 where
    number : (w : Width) → HasType g a (width_type w) → IsCondition g a

  -- An array has 1 to 65,536 elements, which hold no pointer.
  pub record ArrayFits (a : CArray) : Type 0 where
    pub plain : HoldsNoPointer p.structs a.ty
    pub some : 1 ≤ a.len
    pub most : a.len ≤ max_elements

  -- ---- statements

  mutual
    -- In a scope a statement may stand, and behind it is a scope.
    pub data StatementFits : Scope → CStatement → Scope → Type 0 where
      -- the variable is in scope from here on (6.2.1p7)
      decl : {g : Scope} {v : CVar} {a : CExpr} → IsKnown p.structs v.ty → HasType g a v.ty → StatementFits g (s.Decl v a) (of_var v ∷ g)
      blank : {g : Scope} {v : CVar} → IsKnown p.structs v.ty → StatementFits g (s.Blank v) (of_var v ∷ g)
      -- a value of the type of a variable, which is no array (6.5.16.1)
      set : {g : Scope} (v : CVar) {a : CExpr} → Contains g (of_var v) → HasType g a v.ty → StatementFits g (s.Set v.name a) g
      read : {g : Scope} {v : CVar} {a i : CExpr} → IsKnown p.structs v.ty → HasType g a (t.Ptr v.ty) → HasType g i t.U32 → StatementFits g (s.Read v a i) (of_var v ∷ g)
      tab : {g : Scope} {x : List ℕ} {i : CExpr} (table : CTable) → Contains p.tables table → HasType g i t.U32
          → StatementFits g (s.Tab (record { ty = width_type table.width; name = x }) table.name i) (of_var (record { ty = width_type table.width; name = x }) ∷ g)
      write : {g : Scope} (ty : CType) {a i b : CExpr} → HasType g a (t.Ptr ty) → HasType g i t.U32 → HasType g b ty → StatementFits g (s.Write a i b) g
      div : {g : Scope} {v : CVar} {quotient : Bool} {a b : CExpr} → IsArithmetic v.ty → HasType g a v.ty → HasType g b v.ty → StatementFits g (s.Div v quotient a b) (of_var v ∷ g)
      call : {g : Scope} {v : CVar} {es : List CExpr} (f : CFun) → Contains p.funs f → f.result ≡ Some v.ty → HaveTypes g es f.params → StatementFits g (s.Call v f.name es) (of_var v ∷ g)
      run : {g : Scope} {es : List CExpr} (f : CFun) → Contains p.funs f → f.result ≡ None → HaveTypes g es f.params → StatementFits g (s.Run f.name es) g
      chain : {g : Scope} {arms : List CArm} {rest : List CStatement} → ArmsFit g arms → BlockFits g rest → StatementFits g (s.Chain arms rest) g
      -- what the first list declares is in scope in the test and in the second list
      loop : {g : Scope} {first body : List CStatement} {test : CExpr} (h : Scope) → StatementsFit g first h → IsCondition h test → BlockFits h body → StatementFits g (s.Loop first test body) g
      block : {g : Scope} {arrays : List CArray} {body : List CStatement} → AllByRecursion ArrayFits arrays → BlockFits (map of_array arrays ++ g) body → StatementFits g (s.Block arrays body) g

    -- statements in order
    pub data StatementsFit : Scope → List CStatement → Scope → Type 0 where
      done : {g : Scope} → StatementsFit g [] g
      next : {g k : Scope} {x : CStatement} {xs : List CStatement} (h : Scope) → StatementFits g x h → StatementsFit h xs k → StatementsFit g (x ∷ xs) k

    -- statements between braces: what they declare is in scope there alone (6.2.1p4)
    pub data BlockFits : Scope → List CStatement → Type 0 where
      braces : {g : Scope} {xs : List CStatement} (h : Scope) → StatementsFit g xs h → BlockFits g xs

    pub data ArmsFit : Scope → List CArm → Type 0 where
      no_arm : {g : Scope} → ArmsFit g []
      one_arm : {g : Scope} {x : CArm} {xs : List CArm} → IsCondition g (out-CArm x).test → BlockFits g (out-CArm x).body → ArmsFit g xs → ArmsFit g (x ∷ xs)

  -- ---- functions

  -- The answer has the result type.
  pub data AnswerFits (g : Scope) : Option CType → Option CExpr → Type 0 where
    nothing : AnswerFits g None None
    value : {ty : CType} {a : CExpr} → IsKnown p.structs ty → HasType g a ty → AnswerFits g (Some ty) (Some a)

-- the names that a statement declares, at any depth
abbrev pub all_of : List (List (List ℕ)) → List (List ℕ)
all_of = flat_map (λ xs. xs)

abbrev pub names_step : CStatement-F (List (List ℕ)) (List (List ℕ)) → List (List ℕ)
names_step (CStatement-F.Decl v a) = v.name ∷ []
names_step (CStatement-F.Blank v) = v.name ∷ []
names_step (CStatement-F.Set x a) = []
names_step (CStatement-F.Read v a i) = v.name ∷ []
names_step (CStatement-F.Tab v x i) = v.name ∷ []
names_step (CStatement-F.Write a i b) = []
names_step (CStatement-F.Div v quotient a b) = v.name ∷ []
names_step (CStatement-F.Call v f es) = v.name ∷ []
names_step (CStatement-F.Run f es) = []
names_step (CStatement-F.Chain arms rest) = all_of arms ++ all_of rest
names_step (CStatement-F.Loop first test body) = all_of first ++ all_of body
names_step (CStatement-F.Block arrays body) = map (λ a. a.name) arrays ++ all_of body

abbrev pub arm_names : CArm-F (List (List ℕ)) (List (List ℕ)) → List (List ℕ)
arm_names a = all_of a.body

abbrev pub names : CStatement → List (List ℕ)
names = fold-CStatement (List (List ℕ)) (List (List ℕ)) names_step arm_names

-- The body of a function is a scope, in which its parameters are and behind which its answer stands.
pub record FunFits (p : CProgram) (f : CFun) : Type 0 where
  -- each parameter, variable and array has its own name
  pub distinct : IsDistinct bytes_eq (map (λ v. v.name) f.params ++ flat_map names f.body)
  pub params : AllByRecursion (λ v. IsKnown p.structs v.ty) f.params
  pub scope : Scope
  pub body : StatementsFit p (map of_var f.params) f.body scope
  pub answer : AnswerFits p scope f.result f.answer

-- ---- programs

-- The fields of a struct have names of their own, and types that are made of earlier structs.
pub record StructFits (earlier : List CStruct) (s : CStruct) : Type 0 where
  pub distinct : IsDistinct bytes_eq (map (λ f. f.name) s.fields)
  pub fields : AllByRecursion (λ f. IsKnown earlier f.ty) s.fields

-- structs, the first ones behind these
abbrev pub StructsFit : List CStruct → List CStruct → Type 0
StructsFit earlier [] = Unit {0}
StructsFit earlier (s ∷ structs) = StructFits earlier s × StructsFit (s ∷ earlier) structs

-- A table has 1 to 65,536 numbers.
pub record TableFits (t : CTable) : Type 0 where
  pub some : 1 ≤ length t.nums
  pub most : length t.nums ≤ max_elements

-- A program is well formed.
pub record WellFormed (p : CProgram) : Type 0 where
  pub shapes : KeepsShapes p
  pub distinct_structs : IsDistinct bytes_eq (map (λ s. s.name) p.structs)
  pub structs : StructsFit [] p.structs
  pub distinct_tables : IsDistinct bytes_eq (map (λ t. t.name) p.tables)
  pub tables : AllByRecursion TableFits p.tables
  pub distinct_funs : IsDistinct bytes_eq (map (λ f. f.name) p.funs)
  pub funs : AllByRecursion (FunFits p) p.funs
