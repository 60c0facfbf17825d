-- The rules that each program keeps that a text can spell.
use Rattle.std.specs.Prelude.{◌≡◌, ℕ, ◌<◌, ◌^◌, Bool, true, false, ◌&&◌, if◌then◌else◌, ◌==◌, List, [], ◌∷◌, ◌++◌, codes, Option, Some, None}
use Rattle.std.specs.List.{list_all, AllByRecursion}
use Rattle.krml_trace.specs.Byte.{is_digit}
use Rattle.krml_trace.specs.Name.{IsName}
use Rattle.krml_trace.specs.Width.{bits}
use Rattle.krml_trace.specs.declared.width.Width.{Width}
use Rattle.krml_trace.specs.declared.width.Width.TheVariants.{W32, W64}
use Rattle.krml_ctree.specs.declared.tree.CType.{CType}
use Rattle.krml_ctree.specs.declared.tree.CType.TheVariants as t
use Rattle.krml_ctree.specs.declared.tree.CBin.{CBin}
use Rattle.krml_ctree.specs.declared.tree.CmpKind.{CmpKind}
use Rattle.krml_ctree.specs.declared.tree.CVar.{CVar}
use Rattle.krml_ctree.specs.declared.tree.CArray.{CArray}
use Rattle.krml_ctree.specs.declared.tree.CExpr.{CExpr}
use Rattle.krml_ctree.specs.declared.tree.CExpr.TheVariants as e
use Rattle.krml_ctree.specs.declared.tree.CStatement.{CStatement}
use Rattle.krml_ctree.specs.declared.tree.CStatement.TheVariants as s
use Rattle.krml_ctree.specs.declared.tree.CArm.{CArm, out-CArm}
use Rattle.krml_ctree.specs.declared.tree.CStruct.{CStruct}
use Rattle.krml_ctree.specs.declared.tree.CTable.{CTable}
use Rattle.krml_ctree.specs.declared.tree.CFun.{CFun}
use Rattle.krml_ctree.specs.declared.tree.CProgram.{CProgram}

-- ---- names

-- A number in decimal digits, without leading zeros.
abbrev pub is_decimal : List ℕ → Bool
is_decimal [] = false
is_decimal (b ∷ []) = is_digit b
is_decimal (b ∷ bs) = if b == 48 then false else is_digit b && list_all is_digit bs

-- A variable is `v` and its number, and then maybe `_` and a name of the source. So is an array.
pub data IsVariable : List ℕ → Type 0 where
  plain : (k : List ℕ) → is_decimal k ≡ true → IsVariable (codes "v" ++ k)
  named : (k name : List ℕ) → is_decimal k ≡ true → IsName name → IsVariable (codes "v" ++ (k ++ (codes "_" ++ name)))

-- A function is `f_` and a name of the source, or `g`, the number of an instance, `_` and a name.
pub data IsFunction : List ℕ → Type 0 where
  plain : (name : List ℕ) → IsName name → IsFunction (codes "f_" ++ name)
  instance_of : (k name : List ℕ) → is_decimal k ≡ true → IsName name → IsFunction (codes "g" ++ (k ++ (codes "_" ++ name)))

-- A struct is `s_` and a name of the source, or `s`, the number of an instance, `_` and a name.
pub data IsStruct : List ℕ → Type 0 where
  plain : (name : List ℕ) → IsName name → IsStruct (codes "s_" ++ name)
  instance_of : (k name : List ℕ) → is_decimal k ≡ true → IsName name → IsStruct (codes "s" ++ (k ++ (codes "_" ++ name)))

-- A table is `t_` and a name of the source.
pub data IsTable : List ℕ → Type 0 where
  plain : (name : List ℕ) → IsName name → IsTable (codes "t_" ++ name)

-- A field is `m_` and a name of the source, or `tag`, or `c`, the number of a constructor, `_` and that of its argument.
pub data IsField : List ℕ → Type 0 where
  plain : (name : List ℕ) → IsName name → IsField (codes "m_" ++ name)
  tag : IsField (codes "tag")
  argument : (k j : List ℕ) → is_decimal k ≡ true → is_decimal j ≡ true → IsField (codes "c" ++ (k ++ (codes "_" ++ j)))

-- ---- types

-- a type that is no pointer
pub data IsPlain : CType → Type 0 where
  u8 : IsPlain t.U8
  u32 : IsPlain t.U32
  u64 : IsPlain t.U64
  struct : {x : List ℕ} → IsStruct x → IsPlain (t.Struct x)

pub data TypeKeeps : CType → Type 0 where
  plain : {a : CType} → IsPlain a → TypeKeeps a
  pointer : {a : CType} → IsPlain a → TypeKeeps (t.Ptr a)

-- ---- expressions

-- A number is written at width 32 or 64, and fits it (ISO/IEC 9899:2011, 6.4.4.1p5).
pub data IsLiteral : Width → ℕ → Type 0 where
  short : {n : ℕ} → n < 2 ^ 32 → IsLiteral W32 n
  long : {n : ℕ} → n < 2 ^ 64 → IsLiteral W64 n

mutual
  pub data ExprKeeps : CExpr → Type 0 where
    var : {x : List ℕ} → IsVariable x → ExprKeeps (e.Var x)
    lit : {w : Width} {n : ℕ} → IsLiteral w n → ExprKeeps (e.Lit w n)
    cast : {w : Width} {a : CExpr} → ExprKeeps a → ExprKeeps (e.Cast w a)
    bin : {op : CBin} {a b : CExpr} → ExprKeeps a → ExprKeeps b → ExprKeeps (e.Bin op a b)
    cmp : {w : Width} {op : CmpKind} {a b : CExpr} → ExprKeeps a → ExprKeeps b → ExprKeeps (e.Cmp w op a b)
    build : {x : List ℕ} {es : List CExpr} → IsStruct x → ExprsKeep es → ExprKeeps (e.Build x es)
    field : {a : CExpr} {x : List ℕ} → ExprKeeps a → IsField x → ExprKeeps (e.Field a x)

  pub data ExprsKeep : List CExpr → Type 0 where
    no_expr : ExprsKeep []
    one_expr : {a : CExpr} {es : List CExpr} → ExprKeeps a → ExprsKeep es → ExprsKeep (a ∷ es)

-- ---- statements

pub record VarKeeps (v : CVar) : Type 0 where
  pub ty : TypeKeeps v.ty
  pub name : IsVariable v.name

-- the length of an array fits 32 bits
pub record ArrayKeeps (a : CArray) : Type 0 where
  pub ty : TypeKeeps a.ty
  pub name : IsVariable a.name
  pub len : a.len < 2 ^ 32

mutual
  pub data StatementKeeps : CStatement → Type 0 where
    decl : {v : CVar} {a : CExpr} → VarKeeps v → ExprKeeps a → StatementKeeps (s.Decl v a)
    blank : {v : CVar} → VarKeeps v → StatementKeeps (s.Blank v)
    set : {x : List ℕ} {a : CExpr} → IsVariable x → ExprKeeps a → StatementKeeps (s.Set x a)
    read : {v : CVar} {a i : CExpr} → VarKeeps v → ExprKeeps a → ExprKeeps i → StatementKeeps (s.Read v a i)
    tab : {v : CVar} {x : List ℕ} {i : CExpr} → VarKeeps v → IsTable x → ExprKeeps i → StatementKeeps (s.Tab v x i)
    write : {a i b : CExpr} → ExprKeeps a → ExprKeeps i → ExprKeeps b → StatementKeeps (s.Write a i b)
    div : {v : CVar} {quotient : Bool} {a b : CExpr} → VarKeeps v → ExprKeeps a → ExprKeeps b → StatementKeeps (s.Div v quotient a b)
    call : {v : CVar} {f : List ℕ} {es : List CExpr} → VarKeeps v → IsFunction f → ExprsKeep es → StatementKeeps (s.Call v f es)
    run : {f : List ℕ} {es : List CExpr} → IsFunction f → ExprsKeep es → StatementKeeps (s.Run f es)
    -- at least one arm
    chain : {arm : CArm} {arms : List CArm} {rest : List CStatement} → ArmKeeps arm → ArmsKeep arms → StatementsKeep rest → StatementKeeps (s.Chain (arm ∷ arms) rest)
    loop : {first body : List CStatement} {test : CExpr} → StatementsKeep first → ExprKeeps test → StatementsKeep body → StatementKeeps (s.Loop first test body)
    block : {arrays : List CArray} {body : List CStatement} → AllByRecursion ArrayKeeps arrays → StatementsKeep body → StatementKeeps (s.Block arrays body)

  pub data StatementsKeep : List CStatement → Type 0 where
    none : StatementsKeep []
    one : {x : CStatement} {xs : List CStatement} → StatementKeeps x → StatementsKeep xs → StatementsKeep (x ∷ xs)

  pub data ArmKeeps : CArm → Type 0 where
    arm : {x : CArm} → ExprKeeps (out-CArm x).test → StatementsKeep (out-CArm x).body → ArmKeeps x

  pub data ArmsKeep : List CArm → Type 0 where
    no_arm : ArmsKeep []
    one_arm : {x : CArm} {xs : List CArm} → ArmKeeps x → ArmsKeep xs → ArmsKeep (x ∷ xs)

-- ---- programs

pub record FieldKeeps (f : CVar) : Type 0 where
  pub ty : TypeKeeps f.ty
  pub name : IsField f.name

pub record StructKeeps (s : CStruct) : Type 0 where
  pub name : IsStruct s.name
  pub fields : AllByRecursion FieldKeeps s.fields

-- the numbers of a table fit its width
pub record TableKeeps (t : CTable) : Type 0 where
  pub name : IsTable t.name
  pub nums : AllByRecursion (λ n. n < 2 ^ bits t.width) t.nums

pub data ResultKeeps : Option CType → Type 0 where
  no_result : ResultKeeps None
  a_result : {ty : CType} → TypeKeeps ty → ResultKeeps (Some ty)

-- An answer is there exactly where a result is.
pub data AnswerKeeps : Option CType → Option CExpr → Type 0 where
  nothing : AnswerKeeps None None
  value : {ty : CType} {a : CExpr} → ExprKeeps a → AnswerKeeps (Some ty) (Some a)

pub record FunKeeps (f : CFun) : Type 0 where
  pub result : ResultKeeps f.result
  pub name : IsFunction f.name
  pub params : AllByRecursion VarKeeps f.params
  pub body : StatementsKeep f.body
  pub answer : AnswerKeeps f.result f.answer

-- A program keeps the rules where each of its parts does.
pub record KeepsShapes (p : CProgram) : Type 0 where
  pub structs : AllByRecursion StructKeeps p.structs
  pub tables : AllByRecursion TableKeeps p.tables
  pub funs : AllByRecursion FunKeeps p.funs
