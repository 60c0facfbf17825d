-- The program that a bundled file becomes.
-- An expression becomes statements and a C expression, with operands from left to right. It is a function from the names in
-- scope and the number of the next variable; types are computed on the way.

use Rattle.std.specs.Prelude.{ℕ, suc, ◌+◌, Bool, true, false, if◌then◌else◌, List, [], ◌∷◌, ◌++◌, map, length, Option, Some, None}
use Rattle.std.specs.List.{flat_map}
use Rattle.krml_trace.specs.declared.width.Width.TheVariants.{W8, W32}
use Rattle.krml_trace.specs.Width.{same_width}
use Rattle.krml_syntax.specs.declared.tree.IntTy.{IntTy}
use Rattle.krml_syntax.specs.declared.tree.Ty.{Ty, out-Ty}
use Rattle.krml_syntax.specs.declared.tree.Ty.TheVariants as ty
use Rattle.krml_syntax.specs.declared.tree.Ty.TheOpen.{Ty-F}
use Rattle.krml_syntax.specs.declared.tree.Field.{Field}
use Rattle.krml_syntax.specs.declared.tree.BinOp.{BinOp}
use Rattle.krml_syntax.specs.declared.tree.BinOp.TheVariants as op
use Rattle.krml_syntax.specs.declared.tree.CmpOp.{CmpOp}
use Rattle.krml_syntax.specs.declared.tree.Expr.{Expr}
use Rattle.krml_syntax.specs.declared.tree.Expr.TheOpen.{Expr-F, Item-F}
use Rattle.krml_syntax.specs.declared.tree.Expr.TheFolds.{fold-Expr}
use Rattle.krml_syntax.specs.declared.tree.Def.{Def}
use Rattle.krml_syntax.specs.declared.tree.Def.TheVariants as d
use Rattle.krml_syntax.specs.declared.tree.SourceFile.{SourceFile}
use Rattle.krml_ast.specs.Names.{Signature, struct_named, table_named, fun_named, field_named}
use Rattle.krml_syntax.specs.Types.{u32}
use Rattle.krml_ctree.specs.declared.tree.CType.TheVariants as ct
use Rattle.krml_ctree.specs.declared.tree.CVar.{CVar}
use Rattle.krml_ctree.specs.declared.tree.CBin.{CBin}
use Rattle.krml_ctree.specs.declared.tree.CBin.TheVariants as cop
use Rattle.krml_ctree.specs.declared.tree.CmpKind.TheVariants as ck
use Rattle.krml_ctree.specs.declared.tree.CExpr.{CExpr}
use Rattle.krml_ctree.specs.declared.tree.CExpr.TheVariants as c
use Rattle.krml_ctree.specs.declared.tree.CArm.{CArm, roll-CArm}
use Rattle.krml_ctree.specs.declared.tree.CStatement.{CStatement}
use Rattle.krml_ctree.specs.declared.tree.CStatement.TheVariants as st
use Rattle.krml_ctree.specs.declared.tree.CStruct.{CStruct}
use Rattle.krml_ctree.specs.declared.tree.CTable.{CTable}
use Rattle.krml_ctree.specs.declared.tree.CFun.{CFun}
use Rattle.krml_ctree.specs.declared.tree.CProgram.{CProgram}
use Rattle.krml_ctree.specs.Text.{width_type}
use Rattle.krml_cstar.specs.Types.{ctype, is_unit}
use Rattle.krml_cstar.specs.Variables.{plain, named, Known, KnownVars, look, var}
use Rattle.krml_cstar.specs.Numbers.{widen, narrow, work, literal, truth, spread, shift_op, kind}

-- ---- code

-- The statements of an expression, its C expression, which is not looked at where it gives nothing, its type, and the number
-- of the next variable.
pub record Out : Type 0 where
  pub code : List CStatement
  pub value : CExpr
  pub ty : Ty
  pub next : ℕ

-- Whether an expression gives nothing is known before its code: the variable for a result is numbered before the branches.
pub record Comp : Type 0 where
  pub unit : Bool
  pub run : KnownVars → ℕ → Out

abbrev pub nothing : CExpr
nothing = c.Lit W32 0

abbrev pub gives : (KnownVars → ℕ → Out) → Comp
gives f = record { unit = false; run = f }

abbrev pub does : (KnownVars → ℕ → Out) → Comp
does f = record { unit = true; run = f }

abbrev pub value : Ty → CExpr → KnownVars → ℕ → Out
value a e names n = record { code = []; value = e; ty = a; next = n }

-- ---- operands, numbers

-- two operands from left to right
abbrev pub operands : Comp → Comp → (CExpr → CExpr → KnownVars → ℕ → Out) → KnownVars → ℕ → Out
operands a b f names n =
    let oa = a.run names n in
    let ob = b.run names oa.next in
    let o = f oa.value ob.value names ob.next in
    record { code = oa.code ++ ob.code ++ o.code; value = o.value; ty = o.ty; next = o.next }

abbrev pub operand : Comp → (Out → KnownVars → ℕ → Out) → KnownVars → ℕ → Out
operand a f names n =
    let oa = a.run names n in
    let o = f oa names oa.next in
    record { code = oa.code ++ o.code; value = o.value; ty = o.ty; next = o.next }

abbrev pub arithmetic : CBin → IntTy → CExpr → CExpr → KnownVars → ℕ → Out
arithmetic o i a b names n = value (ty.Int i) (narrow i.width (c.Bin o (widen i.width a) (widen i.width b))) names n

abbrev pub divided : Bool → IntTy → CExpr → CExpr → KnownVars → ℕ → Out
divided quotient i a b names n = record {
  code = st.Div (var n (width_type (work i.width))) quotient (widen i.width a) (widen i.width b) ∷ [];
  value = narrow i.width (c.Var (plain n));
  ty = ty.Int i;
  next = n + 1;
}

-- x = (a ^ b), and ((x | (0 - x)) >> (w - 1)) - 1
abbrev pub eq_mask : IntTy → CExpr → CExpr → KnownVars → ℕ → Out
eq_mask i a b names n =
    let x = c.Var (plain n) in
    record {
      code = st.Decl (var n (width_type (work i.width))) (c.Bin cop.Xor (widen i.width a) (widen i.width b)) ∷ [];
      value = spread i (c.Bin cop.Or x (c.Bin cop.Sub (c.Lit (work i.width) 0) x));
      ty = ty.Int i;
      next = n + 1;
    }

-- x = a, y = b, and ((x ^ ((x ^ y) | ((x - y) ^ y))) >> (w - 1)) - 1
abbrev pub gte_mask : IntTy → CExpr → CExpr → KnownVars → ℕ → Out
gte_mask i a b names n =
    let x = c.Var (plain n) in
    let y = c.Var (plain (n + 1)) in
    record {
      code = st.Decl (var n (width_type (work i.width))) (widen i.width a) ∷ st.Decl (var (n + 1) (width_type (work i.width))) (widen i.width b) ∷ [];
      value = spread i (c.Bin cop.Xor x (c.Bin cop.Or (c.Bin cop.Xor x y) (c.Bin cop.Xor (c.Bin cop.Sub x y) y)));
      ty = ty.Int i;
      next = n + 2;
    }

abbrev pub binary : BinOp → IntTy → CExpr → CExpr → KnownVars → ℕ → Out
binary op.Add = arithmetic cop.Add
binary op.Sub = arithmetic cop.Sub
binary op.Mul = arithmetic cop.Mul
binary op.And = arithmetic cop.And
binary op.Or = arithmetic cop.Or
binary op.Xor = arithmetic cop.Xor
binary op.Div = divided true
binary op.Rem = divided false
binary op.EqMask = eq_mask
binary op.GteMask = gte_mask

abbrev pub shifted : Bool → IntTy → CExpr → CExpr → KnownVars → ℕ → Out
shifted left i a b names n = value (ty.Int i) (narrow i.width (c.Bin (shift_op left) (widen i.width a) b)) names n

abbrev pub compared : CmpOp → IntTy → CExpr → CExpr → KnownVars → ℕ → Out
compared o i a b names n = value ty.Bool (c.Cmp W8 (kind o) (widen i.width a) (widen i.width b)) names n

abbrev pub opposite : Out → KnownVars → ℕ → Out
opposite a names n = value ty.Bool (c.Cast W8 (c.Bin cop.Xor (c.Cast W32 a.value) (c.Lit W32 1))) names n

-- the operand as it is where the C type is the same
abbrev pub converted : IntTy → IntTy → Out → KnownVars → ℕ → Out
converted i j a names n = value (ty.Int j) (if same_width i.width j.width then a.value else c.Cast j.width a.value) names n

-- ---- variables, structs, tables, calls

abbrev pub variable : Option Known → KnownVars → ℕ → Out
variable (Some k) names n = value k.ty (c.Var k.emitted) names n
variable None names n = value ty.Unit nothing names n

pub record Outs : Type 0 where
  pub code : List CStatement
  pub values : List CExpr
  pub next : ℕ

abbrev pub all : List Comp → KnownVars → ℕ → Outs
all [] names n = record { code = []; values = []; next = n }
all (a ∷ more) names n =
    let o = a.run names n in
    let os = all more names o.next in
    record { code = o.code ++ os.code; values = o.value ∷ os.values; next = os.next }

abbrev pub built : List ℕ → List Comp → KnownVars → ℕ → Out
built x es names n = let os = all es names n in record { code = os.code; value = c.Build x os.values; ty = ty.Named x []; next = os.next }

abbrev pub type_or_unit : Option Ty → Ty
type_or_unit (Some a) = a
type_or_unit None = ty.Unit

abbrev pub field_in : Option (List (List ℕ) × List Field) → List ℕ → Ty
field_in (Some s) y = type_or_unit (field_named s.1 y)
field_in None y = ty.Unit

abbrev pub field_type : List Def → List ℕ → Ty-F Ty → Ty
field_type defs y (Ty-F.Named x args) = field_in (struct_named defs x) y
-- the other types have no fields
field_type defs y (Ty-F.Int i) = ty.Unit
field_type defs y Ty-F.Bool = ty.Unit
field_type defs y Ty-F.Unit = ty.Unit
field_type defs y (Ty-F.Buf a) = ty.Unit
field_type defs y (Ty-F.Var x) = ty.Unit

abbrev pub got : List Def → List ℕ → Out → KnownVars → ℕ → Out
got defs y a names n = value (field_type defs y (out-Ty a.ty)) (c.Field a.value y) names n

abbrev pub table_type : Option IntTy → Ty
table_type (Some i) = ty.Int i
table_type None = ty.Unit

abbrev pub looked_up : List Def → List ℕ → Out → KnownVars → ℕ → Out
looked_up defs x a names n =
    let r = table_type (table_named defs x) in
    record { code = st.Tab (var n (ctype r)) x a.value ∷ []; value = c.Var (plain n); ty = r; next = n + 1 }

abbrev pub result_of : Option Signature → Ty
result_of (Some f) = f.result
result_of None = ty.Unit

abbrev pub ran : Ty → List ℕ → List Comp → KnownVars → ℕ → Out
ran r f es names n = let os = all es names n in record { code = os.code ++ st.Run f os.values ∷ []; value = nothing; ty = r; next = os.next }

abbrev pub called : Ty → List ℕ → List Comp → KnownVars → ℕ → Out
called r f es names n =
    let os = all es names n in
    record { code = os.code ++ st.Call (var os.next (ctype r)) f os.values ∷ []; value = c.Var (plain os.next); ty = r; next = os.next + 1 }

abbrev pub call : List Def → List ℕ → List Comp → Comp
call defs f es =
    let r = result_of (fun_named defs f) in
    if is_unit r then does (ran r f es) else gives (called r f es)

-- i = (i + 1)
abbrev pub stepped : List ℕ → CStatement
stepped i = st.Set i (c.Bin cop.Add (c.Var i) (c.Lit W32 1))

-- ---- branches, blocks, loops

-- what a branch gives, into the variable of a result
abbrev pub into : ℕ → Out → List CStatement
into r o = o.code ++ st.Set (plain r) o.value ∷ []

abbrev pub arm : CExpr → List CStatement → CArm
arm test body = roll-CArm (record { test = test; body = body })

abbrev pub if_unit : Comp → Comp → Comp → KnownVars → ℕ → Out
if_unit t a b names n =
    let ot = t.run names n in
    let oa = a.run names ot.next in
    let ob = b.run names oa.next in
    record { code = ot.code ++ st.Chain (arm ot.value oa.code ∷ []) ob.code ∷ []; value = nothing; ty = oa.ty; next = ob.next }

abbrev pub if_value : Comp → Comp → Comp → KnownVars → ℕ → Out
if_value t a b names n =
    let ot = t.run names n in
    let r = ot.next in
    let oa = a.run names (r + 1) in
    let ob = b.run names oa.next in
    record { code = ot.code ++ st.Blank (var r (ctype oa.ty)) ∷ st.Chain (arm ot.value (into r oa) ∷ []) (into r ob) ∷ []; value = c.Var (plain r); ty = oa.ty; next = ob.next }

abbrev pub choice : Comp → Comp → Comp → Comp
choice t a b = record { unit = a.unit; run = λ names n. if a.unit then if_unit t a b names n else if_value t a b names n }

pub record ItemOut : Type 0 where
  pub code : List CStatement
  pub names : KnownVars
  pub next : ℕ

abbrev pub ItemComp : Type 0
ItemComp = KnownVars → ℕ → ItemOut

abbrev pub bound : List ℕ → Ty → Comp → ItemComp
bound x a e names n =
    let o = e.run names n in
    let y = named o.next x in
    record { code = o.code ++ st.Decl (record { ty = ctype a; name = y }) o.value ∷ []; names = record { name = x; emitted = y; ty = a } ∷ names; next = o.next + 1 }

abbrev pub done : Comp → ItemComp
done a names n = let o = a.run names n in record { code = o.code; names = names; next = o.next }

abbrev pub items : List ItemComp → ItemComp
items [] names n = record { code = []; names = names; next = n }
items (i ∷ more) names n =
    let oi = i names n in
    let os = items more oi.names oi.next in
    record { code = oi.code ++ os.code; names = os.names; next = os.next }

abbrev pub block : List ItemComp → Comp → Comp
block is a = record {
  unit = a.unit;
  run = λ names n.
      let oi = items is names n in
      let oa = a.run oi.names oi.next in
      record { code = oi.code ++ oa.code; value = oa.value; ty = oa.ty; next = oa.next };
}

abbrev pub while : Comp → Comp → KnownVars → ℕ → Out
while t a names n =
    let ot = t.run names n in
    let oa = a.run names ot.next in
    record { code = st.Loop ot.code ot.value oa.code ∷ []; value = nothing; ty = ty.Unit; next = oa.next }

abbrev pub for : List ℕ → Comp → Comp → Comp → KnownVars → ℕ → Out
for x a b e names n =
    let oa = a.run names n in
    let ob = b.run names oa.next in
    let i = ob.next in
    let y = named i x in
    let oe = e.run (record { name = x; emitted = y; ty = u32 } ∷ names) (i + 2) in
    record {
      code = oa.code ++ ob.code ++ st.Decl (record { ty = ct.U32; name = y }) oa.value ∷ st.Decl (var (i + 1) ct.U32) ob.value
          ∷ st.Loop [] (c.Cmp W8 ck.Lt (c.Var y) (c.Var (plain (i + 1)))) (oe.code ++ stepped y ∷ []) ∷ [];
      value = nothing;
      ty = ty.Unit;
      next = oe.next;
    }

-- ---- the table

abbrev pub Layer : Type 0
Layer = Expr-F Comp ItemComp (Unit {0}) (Unit {0})

abbrev pub code_step : List Def → Layer → Comp
code_step defs (Expr-F.Var x) = gives (λ names n. variable (look names x) names n)
code_step defs Expr-F.Unit = does (value ty.Unit nothing)
code_step defs (Expr-F.Bool b) = gives (value ty.Bool (truth b))
code_step defs (Expr-F.Num i n) = gives (value (ty.Int i) (literal i.width n))
code_step defs (Expr-F.Bin o i a b) = gives (operands a b (binary o i))
code_step defs (Expr-F.Shift left i a b) = gives (operands a b (shifted left i))
code_step defs (Expr-F.Cmp o i a b) = gives (operands a b (compared o i))
code_step defs (Expr-F.Not a) = gives (operand a opposite)
code_step defs (Expr-F.Cast i j a) = gives (operand a (converted i j))
code_step defs (Expr-F.Make x args es) = gives (built x es)
code_step defs (Expr-F.Get y a) = gives (operand a (got defs y))
code_step defs (Expr-F.Tab x a) = gives (operand a (looked_up defs x))
code_step defs (Expr-F.If t a b) = choice t a b
code_step defs (Expr-F.Do is a) = block is a
code_step defs (Expr-F.While t a) = does (while t a)
code_step defs (Expr-F.For x a b e) = does (for x a b e)
code_step defs (Expr-F.Call f args es) = call defs f es
-- what is not built yet becomes nothing
code_step defs (Expr-F.Hide i a) = does (value ty.Unit nothing)
code_step defs (Expr-F.Con x args es) = does (value ty.Unit nothing)
code_step defs (Expr-F.Read a i) = does (value ty.Unit nothing)
code_step defs (Expr-F.Write a i e) = does (value ty.Unit nothing)
code_step defs (Expr-F.Slice a i n) = does (value ty.Unit nothing)
code_step defs (Expr-F.Match a arms) = does (value ty.Unit nothing)
code_step defs (Expr-F.Frame slots a) = does (value ty.Unit nothing)
code_step defs (Expr-F.Alloc b n a) = does (value ty.Unit nothing)
code_step defs (Expr-F.Cases cases) = does (value ty.Unit nothing)
code_step defs (Expr-F.TagIs x a) = does (value ty.Unit nothing)
code_step defs (Expr-F.Part x j a) = does (value ty.Unit nothing)
code_step defs (Expr-F.Fill k a) = does (value ty.Unit nothing)

abbrev pub item_step : Item-F Comp ItemComp (Unit {0}) (Unit {0}) → ItemComp
item_step (Item-F.Let x a e) = bound x a e
item_step (Item-F.Run e) = done e

abbrev pub code_of : List Def → Expr → Comp
code_of defs = fold-Expr Comp ItemComp (Unit {0}) (Unit {0}) (code_step defs) item_step (λ x. tt) (λ x. tt)

-- ---- definitions

-- the parameters, which are the first variables
abbrev pub params_from : ℕ → List Field → List Known
params_from k [] = []
params_from k (p ∷ params) = record { name = p.name; emitted = named k p.name; ty = p.ty } ∷ params_from (suc k) params

abbrev pub cvars : List Known → List CVar
cvars known = map (λ k. record { ty = ctype k.ty; name = k.emitted }) known

abbrev pub fun_code : List Def → List ℕ → List Field → Ty → Expr → CFun
fun_code defs x params result body =
    let known = params_from 0 params in
    let o = (code_of defs body).run known (length params) in
    record {
      result = if is_unit result then None else Some (ctype result);
      name = x;
      params = cvars known;
      body = o.code;
      answer = if is_unit result then None else Some o.value;
    }

abbrev pub structs_of : Def → List CStruct
structs_of (d.Struct x vars fields) = record { name = x; fields = map (λ f. record { ty = ctype f.ty; name = f.name }) fields } ∷ []
structs_of (d.Table x i nums) = []
structs_of (d.Fun x vars params result body) = []
structs_of (d.Entry x) = []
-- not built yet
structs_of (d.Sum x vars cons) = []

abbrev pub tables_of : Def → List CTable
tables_of (d.Table x i nums) = record { name = x; width = i.width; nums = nums } ∷ []
tables_of (d.Struct x vars fields) = []
tables_of (d.Sum x vars cons) = []
tables_of (d.Fun x vars params result body) = []
tables_of (d.Entry x) = []

abbrev pub funs_of : List Def → Def → List CFun
funs_of defs (d.Fun x vars params result body) = fun_code defs x params result body ∷ []
funs_of defs (d.Struct x vars fields) = []
funs_of defs (d.Sum x vars cons) = []
funs_of defs (d.Table x i nums) = []
funs_of defs (d.Entry x) = []

abbrev pub program_of : SourceFile → CProgram
program_of file = record {
  structs = flat_map structs_of file.defs;
  tables = flat_map tables_of file.defs;
  funs = flat_map (funs_of file.defs) file.defs;
}
