-- The text of a program and its tokens, by one table for both.
use Rattle.std.specs.Prelude.{ℕ, ◌+◌, ◌*◌, List, [], ◌∷◌, ◌++◌, Bool, true, false, map, length, replicate, codes, Option, Some, None}
use Rattle.std.specs.List.{flat_map}
use Rattle.std.specs.Fmt.{decimal}
use Rattle.krml_trace.specs.declared.width.Width.{Width}
use Rattle.krml_trace.specs.declared.width.Width.TheVariants.{W8, W32, W64}
use Rattle.krml_ctree.specs.declared.tree.CType.{CType}
use Rattle.krml_ctree.specs.declared.tree.CType.TheVariants.{U8, U32, U64}
use Rattle.krml_ctree.specs.declared.tree.CType.TheOpen.{CType-F}
use Rattle.krml_ctree.specs.declared.tree.CType.TheFolds.{fold-CType}
use Rattle.krml_ctree.specs.declared.tree.CBin.{CBin}
use Rattle.krml_ctree.specs.declared.tree.CBin.TheVariants.{Add, Sub, Mul, And, Or, Xor, Shl, Shr}
use Rattle.krml_ctree.specs.declared.tree.CmpKind.{CmpKind}
use Rattle.krml_ctree.specs.declared.tree.CmpKind.TheVariants.{Eq, Ne, Lt, Le, Gt, Ge}
use Rattle.krml_ctree.specs.declared.tree.CVar.{CVar}
use Rattle.krml_ctree.specs.declared.tree.CArray.{CArray}
use Rattle.krml_ctree.specs.declared.tree.CExpr.{CExpr}
use Rattle.krml_ctree.specs.declared.tree.CExpr.TheOpen.{CExpr-F}
use Rattle.krml_ctree.specs.declared.tree.CExpr.TheFolds.{fold-CExpr}
use Rattle.krml_ctree.specs.declared.tree.CStatement.{CStatement}
use Rattle.krml_ctree.specs.declared.tree.CStatement.TheOpen.{CStatement-F, CArm-F}
use Rattle.krml_ctree.specs.declared.tree.CStatement.TheFolds.{fold-CStatement}
use Rattle.krml_ctree.specs.declared.tree.CStruct.{CStruct}
use Rattle.krml_ctree.specs.declared.tree.CTable.{CTable}
use Rattle.krml_ctree.specs.declared.tree.CFun.{CFun}
use Rattle.krml_ctree.specs.declared.tree.CProgram.{CProgram}

-- What a token, a space and a line at so many levels of braces become.
pub record Layout (A : Type 0) : Type 0 where
  pub token : List ℕ → List A
  pub space : List A
  pub line : ℕ → List A → List A

-- as the bytes of a text: two spaces a level before a line, and an LF behind it
abbrev pub as_text : Layout ℕ
as_text = record { token = λ w. w; space = 32 ∷ []; line = λ level xs. (replicate (2 * level) 32 ++ xs) ++ 10 ∷ [] }

-- as tokens
abbrev pub as_tokens : Layout (List ℕ)
as_tokens = record { token = λ w. w ∷ []; space = []; line = λ level xs. xs }

-- the type of a width, and its word
abbrev pub width_type : Width → CType
width_type W8 = U8
width_type W32 = U32
width_type W64 = U64

abbrev pub width_word : Width → List ℕ
width_word W8 = codes "uint8_t"
width_word W32 = codes "uint32_t"
width_word W64 = codes "uint64_t"

-- a number, with the suffix of its width
abbrev pub number : Width → ℕ → List ℕ
number W8 n = decimal n ++ codes "u"
number W32 n = decimal n ++ codes "u"
number W64 n = decimal n ++ codes "ull"

abbrev pub bin_symbol : CBin → List ℕ
bin_symbol Add = codes "+"
bin_symbol Sub = codes "-"
bin_symbol Mul = codes "*"
bin_symbol And = codes "&"
bin_symbol Or = codes "|"
bin_symbol Xor = codes "^"
bin_symbol Shl = codes "<<"
bin_symbol Shr = codes ">>"

abbrev pub cmp_symbol : CmpKind → List ℕ
cmp_symbol Eq = codes "=="
cmp_symbol Ne = codes "!="
cmp_symbol Lt = codes "<"
cmp_symbol Le = codes "<="
cmp_symbol Gt = codes ">"
cmp_symbol Ge = codes ">="

abbrev pub div_symbol : Bool → List ℕ
div_symbol true = codes "/"
div_symbol false = codes "%"

module _ {A : Type 0} (to : Layout A) where
  -- between parentheses, braces and brackets
  abbrev pub group : List A → List A
  group xs = (to.token (codes "(") ++ xs) ++ to.token (codes ")")

  abbrev pub braced : List A → List A
  braced xs = (to.token (codes "{") ++ xs) ++ to.token (codes "}")

  abbrev pub index : List A → List A
  index xs = (to.token (codes "[") ++ xs) ++ to.token (codes "]")

  -- `, ` between
  abbrev pub behind_comma : List (List A) → List A
  behind_comma [] = []
  behind_comma (x ∷ xs) = ((to.token (codes ",") ++ to.space) ++ x) ++ behind_comma xs

  abbrev pub separated : List (List A) → List A
  separated [] = []
  separated (x ∷ xs) = x ++ behind_comma xs

  -- ---- types

  abbrev pub word : List ℕ → List A
  word w = to.token w ++ to.space

  abbrev pub type_step : CType-F (List A) → List A
  type_step CType-F.U8 = word (width_word W8)
  type_step CType-F.U32 = word (width_word W32)
  type_step CType-F.U64 = word (width_word W64)
  type_step (CType-F.Struct x) = word (codes "struct") ++ word x
  type_step (CType-F.Ptr a) = a ++ to.token (codes "*")

  -- a type, as it stands before a name
  abbrev pub type_of : CType → List A
  type_of = fold-CType (List A) type_step

  abbrev pub result_of : Option CType → List A
  result_of None = word (codes "void")
  result_of (Some ty) = type_of ty

  -- TYPE NAME
  abbrev pub declarator : CVar → List A
  declarator v = type_of v.ty ++ to.token v.name

  -- TYPE NAME[LEN]
  abbrev pub array : CArray → List A
  array a = (type_of a.ty ++ to.token a.name) ++ index (to.token (decimal a.len))

  -- ---- expressions

  -- an operator between its operands
  abbrev pub binary : List ℕ → List A → List A → List A
  binary symbol a b = group ((((a ++ to.space) ++ to.token symbol) ++ to.space) ++ b)

  -- a conversion to the type of a width
  abbrev pub cast : Width → List A → List A
  cast w a = group (group (to.token (width_word w)) ++ a)

  abbrev pub expr_step : CExpr-F (List A) → List A
  -- x
  expr_step (CExpr-F.Var x) = to.token x
  -- ((uint32_t)5u)
  expr_step (CExpr-F.Lit w n) = cast w (to.token (number w n))
  -- ((uint8_t)a)
  expr_step (CExpr-F.Cast w a) = cast w a
  -- (a + b)
  expr_step (CExpr-F.Bin op a b) = binary (bin_symbol op) a b
  -- ((uint8_t)(a < b))
  expr_step (CExpr-F.Cmp w op a b) = cast w (binary (cmp_symbol op) a b)
  -- ((struct NAME){a, b})
  expr_step (CExpr-F.Build x es) = group (group (word (codes "struct") ++ to.token x) ++ braced (separated es))
  -- a.NAME
  expr_step (CExpr-F.Field a x) = (a ++ to.token (codes ".")) ++ to.token x

  abbrev pub expr : CExpr → List A
  expr = fold-CExpr (List A) expr_step

  -- FUN(E, E)
  abbrev pub call : List ℕ → List CExpr → List A
  call f es = to.token f ++ group (separated (map expr es))

  -- E[E]
  abbrev pub element : List A → CExpr → List A
  element a i = a ++ index (expr i)

  -- ---- statements

  -- a line that ends with a semicolon
  abbrev pub ended : ℕ → List A → List A
  ended level xs = to.line level (xs ++ to.token (codes ";"))

  -- .. = ..;
  abbrev pub equation : ℕ → List A → List A → List A
  equation level a b = ended level ((((a ++ to.space) ++ to.token (codes "=")) ++ to.space) ++ b)

  -- statements at a level
  abbrev pub block : List (ℕ → List A) → ℕ → List A
  block ss level = flat_map (λ s. s level) ss

  abbrev pub closing : ℕ → List A
  closing level = to.line level (to.token (codes "}"))

  -- a test, and what is done where it is true
  pub record Arm : Type 0 where
    pub test : List A
    pub body : ℕ → List A

  -- KEYWORDS (test) {, and the body
  abbrev pub arm : List A → Arm → ℕ → List A
  arm keywords a level = to.line level (((keywords ++ group a.test) ++ to.space) ++ to.token (codes "{")) ++ a.body (level + 1)

  abbrev pub if_words : List A
  if_words = word (codes "if")

  abbrev pub else_words : List A
  else_words = word (codes "}") ++ word (codes "else")

  abbrev pub else_line : ℕ → List A
  else_line level = to.line level (else_words ++ to.token (codes "{"))

  abbrev pub else_ifs : List Arm → ℕ → List A
  else_ifs arms level = flat_map (λ a. arm (else_words ++ if_words) a level) arms

  abbrev pub ifs : List Arm → ℕ → List A
  ifs [] level = []
  ifs (a ∷ arms) level = arm if_words a level ++ else_ifs arms level

  -- nothing where nothing is done
  abbrev pub otherwise : List (ℕ → List A) → ℕ → List A
  otherwise [] level = []
  otherwise (s ∷ ss) level = else_line level ++ block (s ∷ ss) (level + 1)

  abbrev pub for_words : List A
  for_words = word (codes "for") ++ group (to.token (codes ";") ++ to.token (codes ";"))

  abbrev pub statement_step : CStatement-F (ℕ → List A) Arm → ℕ → List A
  -- TYPE NAME = E;
  statement_step (CStatement-F.Decl v e) level = equation level (declarator v) (expr e)
  -- TYPE NAME;
  statement_step (CStatement-F.Blank v) level = ended level (declarator v)
  -- NAME = E;
  statement_step (CStatement-F.Set x e) level = equation level (to.token x) (expr e)
  -- TYPE NAME = E[E];
  statement_step (CStatement-F.Read v a i) level = equation level (declarator v) (element (expr a) i)
  -- TYPE NAME = TABLE[E];
  statement_step (CStatement-F.Tab v x i) level = equation level (declarator v) (element (to.token x) i)
  -- E[E] = E;
  statement_step (CStatement-F.Write a i e) level = equation level (element (expr a) i) (expr e)
  -- TYPE NAME = (E / E);
  statement_step (CStatement-F.Div v quotient a b) level = equation level (declarator v) (binary (div_symbol quotient) (expr a) (expr b))
  -- TYPE NAME = FUN(E, E);
  statement_step (CStatement-F.Call v f es) level = equation level (declarator v) (call f es)
  -- FUN(E, E);
  statement_step (CStatement-F.Run f es) level = ended level (call f es)
  -- if (E) { .. } else if (E) { .. } else { .. }
  statement_step (CStatement-F.Chain arms rest) level = (ifs arms level ++ otherwise rest level) ++ closing level
  -- for (;;) { .. if (E) { .. } else { break; } }
  statement_step (CStatement-F.Loop first test body) level =
      ((((((to.line level ((for_words ++ to.space) ++ to.token (codes "{")) ++ block first (level + 1)) ++ arm if_words (record { test = expr test; body = block body }) (level + 1)) ++ else_line (level + 1))
      ++ ended (level + 2) (to.token (codes "break"))) ++ closing (level + 1)) ++ closing level)
  -- { TYPE NAME[LEN]; .. }
  statement_step (CStatement-F.Block arrays body) level =
      ((to.line level (to.token (codes "{")) ++ flat_map (λ a. ended (level + 1) (array a)) arrays) ++ block body (level + 1)) ++ closing level

  abbrev pub arm_step : CArm-F (ℕ → List A) Arm → Arm
  arm_step a = record { test = expr a.test; body = block a.body }

  abbrev pub statement : CStatement → ℕ → List A
  statement = fold-CStatement (ℕ → List A) Arm statement_step arm_step

  abbrev pub statements : List CStatement → ℕ → List A
  statements ss = block (map statement ss)

  -- ---- programs

  -- struct NAME { .. };
  abbrev pub structure : CStruct → List A
  structure s = (to.line 0 ((word (codes "struct") ++ word s.name) ++ to.token (codes "{")) ++ flat_map (λ f. ended 1 (declarator f)) s.fields) ++ ended 0 (to.token (codes "}"))

  -- static const TYPE NAME[LEN] = {N, N};
  abbrev pub table : CTable → List A
  table t = equation 0 ((((word (codes "static") ++ word (codes "const")) ++ word (width_word t.width)) ++ to.token t.name) ++ index (to.token (decimal (length t.nums))))
      (braced (separated (map (λ n. to.token (number t.width n)) t.nums)))

  abbrev pub parameters : List CVar → List A
  parameters [] = to.token (codes "void")
  parameters (p ∷ ps) = separated (map declarator (p ∷ ps))

  -- TYPE NAME(TYPE NAME, TYPE NAME)
  abbrev pub head : CFun → List A
  head f = (result_of f.result ++ to.token f.name) ++ group (parameters f.params)

  abbrev pub prototype : CFun → List A
  prototype f = ended 0 (head f)

  abbrev pub answer : Option CExpr → List A
  answer None = []
  answer (Some e) = ended 1 (word (codes "return") ++ expr e)

  abbrev pub definition : CFun → List A
  definition f = ((to.line 0 ((head f ++ to.space) ++ to.token (codes "{")) ++ statements f.body 1) ++ answer f.answer) ++ closing 0

  -- structs, tables, one prototype a function, and then the definitions
  abbrev pub program : CProgram → List A
  program p = ((flat_map structure p.structs ++ flat_map table p.tables) ++ flat_map prototype p.funs) ++ flat_map definition p.funs

abbrev pub include_line : List ℕ
include_line = codes "#include <stdint.h>"

-- The text of a program.
abbrev pub text_of : CProgram → List ℕ
text_of p = include_line ++ 10 ∷ program as_text p

-- Its tokens behind the first line.
abbrev pub tokens_of : CProgram → List (List ℕ)
tokens_of p = program as_tokens p
