-- A reading of tokens that gives back the program that they are of.
use Rattle.std.proofs.Common.{ℕ, zero, suc, Bool, true, false, not, ◌||◌, ◌&&◌, if◌then◌else◌, ◌==◌, List, [], ◌∷◌, drop, codes, Option, Some, None}
use Rattle.std.specs.Str.{bytes_eq}
use Rattle.krml_trace.specs.declared.width.Width.{Width}
use Rattle.krml_trace.specs.declared.width.Width.TheVariants.{W8, W32, W64}
use Rattle.krml_ctree.specs.declared.tree.CType.{CType}
use Rattle.krml_ctree.specs.declared.tree.CType.TheVariants as t
use Rattle.krml_ctree.specs.declared.tree.CBin.{CBin}
use Rattle.krml_ctree.specs.declared.tree.CBin.TheVariants.{Add, Sub, Mul, And, Or, Xor, Shl, Shr}
use Rattle.krml_ctree.specs.declared.tree.CmpKind.{CmpKind}
use Rattle.krml_ctree.specs.declared.tree.CmpKind.TheVariants.{Eq, Ne, Lt, Le, Gt, Ge}
use Rattle.krml_ctree.specs.declared.tree.CVar.{CVar}
use Rattle.krml_ctree.specs.declared.tree.CArray.{CArray}
use Rattle.krml_ctree.specs.declared.tree.CExpr.{CExpr}
use Rattle.krml_ctree.specs.declared.tree.CExpr.TheVariants as e
use Rattle.krml_ctree.specs.declared.tree.CStatement.{CStatement}
use Rattle.krml_ctree.specs.declared.tree.CStatement.TheVariants as s
use Rattle.krml_ctree.specs.declared.tree.CArm.{CArm, roll-CArm}
use Rattle.krml_ctree.specs.declared.tree.CStruct.{CStruct}
use Rattle.krml_ctree.specs.declared.tree.CTable.{CTable}
use Rattle.krml_ctree.specs.declared.tree.CFun.{CFun}
use Rattle.krml_ctree.specs.declared.tree.CProgram.{CProgram}
use Rattle.krml_ctree.specs.Text.{width_type}
use Rattle.krml_ctree.proofs.Names.{front_value, initial}

abbrev pub Tokens : Type 0
Tokens = List (List ℕ)

-- what was read, and the tokens behind it
abbrev pub Reading : Type 0 → Type 0
Reading A = Option (A × Tokens)

abbrev pub Reader : Type 0 → Type 0
Reader A = Tokens → Reading A

-- one reading behind another
abbrev pub next : {A B : Type 0} → Reading A → (A → Reader B) → Reading B
next None f = None
next (Some p) f = f p.0 p.1

-- a reading that goes on where something is known
abbrev pub given : {A B : Type 0} → Option A → (A → Reading B) → Reading B
given None f = None
given (Some a) f = f a

-- this token, and then what `f` reads
abbrev pub skip : {A : Type 0} → List ℕ → Reader A → Reader A
skip w f [] = None
skip w f (t ∷ ts) = if bytes_eq t w then f ts else None

-- any token, and then what `f` reads
abbrev pub any : {A : Type 0} → (List ℕ → Reader A) → Reader A
any f [] = None
any f (t ∷ ts) = f t ts

-- whether this token is next
abbrev pub is_next : List ℕ → Tokens → Bool
is_next w [] = false
is_next w (t ∷ ts) = bytes_eq t w

-- the first byte of the next token
abbrev pub first : Tokens → ℕ
first [] = 0
first (t ∷ ts) = initial t

-- whether an expression is next: `v` or `(`
abbrev pub begins_expr : Tokens → Bool
begins_expr ts = first ts == 118 || first ts == 40

-- as many as stand here; `go` tells whether one more does
unfoldable pub many : {A : Type 0} → ℕ → (Tokens → Bool) → Reader A → Reader (List A)
many zero go r ts = None
many (suc n) go r ts = if go ts then next (r ts) (λ x us. next (many n go r us) (λ xs vs. Some (x ∷ xs, vs))) else Some ([], ts)

-- each behind a comma
abbrev pub behind_commas : {A : Type 0} → ℕ → Reader A → Reader (List A)
behind_commas n r ts = many n (is_next (codes ",")) (λ us. r (drop 1 us)) ts

-- one, and others behind commas
abbrev pub with_commas : {A : Type 0} → ℕ → Reader A → Reader (List A)
with_commas n r ts = next (r ts) (λ x us. next (behind_commas n r us) (λ xs vs. Some (x ∷ xs, vs)))

-- ---- types

-- the width whose type a word names
abbrev pub width_at : List ℕ → Option Width
width_at t = if bytes_eq t (codes "uint8_t") then Some W8 else (if bytes_eq t (codes "uint32_t") then Some W32 else (if bytes_eq t (codes "uint64_t") then Some W64 else None))

-- a pointer, where `*` is next
abbrev pub pointer : CType → Bool → Reader CType
pointer a true ts = Some (t.Ptr a, drop 1 ts)
pointer a false ts = Some (a, ts)

-- behind a type that is no pointer
abbrev pub behind_type : CType → Reader CType
behind_type a ts = pointer a (is_next (codes "*") ts) ts

-- behind a first word, which is `struct` or not
abbrev pub typed : Bool → List ℕ → Reader CType
typed true w ts = any (λ x us. behind_type (t.Struct x) us) ts
typed false w ts = given (width_at w) (λ w. behind_type (width_type w) ts)

-- a type
abbrev pub type_at : Reader CType
type_at ts = any (λ w us. typed (bytes_eq w (codes "struct")) w us) ts

-- TYPE NAME
abbrev pub declarator : Reader CVar
declarator ts = next (type_at ts) (λ ty us. any (λ x vs. Some (record { ty = ty; name = x }, vs)) us)

-- ---- expressions

pub data Operator : Type 0 where
  Arithmetic : CBin → Operator
  Comparison : CmpKind → Operator
  Division : Bool → Operator

-- one of the operators, with its symbol
pub record Symbol : Type 0 where
  pub word : List ℕ
  pub op : Operator

abbrev of_bin : List ℕ → CBin → Symbol
of_bin w op = record { word = w; op = Operator.Arithmetic op }

abbrev of_cmp : List ℕ → CmpKind → Symbol
of_cmp w op = record { word = w; op = Operator.Comparison op }

abbrev of_div : List ℕ → Bool → Symbol
of_div w quotient = record { word = w; op = Operator.Division quotient }

abbrev symbols : List Symbol
symbols =
    of_bin (codes "+") Add ∷ of_bin (codes "-") Sub ∷ of_bin (codes "*") Mul ∷ of_bin (codes "&") And ∷ of_bin (codes "|") Or ∷ of_bin (codes "^") Xor ∷ of_bin (codes "<<") Shl ∷ of_bin (codes ">>") Shr
    ∷ of_cmp (codes "==") Eq ∷ of_cmp (codes "!=") Ne ∷ of_cmp (codes "<") Lt ∷ of_cmp (codes "<=") Le ∷ of_cmp (codes ">") Gt ∷ of_cmp (codes ">=") Ge
    ∷ of_div (codes "/") true ∷ of_div (codes "%") false ∷ []

-- the one with this symbol
abbrev symbol_in : List ℕ → List Symbol → Option Operator
symbol_in t [] = None
symbol_in t (x ∷ xs) = if bytes_eq t x.word then Some x.op else symbol_in t xs

-- the operator that a token is
abbrev pub operator_at : List ℕ → Option Operator
operator_at t = symbol_in t symbols

-- What stands between parentheses or is an expression: comparisons and quotients are parts of expressions and statements.
pub data Value : Type 0 where
  Plain : CExpr → Value
  Compared : CmpKind → CExpr → CExpr → Value
  Divided : Bool → CExpr → CExpr → Value

abbrev pub operated : Operator → CExpr → CExpr → Value
operated (Operator.Arithmetic op) a b = Value.Plain (e.Bin op a b)
operated (Operator.Comparison op) a b = Value.Compared op a b
operated (Operator.Division quotient) a b = Value.Divided quotient a b

-- a conversion of what stands there
abbrev pub converted : Width → Value → Option CExpr
converted w (Value.Plain a) = Some (e.Cast w a)
converted w (Value.Compared op a b) = Some (e.Cmp w op a b)
converted w (Value.Divided quotient a b) = None

-- an expression and the fields behind it; the test says whether a `.` was just read
abbrev pub fields_from : Bool → CExpr → Reader Value
fields_from false a [] = Some (Value.Plain a, [])
fields_from false a (t ∷ ts) = if bytes_eq t (codes ".") then fields_from true a ts else Some (Value.Plain a, t ∷ ts)
fields_from true a [] = None
fields_from true a (x ∷ ts) = fields_from false (e.Field a x) ts

-- the fields behind what is an expression
abbrev pub fielded : Value → Reader Value
fielded (Value.Plain a) ts = fields_from false a ts
fielded v ts = Some (v, ts)

-- an expression alone
abbrev pub as_expr : Value → Reader CExpr
as_expr (Value.Plain a) ts = Some (a, ts)
as_expr v ts = None

-- what stands behind a `(`
pub data Inside : Type 0 where
  Conversion : Width → Inside
  Building : Inside
  Operation : Inside

-- a type's word, or none
abbrev pub inside_word : List ℕ → Option Width → Inside
inside_word t (Some w) = Inside.Conversion w
inside_word t None = if bytes_eq t (codes "struct") then Inside.Building else Inside.Operation

-- behind a `(`, by the two tokens behind it
abbrev pub inside_of : Tokens → Inside
inside_of [] = Inside.Operation
inside_of (t ∷ []) = Inside.Operation
inside_of (t ∷ u ∷ ts) = if bytes_eq t (codes "(") then inside_word u (width_at u) else Inside.Operation

module _ (n : ℕ) (value : Reader Value) where
  abbrev pub expr : Reader CExpr
  expr ts = next (value ts) as_expr

  -- expressions with commas between
  abbrev pub exprs_where : Bool → Reader (List CExpr)
  exprs_where true ts = with_commas n expr ts
  exprs_where false ts = Some ([], ts)

  abbrev pub exprs : Reader (List CExpr)
  exprs ts = exprs_where (begins_expr ts) ts

  -- behind `((TYPE)`
  abbrev pub conversion : Width → Bool → Reader Value
  conversion w true ts = next (value ts) (λ v us. given (converted w v) (λ a. skip (codes ")") (λ vs. Some (Value.Plain a, vs)) us))
  conversion w false ts = any (λ t us. skip (codes ")") (λ vs. Some (Value.Plain (e.Lit w (front_value t)), vs)) us) ts

  -- behind `((struct`
  abbrev pub building : Reader Value
  building ts =
      any (λ x us. skip (codes ")") (λ vs. skip (codes "{") (λ ws. next (exprs ws) (λ es xs. skip (codes "}") (λ ys. skip (codes ")") (λ zs. Some (Value.Plain (e.Build x es), zs)) ys) xs)) vs) us) ts

  -- behind a `(`
  abbrev pub grouped : Inside → Reader Value
  grouped (Inside.Conversion w) ts = skip (codes ")") (λ us. conversion w (begins_expr us) us) (drop 2 ts)
  grouped Inside.Building ts = building (drop 2 ts)
  grouped Inside.Operation ts =
      next (expr ts) (λ a us. any (λ t vs. given (operator_at t) (λ op. next (expr vs) (λ b ws. skip (codes ")") (λ xs. Some (operated op a b, xs)) ws))) us)

  -- a variable, or what stands between parentheses
  abbrev pub value_from : Bool → Reader Value
  value_from true ts = any (λ x us. fields_from false (e.Var x) us) ts
  value_from false ts = skip (codes "(") (λ us. next (grouped (inside_of us) us) fielded) ts

-- a value of at most so many levels
unfoldable pub value_at : ℕ → Reader Value
value_at zero ts = None
value_at (suc n) ts = value_from n (value_at n) (first ts == 118) ts

-- ---- statements

-- what a token begins
pub data Start : Type 0 where
  Declares : Start
  Computes : Start
  Calls : Start
  Tests : Start
  Loops : Start
  Opens : Start
  -- no statement
  Other : Start

-- what this token begins, by its first byte if it is no keyword
abbrev pub start_of : List ℕ → Start
start_of t =
    if bytes_eq t (codes "if") then Start.Tests
    else (if bytes_eq t (codes "for") then Start.Loops
    else (if bytes_eq t (codes "{") then Start.Opens
    else (if initial t == 117 || initial t == 115 then Start.Declares
    else (if initial t == 118 || initial t == 40 then Start.Computes
    else (if initial t == 102 || initial t == 103 then Start.Calls
    else Start.Other)))))

abbrev pub start : Tokens → Start
start [] = Start.Other
start (t ∷ ts) = start_of t

-- what stands behind `=`
pub data Source : Type 0 where
  FromTable : Source
  FromCall : Source
  FromValue : Source

abbrev pub source_of : ℕ → Source
source_of b = if b == 116 then Source.FromTable else (if b == 102 || b == 103 then Source.FromCall else Source.FromValue)

-- a test and what is done where it is true
pub record Tested : Type 0 where
  pub test : CExpr
  pub body : List CStatement

-- a statement, or the test that ends a loop
pub data Found : Type 0 where
  Statement : CStatement → Found
  Last : Tested → Found

-- statements, and then maybe the test that ends a loop
pub record Block : Type 0 where
  pub done : List CStatement
  pub last : Option Tested

-- the loop ends, or arms and what is done where no test is true
pub data Tail : Type 0 where
  Leaves : Tail
  Goes : List CArm → List CStatement → Tail

abbrev pub as_arm : Tested → CArm
as_arm a = roll-CArm (record { test = a.test; body = a.body })

-- statements that no test ends
abbrev pub without_last : List CStatement → Option Tested → Reader (List CStatement)
without_last xs None ts = Some (xs, ts)
without_last xs (Some a) ts = None

abbrev pub as_list : Block → Reader (List CStatement)
as_list b ts = without_last b.done b.last ts

-- an array and `;`
abbrev pub array_of : CVar → Reader CArray
array_of v ts = any (λ t us. skip (codes "]") (λ vs. skip (codes ";") (λ ws. Some (record { ty = v.ty; name = v.name; len = front_value t }, ws)) vs) us) ts

abbrev pub array : Reader CArray
array ts = next (declarator ts) (λ v us. skip (codes "[") (array_of v) us)

-- whether an array is next
abbrev pub has_bracket : Reading CVar → Bool
has_bracket None = false
has_bracket (Some r) = is_next (codes "[") r.1

abbrev pub begins_array : Tokens → Bool
begins_array ts = has_bracket (declarator ts)

-- the name of a function, and arguments
pub record Calling : Type 0 where
  pub name : List ℕ
  pub args : List CExpr

-- a chain from its first arm and what is behind it
abbrev pub chain_of : Tested → Tail → Found
chain_of a Tail.Leaves = Found.Last a
chain_of a (Tail.Goes arms rest) = Found.Statement (s.Chain (as_arm a ∷ arms) rest)

-- a further arm
abbrev pub more_arms : Tested → Tail → Option Tail
more_arms a Tail.Leaves = None
more_arms a (Tail.Goes arms rest) = Some (Tail.Goes (as_arm a ∷ arms) rest)

-- a statement and `;`
abbrev pub ended : CStatement → Reader Found
ended x ts = skip (codes ";") (λ us. Some (Found.Statement x, us)) ts

module _ (n : ℕ) (value : Reader Value) (block : Reader Block) (tail : Reader Tail) where
  abbrev pub list : Reader (List CStatement)
  list ts = next (block ts) as_list

  -- E]
  abbrev pub index : Reader CExpr
  index ts = next (expr n value ts) (λ i us. skip (codes "]") (λ vs. Some (i, vs)) us)

  -- FUN(E, E)
  abbrev pub calling : Reader Calling
  calling ts = any (λ f us. skip (codes "(") (λ vs. next (exprs n value vs) (λ es ws. skip (codes ")") (λ xs. Some (record { name = f; args = es }, xs)) ws)) us) ts

  -- behind `if`: (test) { body
  abbrev pub tested : Reader Tested
  tested ts = skip (codes "(") (λ us. next (expr n value us) (λ test vs. skip (codes ")") (λ ws. skip (codes "{") (λ xs. next (list xs) (λ body ys. Some (record { test = test; body = body }, ys))) ws) vs)) ts

  -- behind `else {`, where the loop ends or not
  abbrev pub else_block : Bool → Reader Tail
  else_block true ts = skip (codes ";") (λ us. skip (codes "}") (λ vs. Some (Tail.Leaves, vs)) us) (drop 1 ts)
  else_block false ts = next (list ts) (λ xs us. skip (codes "}") (λ vs. Some (Tail.Goes [] xs, vs)) us)

  -- behind `else`
  abbrev pub else_part : Bool → Reader Tail
  else_part true ts = next (tested (drop 1 ts)) (λ a us. next (tail us) (λ b vs. given (more_arms a b) (λ c. Some (c, vs))))
  else_part false ts = skip (codes "{") (λ us. else_block (is_next (codes "break") us) us) ts

  -- behind the `}` of an arm
  abbrev pub behind_arm : Bool → Reader Tail
  behind_arm true ts = else_part (is_next (codes "if") (drop 1 ts)) (drop 1 ts)
  behind_arm false ts = Some (Tail.Goes [] [], ts)

  -- from the `}` of an arm on
  abbrev pub tail_by : Reader Tail
  tail_by ts = skip (codes "}") (λ us. behind_arm (is_next (codes "else") us) us) ts

  -- behind `TYPE NAME = E`
  abbrev pub valued : CVar → Value → Bool → Reader Found
  valued v (Value.Plain a) true ts = next (index (drop 1 ts)) (λ i us. ended (s.Read v a i) us)
  valued v (Value.Plain a) false ts = ended (s.Decl v a) ts
  valued v (Value.Divided quotient a b) x ts = ended (s.Div v quotient a b) ts
  valued v (Value.Compared op a b) x ts = None

  -- behind `TYPE NAME =`
  abbrev pub given_by : CVar → Source → Reader Found
  given_by v Source.FromTable ts = any (λ x us. skip (codes "[") (λ vs. next (index vs) (λ i ws. ended (s.Tab v x i) ws)) us) ts
  given_by v Source.FromCall ts = next (calling ts) (λ c us. ended (s.Call v c.name c.args) us)
  given_by v Source.FromValue ts = next (value ts) (λ a us. valued v a (is_next (codes "[") us) us)

  -- behind `TYPE NAME`
  abbrev pub declared : CVar → Bool → Reader Found
  declared v true ts = Some (Found.Statement (s.Blank v), drop 1 ts)
  declared v false ts = skip (codes "=") (λ us. given_by v (source_of (first us)) us) ts

  -- an assignment to a variable or to an element
  abbrev pub assigned : Bool → Reader Found
  assigned true ts = any (λ x us. next (expr n value (drop 1 us)) (λ a vs. ended (s.Set x a) vs)) ts
  assigned false ts = next (expr n value ts) (λ a us. skip (codes "[") (λ vs. next (index vs) (λ i ws. skip (codes "=") (λ xs. next (expr n value xs) (λ b ys. ended (s.Write a i b) ys)) ws)) us)

  -- a loop from its parts
  abbrev pub loop_of : Block → Reader Found
  loop_of b ts = given b.last (λ a. skip (codes "}") (λ us. Some (Found.Statement (s.Loop b.done a.test a.body), us)) ts)

  -- a statement that begins so
  abbrev pub found : Start → Reader Found
  found Start.Declares ts = next (declarator ts) (λ v us. declared v (is_next (codes ";") us) us)
  found Start.Computes ts = assigned (is_next (codes "=") (drop 1 ts)) ts
  found Start.Calls ts = next (calling ts) (λ c us. ended (s.Run c.name c.args) us)
  found Start.Tests ts = next (tested (drop 1 ts)) (λ a us. next (tail us) (λ b vs. Some (chain_of a b, vs)))
  found Start.Loops ts = next (block (drop 6 ts)) loop_of
  found Start.Opens ts = next (many n begins_array array (drop 1 ts)) (λ arrays us. next (list us) (λ body vs. skip (codes "}") (λ ws. Some (Found.Statement (s.Block arrays body), ws)) vs))
  found Start.Other ts = None

  -- a statement and those behind it
  abbrev pub block_behind : Found → Reader Block
  block_behind (Found.Last a) ts = Some (record { done = []; last = Some a }, ts)
  block_behind (Found.Statement x) ts = next (block ts) (λ b us. Some (record { done = x ∷ b.done; last = b.last }, us))

  abbrev pub block_from : Start → Reader Block
  block_from Start.Other ts = Some (record { done = []; last = None }, ts)
  block_from at ts = next (found at ts) block_behind

-- statements in order, up to a token that begins none or a test that ends a loop; and what stands behind an arm
unfoldable mutual
  pub block_at : ℕ → Reader Block
  block_at zero ts = None
  block_at (suc n) ts = block_from n (value_at n) (block_at n) (tail_at n) (start ts) ts

  pub tail_at : ℕ → Reader Tail
  tail_at zero ts = None
  tail_at (suc n) ts = tail_by n (value_at n) (block_at n) (tail_at n) ts

-- ---- programs

-- TYPE NAME;
abbrev pub field : Reader CVar
field ts = next (declarator ts) (λ v us. skip (codes ";") (λ vs. Some (v, vs)) us)

-- behind `struct NAME {`
abbrev pub structure : ℕ → List ℕ → Reader CStruct
structure n x ts = next (many n (λ us. not (is_next (codes "}") us)) field ts) (λ fs us. skip (codes "}") (λ vs. skip (codes ";") (λ ws. Some (record { name = x; fields = fs }, ws)) vs) us)

-- a number of a table
abbrev pub number : Reader ℕ
number ts = any (λ t us. Some (front_value t, us)) ts

-- the numbers of a table, which end here or not
abbrev pub numbers : ℕ → Bool → Reader (List ℕ)
numbers n true ts = Some ([], ts)
numbers n false ts = with_commas n number ts

-- behind `static const`
abbrev pub table_of : ℕ → List ℕ → Width → Reader CTable
table_of n x w ts = next (numbers n (is_next (codes "}") ts) ts) (λ ns us. skip (codes "}") (λ vs. skip (codes ";") (λ ws. Some (record { name = x; width = w; nums = ns }, ws)) vs) us)

abbrev pub table : ℕ → Reader CTable
table n ts = any (λ w us. given (width_at w) (λ w. any (λ x vs. table_of n x w (drop 5 vs)) us)) ts

-- the parameters of a function
abbrev pub parameters : ℕ → Bool → Reader (List CVar)
parameters n true ts = Some ([], drop 1 ts)
parameters n false ts = with_commas n declarator ts

-- a result, which is `void` or not
abbrev pub result : Bool → Reader (Option CType)
result true ts = Some (None, drop 1 ts)
result false ts = next (type_at ts) (λ ty us. Some (Some ty, us))

-- the head of a function
pub record Head : Type 0 where
  pub result : Option CType
  pub name : List ℕ
  pub params : List CVar

-- TYPE NAME(TYPE NAME, TYPE NAME)
abbrev pub head_at : ℕ → Reader Head
head_at n ts =
    next (result (is_next (codes "void") ts) ts) (λ r us. any (λ x vs. skip (codes "(") (λ ws. next (parameters n (is_next (codes "void") ws) ws) (λ ps xs. skip (codes ")") (λ ys.
    Some (record { result = r; name = x; params = ps }, ys)) xs)) vs) us)

-- `return E;`, where it is there
abbrev pub answer_where : ℕ → Bool → Reader (Option CExpr)
answer_where n true ts = next (expr n (value_at n) (drop 1 ts)) (λ a us. skip (codes ";") (λ vs. Some (Some a, vs)) us)
answer_where n false ts = Some (None, ts)

abbrev pub answer_at : ℕ → Reader (Option CExpr)
answer_at n ts = answer_where n (is_next (codes "return") ts) ts

-- a function from its parts
abbrev pub function : Head → List CStatement → Option CExpr → CFun
function h body a = record { result = h.result; name = h.name; params = h.params; body = body; answer = a }

-- a definition behind its head
abbrev pub definition_at : ℕ → Head → Reader CFun
definition_at n h ts = skip (codes "{") (λ us. next (next (block_at n us) as_list) (λ body vs. next (answer_at n vs) (λ a ws. skip (codes "}") (λ xs. Some (function h body a, xs)) ws))) ts

-- what stands next in a program
pub data Part : Type 0 where
  IsEnd : Part
  IsStruct : Part
  IsTable : Part
  IsFunction : Part

abbrev pub part_of : Tokens → Part
part_of [] = Part.IsEnd
part_of (t ∷ ts) = if bytes_eq t (codes "static") then Part.IsTable else (if bytes_eq t (codes "struct") && is_next (codes "{") (drop 1 ts) then Part.IsStruct else Part.IsFunction)

-- one more struct, table or function before the others
abbrev pub with_struct : CStruct → CProgram → Reader CProgram
with_struct x p ts = Some (record { structs = x ∷ p.structs; tables = p.tables; funs = p.funs }, ts)

abbrev pub with_table : CTable → CProgram → Reader CProgram
with_table x p ts = Some (record { structs = p.structs; tables = x ∷ p.tables; funs = p.funs }, ts)

abbrev pub with_function : CFun → CProgram → Reader CProgram
with_function x p ts = Some (record { structs = p.structs; tables = p.tables; funs = x ∷ p.funs }, ts)

module _ (n : ℕ) (more : Reader CProgram) where
  -- behind the head of a function, which is that of a prototype where `;` is next
  abbrev pub behind_head : Head → Bool → Reader CProgram
  behind_head h true ts = more (drop 1 ts)
  behind_head h false ts = next (definition_at n h ts) (λ f us. next (more us) (with_function f))

  abbrev pub part : Part → Reader CProgram
  part Part.IsEnd ts = Some (record { structs = []; tables = []; funs = [] }, [])
  part Part.IsStruct ts = any (λ x us. next (structure n x (drop 1 us)) (λ s vs. next (more vs) (with_struct s))) (drop 1 ts)
  part Part.IsTable ts = next (table n (drop 2 ts)) (λ t us. next (more us) (with_table t))
  part Part.IsFunction ts = next (head_at n ts) (λ h us. behind_head h (is_next (codes ";") us) us)

-- a program of at most so many parts
unfoldable pub program_at : ℕ → Reader CProgram
program_at zero ts = None
program_at (suc n) ts = part n (program_at n) (part_of ts) ts
