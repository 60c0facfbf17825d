-- What is read of the tokens of types and expressions are those types and expressions.
use Rattle.std.proofs.Common.{◌≡◌, ℕ, ◌+◌, ◌≤◌, ◌<◌, ◌^◌, zero, suc, Bool, true, false, ◌||◌, ◌==◌, List, [], ◌∷◌, ◌++◌, map, drop, codes, Some, refl, ap, ◌∙◌, append_assoc, append-nil, arith}
use Rattle.std.proofs.lemmas.Bool.Decides.{nat_tests}
use Rattle.std.specs.Str.{bytes_eq}
use Rattle.krml_trace.specs.Byte.{is_digit}
use Rattle.krml_trace.specs.Width.{bits}
use Rattle.krml_trace.specs.declared.width.Width.{Width}
use Rattle.krml_trace.specs.declared.width.Width.TheVariants.{W8, W32, W64}
use Rattle.krml_ctree.specs.declared.tree.CType.{CType}
use Rattle.krml_ctree.specs.declared.tree.CType.TheVariants as t
use Rattle.krml_ctree.specs.declared.tree.CType.TheFolds.{fold_out-CType}
use Rattle.krml_ctree.specs.declared.tree.CBin.{CBin}
use Rattle.krml_ctree.specs.declared.tree.CBin.TheVariants.{Add, Sub, Mul, And, Or, Xor, Shl, Shr}
use Rattle.krml_ctree.specs.declared.tree.CmpKind.{CmpKind}
use Rattle.krml_ctree.specs.declared.tree.CmpKind.TheVariants.{Eq, Ne, Lt, Le, Gt, Ge}
use Rattle.krml_ctree.specs.declared.tree.CVar.{CVar}
use Rattle.krml_ctree.specs.declared.tree.CExpr.{CExpr}
use Rattle.krml_ctree.specs.declared.tree.CExpr.TheVariants as e
use Rattle.krml_ctree.specs.declared.tree.CExpr.TheFolds.{fold_out-CExpr}
use Rattle.krml_ctree.specs.Text.{as_tokens, type_step, expr_step, width_word, type_of, declarator, number, bin_symbol, cmp_symbol, div_symbol, binary, cast, behind_comma, separated, expr}
use Rattle.krml_ctree.specs.Shape.{IsVariable, IsPlain, TypeKeeps, ExprKeeps, ExprsKeep}
use Rattle.krml_ctree.proofs.Names.{initial, number_begins, number_value, literal_fits}
use Rattle.krml_ctree.proofs.Parse.{Tokens, is_next, begins_expr, many, width_at, behind_type, type_at, Operator, operator_at, Value, fields_from, Inside, inside_of, exprs, behind_commas, value_at, Start, start, Part, part_of}
use Rattle.krml_ctree.proofs.Parse as read

-- ---- types

-- the tokens of a type
abbrev pub spelled_type : CType → Tokens
spelled_type a = type_of as_tokens a

-- what the word of a width is read as
pub width_again : (w : Width) → width_at (width_word w) ≡ Some w
width_again W8 = refl
width_again W32 = refl
width_again W64 = refl

-- a type that is no pointer is read again, up to a `*`
plain_again : {a : CType} → IsPlain a → (rest : Tokens) → type_at (spelled_type a ++ rest) ≡ behind_type a rest
plain_again IsPlain.u8 rest = rw (fold_out-CType Tokens (type_step as_tokens) t.U8, t.outs-U8) refl
plain_again IsPlain.u32 rest = rw (fold_out-CType Tokens (type_step as_tokens) t.U32, t.outs-U32) refl
plain_again IsPlain.u64 rest = rw (fold_out-CType Tokens (type_step as_tokens) t.U64, t.outs-U64) refl
plain_again (IsPlain.struct {x = x} h) rest = rw (fold_out-CType Tokens (type_step as_tokens) (t.Struct x), t.outs-Struct) refl

-- a pointer in its parts
pointer_is : (a : CType) (rest : Tokens) → spelled_type (t.Ptr a) ++ rest ≡ spelled_type a ++ codes "*" ∷ rest
pointer_is a rest = rw (fold_out-CType Tokens (type_step as_tokens) (t.Ptr a), t.outs-Ptr) (append_assoc (spelled_type a) (codes "*" ∷ []) rest)

-- a type is read again
pub type_again : {a : CType} → TypeKeeps a → (x : List ℕ) (rest : Tokens) → bytes_eq x (codes "*") ≡ false → type_at (spelled_type a ++ x ∷ rest) ≡ Some (a, x ∷ rest)
type_again (TypeKeeps.plain h) x rest q = rw (plain_again h (x ∷ rest), q) refl
type_again (TypeKeeps.pointer {a = a} h) x rest q = rw (pointer_is a (x ∷ rest), plain_again h (codes "*" ∷ x ∷ rest)) refl

-- The first token of a type.
pub data BeginsType : Tokens → Type 0 where
  u8 : {ts : Tokens} → BeginsType (codes "uint8_t" ∷ ts)
  u32 : {ts : Tokens} → BeginsType (codes "uint32_t" ∷ ts)
  u64 : {ts : Tokens} → BeginsType (codes "uint64_t" ∷ ts)
  struct : {ts : Tokens} → BeginsType (codes "struct" ∷ ts)

-- each type begins so
plain_begins : {a : CType} → IsPlain a → (rest : Tokens) → BeginsType (spelled_type a ++ rest)
plain_begins IsPlain.u8 rest = rw (fold_out-CType Tokens (type_step as_tokens) t.U8, t.outs-U8) BeginsType.u8
plain_begins IsPlain.u32 rest = rw (fold_out-CType Tokens (type_step as_tokens) t.U32, t.outs-U32) BeginsType.u32
plain_begins IsPlain.u64 rest = rw (fold_out-CType Tokens (type_step as_tokens) t.U64, t.outs-U64) BeginsType.u64
plain_begins (IsPlain.struct {x = x} h) rest = rw (fold_out-CType Tokens (type_step as_tokens) (t.Struct x), t.outs-Struct) BeginsType.struct

pub type_begins : {a : CType} → TypeKeeps a → (rest : Tokens) → BeginsType (spelled_type a ++ rest)
type_begins (TypeKeeps.plain h) rest = plain_begins h rest
type_begins (TypeKeeps.pointer {a = a} h) rest = rw (pointer_is a rest) (plain_begins h (codes "*" ∷ rest))

-- what so begins is taken for a declaration
pub type_starts : {ts : Tokens} → BeginsType ts → start ts ≡ Start.Declares
type_starts BeginsType.u8 = refl
type_starts BeginsType.u32 = refl
type_starts BeginsType.u64 = refl
type_starts BeginsType.struct = refl

-- it is none of the words that stand where a type may
pub type_no_brace : {ts : Tokens} → BeginsType ts → is_next (codes "}") ts ≡ false
type_no_brace BeginsType.u8 = refl
type_no_brace BeginsType.u32 = refl
type_no_brace BeginsType.u64 = refl
type_no_brace BeginsType.struct = refl

pub type_no_void : {ts : Tokens} → BeginsType ts → is_next (codes "void") ts ≡ false
type_no_void BeginsType.u8 = refl
type_no_void BeginsType.u32 = refl
type_no_void BeginsType.u64 = refl
type_no_void BeginsType.struct = refl

-- before a word that opens no brace it begins a function of a program
plain_part : {a : CType} → IsPlain a → (x : List ℕ) (rest : Tokens) → bytes_eq x (codes "{") ≡ false → part_of (spelled_type a ++ x ∷ rest) ≡ Part.IsFunction
plain_part IsPlain.u8 x rest q = rw (fold_out-CType Tokens (type_step as_tokens) t.U8, t.outs-U8) refl
plain_part IsPlain.u32 x rest q = rw (fold_out-CType Tokens (type_step as_tokens) t.U32, t.outs-U32) refl
plain_part IsPlain.u64 x rest q = rw (fold_out-CType Tokens (type_step as_tokens) t.U64, t.outs-U64) refl
plain_part (IsPlain.struct {x = y} h) x rest q = rw (fold_out-CType Tokens (type_step as_tokens) (t.Struct y), t.outs-Struct, q) refl

pub type_part : {a : CType} → TypeKeeps a → (x : List ℕ) (rest : Tokens) → bytes_eq x (codes "{") ≡ false → part_of (spelled_type a ++ x ∷ rest) ≡ Part.IsFunction
type_part (TypeKeeps.plain h) x rest q = plain_part h x rest q
type_part (TypeKeeps.pointer {a = a} h) x rest q = rw (pointer_is a (x ∷ rest)) (plain_part h (codes "*") (x ∷ rest) refl)

-- a declarator in its parts, and read again
pub declarator_is : (v : CVar) (rest : Tokens) → declarator as_tokens v ++ rest ≡ spelled_type v.ty ++ v.name ∷ rest
declarator_is v rest = append_assoc (spelled_type v.ty) (v.name ∷ []) rest

pub declarator_again : (v : CVar) → TypeKeeps v.ty → bytes_eq v.name (codes "*") ≡ false → (rest : Tokens) → read.declarator (declarator as_tokens v ++ rest) ≡ Some (v, rest)
declarator_again v h q rest = rw (declarator_is v rest, type_again h v.name rest q) refl

-- ---- expressions

-- the tokens of an expression
abbrev pub spelled : CExpr → Tokens
spelled x = expr as_tokens x

-- those of expressions with commas between
abbrev pub spelled_args : List CExpr → Tokens
spelled_args es = separated as_tokens (map (expr as_tokens) es)

-- those behind the first
abbrev pub spelled_more : List CExpr → Tokens
spelled_more es = behind_comma as_tokens (map (expr as_tokens) es)

-- what stands where in `(a OP b)` and in a conversion, before other tokens
binary_is : (symbol : List ℕ) (a b rest : Tokens) → binary as_tokens symbol a b ++ rest ≡ codes "(" ∷ (a ++ symbol ∷ (b ++ codes ")" ∷ rest))
binary_is symbol a b rest = simp (append_assoc, append-nil)

cast_is : (w : Width) (a rest : Tokens) → cast as_tokens w a ++ rest ≡ codes "(" ∷ codes "(" ∷ width_word w ∷ codes ")" ∷ (a ++ codes ")" ∷ rest)
cast_is w a rest = simp append_assoc

-- and so for each expression
var_is : (x : List ℕ) (rest : Tokens) → spelled (e.Var x) ++ rest ≡ x ∷ rest
var_is x rest = rw (fold_out-CExpr Tokens (expr_step as_tokens) (e.Var x), e.outs-Var) refl

lit_is : (w : Width) (n : ℕ) (rest : Tokens) → spelled (e.Lit w n) ++ rest ≡ codes "(" ∷ codes "(" ∷ width_word w ∷ codes ")" ∷ number w n ∷ codes ")" ∷ rest
lit_is w n rest = rw (fold_out-CExpr Tokens (expr_step as_tokens) (e.Lit w n), e.outs-Lit) (cast_is w (number w n ∷ []) rest)

conversion_is : (w : Width) (a : CExpr) (rest : Tokens) → spelled (e.Cast w a) ++ rest ≡ codes "(" ∷ codes "(" ∷ width_word w ∷ codes ")" ∷ (spelled a ++ codes ")" ∷ rest)
conversion_is w a rest = rw (fold_out-CExpr Tokens (expr_step as_tokens) (e.Cast w a), e.outs-Cast) (cast_is w (spelled a) rest)

bin_is : (op : CBin) (a b : CExpr) (rest : Tokens) → spelled (e.Bin op a b) ++ rest ≡ codes "(" ∷ (spelled a ++ bin_symbol op ∷ (spelled b ++ codes ")" ∷ rest))
bin_is op a b rest = rw (fold_out-CExpr Tokens (expr_step as_tokens) (e.Bin op a b), e.outs-Bin) (binary_is (bin_symbol op) (spelled a) (spelled b) rest)

cmp_is : (w : Width) (op : CmpKind) (a b : CExpr) (rest : Tokens)
    → spelled (e.Cmp w op a b) ++ rest ≡ codes "(" ∷ codes "(" ∷ width_word w ∷ codes ")" ∷ codes "(" ∷ (spelled a ++ cmp_symbol op ∷ (spelled b ++ codes ")" ∷ codes ")" ∷ rest))
cmp_is w op a b rest =
    rw (fold_out-CExpr Tokens (expr_step as_tokens) (e.Cmp w op a b), e.outs-Cmp) (cast_is w (binary as_tokens (cmp_symbol op) (spelled a) (spelled b)) rest
    ∙ ap (λ us. codes "(" ∷ codes "(" ∷ width_word w ∷ codes ")" ∷ us) (binary_is (cmp_symbol op) (spelled a) (spelled b) (codes ")" ∷ rest)))

build_is : (x : List ℕ) (es : List CExpr) (rest : Tokens)
    → spelled (e.Build x es) ++ rest ≡ codes "(" ∷ codes "(" ∷ codes "struct" ∷ x ∷ codes ")" ∷ codes "{" ∷ (spelled_args es ++ codes "}" ∷ codes ")" ∷ rest)
build_is x es rest = rw (fold_out-CExpr Tokens (expr_step as_tokens) (e.Build x es), e.outs-Build) (order (spelled_args es))
  where
    order : (a : Tokens) → (codes "(" ∷ ((codes "(" ∷ codes "struct" ∷ x ∷ codes ")" ∷ (codes "{" ∷ (a ++ codes "}" ∷ []))) ++ codes ")" ∷ [])) ++ rest
        ≡ codes "(" ∷ codes "(" ∷ codes "struct" ∷ x ∷ codes ")" ∷ codes "{" ∷ (a ++ codes "}" ∷ codes ")" ∷ rest)
    order a = simp append_assoc

field_is : (a : CExpr) (x : List ℕ) (rest : Tokens) → spelled (e.Field a x) ++ rest ≡ spelled a ++ codes "." ∷ x ∷ rest
field_is a x rest = rw (fold_out-CExpr Tokens (expr_step as_tokens) (e.Field a x), e.outs-Field) (simp append_assoc)

-- what the operators are read as
pub bin_again : (op : CBin) → operator_at (bin_symbol op) ≡ Some (Operator.Arithmetic op)
bin_again Add = refl
bin_again Sub = refl
bin_again Mul = refl
bin_again And = refl
bin_again Or = refl
bin_again Xor = refl
bin_again Shl = refl
bin_again Shr = refl

pub cmp_again : (op : CmpKind) → operator_at (cmp_symbol op) ≡ Some (Operator.Comparison op)
cmp_again Eq = refl
cmp_again Ne = refl
cmp_again Lt = refl
cmp_again Le = refl
cmp_again Gt = refl
cmp_again Ge = refl

pub div_again : (quotient : Bool) → operator_at (div_symbol quotient) ≡ Some (Operator.Division quotient)
div_again true = refl
div_again false = refl

-- no operator is a `.`
bin_no_dot : (op : CBin) → bytes_eq (bin_symbol op) (codes ".") ≡ false
bin_no_dot Add = refl
bin_no_dot Sub = refl
bin_no_dot Mul = refl
bin_no_dot And = refl
bin_no_dot Or = refl
bin_no_dot Xor = refl
bin_no_dot Shl = refl
bin_no_dot Shr = refl

cmp_no_dot : (op : CmpKind) → bytes_eq (cmp_symbol op) (codes ".") ≡ false
cmp_no_dot Eq = refl
cmp_no_dot Ne = refl
cmp_no_dot Lt = refl
cmp_no_dot Le = refl
cmp_no_dot Gt = refl
cmp_no_dot Ge = refl

pub div_no_dot : (quotient : Bool) → bytes_eq (div_symbol quotient) (codes ".") ≡ false
div_no_dot true = refl
div_no_dot false = refl

-- The first token of an expression.
pub data Begins : Tokens → Type 0 where
  variable : {x : List ℕ} {ts : Tokens} → IsVariable x → Begins (x ∷ ts)
  paren : {ts : Tokens} → Begins (codes "(" ∷ ts)

-- each expression begins so
pub begins : (x : CExpr) → ExprKeeps x → (rest : Tokens) → Begins (spelled x ++ rest)
begins x (ExprKeeps.var {x = v} h) rest = rw var_is (Begins.variable h)
begins x (ExprKeeps.lit {w = w} {n = n} h) rest = rw lit_is Begins.paren
begins x (ExprKeeps.cast {w = w} {a = a} h) rest = rw conversion_is Begins.paren
begins x (ExprKeeps.bin {op = op} {a = a} {b = b} h k) rest = rw bin_is Begins.paren
begins x (ExprKeeps.cmp {w = w} {op = op} {a = a} {b = b} h k) rest = rw cmp_is Begins.paren
begins x (ExprKeeps.build {x = y} {es = es} h hs) rest = rw build_is Begins.paren
begins x (ExprKeeps.field {a = a} {x = y} h k) rest = rw field_is (begins a h (codes "." ∷ y ∷ rest))

-- what so begins is taken for an expression
pub begun : {ts : Tokens} → Begins ts → begins_expr ts ≡ true
begun (Begins.variable (IsVariable.plain k h)) = refl
begun (Begins.variable (IsVariable.named k name h n)) = refl
begun Begins.paren = refl

-- behind a `(`, what so begins is no conversion
no_type : {ts : Tokens} → Begins ts → inside_of (codes "(" ∷ ts) ≡ Inside.Operation
no_type (Begins.variable (IsVariable.plain k h)) = refl
no_type (Begins.variable (IsVariable.named k name h n)) = refl
no_type Begins.paren = refl

-- nor is a variable
variable_inside : {x : List ℕ} (us : Tokens) → IsVariable x → inside_of (x ∷ us) ≡ Inside.Operation
variable_inside [] h = refl
variable_inside (u ∷ us) (IsVariable.plain k h) = refl
variable_inside (u ∷ us) (IsVariable.named k name h n) = refl

-- behind a `(`, an operation is read where an expression is next
no_cast : (x : CExpr) → ExprKeeps x → (rest : Tokens) → inside_of (spelled x ++ rest) ≡ Inside.Operation
no_cast x (ExprKeeps.var {x = v} h) rest = rw var_is (variable_inside rest h)
no_cast x (ExprKeeps.lit {w = w} {n = n} h) rest = rw lit_is refl
no_cast x (ExprKeeps.cast {w = w} {a = a} h) rest = rw conversion_is refl
no_cast x (ExprKeeps.bin {op = op} {a = a} {b = b} h k) rest = rw bin_is (no_type (begins a h (bin_symbol op ∷ (spelled b ++ codes ")" ∷ rest))))
no_cast x (ExprKeeps.cmp {w = w} {op = op} {a = a} {b = b} h k) rest = rw cmp_is refl
no_cast x (ExprKeeps.build {x = y} {es = es} h hs) rest = rw build_is refl
no_cast x (ExprKeeps.field {a = a} {x = y} h k) rest = rw field_is (no_cast a h (codes "." ∷ y ∷ rest))

-- what begins an expression is no `=`
begins_no_equals : {ts : Tokens} → Begins ts → is_next (codes "=") ts ≡ false
begins_no_equals (Begins.variable (IsVariable.plain k h)) = refl
begins_no_equals (Begins.variable (IsVariable.named k name h n)) = refl
begins_no_equals Begins.paren = refl

-- nor is the second token of an expression, or what is behind its only one
pub no_equals : (x : CExpr) → ExprKeeps x → (rest : Tokens) → is_next (codes "=") rest ≡ false → is_next (codes "=") (drop 1 (spelled x ++ rest)) ≡ false
no_equals x (ExprKeeps.var {x = v} h) rest q = rw var_is q
no_equals x (ExprKeeps.lit {w = w} {n = n} h) rest q = rw lit_is refl
no_equals x (ExprKeeps.cast {w = w} {a = a} h) rest q = rw conversion_is refl
no_equals x (ExprKeeps.bin {op = op} {a = a} {b = b} h k) rest q = rw bin_is (begins_no_equals (begins a h (bin_symbol op ∷ (spelled b ++ codes ")" ∷ rest))))
no_equals x (ExprKeeps.cmp {w = w} {op = op} {a = a} {b = b} h k) rest q = rw cmp_is refl
no_equals x (ExprKeeps.build {x = y} {es = es} h hs) rest q = rw build_is refl
no_equals x (ExprKeeps.field {a = a} {x = y} h k) rest q = rw field_is (no_equals a h (codes "." ∷ y ∷ rest) refl)

-- a number begins no expression
number_is_none : (w : Width) (n : ℕ) → n < 2 ^ bits w → (rest : Tokens) → begins_expr (number w n ∷ rest) ≡ false
number_is_none w n h rest = at (initial (number w n)) (number_begins w n h)
  where
    at : (b : ℕ) → is_digit b ≡ true → (b == 118 || b == 40) ≡ false
    at b h = grind (arith, nat_tests)

-- a variable begins with `v`
variable_initial : {x : List ℕ} → IsVariable x → initial x ≡ 118
variable_initial (IsVariable.plain k h) = refl
variable_initial (IsVariable.named k name h n) = refl

-- an expression before what is no `.`
fields_stop : (x : CExpr) (rest : Tokens) → is_next (codes ".") rest ≡ false → fields_from false x rest ≡ Some (Value.Plain x, rest)
fields_stop x [] h = refl
fields_stop x (u ∷ us) h = rw h refl

-- What stands behind expressions with commas between.
pub data Closes : List ℕ → Type 0 where
  paren : Closes (codes ")")
  brace : Closes (codes "}")

closes_no_comma : {c : List ℕ} → Closes c → bytes_eq c (codes ",") ≡ false
closes_no_comma Closes.paren = refl
closes_no_comma Closes.brace = refl

closes_no_expr : {c : List ℕ} → Closes c → (rest : Tokens) → begins_expr (c ∷ rest) ≡ false
closes_no_expr Closes.paren rest = refl
closes_no_expr Closes.brace rest = refl

-- no `.` is behind an expression of several
more_no_dot : (es : List CExpr) {c : List ℕ} → Closes c → (rest : Tokens) → is_next (codes ".") (spelled_more es ++ c ∷ rest) ≡ false
more_no_dot [] Closes.paren rest = refl
more_no_dot [] Closes.brace rest = refl
more_no_dot (a ∷ es) h rest = refl

-- the levels that are enough to read an expression
mutual
  pub levels : {x : CExpr} → ExprKeeps x → ℕ
  levels (ExprKeeps.var h) = 1
  levels (ExprKeeps.lit h) = 1
  levels (ExprKeeps.cast h) = suc (levels h)
  levels (ExprKeeps.bin h k) = suc (levels h + levels k)
  levels (ExprKeeps.cmp h k) = suc (suc (levels h + levels k))
  levels (ExprKeeps.build h hs) = suc (all_levels hs)
  levels (ExprKeeps.field h k) = levels h

  -- and several, with commas between
  pub all_levels : {xs : List CExpr} → ExprsKeep xs → ℕ
  all_levels ExprsKeep.no_expr = 1
  all_levels (ExprsKeep.one_expr h hs) = suc (levels h + all_levels hs)

-- at least one
some_level : {x : CExpr} (h : ExprKeeps x) → 0 < levels h
unfolding levels
some_level (ExprKeeps.var h) = omega arith
some_level (ExprKeeps.lit h) = omega arith
some_level (ExprKeeps.cast h) = omega arith
some_level (ExprKeeps.bin h k) = omega arith
some_level (ExprKeeps.cmp h k) = omega arith
some_level (ExprKeeps.build h hs) = omega arith
some_level (ExprKeeps.field h k) = some_level h

some_levels : {xs : List CExpr} (h : ExprsKeep xs) → 0 < all_levels h
unfolding levels
some_levels ExprsKeep.no_expr = omega arith
some_levels (ExprsKeep.one_expr h hs) = omega arith

mutual
  unfolding value_at levels many

  -- what is read of an expression's tokens is the expression, and the fields behind it
  pub value_again : (x : CExpr) (h : ExprKeeps x) (n : ℕ) → levels h ≤ n → (rest : Tokens) → value_at n (spelled x ++ rest) ≡ fields_from false x rest
  value_again x h zero l rest = let p = some_level h in absurd (omega arith)
  value_again x (ExprKeeps.var {x = v} h) (suc n) l rest = rw (var_is, variable_initial h) refl
  value_again x (ExprKeeps.lit {w = w} {n = m} h) (suc n) l rest = rw (lit_is, width_again w, number_is_none w m (literal_fits h) (codes ")" ∷ rest), number_value w m (literal_fits h)) refl
  value_again x (ExprKeeps.cast {w = w} {a = a} h) (suc n) l rest =
      let la : levels h ≤ n = omega arith in
      rw (conversion_is, width_again w, begun (begins a h (codes ")" ∷ rest)), value_again a h n la (codes ")" ∷ rest)) refl
  value_again x (ExprKeeps.bin {op = op} {a = a} {b = b} h k) (suc n) l rest =
      let la : levels h ≤ n = omega arith in
      let lb : levels k ≤ n = omega arith in
      rw (bin_is, no_cast a h _, value_again a h n la _, bin_no_dot op, bin_again op, value_again b k n lb _) refl
  value_again x (ExprKeeps.cmp {w = w} {op = op} {a = a} {b = b} h k) (suc zero) l rest = absurd (omega arith)
  value_again x (ExprKeeps.cmp {w = w} {op = op} {a = a} {b = b} h k) (suc (suc n)) l rest =
      let la : levels h ≤ n = omega arith in
      let lb : levels k ≤ n = omega arith in
      rw (cmp_is, width_again w, no_cast a h _, value_again a h n la _, cmp_no_dot op, cmp_again op, value_again b k n lb _) refl
  value_again x (ExprKeeps.build {x = y} {es = es} h hs) (suc n) l rest =
      let la : all_levels hs ≤ n = omega arith in
      rw (build_is, exprs_again es hs n la Closes.brace (codes ")" ∷ rest)) refl
  value_again x (ExprKeeps.field {a = a} {x = y} h k) (suc n) l rest = rw field_is (value_again a h (suc n) l (codes "." ∷ y ∷ rest))

  -- expressions behind commas
  more_again : (es : List CExpr) (h : ExprsKeep es) (n m : ℕ) → all_levels h ≤ n → all_levels h ≤ m → {c : List ℕ} → Closes c → (rest : Tokens)
      → behind_commas m (read.expr n (value_at n)) (spelled_more es ++ c ∷ rest) ≡ Some (es, c ∷ rest)
  more_again es h n zero l k cl rest = let p = some_levels h in absurd (omega arith)
  more_again es ExprsKeep.no_expr n (suc m) l k cl rest = rw (closes_no_comma cl) refl
  more_again es (ExprsKeep.one_expr {a = a} {es = bs} h hs) n (suc m) l k {c = c} cl rest =
      let la : levels h ≤ n = omega arith in
      let lb : all_levels hs ≤ n = omega arith in
      let lc : all_levels hs ≤ m = omega arith in
      let behind : Tokens = spelled_more bs ++ c ∷ rest in
      rw (append_assoc (spelled a) (spelled_more bs) (c ∷ rest), value_again a h n la behind, fields_stop a behind (more_no_dot bs cl rest), more_again bs hs n m lb lc cl rest) refl

  -- and all that stand between parentheses or braces
  pub exprs_again : (es : List CExpr) (h : ExprsKeep es) (n : ℕ) → all_levels h ≤ n → {c : List ℕ} → Closes c → (rest : Tokens) → exprs n (value_at n) (spelled_args es ++ c ∷ rest) ≡ Some (es, c ∷ rest)
  exprs_again es ExprsKeep.no_expr n l cl rest = rw (closes_no_expr cl rest) refl
  exprs_again es (ExprsKeep.one_expr {a = a} {es = bs} h hs) n l {c = c} cl rest =
      let la : levels h ≤ n = omega arith in
      let lb : all_levels hs ≤ n = omega arith in
      let behind : Tokens = spelled_more bs ++ c ∷ rest in
      rw (append_assoc (spelled a) (spelled_more bs) (c ∷ rest), begun (begins a h behind), value_again a h n la behind, fields_stop a behind (more_no_dot bs cl rest), more_again bs hs n n lb lb cl rest) refl

-- an expression alone is read again
pub expr_again : (x : CExpr) (h : ExprKeeps x) (n : ℕ) → levels h ≤ n → (rest : Tokens) → is_next (codes ".") rest ≡ false → read.expr n (value_at n) (spelled x ++ rest) ≡ Some (x, rest)
expr_again x h n l rest q = rw (value_again x h n l rest, fields_stop x rest q) refl

-- a quotient between parentheses is read again
pub paren_again : (quotient : Bool) (a : CExpr) (h : ExprKeeps a) (b : CExpr) (k : ExprKeeps b) (n : ℕ) → levels h ≤ n → levels k ≤ n → (rest : Tokens)
    → value_at (suc n) (codes "(" ∷ (spelled a ++ div_symbol quotient ∷ (spelled b ++ codes ")" ∷ rest))) ≡ Some (Value.Divided quotient a b, rest)
unfolding value_at
paren_again quotient a h b k n la lb rest = rw (no_cast a h _, value_again a h n la _, div_no_dot quotient, div_again quotient, value_again b k n lb _) refl
