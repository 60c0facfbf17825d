-- The text of a program is cut into the program's tokens.
use Rattle.std.proofs.Common.{ℕ, ◌+◌, ◌*◌, ◌<◌, ◌^◌, Bool, true, false, List, [], ◌∷◌, ◌++◌, map, length, codes, Option, refl, subst, append-nil}
use Rattle.std.specs.Fmt.{decimal}
use Rattle.std.specs.List.{flat_map, AllByRecursion}
use Rattle.krml_trace.specs.Width.{bits}
use Rattle.krml_trace.specs.declared.width.Width.{Width}
use Rattle.krml_ctree.specs.declared.tree.CType.{CType}
use Rattle.krml_ctree.specs.declared.tree.CType.TheVariants as t
use Rattle.krml_ctree.specs.declared.tree.CType.TheFolds.{fold_out-CType}
use Rattle.krml_ctree.specs.declared.tree.CBin.{CBin}
use Rattle.krml_ctree.specs.declared.tree.CBin.TheVariants.{Add, Sub, Mul, And, Or, Xor, Shl, Shr}
use Rattle.krml_ctree.specs.declared.tree.CmpKind.{CmpKind}
use Rattle.krml_ctree.specs.declared.tree.CmpKind.TheVariants.{Eq, Ne, Lt, Le, Gt, Ge}
use Rattle.krml_ctree.specs.declared.tree.CVar.{CVar}
use Rattle.krml_ctree.specs.declared.tree.CArray.{CArray}
use Rattle.krml_ctree.specs.declared.tree.CExpr.{CExpr}
use Rattle.krml_ctree.specs.declared.tree.CExpr.TheVariants as e
use Rattle.krml_ctree.specs.declared.tree.CExpr.TheFolds.{fold_out-CExpr}
use Rattle.krml_ctree.specs.declared.tree.CStatement.{CStatement}
use Rattle.krml_ctree.specs.declared.tree.CStatement.TheVariants as s
use Rattle.krml_ctree.specs.declared.tree.CStatement.TheFolds.{fold_out-CStatement}
use Rattle.krml_ctree.specs.declared.tree.CArm.{CArm, out-CArm}
use Rattle.krml_ctree.specs.declared.tree.CStruct.{CStruct}
use Rattle.krml_ctree.specs.declared.tree.CTable.{CTable}
use Rattle.krml_ctree.specs.declared.tree.CFun.{CFun}
use Rattle.krml_ctree.specs.declared.tree.CProgram.{CProgram}
use Rattle.krml_ctree.specs.Text.{as_text, as_tokens, width_word, number, bin_symbol, cmp_symbol, div_symbol, group, braced, index, behind_comma, separated, type_of, result_of, declarator, array, binary, cast, expr, call, element, equation, Arm, arm, if_words, else_words, else_line, else_ifs, otherwise, for_words, statement, statements, structure, table, parameters, head, prototype, answer, definition, program}
use Rattle.krml_ctree.specs.Shape.{IsPlain, TypeKeeps, ExprKeeps, ExprsKeep, VarKeeps, ArrayKeeps, StatementKeeps, StatementsKeep, ArmKeeps, ArmsKeep, FieldKeeps, StructKeeps, TableKeeps, ResultKeeps, AnswerKeeps, FunKeeps, KeepsShapes}
use Rattle.krml_ctree.proofs.Arms.{arm_of, opened, arm_is}
use Rattle.krml_ctree.proofs.Cut.{IsRun, Any, NoRun, Spaced, Cuts, nothing, both, before, weaker, run, before_space, open_paren, close_paren, open_brace, close_brace, open_bracket, close_bracket, comma, semicolon, star, dot, space, line_feed, spaces}
use Rattle.krml_ctree.proofs.Names.{variable_run, function_run, struct_run, table_run, field_run, width_run, number_run, literal_fits, decimal_run}

-- a run and a space
spaced_run : {a : List ℕ} {s : List (List ℕ)} → Cuts NoRun a s → Cuts Any (a ++ 32 ∷ []) (s ++ [])
spaced_run x = both x space (λ rest h. refl)

-- a word and a space
word_cuts : (w : List ℕ) → IsRun w → Cuts Any (w ++ 32 ∷ []) ((w ∷ []) ++ [])
word_cuts w h = spaced_run (run w h)

-- a piece between parentheses
group_cuts : {a : List ℕ} {s : List (List ℕ)} → Cuts NoRun a s → Cuts Any (group as_text a) (group as_tokens s)
group_cuts x = both (before open_paren x) close_paren (λ rest h. refl)

-- between braces
braced_cuts : {a : List ℕ} {s : List (List ℕ)} → Cuts NoRun a s → Cuts Any (braced as_text a) (braced as_tokens s)
braced_cuts x = both (before open_brace x) close_brace (λ rest h. refl)

-- and between brackets
index_cuts : {a : List ℕ} {s : List (List ℕ)} → Cuts NoRun a s → Cuts Any (index as_text a) (index as_tokens s)
index_cuts x = both (before open_bracket x) close_bracket (λ rest h. refl)

-- an operator between its operands
binary_cuts : (symbol : List ℕ) {a b : List ℕ} {s t : List (List ℕ)} → Cuts Spaced symbol (symbol ∷ []) → Cuts NoRun a s → Cuts NoRun b t → Cuts Any (binary as_text symbol a b) (binary as_tokens symbol s t)
binary_cuts symbol o x y = group_cuts (before (both (before (spaced_run x) o) space (λ rest h. refl)) y)

-- a conversion
cast_cuts : (w : Width) {a : List ℕ} {s : List (List ℕ)} → Cuts NoRun a s → Cuts Any (cast as_text w a) (cast as_tokens w s)
cast_cuts w x = group_cuts (before (group_cuts (run (width_word w) (width_run w))) x)

-- the symbols of operators
bin_cuts : (op : CBin) → Cuts Spaced (bin_symbol op) (bin_symbol op ∷ [])
bin_cuts Add = before_space (codes "+") (λ cs. refl)
bin_cuts Sub = before_space (codes "-") (λ cs. refl)
bin_cuts Mul = before_space (codes "*") (λ cs. refl)
bin_cuts And = before_space (codes "&") (λ cs. refl)
bin_cuts Or = before_space (codes "|") (λ cs. refl)
bin_cuts Xor = before_space (codes "^") (λ cs. refl)
bin_cuts Shl = before_space (codes "<<") (λ cs. refl)
bin_cuts Shr = before_space (codes ">>") (λ cs. refl)

cmp_cuts : (op : CmpKind) → Cuts Spaced (cmp_symbol op) (cmp_symbol op ∷ [])
cmp_cuts Eq = before_space (codes "==") (λ cs. refl)
cmp_cuts Ne = before_space (codes "!=") (λ cs. refl)
cmp_cuts Lt = before_space (codes "<") (λ cs. refl)
cmp_cuts Le = before_space (codes "<=") (λ cs. refl)
cmp_cuts Gt = before_space (codes ">") (λ cs. refl)
cmp_cuts Ge = before_space (codes ">=") (λ cs. refl)

div_cuts : (quotient : Bool) → Cuts Spaced (div_symbol quotient) (div_symbol quotient ∷ [])
div_cuts true = before_space (codes "/") (λ cs. refl)
div_cuts false = before_space (codes "%") (λ cs. refl)

-- ---- types

plain_cuts : {a : CType} → IsPlain a → Cuts Any (type_of as_text a) (type_of as_tokens a)
plain_cuts IsPlain.u8 = rw (fold_out-CType (List ℕ), fold_out-CType (List (List ℕ)), t.outs-U8) (word_cuts (codes "uint8_t") refl)
plain_cuts IsPlain.u32 = rw (fold_out-CType (List ℕ), fold_out-CType (List (List ℕ)), t.outs-U32) (word_cuts (codes "uint32_t") refl)
plain_cuts IsPlain.u64 = rw (fold_out-CType (List ℕ), fold_out-CType (List (List ℕ)), t.outs-U64) (word_cuts (codes "uint64_t") refl)
plain_cuts (IsPlain.struct {x = x} h) = rw (fold_out-CType (List ℕ), fold_out-CType (List (List ℕ)), t.outs-Struct) (before (word_cuts (codes "struct") refl) (word_cuts x (struct_run h)))

type_cuts : {a : CType} → TypeKeeps a → Cuts Any (type_of as_text a) (type_of as_tokens a)
type_cuts (TypeKeeps.plain h) = plain_cuts h
type_cuts (TypeKeeps.pointer h) = rw (fold_out-CType (List ℕ), fold_out-CType (List (List ℕ)), t.outs-Ptr) (before (plain_cuts h) star)

result_cuts : (r : Option CType) → ResultKeeps r → Cuts Any (result_of as_text r) (result_of as_tokens r)
result_cuts r ResultKeeps.no_result = word_cuts (codes "void") refl
result_cuts r (ResultKeeps.a_result h) = type_cuts h

-- a type and a name
named_cuts : (v : CVar) → TypeKeeps v.ty → IsRun v.name → Cuts NoRun (declarator as_text v) (declarator as_tokens v)
named_cuts v h k = before (type_cuts h) (run v.name k)

var_cuts : (v : CVar) → VarKeeps v → Cuts NoRun (declarator as_text v) (declarator as_tokens v)
var_cuts v h = named_cuts v h.ty (variable_run h.name)

-- ---- pieces with commas between

module _ {A : Type 0} (one : A → List ℕ) (other : A → List (List ℕ)) (Good : A → Type 0) (each : (x : A) → Good x → Cuts NoRun (one x) (other x)) where
  -- behind a piece stands a comma, or what is behind them all
  after_one : (xs : List A) (rest : List ℕ) → NoRun rest → NoRun (behind_comma as_text (map one xs) ++ rest)
  after_one [] rest k = k
  after_one (x ∷ xs) rest k = refl

  -- the pieces behind the first
  more_cuts : (xs : List A) → AllByRecursion Good xs → Cuts NoRun (behind_comma as_text (map one xs)) (behind_comma as_tokens (map other xs))
  more_cuts [] h = weaker nothing
  more_cuts (x ∷ xs) h = both (before (before comma space) (each x h.0)) (more_cuts xs h.1) (after_one xs)

  -- all pieces
  separated_cuts : (xs : List A) → AllByRecursion Good xs → Cuts NoRun (separated as_text (map one xs)) (separated as_tokens (map other xs))
  separated_cuts [] h = weaker nothing
  separated_cuts (x ∷ xs) h = both (each x h.0) (more_cuts xs h.1) (after_one xs)

-- ---- expressions

-- behind an argument stands a comma, or what is behind them all
after_expr : (es : List CExpr) (rest : List ℕ) → NoRun rest → NoRun (behind_comma as_text (map (expr as_text) es) ++ rest)
after_expr [] rest k = k
after_expr (a ∷ es) rest k = refl

mutual
  -- an expression
  pub expr_cuts : (x : CExpr) → ExprKeeps x → Cuts NoRun (expr as_text x) (expr as_tokens x)
  expr_cuts x (ExprKeeps.var {x = v} h) = rw (fold_out-CExpr (List ℕ), fold_out-CExpr (List (List ℕ)), e.outs-Var) (run v (variable_run h))
  expr_cuts x (ExprKeeps.lit {w = w} {n = n} h) = rw (fold_out-CExpr (List ℕ), fold_out-CExpr (List (List ℕ)), e.outs-Lit) (weaker (cast_cuts w (run (number w n) (number_run w n (literal_fits h)))))
  expr_cuts x (ExprKeeps.cast {w = w} {a = a} h) = rw (fold_out-CExpr (List ℕ), fold_out-CExpr (List (List ℕ)), e.outs-Cast) (weaker (cast_cuts w (expr_cuts a h)))
  expr_cuts x (ExprKeeps.bin {op = op} {a = a} {b = b} h k) = rw (fold_out-CExpr (List ℕ), fold_out-CExpr (List (List ℕ)), e.outs-Bin) (weaker (binary_cuts (bin_symbol op) (bin_cuts op) (expr_cuts a h) (expr_cuts b k)))
  expr_cuts x (ExprKeeps.cmp {w = w} {op = op} {a = a} {b = b} h k) =
      rw (fold_out-CExpr (List ℕ), fold_out-CExpr (List (List ℕ)), e.outs-Cmp) (weaker (cast_cuts w (weaker (binary_cuts (cmp_symbol op) (cmp_cuts op) (expr_cuts a h) (expr_cuts b k)))))
  expr_cuts x (ExprKeeps.build {x = y} {es = es} h hs) =
      rw (fold_out-CExpr (List ℕ), fold_out-CExpr (List (List ℕ)), e.outs-Build)
      (weaker (group_cuts (weaker (before (group_cuts (before (word_cuts (codes "struct") refl) (run y (struct_run h)))) (braced_cuts (exprs_cut es hs))))))
  expr_cuts x (ExprKeeps.field {a = a} {x = y} h k) =
      rw (fold_out-CExpr (List ℕ), fold_out-CExpr (List (List ℕ)), e.outs-Field) (before (both (expr_cuts a h) dot (λ rest k. refl)) (run y (field_run k)))

  -- expressions behind commas
  more_exprs_cut : (es : List CExpr) → ExprsKeep es → Cuts NoRun (behind_comma as_text (map (expr as_text) es)) (behind_comma as_tokens (map (expr as_tokens) es))
  more_exprs_cut es ExprsKeep.no_expr = weaker nothing
  more_exprs_cut es (ExprsKeep.one_expr {a = a} {es = bs} h hs) = both (before (before comma space) (expr_cuts a h)) (more_exprs_cut bs hs) (after_expr bs)

  -- and all with commas between
  pub exprs_cut : (es : List CExpr) → ExprsKeep es → Cuts NoRun (separated as_text (map (expr as_text) es)) (separated as_tokens (map (expr as_tokens) es))
  exprs_cut es ExprsKeep.no_expr = weaker nothing
  exprs_cut es (ExprsKeep.one_expr {a = a} {es = bs} h hs) = both (expr_cuts a h) (more_exprs_cut bs hs) (after_expr bs)

-- a call
call_cuts : (f : List ℕ) (es : List CExpr) → IsRun f → ExprsKeep es → Cuts NoRun (call as_text f es) (call as_tokens f es)
call_cuts f es h hs = weaker (both (run f h) (group_cuts (exprs_cut es hs)) (λ rest k. refl))

-- an element of what is written so
element_cuts : {a : List ℕ} {s : List (List ℕ)} (i : CExpr) → Cuts NoRun a s → ExprKeeps i → Cuts NoRun (element as_text a i) (element as_tokens s i)
element_cuts i x h = weaker (both x (index_cuts (expr_cuts i h)) (λ rest k. refl))

-- ---- statements

-- a piece on a line
line_cuts : (level : ℕ) {a : List ℕ} {s : List (List ℕ)} → Cuts NoRun a s → Cuts Any (as_text.line level a) (as_tokens.line level s)
line_cuts level {a = a} {s = s} x = subst (λ ts. Cuts Any (as_text.line level a) ts) (append-nil s) (both (before (spaces (2 * level)) x) line_feed (λ rest h. refl))

-- a piece and `;` on a line
ended : (level : ℕ) {a : List ℕ} {s : List (List ℕ)} → Cuts NoRun a s → Cuts Any (as_text.line level (a ++ codes ";")) (as_tokens.line level (s ++ codes ";" ∷ []))
ended level x = line_cuts level (both x (weaker semicolon) (λ rest h. refl))

-- two pieces round `=`
equal_cuts : (level : ℕ) {a b : List ℕ} {s t : List (List ℕ)} → Cuts NoRun a s → Cuts NoRun b t → Cuts Any (equation as_text level a b) (equation as_tokens level s t)
equal_cuts level x y = ended level (before (both (before (spaced_run x) (before_space (codes "=") (λ cs. refl))) space (λ rest k. refl)) y)

-- an array
array_cuts : (a : CArray) → ArrayKeeps a → Cuts NoRun (array as_text a) (array as_tokens a)
array_cuts a h = weaker (both (before (type_cuts h.ty) (run a.name (variable_run h.name))) (index_cuts (run (decimal a.len) (decimal_run a.len))) (λ rest k. refl))

-- pieces, one behind another
each_cuts : {A : Type 0} (one : A → List ℕ) (other : A → List (List ℕ)) (Good : A → Type 0) → ((x : A) → Good x → Cuts Any (one x) (other x)) → (xs : List A) → AllByRecursion Good xs → Cuts Any (flat_map one xs) (flat_map other xs)
each_cuts one other Good cuts [] h = nothing
each_cuts one other Good cuts (x ∷ xs) h = before (cuts x h.0) (each_cuts one other Good cuts xs h.1)

-- a closing brace on a line
closing_cuts : (level : ℕ) → Cuts Any (as_text.line level (codes "}")) (as_tokens.line level (codes "}" ∷ []))
closing_cuts level = line_cuts level (weaker close_brace)

-- the words before an arm
if_cuts : Cuts Any (if_words as_text) (if_words as_tokens)
if_cuts = word_cuts (codes "if") refl

-- the words behind an arm
else_cuts : Cuts Any (else_words as_text) (else_words as_tokens)
else_cuts = before (before close_brace space) (word_cuts (codes "else") refl)

else_line_cuts : (level : ℕ) → Cuts Any (else_line as_text level) (else_line as_tokens level)
else_line_cuts level = line_cuts level (weaker (before else_cuts open_brace))

-- the words of a loop
for_cuts : Cuts Any (for_words as_text) (for_words as_tokens)
for_cuts = before (word_cuts (codes "for") refl) (group_cuts (weaker (before semicolon semicolon)))

-- an arm behind its keywords, of a test and a body
armed : {k : List ℕ} {l : List (List ℕ)} (a : Arm as_text) (b : Arm as_tokens) (level : ℕ) → Cuts Any k l → Cuts NoRun a.test b.test → Cuts Any (a.body (level + 1)) (b.body (level + 1)) → Cuts Any (arm as_text k a level) (arm as_tokens l b level)
armed a b level words test body = before (line_cuts level (weaker (before (before (before words (group_cuts test)) space) open_brace))) body

mutual
  -- a statement
  pub statement_cuts : (x : CStatement) → StatementKeeps x → (level : ℕ) → Cuts Any (statement as_text x level) (statement as_tokens x level)
  statement_cuts x (StatementKeeps.decl {v = v} {a = a} h k) level = rw (fold_out-CStatement (ℕ → List ℕ), fold_out-CStatement (ℕ → List (List ℕ)), s.outs-Decl) (equal_cuts level (var_cuts v h) (expr_cuts a k))
  statement_cuts x (StatementKeeps.blank {v = v} h) level = rw (fold_out-CStatement (ℕ → List ℕ), fold_out-CStatement (ℕ → List (List ℕ)), s.outs-Blank) (ended level (var_cuts v h))
  statement_cuts x (StatementKeeps.set {x = v} {a = a} h k) level =
      rw (fold_out-CStatement (ℕ → List ℕ), fold_out-CStatement (ℕ → List (List ℕ)), s.outs-Set) (equal_cuts level (run v (variable_run h)) (expr_cuts a k))
  statement_cuts x (StatementKeeps.read {v = v} {a = a} {i = i} h k l) level =
      rw (fold_out-CStatement (ℕ → List ℕ), fold_out-CStatement (ℕ → List (List ℕ)), s.outs-Read) (equal_cuts level (var_cuts v h) (element_cuts i (expr_cuts a k) l))
  statement_cuts x (StatementKeeps.tab {v = v} {x = y} {i = i} h k l) level =
      rw (fold_out-CStatement (ℕ → List ℕ), fold_out-CStatement (ℕ → List (List ℕ)), s.outs-Tab) (equal_cuts level (var_cuts v h) (element_cuts i (run y (table_run k)) l))
  statement_cuts x (StatementKeeps.write {a = a} {i = i} {b = b} h k l) level =
      rw (fold_out-CStatement (ℕ → List ℕ), fold_out-CStatement (ℕ → List (List ℕ)), s.outs-Write) (equal_cuts level (element_cuts i (expr_cuts a h) k) (expr_cuts b l))
  statement_cuts x (StatementKeeps.div {v = v} {quotient = q} {a = a} {b = b} h k l) level =
      rw (fold_out-CStatement (ℕ → List ℕ), fold_out-CStatement (ℕ → List (List ℕ)), s.outs-Div) (equal_cuts level (var_cuts v h) (weaker (binary_cuts (div_symbol q) (div_cuts q) (expr_cuts a k) (expr_cuts b l))))
  statement_cuts x (StatementKeeps.call {v = v} {f = f} {es = es} h k hs) level =
      rw (fold_out-CStatement (ℕ → List ℕ), fold_out-CStatement (ℕ → List (List ℕ)), s.outs-Call) (equal_cuts level (var_cuts v h) (call_cuts f es (function_run k) hs))
  statement_cuts x (StatementKeeps.run {f = f} {es = es} k hs) level =
      rw (fold_out-CStatement (ℕ → List ℕ), fold_out-CStatement (ℕ → List (List ℕ)), s.outs-Run) (ended level (call_cuts f es (function_run k) hs))
  statement_cuts x (StatementKeeps.chain {arm = arm} {arms = arms} {rest = rest} h hs k) level =
      rw (fold_out-CStatement (ℕ → List ℕ), fold_out-CStatement (ℕ → List (List ℕ)), s.outs-Chain)
      (before (before (before (arm_cuts (if_words as_text) (if_words as_tokens) arm h level if_cuts) (arms_cut arms hs level)) (otherwise_cuts rest k level)) (closing_cuts level))
  statement_cuts x (StatementKeeps.loop {first = xs} {body = ys} {test = a} hs h ks) level =
      rw (fold_out-CStatement (ℕ → List ℕ), fold_out-CStatement (ℕ → List (List ℕ)), s.outs-Loop)
      (before (before (before (before (before (before (line_cuts level (weaker (before (before for_cuts space) open_brace))) (statements_cut xs hs (level + 1)))
      (armed (record { test = expr as_text a; body = statements as_text ys }) (record { test = expr as_tokens a; body = statements as_tokens ys }) (level + 1) if_cuts (expr_cuts a h) (statements_cut ys ks (level + 1 + 1))))
      (else_line_cuts (level + 1))) (ended (level + 2) (run (codes "break") refl))) (closing_cuts (level + 1))) (closing_cuts level))
  statement_cuts x (StatementKeeps.block {arrays = arrays} {body = ys} hs ks) level =
      rw (fold_out-CStatement (ℕ → List ℕ), fold_out-CStatement (ℕ → List (List ℕ)), s.outs-Block)
      (before (before (before (line_cuts level (weaker open_brace)) (each_cuts (λ a. as_text.line (level + 1) (array as_text a ++ codes ";")) (λ a. as_tokens.line (level + 1) (array as_tokens a ++ codes ";" ∷ [])) ArrayKeeps (λ a k. ended (level + 1) (array_cuts a k)) arrays hs))
      (statements_cut ys ks (level + 1))) (closing_cuts level))

  -- and statements in order
  pub statements_cut : (xs : List CStatement) → StatementsKeep xs → (level : ℕ) → Cuts Any (statements as_text xs level) (statements as_tokens xs level)
  statements_cut xs StatementsKeep.none level = nothing
  statements_cut xs (StatementsKeep.one {x = x} {xs = ys} h hs) level = before (statement_cuts x h level) (statements_cut ys hs level)

  -- an arm
  arm_cuts : (k : List ℕ) (l : List (List ℕ)) (x : CArm) → ArmKeeps x → (level : ℕ) → Cuts Any k l → Cuts Any (arm as_text k (arm_of as_text x) level) (arm as_tokens l (arm_of as_tokens x) level)
  arm_cuts k l x (ArmKeeps.arm {x = y} h hs) level words = rw (arm_is as_text y, arm_is as_tokens y) (armed (opened as_text y) (opened as_tokens y) level words (expr_cuts (out-CArm y).test h) (statements_cut (out-CArm y).body hs (level + 1)))

  -- the arms behind the first
  arms_cut : (xs : List CArm) → ArmsKeep xs → (level : ℕ) → Cuts Any (else_ifs as_text (map (arm_of as_text) xs) level) (else_ifs as_tokens (map (arm_of as_tokens) xs) level)
  arms_cut xs ArmsKeep.no_arm level = nothing
  arms_cut xs (ArmsKeep.one_arm {x = x} {xs = ys} h hs) level = before (arm_cuts (else_words as_text ++ if_words as_text) (else_words as_tokens ++ if_words as_tokens) x h level (before else_cuts if_cuts)) (arms_cut ys hs level)

  -- what is done where no test is true
  otherwise_cuts : (xs : List CStatement) → StatementsKeep xs → (level : ℕ) → Cuts Any (otherwise as_text (map (statement as_text) xs) level) (otherwise as_tokens (map (statement as_tokens) xs) level)
  otherwise_cuts xs StatementsKeep.none level = nothing
  otherwise_cuts xs (StatementsKeep.one {x = x} {xs = ys} h hs) level = before (else_line_cuts level) (before (statement_cuts x h (level + 1)) (statements_cut ys hs (level + 1)))

-- ---- programs

-- a struct
structure_cuts : (s : CStruct) → StructKeeps s → Cuts Any (structure as_text s) (structure as_tokens s)
structure_cuts s h =
    before (before (line_cuts 0 (weaker (before (before (word_cuts (codes "struct") refl) (word_cuts s.name (struct_run h.name))) open_brace)))
    (each_cuts (λ f. as_text.line 1 (declarator as_text f ++ codes ";")) (λ f. as_tokens.line 1 (declarator as_tokens f ++ codes ";" ∷ [])) FieldKeeps (λ f k. ended 1 (named_cuts f k.ty (field_run k.name))) s.fields h.fields))
    (ended 0 (weaker close_brace))

-- a table
table_cuts : (t : CTable) → TableKeeps t → Cuts Any (table as_text t) (table as_tokens t)
table_cuts t h =
    equal_cuts 0 (weaker (both (before (before (before (word_cuts (codes "static") refl) (word_cuts (codes "const") refl)) (word_cuts (width_word t.width) (width_run t.width))) (run t.name (table_run h.name))) (index_cuts (run (decimal (length t.nums)) (decimal_run (length t.nums)))) (λ rest k. refl)))
    (weaker (braced_cuts (separated_cuts (number t.width) (λ n. number t.width n ∷ []) (λ n. n < 2 ^ bits t.width) (λ n k. run (number t.width n) (number_run t.width n k)) t.nums h.nums)))

-- all parameters
parameters_cut : (vs : List CVar) → AllByRecursion VarKeeps vs → Cuts NoRun (parameters as_text vs) (parameters as_tokens vs)
parameters_cut [] h = run (codes "void") refl
parameters_cut (v ∷ vs) h = separated_cuts (declarator as_text) (declarator as_tokens) VarKeeps var_cuts (v ∷ vs) h

-- the head of a function
head_cuts : (f : CFun) → FunKeeps f → Cuts NoRun (head as_text f) (head as_tokens f)
head_cuts f h = both (before (result_cuts f.result h.result) (run f.name (function_run h.name))) (weaker (group_cuts (parameters_cut f.params h.params))) (λ rest k. refl)

-- its answer
answer_cuts : (r : Option CType) (a : Option CExpr) → AnswerKeeps r a → Cuts Any (answer as_text a) (answer as_tokens a)
answer_cuts r a AnswerKeeps.nothing = nothing
answer_cuts r a (AnswerKeeps.value {a = x} h) = ended 1 (before (word_cuts (codes "return") refl) (expr_cuts x h))

-- its definition
definition_cuts : (f : CFun) → FunKeeps f → Cuts Any (definition as_text f) (definition as_tokens f)
definition_cuts f h = before (before (before (line_cuts 0 (weaker (before (both (head_cuts f h) space (λ rest k. refl)) open_brace))) (statements_cut f.body h.body 1)) (answer_cuts f.result f.answer h.answer)) (closing_cuts 0)

-- the whole program
pub program_cuts : (p : CProgram) → KeepsShapes p → Cuts Any (program as_text p) (program as_tokens p)
program_cuts p h =
    before (before (before (each_cuts (structure as_text) (structure as_tokens) StructKeeps structure_cuts p.structs h.structs) (each_cuts (table as_text) (table as_tokens) TableKeeps table_cuts p.tables h.tables))
    (each_cuts (prototype as_text) (prototype as_tokens) FunKeeps (λ f k. ended 0 (head_cuts f k)) p.funs h.funs)) (each_cuts (definition as_text) (definition as_tokens) FunKeeps definition_cuts p.funs h.funs)
