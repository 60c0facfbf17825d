-- What is read of the tokens of statements are those statements.
use Rattle.std.proofs.Common.{◌≡◌, ℕ, ◌+◌, ◌≤◌, ◌<◌, ◌^◌, zero, suc, Bool, true, false, List, [], ◌∷◌, ◌++◌, map, length, codes, Option, Some, None, refl, ap, ◌∙◌, append_assoc, append-nil, arith}
use Rattle.std.specs.Fmt.{decimal}
use Rattle.std.specs.List.{flat_map, AllByRecursion}
use Rattle.krml_ctree.specs.declared.tree.CVar.{CVar}
use Rattle.krml_ctree.specs.declared.tree.CArray.{CArray}
use Rattle.krml_ctree.specs.declared.tree.CExpr.{CExpr}
use Rattle.krml_ctree.specs.declared.tree.CStatement.{CStatement}
use Rattle.krml_ctree.specs.declared.tree.CStatement.TheVariants as s
use Rattle.krml_ctree.specs.declared.tree.CStatement.TheFolds.{fold_out-CStatement}
use Rattle.krml_ctree.specs.declared.tree.CArm.{CArm, out-CArm}
use Rattle.krml_ctree.specs.Text.{as_tokens, declarator, div_symbol, array, arm, if_words, else_words, else_ifs, ifs, otherwise, statement, statements}
use Rattle.krml_ctree.specs.Text as text
use Rattle.krml_ctree.specs.Shape.{IsVariable, IsFunction, IsTable, TypeKeeps, VarKeeps, ArrayKeeps, ExprKeeps, StatementKeeps, StatementsKeep, ArmKeeps, ArmsKeep}
use Rattle.krml_ctree.proofs.Arms.{arm_of, arm_is}
use Rattle.krml_ctree.proofs.Names.{initial, variable_no_star, decimal_value}
use Rattle.krml_ctree.proofs.Parse.{Tokens, next, is_next, first, many, value_at, Start, start, Source, source_of, Tested, Block, Tail, begins_array, tested, block_at, tail_at}
use Rattle.krml_ctree.proofs.Parse as read
use Rattle.krml_ctree.proofs.Many.{many_again}
use Rattle.krml_ctree.proofs.Again.{spelled, spelled_args, spelled_type, BeginsType, type_begins, type_starts, type_again, declarator_is, declarator_again, Begins, begins, Closes, no_equals, levels, all_levels, value_again, exprs_again, expr_again, paren_again}

-- the tokens of a declarator
abbrev pub spelled_var : CVar → Tokens
spelled_var v = declarator as_tokens v

-- of a statement
abbrev pub spelled_one : CStatement → ℕ → Tokens
spelled_one x level = statement as_tokens x level

-- and of statements in order
abbrev pub spelled_all : List CStatement → ℕ → Tokens
spelled_all xs level = statements as_tokens xs level

-- of an array
abbrev pub spelled_array : CArray → Tokens
spelled_array a = array as_tokens a ++ codes ";" ∷ []

abbrev pub spelled_arrays : List CArray → Tokens
spelled_arrays arrays = flat_map spelled_array arrays

-- ---- each statement in its parts, before other tokens

-- .. = ..;
equation_is : (a b rest : Tokens) → text.equation as_tokens 0 a b ++ rest ≡ a ++ codes "=" ∷ (b ++ codes ";" ∷ rest)
equation_is a b rest = simp (append_assoc, append-nil)

decl_is : (v : CVar) (a : CExpr) (level : ℕ) (rest : Tokens) → spelled_one (s.Decl v a) level ++ rest ≡ spelled_var v ++ codes "=" ∷ (spelled a ++ codes ";" ∷ rest)
decl_is v a level rest = rw (fold_out-CStatement, s.outs-Decl) (equation_is (spelled_var v) (spelled a) rest)

blank_is : (v : CVar) (level : ℕ) (rest : Tokens) → spelled_one (s.Blank v) level ++ rest ≡ spelled_var v ++ codes ";" ∷ rest
blank_is v level rest = rw (fold_out-CStatement, s.outs-Blank) (append_assoc (spelled_var v) (codes ";" ∷ []) rest)

set_is : (x : List ℕ) (a : CExpr) (level : ℕ) (rest : Tokens) → spelled_one (s.Set x a) level ++ rest ≡ x ∷ codes "=" ∷ (spelled a ++ codes ";" ∷ rest)
set_is x a level rest = rw (fold_out-CStatement, s.outs-Set) (equation_is (x ∷ []) (spelled a) rest)

-- E[E] before other tokens
element_order : (a i rest : Tokens) → (a ++ codes "[" ∷ (i ++ codes "]" ∷ [])) ++ rest ≡ a ++ codes "[" ∷ (i ++ codes "]" ∷ rest)
element_order a i rest = simp append_assoc

read_is : (v : CVar) (a i : CExpr) (level : ℕ) (rest : Tokens)
    → spelled_one (s.Read v a i) level ++ rest ≡ spelled_var v ++ codes "=" ∷ (spelled a ++ codes "[" ∷ (spelled i ++ codes "]" ∷ codes ";" ∷ rest))
read_is v a i level rest =
    rw (fold_out-CStatement, s.outs-Read) (equation_is (spelled_var v) (spelled a ++ codes "[" ∷ (spelled i ++ codes "]" ∷ [])) rest
    ∙ ap (λ us. spelled_var v ++ codes "=" ∷ us) (element_order (spelled a) (spelled i) (codes ";" ∷ rest)))

tab_is : (v : CVar) (x : List ℕ) (i : CExpr) (level : ℕ) (rest : Tokens)
    → spelled_one (s.Tab v x i) level ++ rest ≡ spelled_var v ++ codes "=" ∷ x ∷ codes "[" ∷ (spelled i ++ codes "]" ∷ codes ";" ∷ rest)
tab_is v x i level rest =
    rw (fold_out-CStatement, s.outs-Tab) (equation_is (spelled_var v) (x ∷ codes "[" ∷ (spelled i ++ codes "]" ∷ [])) rest
    ∙ ap (λ us. spelled_var v ++ codes "=" ∷ us) (element_order (x ∷ []) (spelled i) (codes ";" ∷ rest)))

write_is : (a i b : CExpr) (level : ℕ) (rest : Tokens)
    → spelled_one (s.Write a i b) level ++ rest ≡ spelled a ++ codes "[" ∷ (spelled i ++ codes "]" ∷ codes "=" ∷ (spelled b ++ codes ";" ∷ rest))
write_is a i b level rest =
    rw (fold_out-CStatement, s.outs-Write) (equation_is (spelled a ++ codes "[" ∷ (spelled i ++ codes "]" ∷ [])) (spelled b) rest
    ∙ element_order (spelled a) (spelled i) (codes "=" ∷ (spelled b ++ codes ";" ∷ rest)))

div_is : (v : CVar) (quotient : Bool) (a b : CExpr) (level : ℕ) (rest : Tokens)
    → spelled_one (s.Div v quotient a b) level ++ rest ≡ spelled_var v ++ codes "=" ∷ codes "(" ∷ (spelled a ++ div_symbol quotient ∷ (spelled b ++ codes ")" ∷ codes ";" ∷ rest))
div_is v quotient a b level rest =
    rw (fold_out-CStatement, s.outs-Div) (equation_is (spelled_var v) (text.binary as_tokens (div_symbol quotient) (spelled a) (spelled b)) rest
    ∙ ap (λ us. spelled_var v ++ codes "=" ∷ us) (order (spelled a) (spelled b)))
  where
    order : (c d : Tokens) → text.binary as_tokens (div_symbol quotient) c d ++ codes ";" ∷ rest ≡ codes "(" ∷ (c ++ div_symbol quotient ∷ (d ++ codes ")" ∷ codes ";" ∷ rest))
    order c d = simp (append_assoc, append-nil)

-- FUN(E, E) before other tokens
call_order : (f : List ℕ) (a rest : Tokens) → (f ∷ codes "(" ∷ (a ++ codes ")" ∷ [])) ++ rest ≡ f ∷ codes "(" ∷ (a ++ codes ")" ∷ rest)
call_order f a rest = simp append_assoc

call_is : (v : CVar) (f : List ℕ) (es : List CExpr) (level : ℕ) (rest : Tokens)
    → spelled_one (s.Call v f es) level ++ rest ≡ spelled_var v ++ codes "=" ∷ f ∷ codes "(" ∷ (spelled_args es ++ codes ")" ∷ codes ";" ∷ rest)
call_is v f es level rest =
    rw (fold_out-CStatement, s.outs-Call) (equation_is (spelled_var v) (f ∷ codes "(" ∷ (spelled_args es ++ codes ")" ∷ [])) rest
    ∙ ap (λ us. spelled_var v ++ codes "=" ∷ us) (call_order f (spelled_args es) (codes ";" ∷ rest)))

run_is : (f : List ℕ) (es : List CExpr) (level : ℕ) (rest : Tokens) → spelled_one (s.Run f es) level ++ rest ≡ f ∷ codes "(" ∷ (spelled_args es ++ codes ")" ∷ codes ";" ∷ rest)
run_is f es level rest = rw (fold_out-CStatement, s.outs-Run) (order (spelled_args es))
  where
    order : (a : Tokens) → ((f ∷ codes "(" ∷ (a ++ codes ")" ∷ [])) ++ codes ";" ∷ []) ++ rest ≡ f ∷ codes "(" ∷ (a ++ codes ")" ∷ codes ";" ∷ rest)
    order a = simp append_assoc

-- a test and a body from the `(` on, before other tokens
abbrev tested_from : CExpr → List CStatement → ℕ → Tokens → Tokens
tested_from test body level rest = codes "(" ∷ (spelled test ++ codes ")" ∷ codes "{" ∷ (spelled_all body (level + 1) ++ rest))

abbrev arm_from : CArm → ℕ → Tokens → Tokens
arm_from x level rest = tested_from (out-CArm x).test (out-CArm x).body level rest

-- what stands behind an arm, and behind the chain
abbrev tail_tokens : List CArm → List CStatement → ℕ → Tokens → Tokens
tail_tokens xs ys level more = else_ifs as_tokens (map (arm_of as_tokens) xs) level ++ (otherwise as_tokens (map (statement as_tokens) ys) level ++ codes "}" ∷ more)

-- the order of pieces, from the left and from the right
arm_order : (k t b rest : Tokens) (o c d : List ℕ) → ((((k ++ o ∷ (t ++ c ∷ [])) ++ []) ++ d ∷ []) ++ b) ++ rest ≡ k ++ o ∷ (t ++ c ∷ d ∷ (b ++ rest))
arm_order k t b rest o c d =
    let u : Tokens = o ∷ (t ++ c ∷ []) in
    append_assoc (((k ++ u) ++ []) ++ d ∷ []) b rest ∙ append_assoc ((k ++ u) ++ []) (d ∷ []) (b ++ rest) ∙ append_assoc (k ++ u) [] (d ∷ (b ++ rest)) ∙ append_assoc k u (d ∷ (b ++ rest))
    ∙ ap (λ us. k ++ o ∷ us) (append_assoc t (c ∷ []) (d ∷ (b ++ rest)))

chain_order : (a b c d rest : Tokens) → (((a ++ b) ++ c) ++ d) ++ rest ≡ a ++ (b ++ (c ++ (d ++ rest)))
chain_order a b c d rest = simp append_assoc

-- a test and a body behind keywords
tested_is : (test : CExpr) (body : List CStatement) (keywords : Tokens) (level : ℕ) (rest : Tokens)
    → arm as_tokens keywords (record { test = spelled test; body = spelled_all body }) level ++ rest ≡ keywords ++ tested_from test body level rest
tested_is test body keywords level rest = arm_order keywords (spelled test) (spelled_all body (level + 1)) rest (codes "(") (codes ")") (codes "{")

-- an arm behind its keywords
opened_is : (x : CArm) (keywords : Tokens) (level : ℕ) (rest : Tokens) → arm as_tokens keywords (arm_of as_tokens x) level ++ rest ≡ keywords ++ arm_from x level rest
opened_is x keywords level rest =
    ap (λ a. arm as_tokens keywords a level ++ rest) (arm_is as_tokens x)
    ∙ tested_is (out-CArm x).test (out-CArm x).body keywords level rest

-- a chain in its parts
chain_step : (xs : List CArm) (ys : List CStatement) (level : ℕ) → spelled_one (s.Chain xs ys) level ≡ (ifs as_tokens (map (arm_of as_tokens) xs) level ++ otherwise as_tokens (map (statement as_tokens) ys) level) ++ codes "}" ∷ []
chain_step xs ys level = rw (fold_out-CStatement, s.outs-Chain) refl

-- a chain from its first arm on
chain_is : (x : CArm) (xs : List CArm) (ys : List CStatement) (level : ℕ) (rest : Tokens) → spelled_one (s.Chain (x ∷ xs) ys) level ++ rest ≡ codes "if" ∷ arm_from x level (tail_tokens xs ys level rest)
chain_is x xs ys level rest =
    let start : Tokens = arm as_tokens (if_words as_tokens) (arm_of as_tokens x) level in
    ap (λ us. us ++ rest) (chain_step (x ∷ xs) ys level)
    ∙ chain_order start (else_ifs as_tokens (map (arm_of as_tokens) xs) level) (otherwise as_tokens (map (statement as_tokens) ys) level) (codes "}" ∷ []) rest
    ∙ opened_is x (if_words as_tokens) level (tail_tokens xs ys level rest)

-- a further arm
tail_else_if : (x : CArm) (xs : List CArm) (ys : List CStatement) (level : ℕ) (more : Tokens) → tail_tokens (x ∷ xs) ys level more ≡ codes "}" ∷ codes "else" ∷ codes "if" ∷ arm_from x level (tail_tokens xs ys level more)
tail_else_if x xs ys level more = append_assoc (arm as_tokens (else_words as_tokens ++ if_words as_tokens) (arm_of as_tokens x) level) (else_ifs as_tokens (map (arm_of as_tokens) xs) level) (otherwise as_tokens (map (statement as_tokens) ys) level ++ codes "}" ∷ more)
    ∙ opened_is x (else_words as_tokens ++ if_words as_tokens) level (tail_tokens xs ys level more)

-- what stands behind the second list of a loop, and behind the loop
abbrev leave_tokens : Tokens → Tokens
leave_tokens rest = codes "}" ∷ codes "else" ∷ codes "{" ∷ codes "break" ∷ codes ";" ∷ codes "}" ∷ codes "}" ∷ rest

-- a loop
loop_is : (head : List CStatement) (test : CExpr) (body : List CStatement) (level : ℕ) (rest : Tokens)
    → spelled_one (s.Loop head test body) level ++ rest
    ≡ codes "for" ∷ codes "(" ∷ codes ";" ∷ codes ";" ∷ codes ")" ∷ codes "{" ∷ (spelled_all head (level + 1) ++ codes "if" ∷ tested_from test body (level + 1) (leave_tokens rest))
loop_is head test body level rest =
    rw (fold_out-CStatement, s.outs-Loop) (order (spelled_all head (level + 1)) (arm as_tokens (if_words as_tokens) (record { test = spelled test; body = spelled_all body }) (level + 1))
    ∙ ap (λ us. codes "for" ∷ codes "(" ∷ codes ";" ∷ codes ";" ∷ codes ")" ∷ codes "{" ∷ (spelled_all head (level + 1) ++ us)) (tested_is test body (if_words as_tokens) (level + 1) (leave_tokens rest)))
  where
    order : (a b : Tokens) → ((((((codes "for" ∷ codes "(" ∷ codes ";" ∷ codes ";" ∷ codes ")" ∷ codes "{" ∷ []) ++ a) ++ b) ++ codes "}" ∷ codes "else" ∷ codes "{" ∷ []) ++ codes "break" ∷ codes ";" ∷ []) ++ codes "}" ∷ []) ++ codes "}" ∷ [] ++ rest
        ≡ codes "for" ∷ codes "(" ∷ codes ";" ∷ codes ";" ∷ codes ")" ∷ codes "{" ∷ (a ++ (b ++ leave_tokens rest))
    order a b = simp append_assoc

-- a block with arrays
block_is : (arrays : List CArray) (body : List CStatement) (level : ℕ) (rest : Tokens)
    → spelled_one (s.Block arrays body) level ++ rest ≡ codes "{" ∷ (spelled_arrays arrays ++ (spelled_all body (level + 1) ++ codes "}" ∷ rest))
block_is arrays body level rest = rw (fold_out-CStatement, s.outs-Block) (order (spelled_arrays arrays) (spelled_all body (level + 1)))
  where
    order : (a b : Tokens) → (((codes "{" ∷ a) ++ b) ++ codes "}" ∷ []) ++ rest ≡ codes "{" ∷ (a ++ (b ++ codes "}" ∷ rest))
    order a b = simp append_assoc

-- an array
array_is : (a : CArray) (rest : Tokens) → spelled_array a ++ rest ≡ spelled_type a.ty ++ a.name ∷ codes "[" ∷ decimal a.len ∷ codes "]" ∷ codes ";" ∷ rest
array_is a rest = order (spelled_type a.ty)
  where
    order : (b : Tokens) → (((b ++ a.name ∷ []) ++ codes "[" ∷ decimal a.len ∷ codes "]" ∷ []) ++ codes ";" ∷ []) ++ rest ≡ b ++ a.name ∷ codes "[" ∷ decimal a.len ∷ codes "]" ∷ codes ";" ∷ rest
    order b = simp append_assoc

-- ---- arrays

-- an array is read again
array_again : (a : CArray) → ArrayKeeps a → (rest : Tokens) → read.array (spelled_array a ++ rest) ≡ Some (a, rest)
array_again a h rest =
    let small : a.len < 2 ^ 32 = h.len in
    let fits : a.len < 2 ^ 64 = omega (arith, small) in
    rw (array_is a rest, type_again h.ty a.name (codes "[" ∷ decimal a.len ∷ codes "]" ∷ codes ";" ∷ rest) (variable_no_star h.name), decimal_value a.len fits) refl

-- and is taken for one
array_begins : (a : CArray) → ArrayKeeps a → (rest : Tokens) → begins_array (spelled_array a ++ rest) ≡ true
array_begins a h rest = rw (array_is a rest, type_again h.ty a.name (codes "[" ∷ decimal a.len ∷ codes "]" ∷ codes ";" ∷ rest) (variable_no_star h.name)) refl

-- all arrays
arrays_again : (arrays : List CArray) → AllByRecursion ArrayKeeps arrays → (n : ℕ) → length arrays < n → (rest : Tokens) → begins_array rest ≡ false → many n begins_array read.array (spelled_arrays arrays ++ rest) ≡ Some (arrays, rest)
arrays_again arrays h n l rest q = many_again begins_array read.array spelled_array ArrayKeeps array_begins array_again arrays h n l rest q

-- ---- what begins a statement

-- a declarator begins a declaration
var_starts : (v : CVar) → TypeKeeps v.ty → (rest : Tokens) → start (spelled_var v ++ rest) ≡ Start.Declares
var_starts v h rest = rw (declarator_is v rest) (type_starts (type_begins h (v.name ∷ rest)))

-- an expression begins an assignment
begins_starts : {ts : Tokens} → Begins ts → start ts ≡ Start.Computes
begins_starts (Begins.variable (IsVariable.plain k h)) = refl
begins_starts (Begins.variable (IsVariable.named k name h n)) = refl
begins_starts Begins.paren = refl

-- a function's name begins a call
function_starts : {f : List ℕ} → IsFunction f → (rest : Tokens) → start (f ∷ rest) ≡ Start.Calls
function_starts (IsFunction.plain name n) rest = refl
function_starts (IsFunction.instance_of k name h n) rest = refl

-- and what begins a value of a declaration
begins_source : {ts : Tokens} → Begins ts → source_of (first ts) ≡ Source.FromValue
begins_source (Begins.variable (IsVariable.plain k h)) = refl
begins_source (Begins.variable (IsVariable.named k name h n)) = refl
begins_source Begins.paren = refl

function_source : {f : List ℕ} → IsFunction f → source_of (initial f) ≡ Source.FromCall
function_source (IsFunction.plain name n) = refl
function_source (IsFunction.instance_of k name h n) = refl

table_source : {x : List ℕ} → IsTable x → source_of (initial x) ≡ Source.FromTable
table_source (IsTable.plain name n) = refl

-- The first token of a statement.
data BeginsOne : Tokens → Type 0 where
  of_type : {ts : Tokens} → BeginsType ts → BeginsOne ts
  of_expr : {ts : Tokens} → Begins ts → BeginsOne ts
  of_function : {f : List ℕ} {ts : Tokens} → IsFunction f → BeginsOne (f ∷ ts)
  of_chain : {ts : Tokens} → BeginsOne (codes "if" ∷ ts)
  of_loop : {ts : Tokens} → BeginsOne (codes "for" ∷ ts)
  of_block : {ts : Tokens} → BeginsOne (codes "{" ∷ ts)

-- it is no `else`
no_else : {ts : Tokens} → BeginsOne ts → is_next (codes "else") ts ≡ false
no_else (BeginsOne.of_type BeginsType.u8) = refl
no_else (BeginsOne.of_type BeginsType.u32) = refl
no_else (BeginsOne.of_type BeginsType.u64) = refl
no_else (BeginsOne.of_type BeginsType.struct) = refl
no_else (BeginsOne.of_expr (Begins.variable (IsVariable.plain k h))) = refl
no_else (BeginsOne.of_expr (Begins.variable (IsVariable.named k name h n))) = refl
no_else (BeginsOne.of_expr Begins.paren) = refl
no_else (BeginsOne.of_function (IsFunction.plain name n)) = refl
no_else (BeginsOne.of_function (IsFunction.instance_of k name h n)) = refl
no_else BeginsOne.of_chain = refl
no_else BeginsOne.of_loop = refl
no_else BeginsOne.of_block = refl

-- and no `break`
no_break : {ts : Tokens} → BeginsOne ts → is_next (codes "break") ts ≡ false
no_break (BeginsOne.of_type BeginsType.u8) = refl
no_break (BeginsOne.of_type BeginsType.u32) = refl
no_break (BeginsOne.of_type BeginsType.u64) = refl
no_break (BeginsOne.of_type BeginsType.struct) = refl
no_break (BeginsOne.of_expr (Begins.variable (IsVariable.plain k h))) = refl
no_break (BeginsOne.of_expr (Begins.variable (IsVariable.named k name h n))) = refl
no_break (BeginsOne.of_expr Begins.paren) = refl
no_break (BeginsOne.of_function (IsFunction.plain name n)) = refl
no_break (BeginsOne.of_function (IsFunction.instance_of k name h n)) = refl
no_break BeginsOne.of_chain = refl
no_break BeginsOne.of_loop = refl
no_break BeginsOne.of_block = refl

-- an expression is taken for no array
begins_no_array : {ts : Tokens} → Begins ts → begins_array ts ≡ false
begins_no_array (Begins.variable (IsVariable.plain k h)) = refl
begins_no_array (Begins.variable (IsVariable.named k name h n)) = refl
begins_no_array Begins.paren = refl

function_no_array : {f : List ℕ} → IsFunction f → (rest : Tokens) → begins_array (f ∷ rest) ≡ false
function_no_array (IsFunction.plain name n) rest = refl
function_no_array (IsFunction.instance_of k name h n) rest = refl

-- a declarator is read again
pub var_again : (v : CVar) → VarKeeps v → (rest : Tokens) → read.declarator (spelled_var v ++ rest) ≡ Some (v, rest)
var_again v h rest = declarator_again v h.ty (variable_no_star h.name) rest

var_begins : (v : CVar) → VarKeeps v → (rest : Tokens) → BeginsOne (spelled_var v ++ rest)
var_begins v h rest = rw (declarator_is v rest) (BeginsOne.of_type (type_begins h.ty (v.name ∷ rest)))

-- each statement begins so
one_begins : (x : CStatement) → StatementKeeps x → (level : ℕ) (rest : Tokens) → BeginsOne (spelled_one x level ++ rest)
one_begins x (StatementKeeps.decl {v = v} {a = a} h k) level rest = rw (decl_is v a level rest) (var_begins v h _)
one_begins x (StatementKeeps.blank {v = v} h) level rest = rw (blank_is v level rest) (var_begins v h _)
one_begins x (StatementKeeps.set {x = y} {a = a} h k) level rest = rw (set_is y a level rest) (BeginsOne.of_expr (Begins.variable h))
one_begins x (StatementKeeps.read {v = v} {a = a} {i = i} h k l) level rest = rw (read_is v a i level rest) (var_begins v h _)
one_begins x (StatementKeeps.tab {v = v} {x = y} {i = i} h k l) level rest = rw (tab_is v y i level rest) (var_begins v h _)
one_begins x (StatementKeeps.write {a = a} {i = i} {b = b} h k l) level rest = rw (write_is a i b level rest) (BeginsOne.of_expr (begins a h _))
one_begins x (StatementKeeps.div {v = v} {quotient = q} {a = a} {b = b} h k l) level rest = rw (div_is v q a b level rest) (var_begins v h _)
one_begins x (StatementKeeps.call {v = v} {f = f} {es = es} h k hs) level rest = rw (call_is v f es level rest) (var_begins v h _)
one_begins x (StatementKeeps.run {f = f} {es = es} k hs) level rest = rw (run_is f es level rest) (BeginsOne.of_function k)
one_begins x (StatementKeeps.chain {arm = y} {arms = ys} {rest = zs} h hs k) level rest = rw (chain_is y ys zs level rest) BeginsOne.of_chain
one_begins x (StatementKeeps.loop {first = xs} {body = ys} {test = a} hs h ks) level rest = rw (loop_is xs a ys level rest) BeginsOne.of_loop
one_begins x (StatementKeeps.block {arrays = arrays} {body = ys} hs ks) level rest = rw (block_is arrays ys level rest) BeginsOne.of_block

-- statements before what is no `else` do not begin with it
all_no_else : (xs : List CStatement) → StatementsKeep xs → (level : ℕ) (rest : Tokens) → is_next (codes "else") rest ≡ false → is_next (codes "else") (spelled_all xs level ++ rest) ≡ false
all_no_else xs StatementsKeep.none level rest q = q
all_no_else xs (StatementsKeep.one {x = x} {xs = ys} h hs) level rest q =
    rw (append_assoc (spelled_one x level) (spelled_all ys level) rest) (no_else (one_begins x h level (spelled_all ys level ++ rest)))

-- nor does a list of statements begin with `break`
all_no_break : (xs : List CStatement) → StatementsKeep xs → (level : ℕ) (rest : Tokens) → is_next (codes "break") (spelled_all xs level ++ codes "}" ∷ rest) ≡ false
all_no_break xs StatementsKeep.none level rest = refl
all_no_break xs (StatementsKeep.one {x = x} {xs = ys} h hs) level rest =
    rw (append_assoc (spelled_one x level) (spelled_all ys level) (codes "}" ∷ rest)) (no_break (one_begins x h level (spelled_all ys level ++ codes "}" ∷ rest)))

-- no statement is taken for an array
one_no_array : (x : CStatement) → StatementKeeps x → (level : ℕ) (rest : Tokens) → begins_array (spelled_one x level ++ rest) ≡ false
one_no_array x (StatementKeeps.decl {v = v} {a = a} h k) level rest = rw (decl_is v a level rest, var_again v h _) refl
one_no_array x (StatementKeeps.blank {v = v} h) level rest = rw (blank_is v level rest, var_again v h _) refl
one_no_array x (StatementKeeps.set {x = y} {a = a} h k) level rest = rw (set_is y a level rest) (begins_no_array (Begins.variable {ts = codes "=" ∷ (spelled a ++ codes ";" ∷ rest)} h))
one_no_array x (StatementKeeps.read {v = v} {a = a} {i = i} h k l) level rest = rw (read_is v a i level rest, var_again v h _) refl
one_no_array x (StatementKeeps.tab {v = v} {x = y} {i = i} h k l) level rest = rw (tab_is v y i level rest, var_again v h _) refl
one_no_array x (StatementKeeps.write {a = a} {i = i} {b = b} h k l) level rest = rw (write_is a i b level rest) (begins_no_array (begins a h _))
one_no_array x (StatementKeeps.div {v = v} {quotient = q} {a = a} {b = b} h k l) level rest = rw (div_is v q a b level rest, var_again v h _) refl
one_no_array x (StatementKeeps.call {v = v} {f = f} {es = es} h k hs) level rest = rw (call_is v f es level rest, var_again v h _) refl
one_no_array x (StatementKeeps.run {f = f} {es = es} k hs) level rest = rw (run_is f es level rest) (function_no_array k _)
one_no_array x (StatementKeeps.chain {arm = y} {arms = ys} {rest = zs} h hs k) level rest = rw (chain_is y ys zs level rest) refl
one_no_array x (StatementKeeps.loop {first = xs} {body = ys} {test = a} hs h ks) level rest = rw (loop_is xs a ys level rest) refl
one_no_array x (StatementKeeps.block {arrays = arrays} {body = ys} hs ks) level rest = rw (block_is arrays ys level rest) refl

-- nor do statements of a block begin with one
all_no_array : (xs : List CStatement) → StatementsKeep xs → (level : ℕ) (rest : Tokens) → begins_array (spelled_all xs level ++ codes "}" ∷ rest) ≡ false
all_no_array xs StatementsKeep.none level rest = refl
all_no_array xs (StatementsKeep.one {x = x} {xs = ys} h hs) level rest =
    rw (append_assoc (spelled_one x level) (spelled_all ys level) (codes "}" ∷ rest)) (one_no_array x h level (spelled_all ys level ++ codes "}" ∷ rest))

-- ---- statements

-- the levels that are enough to read statements and arms
mutual
  -- for a statement
  pub statement_levels : {x : CStatement} → StatementKeeps x → ℕ
  statement_levels (StatementKeeps.decl h k) = suc (levels k)
  statement_levels (StatementKeeps.blank h) = 1
  statement_levels (StatementKeeps.set h k) = suc (levels k)
  statement_levels (StatementKeeps.read h k l) = suc (levels k + levels l)
  statement_levels (StatementKeeps.tab h k l) = suc (levels l)
  statement_levels (StatementKeeps.write h k l) = suc (levels h + (levels k + levels l))
  statement_levels (StatementKeeps.div h k l) = suc (suc (levels k + levels l))
  statement_levels (StatementKeeps.call h k hs) = suc (all_levels hs)
  statement_levels (StatementKeeps.run k hs) = suc (all_levels hs)
  statement_levels (StatementKeeps.chain h hs k) = suc (arm_levels h + (arms_levels hs + suc (block_levels k)))
  statement_levels (StatementKeeps.loop hs h ks) = suc (block_levels hs + suc (suc (levels h + suc (block_levels ks))))
  statement_levels (StatementKeeps.block {arrays = arrays} hs ks) = suc (length arrays + suc (block_levels ks))

  -- for statements in order, without what ends them
  pub block_levels : {xs : List CStatement} → StatementsKeep xs → ℕ
  block_levels StatementsKeep.none = 0
  block_levels (StatementsKeep.one h hs) = suc (statement_levels h + block_levels hs)

  -- for an arm
  pub arm_levels : {x : CArm} → ArmKeeps x → ℕ
  arm_levels (ArmKeeps.arm h hs) = levels h + suc (block_levels hs)

  -- for the arms behind the first
  pub arms_levels : {xs : List CArm} → ArmsKeep xs → ℕ
  arms_levels ArmsKeep.no_arm = 1
  arms_levels (ArmsKeep.one_arm h hs) = suc (arm_levels h + arms_levels hs)

-- at least one
some_arm_level : {xs : List CArm} (h : ArmsKeep xs) → 0 < arms_levels h
unfolding arms_levels
some_arm_level ArmsKeep.no_arm = omega arith
some_arm_level (ArmsKeep.one_arm h hs) = omega arith

-- statements that were read, and the test behind them
abbrev pub block_of : List CStatement → Option Tested → Block
block_of xs last = record { done = xs; last = last }

abbrev pub tested_of : CExpr → List CStatement → Tested
tested_of test body = record { test = test; body = body }

-- Tokens that end the statements before them, and what is read of them.
pub record Ending (k : ℕ) (rest : Tokens) (last : Option Tested) (behind : Tokens) : Type 0 where
  pub no_else : is_next (codes "else") rest ≡ false
  pub reads : (m : ℕ) → k ≤ m → block_at m rest ≡ Some (block_of [] last, behind)

-- tokens that begin with one that begins no statement, and is no `else`
abbrev pub Stops : Tokens → Type 0
Stops ts = (start ts ≡ Start.Other) × (is_next (codes "else") ts ≡ false)

-- such tokens end statements, and none of them is read
pub stops_here : (rest : Tokens) → Stops rest → Ending 1 rest None rest
unfolding block_at
stops_here rest h = record { no_else = h.1; reads = λ m l. at m l }
  where
    at : (m : ℕ) → 1 ≤ m → block_at m rest ≡ Some (block_of [] None, rest)
    at zero l = absurd (omega arith)
    at (suc m) l = rw h.0 refl

-- what stands behind an arm is such tokens
tail_stops : (xs : List CArm) (ys : List CStatement) (level : ℕ) (more : Tokens) → Stops (tail_tokens xs ys level more)
tail_stops [] [] level more = (refl, refl)
tail_stops [] (y ∷ ys) level more = (refl, refl)
tail_stops (x ∷ xs) ys level more = (refl, refl)

-- statements are read again up to tokens that stop them, with so many levels
abbrev ReadAgain : List CStatement → ℕ → Type 0
ReadAgain xs need = (level m : ℕ) → need ≤ m → (rest : Tokens) → Stops rest → block_at m (spelled_all xs level ++ rest) ≡ Some (block_of xs None, rest)

-- and up to whatever ends them
abbrev BlockAgain : List CStatement → ℕ → Type 0
BlockAgain xs need = (level n k : ℕ) (rest : Tokens) (last : Option Tested) (behind : Tokens) → Ending k rest last behind → need + k ≤ n → block_at n (spelled_all xs level ++ rest) ≡ Some (block_of xs last, behind)

-- which is more
stopped : (xs : List CStatement) (need : ℕ) → BlockAgain xs need → ReadAgain xs (suc need)
stopped xs need again level m l rest st =
    let la : need + 1 ≤ m = omega (arith, l) in
    again level m 1 rest None rest (stops_here rest st) la

-- a test and a body
tested_again : (test : CExpr) (h : ExprKeeps test) (body : List CStatement) (need : ℕ) → ReadAgain body need → (level n : ℕ) → levels h + need ≤ n → (rest : Tokens) → Stops rest
    → tested n (value_at n) (block_at n) (tail_at n) (tested_from test body level rest) ≡ Some (tested_of test body, rest)
tested_again test h body need again level n l rest st =
    let la : levels h ≤ n = omega arith in
    let lb : need ≤ n = omega arith in
    rw (expr_again test h n la (codes ")" ∷ codes "{" ∷ (spelled_all body (level + 1) ++ rest)) refl, again (level + 1) n lb rest st) refl

-- the test of a loop ends the statements before it
loop_ends : (test : CExpr) (h : ExprKeeps test) (body : List CStatement) (need : ℕ) → ReadAgain body need → (level : ℕ) (rest : Tokens)
    → Ending (suc (suc (levels h + need))) (codes "if" ∷ tested_from test body level (leave_tokens rest)) (Some (tested_of test body)) (codes "}" ∷ rest)
unfolding block_at
loop_ends test h body need again level rest = record { no_else = refl; reads = λ m l. at m l }
  where
    at : (m : ℕ) → suc (suc (levels h + need)) ≤ m → block_at m (codes "if" ∷ tested_from test body level (leave_tokens rest)) ≡ Some (block_of [] (Some (tested_of test body)), codes "}" ∷ rest)
    at zero l = absurd (omega arith)
    at (suc zero) l = absurd (omega arith)
    at (suc (suc m)) l =
        let la : levels h + need ≤ suc m = omega arith in
        rw (tested_again test h body need again level (suc m) la (leave_tokens rest) (refl, refl)) refl

-- an arm behind others or before them
abbrev tested_in : CArm → Tested
tested_in x = tested_of (out-CArm x).test (out-CArm x).body

mutual
  unfolding block_at statement_levels value_at

  -- a statement before others
  statement_again : (x : CStatement) (h : StatementKeeps x) (level n : ℕ) → statement_levels h ≤ n → (more : Tokens) → is_next (codes "else") more ≡ false
      → block_at (suc n) (spelled_one x level ++ more) ≡ next (block_at n more) (λ b us. Some (block_of (x ∷ b.done) b.last, us))
  statement_again x (StatementKeeps.decl {v = v} {a = a} h k) level n l more q =
      let la : levels k ≤ n = omega arith in
      rw (decl_is v a level more, var_starts v h.ty _, var_again v h _, begins_source (begins a k (codes ";" ∷ more)), value_again a k n la (codes ";" ∷ more)) refl
  statement_again x (StatementKeeps.blank {v = v} h) level n l more q = rw (blank_is v level more, var_starts v h.ty _, var_again v h _) refl
  statement_again x (StatementKeeps.set {x = y} {a = a} h k) level n l more q =
      let la : levels k ≤ n = omega arith in
      rw (set_is y a level more, begins_starts (Begins.variable {ts = codes "=" ∷ (spelled a ++ codes ";" ∷ more)} h), expr_again a k n la (codes ";" ∷ more) refl) refl
  statement_again x (StatementKeeps.read {v = v} {a = a} {i = i} h k j) level n l more q =
      let la : levels k ≤ n = omega arith in
      let lb : levels j ≤ n = omega arith in
      let behind : Tokens = codes "[" ∷ (spelled i ++ codes "]" ∷ codes ";" ∷ more) in
      rw (read_is v a i level more, var_starts v h.ty _, var_again v h _, begins_source (begins a k behind), value_again a k n la behind, expr_again i j n lb (codes "]" ∷ codes ";" ∷ more) refl) refl
  statement_again x (StatementKeeps.tab {v = v} {x = y} {i = i} h k j) level n l more q =
      let lb : levels j ≤ n = omega arith in
      rw (tab_is v y i level more, var_starts v h.ty _, var_again v h _, table_source k, expr_again i j n lb (codes "]" ∷ codes ";" ∷ more) refl) refl
  statement_again x (StatementKeeps.write {a = a} {i = i} {b = b} h j k) level n l more q =
      let la : levels h ≤ n = omega arith in
      let lb : levels j ≤ n = omega arith in
      let lc : levels k ≤ n = omega arith in
      let third : Tokens = codes "]" ∷ codes "=" ∷ (spelled b ++ codes ";" ∷ more) in
      let second : Tokens = codes "[" ∷ (spelled i ++ third) in
      rw (write_is a i b level more, begins_starts (begins a h second), no_equals a h second refl, expr_again a h n la second refl, expr_again i j n lb third refl, expr_again b k n lc (codes ";" ∷ more) refl) refl
  statement_again x (StatementKeeps.div {v = v} {quotient = d} {a = a} {b = b} h j k) level zero l more q = absurd (omega arith)
  statement_again x (StatementKeeps.div {v = v} {quotient = d} {a = a} {b = b} h j k) level (suc n) l more q =
      let la : levels j ≤ n = omega arith in
      let lb : levels k ≤ n = omega arith in
      rw (div_is v d a b level more, var_starts v h.ty _, var_again v h _, paren_again d a j b k n la lb (codes ";" ∷ more)) refl
  statement_again x (StatementKeeps.call {v = v} {f = f} {es = es} h k hs) level n l more q =
      let la : all_levels hs ≤ n = omega arith in
      rw (call_is v f es level more, var_starts v h.ty _, var_again v h _, function_source k, exprs_again es hs n la Closes.paren (codes ";" ∷ more)) refl
  statement_again x (StatementKeeps.run {f = f} {es = es} k hs) level n l more q =
      let la : all_levels hs ≤ n = omega arith in
      rw (run_is f es level more, function_starts k _, exprs_again es hs n la Closes.paren (codes ";" ∷ more)) refl
  statement_again x (StatementKeeps.chain {arm = y} {arms = ys} {rest = zs} h hs k) level n l more q =
      let la : arm_levels h ≤ n = omega arith in
      let lb : arms_levels hs + suc (block_levels k) ≤ n = omega arith in
      let behind : Tokens = tail_tokens ys zs level more in
      rw (chain_is y ys zs level more, arm_again y h level n la behind (tail_stops ys zs level more), tail_again ys hs zs (suc (block_levels k)) (stopped zs (block_levels k) (block_again zs k)) (all_no_break zs k) level n lb more q) refl
  statement_again x (StatementKeeps.loop {first = xs} {body = ys} {test = a} hs h ks) level n l more q =
      let need : ℕ = suc (suc (levels h + suc (block_levels ks))) in
      let la : block_levels hs + need ≤ n = omega arith in
      let behind : Tokens = codes "if" ∷ tested_from a ys (level + 1) (leave_tokens more) in
      let ends : Ending need behind (Some (tested_of a ys)) (codes "}" ∷ more) = loop_ends a h ys (suc (block_levels ks)) (stopped ys (block_levels ks) (block_again ys ks)) (level + 1) more in
      rw (loop_is xs a ys level more, block_again xs hs (level + 1) n need behind (Some (tested_of a ys)) (codes "}" ∷ more) ends la) refl
  statement_again x (StatementKeeps.block {arrays = arrays} {body = ys} hs ks) level n l more q =
      let la : length arrays < n = omega arith in
      let lb : suc (block_levels ks) ≤ n = omega arith in
      let behind : Tokens = spelled_all ys (level + 1) ++ codes "}" ∷ more in
      rw (block_is arrays ys level more, arrays_again arrays hs n la behind (all_no_array ys ks (level + 1) more), stopped ys (block_levels ks) (block_again ys ks) (level + 1) n lb (codes "}" ∷ more) (refl, refl)) refl

  -- statements before tokens that end them
  pub block_again : (xs : List CStatement) (h : StatementsKeep xs) → BlockAgain xs (block_levels h)
  block_again xs StatementsKeep.none level n k rest last behind ends l = let la : k ≤ n = omega (arith, l) in ends.reads n la
  block_again xs (StatementsKeep.one {x = x} {xs = ys} h hs) level zero k rest last behind ends l = absurd (omega arith)
  block_again xs (StatementsKeep.one {x = x} {xs = ys} h hs) level (suc n) k rest last behind ends l =
      let la : statement_levels h ≤ n = omega arith in
      let lb : block_levels hs + k ≤ n = omega arith in
      ap (block_at (suc n)) (append_assoc (spelled_one x level) (spelled_all ys level) rest)
      ∙ statement_again x h level n la (spelled_all ys level ++ rest) (all_no_else ys hs level rest ends.no_else)
      ∙ ap (λ r. next r (λ b us. Some (block_of (x ∷ b.done) b.last, us))) (block_again ys hs level n k rest last behind ends lb)

  -- an arm
  arm_again : (x : CArm) (h : ArmKeeps x) (level n : ℕ) → arm_levels h ≤ n → (rest : Tokens) → Stops rest → tested n (value_at n) (block_at n) (tail_at n) (arm_from x level rest) ≡ Some (tested_in x, rest)
  arm_again x (ArmKeeps.arm {x = y} h hs) level n l rest st = tested_again (out-CArm y).test h (out-CArm y).body (suc (block_levels hs)) (stopped (out-CArm y).body (block_levels hs) (block_again (out-CArm y).body hs)) level n l rest st

  -- what stands behind an arm; the statements behind `else` are read as `again` says
  tail_again : (xs : List CArm) (h : ArmsKeep xs) (ys : List CStatement) (need : ℕ) → ReadAgain ys need → ((level : ℕ) (rest : Tokens) → is_next (codes "break") (spelled_all ys level ++ codes "}" ∷ rest) ≡ false)
      → (level n : ℕ) → arms_levels h + need ≤ n → (more : Tokens) → is_next (codes "else") more ≡ false → tail_at n (tail_tokens xs ys level more) ≡ Some (Tail.Goes xs ys, more)
  tail_again xs h ys need again stays level zero l more q = let p = some_arm_level h in absurd (omega arith)
  tail_again xs ArmsKeep.no_arm [] need again stays level (suc n) l more q = rw q refl
  tail_again xs ArmsKeep.no_arm (y ∷ ys) need again stays level (suc n) l more q =
      let lb : need ≤ n = omega arith in
      rw (stays (level + 1) more, again (level + 1) n lb (codes "}" ∷ more) (refl, refl)) refl
  tail_again xs (ArmsKeep.one_arm {x = x} {xs = zs} h hs) ys need again stays level (suc n) l more q =
      let la : arm_levels h ≤ n = omega arith in
      let lb : arms_levels hs + need ≤ n = omega arith in
      let behind : Tokens = tail_tokens zs ys level more in
      ap (tail_at (suc n)) (tail_else_if x zs ys level more) ∙ rw (arm_again x h level n la behind (tail_stops zs ys level more), tail_again zs hs ys need again stays level n lb more q) refl

-- statements before a token that begins none
pub list_again : (xs : List CStatement) (h : StatementsKeep xs) (level n : ℕ) → suc (block_levels h) ≤ n → (rest : Tokens) → Stops rest → block_at n (spelled_all xs level ++ rest) ≡ Some (block_of xs None, rest)
list_again xs h = stopped xs (block_levels h) (block_again xs h)
