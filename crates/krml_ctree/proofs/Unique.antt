-- Programs that keep the shapes and have equal tokens are equal.
use Rattle.std.proofs.Common.{◌≡◌, ℕ, ◌+◌, ◌≤◌, ◌<◌, ◌^◌, zero, suc, Bool, true, false, not, List, [], ◌∷◌, ◌++◌, map, length, codes, Option, Some, None, refl, sym, ap, ◌∙◌, append_assoc, append-nil, arith}
use Rattle.std.specs.Fmt.{decimal}
use Rattle.std.specs.List.{flat_map, AllByRecursion}
use Rattle.std.specs.Str.{bytes_eq}
use Rattle.krml_trace.specs.Width.{bits}
use Rattle.krml_trace.specs.declared.width.Width.{Width}
use Rattle.krml_ctree.specs.declared.tree.CType.{CType}
use Rattle.krml_ctree.specs.declared.tree.CVar.{CVar}
use Rattle.krml_ctree.specs.declared.tree.CExpr.{CExpr}
use Rattle.krml_ctree.specs.declared.tree.CStruct.{CStruct}
use Rattle.krml_ctree.specs.declared.tree.CTable.{CTable}
use Rattle.krml_ctree.specs.declared.tree.CFun.{CFun}
use Rattle.krml_ctree.specs.declared.tree.CProgram.{CProgram}
use Rattle.krml_ctree.specs.Text.{as_tokens, width_word, number, declarator, behind_comma, separated, result_of, structure, table, parameters, head, prototype, answer, definition, tokens_of}
use Rattle.krml_ctree.specs.Shape.{VarKeeps, FieldKeeps, StructKeeps, TableKeeps, ResultKeeps, AnswerKeeps, FunKeeps, KeepsShapes}
use Rattle.krml_ctree.proofs.Names.{field_no_star, function_no_star, function_no_brace, number_value, number_no_brace}
use Rattle.krml_ctree.proofs.Parse.{Tokens, Reading, is_next, Head, head_at, answer_at, Part, part_of, program_at}
use Rattle.krml_ctree.proofs.Parse as read
use Rattle.krml_ctree.proofs.Many.{many_again, commas_again}
use Rattle.krml_ctree.proofs.Again.{spelled, type_begins, type_no_brace, type_no_void, type_again, type_part, width_again, declarator_is, declarator_again, levels, expr_again}
use Rattle.krml_ctree.proofs.Blocks.{spelled_var, spelled_all, var_again, block_levels, Stops, list_again}

-- ---- structs

-- the tokens of a field
abbrev spelled_field : CVar → Tokens
spelled_field f = spelled_var f ++ codes ";" ∷ []

field_is : (f : CVar) (rest : Tokens) → spelled_field f ++ rest ≡ spelled_var f ++ codes ";" ∷ rest
field_is f rest = append_assoc (spelled_var f) (codes ";" ∷ []) rest

-- a field is read again
field_again : (f : CVar) → FieldKeeps f → (rest : Tokens) → read.field (spelled_field f ++ rest) ≡ Some (f, rest)
field_again f h rest = rw (field_is f rest, declarator_again f h.ty (field_no_star h.name) (codes ";" ∷ rest)) refl

-- whether a field is next
abbrev goes_on : Tokens → Bool
goes_on ts = not (is_next (codes "}") ts)

field_goes : (f : CVar) → FieldKeeps f → (rest : Tokens) → goes_on (spelled_field f ++ rest) ≡ true
field_goes f h rest = rw (field_is f rest, declarator_is f (codes ";" ∷ rest), type_no_brace (type_begins h.ty (f.name ∷ codes ";" ∷ rest))) refl

-- a struct in its parts
structure_is : (s : CStruct) (rest : Tokens) → structure as_tokens s ++ rest ≡ codes "struct" ∷ s.name ∷ codes "{" ∷ (flat_map spelled_field s.fields ++ codes "}" ∷ codes ";" ∷ rest)
structure_is s rest = order (flat_map spelled_field s.fields)
  where
    order : (a : Tokens) → ((codes "struct" ∷ s.name ∷ codes "{" ∷ a) ++ codes "}" ∷ codes ";" ∷ []) ++ rest ≡ codes "struct" ∷ s.name ∷ codes "{" ∷ (a ++ codes "}" ∷ codes ";" ∷ rest)
    order a = simp append_assoc

-- a struct before others
abbrev with_struct : CStruct → CProgram → CProgram
with_struct s p = record { structs = s ∷ p.structs; tables = p.tables; funs = p.funs }

abbrev struct_levels : (s : CStruct) → StructKeeps s → ℕ
struct_levels s h = suc (length s.fields)

struct_again : (s : CStruct) (h : StructKeeps s) (n : ℕ) → struct_levels s h ≤ n → (rest : Tokens) (p : CProgram) → program_at n rest ≡ Some (p, []) → program_at (suc n) (structure as_tokens s ++ rest) ≡ Some (with_struct s p, [])
unfolding program_at
struct_again s h n l rest p q =
    let la : length s.fields < n = omega (arith, l) in
    ap (program_at (suc n)) (structure_is s rest) ∙ rw (many_again goes_on read.field spelled_field FieldKeeps field_goes field_again s.fields h.fields n la (codes "}" ∷ codes ";" ∷ rest) refl, q) refl

-- ---- tables

-- the token of a number
abbrev spelled_number : Width → ℕ → Tokens
spelled_number w n = number w n ∷ []

abbrev Fits : Width → ℕ → Type 0
Fits w n = n < 2 ^ bits w

number_again : (w : Width) (n : ℕ) → Fits w n → (rest : Tokens) → read.number (spelled_number w n ++ rest) ≡ Some (n, rest)
number_again w n h rest = rw (number_value w n h) refl

-- the numbers of a table
abbrev spelled_numbers : Width → List ℕ → Tokens
spelled_numbers w ns = separated as_tokens (map (spelled_number w) ns)

numbers_again : (w : Width) (ns : List ℕ) → AllByRecursion (Fits w) ns → (n : ℕ) → length ns < n → (rest : Tokens)
    → read.numbers n (is_next (codes "}") (spelled_numbers w ns ++ codes "}" ∷ rest)) (spelled_numbers w ns ++ codes "}" ∷ rest) ≡ Some (ns, codes "}" ∷ rest)
numbers_again w [] h n l rest = refl
numbers_again w (m ∷ ms) h n l rest =
    let la : length ms < n = omega (arith, l) in
    rw (number_no_brace w m h.0, number_value w m h.0, commas_again read.number (spelled_number w) (Fits w) (number_again w) ms h.1 n la (codes "}" ∷ rest) refl) refl

-- a table in its parts
table_is : (t : CTable) (rest : Tokens)
    → table as_tokens t ++ rest ≡ codes "static" ∷ codes "const" ∷ width_word t.width ∷ t.name ∷ codes "[" ∷ decimal (length t.nums) ∷ codes "]" ∷ codes "=" ∷ codes "{" ∷ (spelled_numbers t.width t.nums ++ codes "}" ∷ codes ";" ∷ rest)
table_is t rest = order (spelled_numbers t.width t.nums)
  where
    order : (a : Tokens) → ((codes "static" ∷ codes "const" ∷ width_word t.width ∷ t.name ∷ codes "[" ∷ decimal (length t.nums) ∷ codes "]" ∷ codes "=" ∷ codes "{" ∷ (a ++ codes "}" ∷ [])) ++ codes ";" ∷ []) ++ rest
        ≡ codes "static" ∷ codes "const" ∷ width_word t.width ∷ t.name ∷ codes "[" ∷ decimal (length t.nums) ∷ codes "]" ∷ codes "=" ∷ codes "{" ∷ (a ++ codes "}" ∷ codes ";" ∷ rest)
    order a = simp append_assoc

-- a table before others
abbrev with_table : CTable → CProgram → CProgram
with_table t p = record { structs = p.structs; tables = t ∷ p.tables; funs = p.funs }

abbrev table_levels : (t : CTable) → TableKeeps t → ℕ
table_levels t h = suc (length t.nums)

table_again : (t : CTable) (h : TableKeeps t) (n : ℕ) → table_levels t h ≤ n → (rest : Tokens) (p : CProgram) → program_at n rest ≡ Some (p, []) → program_at (suc n) (table as_tokens t ++ rest) ≡ Some (with_table t p, [])
unfolding program_at
table_again t h n l rest p q =
    let la : length t.nums < n = omega (arith, l) in
    ap (program_at (suc n)) (table_is t rest) ∙ rw (width_again t.width, numbers_again t.width t.nums h.nums n la (codes ";" ∷ rest), q) refl

-- ---- functions

-- a result is read again
result_again : (r : Option CType) → ResultKeeps r → (x : List ℕ) (rest : Tokens) → bytes_eq x (codes "*") ≡ false
    → read.result (is_next (codes "void") (result_of as_tokens r ++ x ∷ rest)) (result_of as_tokens r ++ x ∷ rest) ≡ Some (r, x ∷ rest)
result_again r ResultKeeps.no_result x rest q = refl
result_again r (ResultKeeps.a_result {ty = ty} h) x rest q = rw (type_no_void (type_begins h (x ∷ rest)), type_again h x rest q) refl

-- and begins a function
result_part : (r : Option CType) → ResultKeeps r → (x : List ℕ) (rest : Tokens) → bytes_eq x (codes "{") ≡ false → part_of (result_of as_tokens r ++ x ∷ rest) ≡ Part.IsFunction
result_part r ResultKeeps.no_result x rest q = refl
result_part r (ResultKeeps.a_result {ty = ty} h) x rest q = type_part h x rest q

-- parameters are read again
parameters_again : (vs : List CVar) → AllByRecursion VarKeeps vs → (n : ℕ) → length vs < n → (rest : Tokens)
    → read.parameters n (is_next (codes "void") (parameters as_tokens vs ++ codes ")" ∷ rest)) (parameters as_tokens vs ++ codes ")" ∷ rest) ≡ Some (vs, codes ")" ∷ rest)
parameters_again [] h n l rest = refl
parameters_again (v ∷ vs) h n l rest =
    let la : length vs < n = omega (arith, l) in
    let more : Tokens = behind_comma as_tokens (map (declarator as_tokens) vs) in
    let behind : Tokens = more ++ codes ")" ∷ rest in
    let none : is_next (codes "void") (spelled_var v ++ behind) ≡ false = rw (declarator_is v behind) (type_no_void (type_begins h.0.ty (v.name ∷ behind))) in
    rw (append_assoc (spelled_var v) more (codes ")" ∷ rest), none, var_again v h.0 behind, commas_again read.declarator (declarator as_tokens) VarKeeps var_again vs h.1 n la (codes ")" ∷ rest) refl) refl

-- the head of a function
abbrev head_of : CFun → Head
head_of f = record { result = f.result; name = f.name; params = f.params }

-- in its parts
head_is : (f : CFun) (rest : Tokens) → head as_tokens f ++ rest ≡ result_of as_tokens f.result ++ f.name ∷ codes "(" ∷ (parameters as_tokens f.params ++ codes ")" ∷ rest)
head_is f rest = order (result_of as_tokens f.result) (parameters as_tokens f.params)
  where
    order : (a b : Tokens) → ((a ++ f.name ∷ []) ++ codes "(" ∷ (b ++ codes ")" ∷ [])) ++ rest ≡ a ++ f.name ∷ codes "(" ∷ (b ++ codes ")" ∷ rest)
    order a b = simp append_assoc

-- is read again
head_again : (f : CFun) → FunKeeps f → (n : ℕ) → length f.params < n → (rest : Tokens) → head_at n (head as_tokens f ++ rest) ≡ Some (head_of f, rest)
head_again f h n l rest =
    let behind : Tokens = codes "(" ∷ (parameters as_tokens f.params ++ codes ")" ∷ rest) in
    rw (head_is f rest, result_again f.result h.result f.name behind (function_no_star h.name), parameters_again f.params h.params n l rest) refl

-- and begins a function
head_part : (f : CFun) → FunKeeps f → (rest : Tokens) → part_of (head as_tokens f ++ rest) ≡ Part.IsFunction
head_part f h rest = rw (head_is f rest) (result_part f.result h.result f.name (codes "(" ∷ (parameters as_tokens f.params ++ codes ")" ∷ rest)) (function_no_brace h.name))

-- the levels that are enough for an answer and for a function
answer_levels : {r : Option CType} {a : Option CExpr} → AnswerKeeps r a → ℕ
answer_levels AnswerKeeps.nothing = 0
answer_levels (AnswerKeeps.value h) = levels h

abbrev prototype_levels : (f : CFun) → FunKeeps f → ℕ
prototype_levels f h = suc (length f.params)

abbrev function_levels : (f : CFun) → FunKeeps f → ℕ
function_levels f h = suc (length f.params) + (suc (block_levels h.body) + answer_levels h.answer)

-- an answer is read again
answer_again : (r : Option CType) (a : Option CExpr) (h : AnswerKeeps r a) (n : ℕ) → answer_levels h ≤ n → (rest : Tokens) → answer_at n (answer as_tokens a ++ codes "}" ∷ rest) ≡ Some (a, codes "}" ∷ rest)
unfolding answer_levels
answer_again r a AnswerKeeps.nothing n l rest = refl
answer_again r a (AnswerKeeps.value {a = x} h) n l rest = rw (append_assoc (spelled x) (codes ";" ∷ []) (codes "}" ∷ rest), expr_again x h n l (codes ";" ∷ codes "}" ∷ rest) refl) refl

-- behind the body stands no statement
answer_stops : (a : Option CExpr) (rest : Tokens) → Stops (answer as_tokens a ++ codes "}" ∷ rest)
answer_stops None rest = (refl, refl)
answer_stops (Some x) rest = (refl, refl)

-- the order of the pieces of a definition
definition_order : (h b a rest : Tokens) (o c : List ℕ) → (((((h ++ []) ++ o ∷ []) ++ b) ++ a) ++ c ∷ []) ++ rest ≡ h ++ o ∷ (b ++ (a ++ c ∷ rest))
definition_order h b a rest o c = simp (append_assoc, append-nil)

-- a prototype is passed over
abbrev passed : CFun → CProgram → CProgram
passed f p = p

prototype_again : (f : CFun) (h : FunKeeps f) (n : ℕ) → prototype_levels f h ≤ n → (rest : Tokens) (p : CProgram) → program_at n rest ≡ Some (p, []) → program_at (suc n) (prototype as_tokens f ++ rest) ≡ Some (passed f p, [])
unfolding program_at
prototype_again f h n l rest p q =
    let la : length f.params < n = omega (arith, l) in
    rw (append_assoc (head as_tokens f) (codes ";" ∷ []) rest, head_part f h (codes ";" ∷ rest), head_again f h n la (codes ";" ∷ rest), q) refl

-- a definition before others
abbrev with_function : CFun → CProgram → CProgram
with_function f p = record { structs = p.structs; tables = p.tables; funs = f ∷ p.funs }

definition_again : (f : CFun) (h : FunKeeps f) (n : ℕ) → function_levels f h ≤ n → (rest : Tokens) (p : CProgram) → program_at n rest ≡ Some (p, []) → program_at (suc n) (definition as_tokens f ++ rest) ≡ Some (with_function f p, [])
unfolding program_at
definition_again f h n l rest p q =
    let la : length f.params < n = omega (arith, l) in
    let lb : suc (block_levels h.body) ≤ n = omega (arith, l) in
    let lc : answer_levels h.answer ≤ n = omega (arith, l) in
    let behind : Tokens = answer as_tokens f.answer ++ codes "}" ∷ rest in
    let body : Tokens = codes "{" ∷ (spelled_all f.body 1 ++ behind) in
    rw (
      definition_order (head as_tokens f) (spelled_all f.body 1) (answer as_tokens f.answer) rest (codes "{") (codes "}"),
      head_part f h body,
      head_again f h n la body,
      list_again f.body h.body 1 n lb behind (answer_stops f.answer rest),
      answer_again f.result f.answer h.answer n lc rest,
      q,
    ) refl

-- ---- programs

-- parts of one kind before others
abbrev with_all : {A : Type 0} → (A → CProgram → CProgram) → List A → CProgram → CProgram
with_all with_one [] p = p
with_all with_one (x ∷ xs) p = with_one x (with_all with_one xs p)

-- the levels that are enough for them
total : {A : Type 0} {Good : A → Type 0} → ((x : A) → Good x → ℕ) → (xs : List A) → AllByRecursion Good xs → ℕ
total need [] h = 0
total need (x ∷ xs) h = suc (need x h.0 + total need xs h.1)

module _ {A : Type 0} (print : A → Tokens) (Good : A → Type 0) (need : (x : A) → Good x → ℕ) (with_one : A → CProgram → CProgram)
    (one : (x : A) (h : Good x) (n : ℕ) → need x h ≤ n → (rest : Tokens) (p : CProgram) → program_at n rest ≡ Some (p, []) → program_at (suc n) (print x ++ rest) ≡ Some (with_one x p, [])) where
  -- parts of one kind are read again
  parts_again : (xs : List A) (h : AllByRecursion Good xs) (k : ℕ) (rest : Tokens) (p : CProgram) → ((m : ℕ) → k ≤ m → program_at m rest ≡ Some (p, [])) → (n : ℕ) → total need xs h + k ≤ n
      → program_at n (flat_map print xs ++ rest) ≡ Some (with_all with_one xs p, [])
  unfolding total
  parts_again [] h k rest p q n l = let la : k ≤ n = omega (arith, l) in q n la
  parts_again (x ∷ xs) h k rest p q zero l = absurd (omega (arith, l))
  parts_again (x ∷ xs) h k rest p q (suc n) l =
      let la : need x h.0 ≤ n = omega (arith, l) in
      let lb : total need xs h.1 + k ≤ n = omega (arith, l) in
      ap (program_at (suc n)) (append_assoc (print x) (flat_map print xs) rest) ∙ one x h.0 n la (flat_map print xs ++ rest) (with_all with_one xs p) (parts_again xs h.1 k rest p q n lb)

-- a program with these parts before others
with_structs_is : (xs : List CStruct) (p : CProgram) → with_all with_struct xs p ≡ record { structs = xs ++ p.structs; tables = p.tables; funs = p.funs }
with_structs_is [] p = refl
with_structs_is (x ∷ xs) p = ap (with_struct x) (with_structs_is xs p)

with_tables_is : (xs : List CTable) (p : CProgram) → with_all with_table xs p ≡ record { structs = p.structs; tables = xs ++ p.tables; funs = p.funs }
with_tables_is [] p = refl
with_tables_is (x ∷ xs) p = ap (with_table x) (with_tables_is xs p)

with_functions_is : (xs : List CFun) (p : CProgram) → with_all with_function xs p ≡ record { structs = p.structs; tables = p.tables; funs = xs ++ p.funs }
with_functions_is [] p = refl
with_functions_is (x ∷ xs) p = ap (with_function x) (with_functions_is xs p)

passed_is : (xs : List CFun) (p : CProgram) → with_all passed xs p ≡ p
passed_is [] p = refl
passed_is (x ∷ xs) p = passed_is xs p

-- the levels that are enough for a program, part by part
abbrev definitions_levels : (p : CProgram) → KeepsShapes p → ℕ
definitions_levels p h = total function_levels p.funs h.funs + 1

abbrev prototypes_levels : (p : CProgram) → KeepsShapes p → ℕ
prototypes_levels p h = total prototype_levels p.funs h.funs + definitions_levels p h

abbrev tables_levels : (p : CProgram) → KeepsShapes p → ℕ
tables_levels p h = total table_levels p.tables h.tables + prototypes_levels p h

abbrev program_levels : (p : CProgram) → KeepsShapes p → ℕ
program_levels p h = total struct_levels p.structs h.structs + tables_levels p h

-- no token is a program of no part
abbrev no_part : CProgram
no_part = record { structs = []; tables = []; funs = [] }

nothing_again : (m : ℕ) → 1 ≤ m → program_at m [] ≡ Some (no_part, [])
unfolding program_at
nothing_again zero l = absurd (omega arith)
nothing_again (suc m) l = refl

-- the order of the parts of a program, from the left and from the right
program_order : (a b c d : Tokens) → ((a ++ b) ++ c) ++ d ≡ a ++ (b ++ (c ++ d))
program_order a b c d = simp append_assoc

ordered : (n : ℕ) (a b c d : Tokens) (r : Reading CProgram) → program_at n (a ++ (b ++ (c ++ d))) ≡ r → program_at n (((a ++ b) ++ c) ++ d) ≡ r
ordered n a b c d r h = ap (program_at n) (program_order a b c d) ∙ h

-- the program that was read, and no token behind it
abbrev read_all : CProgram → Reading CProgram
read_all p = Some (p, [])

abbrev program_of : Reading CProgram → CProgram
program_of None = no_part
program_of (Some r) = r.0

-- a program that is the same by its parts
as_read : (r : Reading CProgram) (p q : CProgram) → r ≡ read_all p → p ≡ q → r ≡ read_all q
as_read r p q h e = h ∙ ap read_all e

-- the parts of a program from its definitions on, and from its tables on
abbrev from_functions : CProgram → CProgram
from_functions p = record { structs = []; tables = []; funs = p.funs }

abbrev from_tables : CProgram → CProgram
from_tables p = record { structs = []; tables = p.tables; funs = p.funs }

abbrev definitions : CProgram → Tokens
definitions p = flat_map (definition as_tokens) p.funs

abbrev prototypes : CProgram → Tokens
prototypes p = flat_map (prototype as_tokens) p.funs

abbrev tables : CProgram → Tokens
tables p = flat_map (table as_tokens) p.tables

abbrev structs : CProgram → Tokens
structs p = flat_map (structure as_tokens) p.structs

-- the definitions of a program are read again
definitions_read : (p : CProgram) (h : KeepsShapes p) (m : ℕ) → definitions_levels p h ≤ m → program_at m (definitions p) ≡ read_all (from_functions p)
definitions_read p h m l =
    let parts : program_at m (definitions p ++ []) ≡ read_all (with_all with_function p.funs no_part) =
    parts_again (definition as_tokens) FunKeeps function_levels with_function definition_again p.funs h.funs 1 [] no_part nothing_again m l in
    as_read (program_at m (definitions p)) (with_all with_function p.funs no_part) (from_functions p) (ap (program_at m) (sym (append-nil (definitions p))) ∙ parts)
    (with_functions_is p.funs no_part ∙ ap (λ fs. record { structs = []; tables = []; funs = fs }) (append-nil p.funs))

-- and with the prototypes before them
prototypes_read : (p : CProgram) (h : KeepsShapes p) (m : ℕ) → prototypes_levels p h ≤ m → program_at m (prototypes p ++ definitions p) ≡ read_all (from_functions p)
prototypes_read p h m l =
    as_read (program_at m (prototypes p ++ definitions p)) (with_all passed p.funs (from_functions p)) (from_functions p)
    (parts_again (prototype as_tokens) FunKeeps prototype_levels passed prototype_again p.funs h.funs (definitions_levels p h) (definitions p) (from_functions p) (definitions_read p h) m l)
    (passed_is p.funs (from_functions p))

-- and with the tables
tables_read : (p : CProgram) (h : KeepsShapes p) (m : ℕ) → tables_levels p h ≤ m → program_at m (tables p ++ (prototypes p ++ definitions p)) ≡ read_all (from_tables p)
tables_read p h m l =
    as_read (program_at m (tables p ++ (prototypes p ++ definitions p))) (with_all with_table p.tables (from_functions p)) (from_tables p)
    (parts_again (table as_tokens) TableKeeps table_levels with_table table_again p.tables h.tables (prototypes_levels p h) (prototypes p ++ definitions p) (from_functions p) (prototypes_read p h) m l)
    (with_tables_is p.tables (from_functions p) ∙ ap (λ ts. record { structs = []; tables = ts; funs = p.funs }) (append-nil p.tables))

-- and the whole program
program_again : (p : CProgram) (h : KeepsShapes p) (n : ℕ) → program_levels p h ≤ n → program_at n (tokens_of p) ≡ read_all p
program_again p h n l =
    let behind : Tokens = tables p ++ (prototypes p ++ definitions p) in
    ordered n (structs p) (tables p) (prototypes p) (definitions p) (read_all p)
    (as_read (program_at n (structs p ++ behind)) (with_all with_struct p.structs (from_tables p)) p
    (parts_again (structure as_tokens) StructKeeps struct_levels with_struct struct_again p.structs h.structs (tables_levels p h) behind (from_tables p) (tables_read p h) n l)
    (with_structs_is p.structs (from_tables p) ∙ ap (λ ss. record { structs = ss; tables = p.tables; funs = p.funs }) (append-nil p.structs)))

-- equal readings are of equal programs
same_read : (p q : CProgram) → read_all p ≡ read_all q → p ≡ q
same_read p q e = ap program_of e

-- equal tokens are of equal programs
pub same_tokens : (p q : CProgram) → KeepsShapes p → KeepsShapes q → tokens_of p ≡ tokens_of q → p ≡ q
same_tokens p q h k e =
    let m : ℕ = program_levels p h in
    let n : ℕ = program_levels q k in
    let la : m ≤ m + n = omega arith in
    let lb : n ≤ m + n = omega arith in
    same_read p q (sym (program_again p h (m + n) la) ∙ ap (program_at (m + n)) e ∙ program_again q k (m + n) lb)
