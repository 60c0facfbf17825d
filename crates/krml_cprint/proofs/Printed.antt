-- What is printed of an equation, of a table, and of statements that have statements, part by part.
use Rattle.std.proofs.Common.{◌≡◌, ℕ, ◌+◌, ◌*◌, List, ◌++◌, map, length, replicate, codes, refl, sym, ap, ◌∙◌, append_assoc}
use Rattle.std.specs.Fmt.{decimal}
use Rattle.std.specs.List.{flat_map}
use Rattle.krml_ctree.specs.declared.tree.CArray.{CArray}
use Rattle.krml_ctree.specs.declared.tree.CExpr.{CExpr}
use Rattle.krml_ctree.specs.declared.tree.CStatement.{CStatement}
use Rattle.krml_ctree.specs.declared.tree.CStatement.TheVariants as s
use Rattle.krml_ctree.specs.declared.tree.CStatement.TheFolds.{fold_out-CStatement}
use Rattle.krml_ctree.specs.declared.tree.CTable.{CTable}
use Rattle.krml_ctree.specs.Text.{as_text, number, separated, ended, closing, else_line, array, equation, statement, statements, table}
use Rattle.krml_cprint.specs.Printing.{test_line, loop_end, table_words}

-- ---- equations

equation_parts : (out margin a space sign b semicolon end : List ℕ)
    → ((out ++ ((margin ++ a) ++ (space ++ (sign ++ space)))) ++ b) ++ (semicolon ++ end) ≡ out ++ ((margin ++ (((((a ++ space) ++ sign) ++ space) ++ b) ++ semicolon)) ++ end)
equation_parts out margin a space sign b semicolon end = simp append_assoc

pub equation_printed : (out left value now a b : List ℕ) (level : ℕ) → left ≡ out ++ ((replicate (2 * level) 32 ++ a) ++ codes " = ") → value ≡ left ++ b → now ≡ value ++ codes ";\n"
    → now ≡ out ++ equation as_text level a b
equation_printed out left value now a b level h1 h2 h3 =
    h3 ∙ ap (λ xs. xs ++ codes ";\n") (h2 ∙ ap (λ xs. xs ++ b) h1) ∙ equation_parts out (replicate (2 * level) 32) a (codes " ") (codes "=") b (codes ";") (codes "\n")

assignment_parts : (out margin a space sign b semicolon end : List ℕ)
    → ((out ++ margin) ++ a) ++ (((space ++ (sign ++ space)) ++ b) ++ (semicolon ++ end)) ≡ out ++ ((margin ++ (((((a ++ space) ++ sign) ++ space) ++ b) ++ semicolon)) ++ end)
assignment_parts out margin a space sign b semicolon end = simp append_assoc

pub assignment_printed : (out one two now a b : List ℕ) (level : ℕ) → one ≡ out ++ replicate (2 * level) 32 → two ≡ one ++ a → now ≡ two ++ ((codes " = " ++ b) ++ codes ";\n")
    → now ≡ out ++ equation as_text level a b
assignment_printed out one two now a b level h1 h2 h3 =
    h3 ∙ ap (λ xs. xs ++ ((codes " = " ++ b) ++ codes ";\n")) (h2 ∙ ap (λ xs. xs ++ a) h1) ∙ assignment_parts out (replicate (2 * level) 32) a (codes " ") (codes "=") b (codes ";") (codes "\n")

-- ---- tables

table_parts : (out words bracket len close space sign brace nums end semicolon line : List ℕ)
    → (((out ++ words) ++ ((bracket ++ len) ++ (close ++ (space ++ (sign ++ (space ++ brace)))))) ++ nums) ++ (end ++ (semicolon ++ line))
    ≡ out ++ (((((((words ++ ((bracket ++ len) ++ close)) ++ space) ++ sign) ++ space) ++ ((brace ++ nums) ++ end)) ++ semicolon) ++ line)
table_parts out words bracket len close space sign brace nums end semicolon line = simp append_assoc

pub table_printed : (out now : List ℕ) (t : CTable)
    → now ≡ (((out ++ table_words t.width t.name) ++ ((codes "[" ++ decimal (length t.nums)) ++ codes "] = {")) ++ separated as_text (map (number t.width) t.nums)) ++ codes "};\n" → now ≡ out ++ table as_text t
table_printed out now t printed =
    printed
    ∙ table_parts out (table_words t.width t.name) (codes "[") (decimal (length t.nums)) (codes "]") (codes " ") (codes "=") (codes "{") (separated as_text (map (number t.width) t.nums)) (codes "}") (codes ";") (codes "\n")

-- ---- loops

loop_is : (first : List CStatement) (test : CExpr) (body : List CStatement) (level : ℕ)
    → statement as_text (s.Loop first test body) level
    ≡ (((((as_text.line level (codes "for (;;) {") ++ statements as_text first (level + 1)) ++ (test_line 0 test (level + 1) ++ statements as_text body (level + 1 + 1))) ++ else_line as_text (level + 1)) ++ ended as_text (level + 2) (codes "break")) ++ closing as_text (level + 1)) ++ closing as_text level
loop_is first test body level = rw (fold_out-CStatement, s.outs-Loop) refl

loop_parts : (out a b c d e f g h : List ℕ) → (out ++ (a ++ b)) ++ ((c ++ d) ++ (((e ++ f) ++ g) ++ h)) ≡ out ++ ((((((a ++ b) ++ (c ++ d)) ++ e) ++ f) ++ g) ++ h)
loop_parts out a b c d e f g h = simp append_assoc

pub loop_printed : (out start now : List ℕ) (loop : CStatement) (first : List CStatement) (test : CExpr) (body : List CStatement) (level : ℕ) → loop ≡ s.Loop first test body
    → start ≡ out ++ (as_text.line level (codes "for (;;) {") ++ statements as_text first (level + 1))
    → now ≡ start ++ ((test_line 0 test (level + 1) ++ statements as_text body (level + 1 + 1)) ++ loop_end level)
    → now ≡ out ++ statement as_text loop level
loop_printed out start now loop first test body level is started printed =
    printed
    ∙ ap (λ xs. xs ++ ((test_line 0 test (level + 1) ++ statements as_text body (level + 1 + 1)) ++ loop_end level)) started
    ∙ loop_parts out (as_text.line level (codes "for (;;) {")) (statements as_text first (level + 1)) (test_line 0 test (level + 1)) (statements as_text body (level + 1 + 1)) (else_line as_text (level + 1)) (ended as_text (level + 2) (codes "break")) (closing as_text (level + 1)) (closing as_text level)
    ∙ ap (λ xs. out ++ xs) (sym (loop_is first test body level) ∙ ap (λ l. statement as_text l level) (sym is))

-- ---- blocks

block_is : (arrays : List CArray) (body : List CStatement) (level : ℕ)
    → statement as_text (s.Block arrays body) level
    ≡ ((as_text.line level (codes "{") ++ flat_map (λ a. ended as_text (level + 1) (array as_text a)) arrays) ++ statements as_text body (level + 1)) ++ closing as_text level
block_is arrays body level = rw (fold_out-CStatement, s.outs-Block) refl

block_parts : (out a b c d : List ℕ) → (out ++ (a ++ b)) ++ (c ++ d) ≡ out ++ (((a ++ b) ++ c) ++ d)
block_parts out a b c d = simp append_assoc

pub block_printed : (out start now : List ℕ) (block : CStatement) (arrays : List CArray) (body : List CStatement) (level : ℕ) → block ≡ s.Block arrays body
    → start ≡ out ++ (as_text.line level (codes "{") ++ flat_map (λ a. ended as_text (level + 1) (array as_text a)) arrays)
    → now ≡ start ++ (statements as_text body (level + 1) ++ closing as_text level)
    → now ≡ out ++ statement as_text block level
block_printed out start now block arrays body level is started printed =
    printed
    ∙ ap (λ xs. xs ++ (statements as_text body (level + 1) ++ closing as_text level)) started
    ∙ block_parts out (as_text.line level (codes "{")) (flat_map (λ a. ended as_text (level + 1) (array as_text a)) arrays) (statements as_text body (level + 1)) (closing as_text level)
    ∙ ap (λ xs. out ++ xs) (sym (block_is arrays body level) ∙ ap (λ b. statement as_text b level) (sym is))
