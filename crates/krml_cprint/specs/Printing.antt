-- Parts of what is printed, as the printer writes them one behind another.
use Rattle.std.specs.Prelude.{ℕ, zero, suc, ◌+◌, List, [], ◌++◌, codes}
use Rattle.krml_trace.specs.declared.width.Width.{Width}
use Rattle.krml_ctree.specs.declared.tree.CExpr.{CExpr}
use Rattle.krml_ctree.specs.declared.tree.CArm.{CArm}
use Rattle.krml_ctree.specs.declared.tree.CStatement.TheFolds.{fold-CArm}
use Rattle.krml_ctree.specs.declared.tree.CFun.{CFun}
use Rattle.krml_ctree.specs.Text.{Arm, as_text, width_word, group, expr, if_words, else_words, statement_step, arm_step, head}

-- the first of several parts has no comma before it
abbrev pub comma : ℕ → List ℕ
comma zero = []
comma (suc before) = codes ", "

abbrev pub arm_of : CArm → Arm as_text
arm_of = fold-CArm (ℕ → List ℕ) (Arm as_text) (statement_step as_text) (arm_step as_text)

-- the first test has no branch before it
abbrev pub arm_words : ℕ → List ℕ
arm_words zero = if_words as_text
arm_words (suc before) = else_words as_text ++ if_words as_text

-- the line of a test, with so many before it
abbrev pub test_line : ℕ → CExpr → ℕ → List ℕ
test_line before test level = as_text.line level (((arm_words before ++ group as_text (expr as_text test)) ++ codes " ") ++ codes "{")

-- the branch that leaves a loop, and its end
abbrev pub loop_end : ℕ → List ℕ
loop_end level = ((as_text.line (level + 1) (codes "} else {") ++ as_text.line (level + 2) (codes "break;")) ++ as_text.line (level + 1) (codes "}")) ++ as_text.line level (codes "}")

-- static const TYPE NAME
abbrev pub table_words : Width → List ℕ → List ℕ
table_words width name = ((codes "static const " ++ width_word width) ++ codes " ") ++ name

-- the line that opens a definition
abbrev pub opening : CFun → List ℕ
opening f = as_text.line 0 ((head as_text f ++ codes " ") ++ codes "{")
