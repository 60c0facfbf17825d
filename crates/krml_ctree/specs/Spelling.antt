-- What programs a text spells.
use Rattle.std.specs.Prelude.{◌≡◌, ◌↔◌, ℕ, List, [], ◌∷◌, ◌++◌}
use Rattle.krml_ctree.specs.declared.tree.CProgram.{CProgram}
use Rattle.krml_ctree.specs.Shape.{KeepsShapes}
use Rattle.krml_ctree.specs.Text.{include_line, tokens_of}
use Rattle.krml_ctree.specs.Tokens.{tokens}

-- An LF or the text's end.
pub data EndsLine : List ℕ → Type 0 where
  text_end : EndsLine []
  line_end : {rest : List ℕ} → EndsLine (10 ∷ rest)

-- The text is the include line, and then the program's tokens with white space between.
pub record SpellsProgram (text : List ℕ) (p : CProgram) : Type 0 where
  pub behind : List ℕ
  pub begins : text ≡ include_line ++ behind
  pub ends_line : EndsLine behind
  pub has : tokens behind ≡ tokens_of p
  pub keeps : KeepsShapes p

-- A text spells a program, and no other.
abbrev pub SpelledAlone : List ℕ → CProgram → Type 0
SpelledAlone text p = (q : CProgram) → SpellsProgram text q ↔ (q ≡ p)
