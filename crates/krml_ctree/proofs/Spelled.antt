-- The text of a program spells it, and a text spells at most one program.
use Rattle.std.proofs.Common.{◌≡◌, ◌↔◌, ℕ, List, [], ◌∷◌, refl, sym, ap, ◌∙◌, subst, append-nil}
use Rattle.std.proofs.lemmas.List.{append_cancel_left}
use Rattle.krml_ctree.specs.declared.tree.CProgram.{CProgram}
use Rattle.krml_ctree.specs.Text.{as_text, as_tokens, program, include_line, text_of, tokens_of}
use Rattle.krml_ctree.specs.Tokens.{tokens}
use Rattle.krml_ctree.specs.Shape.{KeepsShapes}
use Rattle.krml_ctree.specs.WellFormed.{WellFormed}
use Rattle.krml_ctree.specs.Spelling.{EndsLine, SpellsProgram}
use Rattle.krml_ctree.proofs.Cut.{line_feed}
use Rattle.krml_ctree.proofs.Written.{program_cuts}
use Rattle.krml_ctree.proofs.Unique.{same_tokens}

-- the tokens behind the first line
pub tokens_again : (p : CProgram) → KeepsShapes p → tokens (10 ∷ program as_text p) ≡ tokens_of p
tokens_again p h =
    line_feed.cut (program as_text p) tt
    ∙ ap tokens (sym (append-nil (program as_text p)))
    ∙ (program_cuts p h).cut [] tt
    ∙ append-nil (program as_tokens p)

-- the text of a program spells it
pub spells_text : (p : CProgram) → KeepsShapes p → SpellsProgram (text_of p) p
spells_text p h = record { behind = 10 ∷ program as_text p; begins = refl; ends_line = EndsLine.line_end; has = tokens_again p h; keeps = h }

-- and a text spells at most one
pub same_text : (text : List ℕ) (p q : CProgram) → SpellsProgram text p → SpellsProgram text q → p ≡ q
same_text text p q h k =
    let same : h.behind ≡ k.behind = append_cancel_left include_line h.behind k.behind (sym h.begins ∙ k.begins) in
    same_tokens p q h.keeps k.keeps (sym h.has ∙ ap tokens same ∙ k.has)

-- the text of a well formed program spells it alone
pub text_alone : (p q : CProgram) → WellFormed p → SpellsProgram (text_of p) q ↔ (q ≡ p)
text_alone p q w =
    let own : SpellsProgram (text_of p) p = spells_text p w.shapes in
    (λ h. same_text (text_of p) q p h own, λ same. subst (SpellsProgram (text_of p)) (sym same) own)
