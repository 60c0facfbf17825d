-- Bytes that an end tells, over several steps.
use Rattle.std.proofs.Common.{◌≡◌, ℕ, List, ◌++◌, Option, Some, None, ◌-◌, length, take, drop, sym, ap, ◌∙◌, append_assoc}
use Rattle.std.proofs.lemmas.List.{take-append-drop, take_rest}
use Rattle.std.specs.Io.KnownBytes.{Appends}

-- one piece behind another
pub appends_more : (a b c : Option (List ℕ)) (xs ys : List ℕ) → Appends a b xs → Appends b c ys → Appends a c (xs ++ ys)
appends_more None b c xs ys p q = tt
appends_more (Some us) None c xs ys p q = absurd p
appends_more (Some us) (Some vs) None xs ys p q = absurd q
appends_more (Some us) (Some vs) (Some ws) xs ys p q = q ∙ ap (λ zs. zs ++ ys) p ∙ append_assoc us xs ys

-- n more bytes of what was left of a piece
pub prefix_more : (piece prefix rest : List ℕ) (n : ℕ) → piece ≡ prefix ++ rest → piece ≡ (prefix ++ take n rest) ++ take (length rest - n) (drop n rest)
prefix_more piece prefix rest n is =
    is ∙ ap (λ xs. prefix ++ xs) (sym (take-append-drop n rest) ∙ ap (λ xs. take n rest ++ xs) (sym (take_rest rest n))) ∙ sym (append_assoc prefix (take n rest) (take (length rest - n) (drop n rest)))
