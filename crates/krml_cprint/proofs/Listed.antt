-- What is still to be printed of several parts.
use Rattle.std.proofs.Common.{◌≡◌, ℕ, zero, suc, ◌+◌, ◌<◌, List, ◌∷◌, ◌++◌, length, get_or, drop, map, refl, sym, ap, ◌∙◌, append_assoc, add-one}
use Rattle.std.proofs.lemmas.List.{drop_more}
use Rattle.krml_ctree.specs.declared.tree.CArm.{CArm}
use Rattle.krml_ctree.specs.Text.{Arm, as_text, arm, behind_comma, separated, ifs, else_ifs}
use Rattle.krml_cprint.specs.Printing.{arm_of, arm_words}

-- the parts from the i-th on
abbrev pub remaining : ℕ → List (List ℕ) → List ℕ
remaining zero xs = separated as_text xs
remaining (suc i) xs = behind_comma as_text xs

abbrev pub remaining_ifs : ℕ → List (Arm as_text) → ℕ → List ℕ
remaining_ifs zero arms level = ifs as_text arms level
remaining_ifs (suc i) arms level = else_ifs as_text arms level

-- the i-th arm, and then those behind it
first_arm : (i : ℕ) (a : Arm as_text) (arms : List (Arm as_text)) (level : ℕ) → remaining_ifs i (a ∷ arms) level ≡ arm as_text (arm_words i) a level ++ remaining_ifs (i + 1) arms level
first_arm zero a arms level = refl
first_arm (suc i) a arms level = let e : suc i + 1 ≡ suc (suc i) = add-one (suc i) in rw e refl

-- one more arm was printed
pub arm_printed : (out now all : List ℕ) (arms : List CArm) (i level : ℕ) (a : CArm) → i < length arms → a ≡ get_or arms i a → now ≡ out ++ arm as_text (arm_words i) (arm_of a) level
    → out ++ remaining_ifs i (map arm_of (drop i arms)) level ≡ all → now ++ remaining_ifs (i + 1) (map arm_of (drop (i + 1) arms)) level ≡ all
arm_printed out now all arms i level a within at printed before =
    let rest : List (Arm as_text) = map arm_of (drop (i + 1) arms) in
    let here : List ℕ = arm as_text (arm_words i) (arm_of a) level in
    let split : drop i arms ≡ a ∷ drop (i + 1) arms = drop_more arms i a within ∙ ap (λ x. x ∷ drop (i + 1) arms) (sym at) in
    let whole : remaining_ifs i (map arm_of (drop i arms)) level ≡ here ++ remaining_ifs (i + 1) rest level =
    ap (λ xs. remaining_ifs i (map arm_of xs) level) split ∙ first_arm i (arm_of a) rest level in
    ap (λ xs. xs ++ remaining_ifs (i + 1) rest level) printed ∙ append_assoc out here (remaining_ifs (i + 1) rest level) ∙ ap (λ xs. out ++ xs) (sym whole) ∙ before
