-- Scopes that grow and are cut back.
use Rattle.std.proofs.Common.{◌≡◌, ℕ, ◌-◌, List, ◌++◌, length, take, drop, reverse, sym, ap, ◌∙◌, arith}
use Rattle.std.proofs.lemmas.List.{take-append-drop, reverse-append, length-reverse, length-drop, length-append, drop_at}
use Rattle.krml_ast.specs.Typing.{Vars}
use Rattle.krml_intern.specs.Scope.{cut}

-- what is kept of a list, the last first
pub kept : {A : Type 0} (n : ℕ) (xs : List A) → reverse (take n xs) ≡ drop (length (reverse xs) - n) (reverse xs)
kept n xs =
    let k : ℕ = length (reverse xs) - n in
    let k_is : length (reverse (drop n xs)) ≡ k = length-reverse (drop n xs) ∙ length-drop n xs ∙ ap (λ m. m - n) (sym (length-reverse xs)) in
    sym (ap (λ ys. drop k (reverse ys)) (sym (take-append-drop n xs)) ∙ ap (λ ys. drop k ys) (reverse-append (take n xs) (drop n xs))
    ∙ drop_at (reverse (drop n xs)) (reverse (take n xs)) k k_is)

-- newer variables are cut off
pub cut_off : (more vars : Vars) → cut (length vars) (more ++ vars) ≡ vars
cut_off more vars =
    let k_is : length more ≡ length (more ++ vars) - length vars = let sum = length-append more vars in omega (arith, sum) in
    drop_at more vars (length (more ++ vars) - length vars) k_is
