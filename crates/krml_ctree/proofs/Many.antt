-- As many as stand in tokens are read.
use Rattle.std.proofs.Common.{◌≡◌, ℕ, ◌<◌, zero, suc, Bool, true, false, List, [], ◌∷◌, ◌++◌, map, drop, length, codes, Some, refl, ap, append_assoc, arith}
use Rattle.std.specs.List.{flat_map, AllByRecursion}
use Rattle.krml_ctree.specs.Text.{as_tokens, behind_comma}
use Rattle.krml_ctree.proofs.Parse.{Tokens, Reader, is_next, many, behind_commas}

module _ {A : Type 0} (go : Tokens → Bool) (r : Reader A) (print : A → Tokens) (Good : A → Type 0)
    (goes : (x : A) → Good x → (rest : Tokens) → go (print x ++ rest) ≡ true) (each : (x : A) → Good x → (rest : Tokens) → r (print x ++ rest) ≡ Some (x, rest)) where
  -- those that were written are read again, up to tokens that begin none
  pub many_again : (xs : List A) → AllByRecursion Good xs → (n : ℕ) → length xs < n → (rest : Tokens) → go rest ≡ false → many n go r (flat_map print xs ++ rest) ≡ Some (xs, rest)
  unfolding many
  many_again xs h zero l rest q = absurd (omega arith)
  many_again [] h (suc n) l rest q = rw q refl
  many_again (x ∷ xs) h (suc n) l rest q =
      let la : length xs < n = omega arith in
      let behind : Tokens = flat_map print xs ++ rest in
      rw (append_assoc (print x) (flat_map print xs) rest, goes x h.0 behind, each x h.0 behind, many_again xs h.1 n la rest q) refl

module _ {A : Type 0} (r : Reader A) (print : A → Tokens) (Good : A → Type 0) (each : (x : A) → Good x → (rest : Tokens) → r (print x ++ rest) ≡ Some (x, rest)) where
  -- one behind a comma
  abbrev with_comma : A → Tokens
  with_comma x = codes "," ∷ print x

  -- all behind commas
  commas : (xs : List A) → behind_comma as_tokens (map print xs) ≡ flat_map with_comma xs
  commas [] = refl
  commas (x ∷ xs) = ap (λ us. with_comma x ++ us) (commas xs)

  -- are read again
  pub commas_again : (xs : List A) → AllByRecursion Good xs → (n : ℕ) → length xs < n → (rest : Tokens) → is_next (codes ",") rest ≡ false → behind_commas n r (behind_comma as_tokens (map print xs) ++ rest) ≡ Some (xs, rest)
  commas_again xs h n l rest q =
      rw (commas xs) (many_again (is_next (codes ",")) (λ us. r (drop 1 us)) with_comma Good (λ x k us. refl) (λ x k us. each x k us) xs h n l rest q)
