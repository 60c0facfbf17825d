-- The names of a program's variables: which are names of variables, and that those with different numbers are distinct.
use Rattle.std.proofs.Common.{◌≡◌, ℕ, zero, suc, ◌+◌, ◌<◌, ◌≤◌, ◌^◌, ◌==◌, Bool, true, false, if◌then◌else◌, ◌&&◌, List, [], ◌∷◌, ◌++◌, codes, get_or, refl, sym, ap, subst, inl, inr, append_assoc, arith, rules}
use Rattle.std.proofs.lemmas.Bool.Decides.{nat_tests}
use Rattle.std.proofs.lemmas.Fmt.{digits_decimal, decimal_digit, first_decimal}
use Rattle.std.proofs.lemmas.Str.Parse.{IsNumeralModel, numerals_by_value}
use Rattle.std.specs.Fmt.{decimal}
use Rattle.std.specs.List.{list_all, AllByRecursion, IsDistinct}
use Rattle.std.specs.Str.{bytes_eq}
use Rattle.std.specs.Str.Parse.{digits_value}
use Rattle.krml_trace.specs.Byte.{is_digit}
use Rattle.krml_ast.specs.FileTypes as file
use Rattle.krml_ctree.specs.Shape.{is_decimal, IsVariable}
use Rattle.krml_meaning.proofs.Lists.{each_append}
use Rattle.krml_cstar.specs.Variables.{plain, named}
use Rattle.krml_cstar.proofs.VariableNames.{number_of, name_other}

-- ---- names of variables

-- decimal digits and their value
digits_model : IsNumeralModel (λ ds. list_all is_digit ds ≡ true) (digits_value 10)
digits_model = numerals_by_value _ (search rules)

first_true : (a b : Bool) → (a && b) ≡ true → a ≡ true
first_true true b h = refl
first_true false b h = h

-- a number in decimal has no leading zeros
pub decimal_is : (k : ℕ) → k < 2 ^ 64 → is_decimal (decimal k) ≡ true
decimal_is zero small = rw (decimal_digit 0 (omega arith)) refl
decimal_is (suc k) small = at (decimal (suc k)) (digits_decimal digits_model (suc k) small) (first_decimal (suc k) (omega arith) small)
  where
    at : (w : List ℕ) → list_all is_digit w ≡ true → 48 < get_or w 0 0 → is_decimal w ≡ true
    at [] h lt = absurd (omega (arith, lt))
    at (b ∷ []) h lt = first_true (is_digit b) true h
    at (b ∷ c ∷ w) h lt = let no : (b == 48) ≡ false = grind (arith, nat_tests) in rw no h

-- `vk` is the name of a variable
pub plain_is : (k : ℕ) → k < 2 ^ 64 → IsVariable (plain k)
plain_is k small = IsVariable.plain (decimal k) (decimal_is k small)

-- and so is `vk_NAME`
pub named_is : (k : ℕ) (x : List ℕ) → k < 2 ^ 64 → file.IsVariable x → IsVariable (named k x)
named_is k [] small h = plain_is k small
named_is k (b ∷ bs) small (inl h) = at (b == 39)
  where
    at : (quote : Bool) → IsVariable (if quote then plain k else plain k ++ codes "_" ++ (b ∷ bs))
    at true = plain_is k small
    at false = subst IsVariable (sym (append_assoc (plain k) (codes "_") (b ∷ bs))) (IsVariable.named (decimal k) (b ∷ bs) (decimal_is k small) h)
named_is k (b ∷ bs) small (inr h) = subst (λ x. IsVariable (named k x)) (sym h.is) (plain_is k small)

-- ---- distinct names

-- names with numbers from n on and below m
abbrev Between : ℕ → ℕ → List (List ℕ) → Type 0
Between n m xs = AllByRecursion (λ x. (n ≤ number_of x) × (number_of x < m)) xs

-- Distinct names with numbers from n on and below m.
pub record Fresh (n m : ℕ) (xs : List (List ℕ)) : Type 0 where
  pub range : Between n m xs
  pub distinct : IsDistinct bytes_eq xs

-- numbers between two are between others that are further apart
between_wider : (i n m j : ℕ) (xs : List (List ℕ)) → i ≤ n → m ≤ j → Between n m xs → Between i j xs
between_wider i n m j [] le ge h = tt
between_wider i n m j (x ∷ xs) le ge h = let from = h.0.0 in let to = h.0.1 in ((omega (arith, le, from), omega (arith, to, ge)), between_wider i n m j xs le ge h.1)

-- a name with a number below k is none of those from k on
apart : (x : List ℕ) (k m : ℕ) (ys : List (List ℕ)) → number_of x < k → Between k m ys → AllByRecursion (λ y. bytes_eq x y ≡ false) ys
apart x k m [] lt h = tt
apart x k m (y ∷ ys) lt h =
    let from = h.0.0 in
    (name_other x y (λ e. let q : number_of x ≡ number_of y = ap number_of e in absurd (omega (arith, lt, from, q))), apart x k m ys lt h.1)

-- distinct names below k and distinct names from k on are distinct
distinct_both : (n k m : ℕ) (xs ys : List (List ℕ)) → Between n k xs → Between k m ys → IsDistinct bytes_eq xs → IsDistinct bytes_eq ys → IsDistinct bytes_eq (xs ++ ys)
unfolding IsDistinct
distinct_both n k m [] ys p q dx dy = dy
distinct_both n k m (x ∷ xs) ys p q dx dy = (each_append (λ y. bytes_eq x y ≡ false) xs ys dx.0 (apart x k m ys p.0.1 q), distinct_both n k m xs ys p.1 q dx.1 dy)

-- no name
pub fresh_none : (n m : ℕ) → Fresh n m []
unfolding IsDistinct
fresh_none n m = record { range = tt; distinct = tt }

-- one name
pub fresh_one : (n : ℕ) (x : List ℕ) → number_of x ≡ n → Fresh n (n + 1) (x ∷ [])
unfolding IsDistinct
fresh_one n x e = record { range = ((omega (arith, e), omega (arith, e)), tt); distinct = (tt, tt) }

-- names below k and names from k on
pub fresh_both : (n k m : ℕ) (xs ys : List (List ℕ)) → n ≤ k → k ≤ m → Fresh n k xs → Fresh k m ys → Fresh n m (xs ++ ys)
fresh_both n k m xs ys le ge p q = record {
  range = each_append (λ x. (n ≤ number_of x) × (number_of x < m)) xs ys (between_wider n n k m xs (omega arith) ge p.range) (between_wider n k m m ys le (omega arith) q.range);
  distinct = distinct_both n k m xs ys p.range q.range p.distinct q.distinct;
}
