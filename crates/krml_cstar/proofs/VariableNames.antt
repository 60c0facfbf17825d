-- The numbers of variables' names: `vk` and `vk_NAME` have the number k, so names with different numbers differ.
use Rattle.std.proofs.Common.{◌≡◌, ℕ, ◌<◌, ◌^◌, ◌==◌, Bool, true, false, if◌then◌else◌, List, [], ◌∷◌, ◌++◌, refl, sym, ap, ◌∙◌, codes}
use Rattle.std.proofs.lemmas.Bool.{lt-ltb, false_from_ne_true}
use Rattle.std.proofs.lemmas.Fmt.{decimal_is_IsNumeral}
use Rattle.std.proofs.lemmas.List.{append-nil, append_assoc}
use Rattle.std.proofs.lemmas.Slice.Eq.{bytes_eq-Decides}
use Rattle.std.specs.Char.{is_digit}
use Rattle.std.specs.Fmt.{decimal}
use Rattle.std.specs.Str.{bytes_eq}
use Rattle.std.specs.Str.Parse.{AllDigits, digits_value}
use Rattle.krml_cstar.specs.Variables.{plain, named}

-- the digits at the front of a text
abbrev pub leading : List ℕ → List ℕ
leading [] = []
leading (b ∷ bs) = if is_digit b 10 then b ∷ leading bs else []

-- what the digits behind a name's first byte write
abbrev pub number_of : List ℕ → ℕ
number_of [] = 0
number_of (b ∷ bs) = digits_value 10 (leading bs)

-- digits before something that does not begin with one
leading-append : (ds rest : List ℕ) → AllDigits 10 ds → leading rest ≡ [] → leading (ds ++ rest) ≡ ds
leading-append [] rest h e = e
leading-append (d ∷ ds) rest h e = let one : is_digit d 10 ≡ true = lt-ltb _ 10 h.0 in let ih = leading-append ds rest h.1 e in rw (one, ih)

-- a decimal number, and then no digit
number_at : (k : ℕ) (rest : List ℕ) → k < 2 ^ 64 → leading rest ≡ [] → digits_value 10 (leading (decimal k ++ rest)) ≡ k
number_at k rest small e = let n = decimal_is_IsNumeral k small in ap (digits_value 10) (leading-append (decimal k) rest n.0.1 e) ∙ n.1

-- `vk` has the number k
pub number-plain : (k : ℕ) → k < 2 ^ 64 → number_of (plain k) ≡ k
number-plain k small = ap (λ ds. digits_value 10 (leading ds)) (sym (append-nil (decimal k))) ∙ number_at k [] small refl

-- and so has what a variable of the source becomes
pub number-named : (k : ℕ) (x : List ℕ) → k < 2 ^ 64 → number_of (named k x) ≡ k
number-named k [] small = number-plain k small
number-named k (b ∷ bs) small = at (b == 39)
  where
    at : (quoted : Bool) → number_of (if quoted then plain k else plain k ++ codes "_" ++ (b ∷ bs)) ≡ k
    at true = number-plain k small
    at false = ap (λ ds. digits_value 10 (leading ds)) (append_assoc (decimal k) (codes "_") (b ∷ bs)) ∙ number_at k (codes "_" ++ (b ∷ bs)) small refl

-- ---- names are told apart

pub name_is : (x y : List ℕ) → bytes_eq x y ≡ true → x ≡ y
name_is x y e = (bytes_eq-Decides x y).0 e

pub name_other : (x y : List ℕ) → (x ≡ y → ⊥) → bytes_eq x y ≡ false
name_other x y h = false_from_ne_true (bytes_eq x y) (λ e. h ((bytes_eq-Decides x y).0 e))
