-- Numbers in digits, and what the standard library reads them as.
use Rattle.std.proofs.Common.{◌≡◌, ◌≢◌, ℕ, zero, suc, ◌<◌, ◌≤◌, ◌^◌, Bool, true, false, cond, nat_lt, nat_le, ◌==◌, get_or, List, [], ◌∷◌, length, Some, Result, Ok, Err, refl, sym, ap, ◌∙◌, subst, rules, arith}
use Rattle.std.specs.Char.{digit_value, is_ascii_hexdigit}
use Rattle.std.specs.Fmt.{decimal}
use Rattle.std.specs.List.{list_all}
use Rattle.std.specs.Result.{OkIff, result_ok}
use Rattle.std.specs.Str.{IsUtf8, IsAscii}
use Rattle.std.specs.Str.Parse.{AllDigits, digits_value, ParsesUnsigned}
use Rattle.std.proofs.lemmas.Bool.{and_parts}
use Rattle.std.proofs.lemmas.Bool.Decides.{nat_tests}
use Rattle.std.proofs.lemmas.Str.{IsUtf8-from_ascii}
use Rattle.std.proofs.lemmas.Fmt.{IsAscii-from_digits, digits_decimal, digits_value-decimal, decimal-digits_value, first_decimal, decimal_nonempty, decimal_digit}
use Rattle.std.proofs.lemmas.Int.Digits.{digits_value-lt}
use Rattle.std.proofs.lemmas.Str.Parse.{IsNumeralModel, numerals_by_value, parse_digits, without_leading_plus_none}
use Rattle.std.proofs.lemmas.Grind.{common_steps}
use Rattle.std.proofs.Math.Nat.{pow-le-pow_right}
use Rattle.krml_forms.specs.declared.form.Form.{Form, out-Form}
use Rattle.krml_forms.specs.declared.form.Form.TheOpen.{Form-F}
use Rattle.krml_forms.specs.declared.form.Form.TheVariants.{Atom, outs-Atom}
use Rattle.krml_syntax.specs.Number.{is_hex_digit, IsNumber, is_digits, is_plain, value_of, decimal_of, are_hex_digits, hex_value_of, hexadecimal_of, number_of, number_in, number_at}
use Rattle.krml_forms.proofs.Layer.{is_atom}
use Rattle.krml_syntax.proofs.Only.{Only, only_none, only_some, only_if, only_more}

own : IsNumeralModel (λ ds. is_digits ds ≡ true) (digits_value 10)
own = numerals_by_value _ (search rules)

-- ---- what the standard library parses

nonempty : (bs : List ℕ) → is_plain bs ≡ true → 0 < length bs
nonempty [] h = absurd (cc)
nonempty (b ∷ bs) h = omega arith

parsed : {E : Type 0} (bs : List ℕ) (r : Result ℕ E) → 0 < length bs → OkIff r ((0 < length bs) × (digits_value 10 bs < 2 ^ 64)) (digits_value 10 bs) → result_ok r ≡ value_of bs
unfolding value_of
parsed bs (Ok x) l h = grind (arith, common_steps)
parsed bs (Err e) l h = grind (arith, common_steps)

pub parse_is_value : {E : Type 0} (bs : List ℕ) (r : Result ℕ E) → is_digits bs ≡ true → is_plain bs ≡ true → ParsesUnsigned 64 10 bs r → result_ok r ≡ value_of bs
parse_is_value bs r digits plain h = parsed bs r (nonempty bs plain) (parse_digits own 64 bs r h digits)

pub digits_are_text : (bs : List ℕ) → is_digits bs ≡ true → IsUtf8 bs
digits_are_text bs digits = IsUtf8-from_ascii bs (IsAscii-from_digits bs (own.to bs digits))

hex_digit : (b : ℕ) → is_ascii_hexdigit b ≡ true → (digit_value b < 16) × (b < 128) × (b ≢ 43)
hex_digit b h = grind (arith, nat_tests)

hex_digits : (bs : List ℕ) → are_hex_digits bs ≡ true → AllDigits 16 bs
hex_digits [] h = tt
hex_digits (b ∷ bs) h =
    let parts = and_parts (is_ascii_hexdigit b) (are_hex_digits bs) h in
    ((hex_digit b parts.0).0, hex_digits bs parts.1)

hex_ascii : (bs : List ℕ) → are_hex_digits bs ≡ true → IsAscii bs
hex_ascii [] h k = omega arith
hex_ascii (b ∷ bs) h zero = (hex_digit b (and_parts (is_ascii_hexdigit b) (are_hex_digits bs) h).0).1
hex_ascii (b ∷ bs) h (suc k) = hex_ascii bs (and_parts (is_ascii_hexdigit b) (are_hex_digits bs) h).1 k

no_plus : (bs : List ℕ) → are_hex_digits bs ≡ true → get_or bs 0 0 ≢ 43
no_plus [] h = λ e. absurd (omega arith)
no_plus (b ∷ bs) h = (hex_digit b (and_parts (is_ascii_hexdigit b) (are_hex_digits bs) h).0).2

hex_below : (bs : List ℕ) → are_hex_digits bs ≡ true → length bs ≤ 16 → digits_value 16 bs < 2 ^ 64
hex_below bs h few = omega (arith, digits_value-lt 16 bs (hex_digits bs h), pow-le-pow_right {n = 16} (omega arith) few)

pub hex_are_text : (bs : List ℕ) → are_hex_digits bs ≡ true → IsUtf8 bs
hex_are_text bs h = IsUtf8-from_ascii bs (hex_ascii bs h)

hex_parsed : {E : Type 0} {P : Type 0} (bs : List ℕ) (r : Result ℕ E) → P → OkIff r P (digits_value 16 bs) → result_ok r ≡ hex_value_of bs
hex_parsed bs (Ok x) p h = ap Some h.1
hex_parsed bs (Err e) p h = absurd (h p)

pub hex_parse_is_value : {E : Type 0} (bs : List ℕ) (r : Result ℕ E) → 1 ≤ length bs → length bs ≤ 16 → are_hex_digits bs ≡ true → ParsesUnsigned 64 16 bs r → result_ok r ≡ hex_value_of bs
hex_parse_is_value bs r some few h p =
    let nonempty : 0 < length bs = omega arith in
    let plain = without_leading_plus_none bs (no_plus bs h) in
    hex_parsed bs r ((nonempty, hex_digits bs h), hex_below bs h few) (rw plain at p)

-- ---- what a word is read as, it writes

plain_from : (w : List ℕ) → is_plain w ≡ true → get_or w 0 0 ≡ 48 → length w ≡ 1
plain_from [] h z = absurd (cc)
plain_from (b ∷ []) h z = refl
plain_from (b ∷ c ∷ bs) h z = absurd (grind (arith, nat_tests))

decimal_only : (w : List ℕ) → is_digits w ≡ true → Only (IsNumber w) (decimal_of w)
unfolding value_of
decimal_only w d =
    only_if (is_plain w) (λ p. only_if (nat_lt (digits_value 10 w) (2 ^ 64)) (λ l.
    let below : digits_value 10 w < 2 ^ 64 = grind (arith, nat_tests) in
    only_some (digits_value 10 w) (subst (λ v. IsNumber v (digits_value 10 w)) (decimal-digits_value own w d (nonempty w p) (plain_from w p) below) IsNumber.decimal_digits)))

same_class : (b : ℕ) → is_ascii_hexdigit b ≡ is_hex_digit b
same_class b = grind (arith, nat_tests)

same_digits : (bs : List ℕ) → are_hex_digits bs ≡ list_all is_hex_digit bs
same_digits [] = refl
same_digits (b ∷ bs) = rw (same_class b, same_digits bs) refl

hexadecimal_only : (w : List ℕ) → Only (IsNumber w) (hexadecimal_of w)
hexadecimal_only (a ∷ b ∷ ds) =
    only_if (a == 48) (λ z. only_if (b == 120) (λ x. only_if (nat_le 1 (length ds)) (λ s. only_if (nat_le (length ds) 16) (λ f. only_if (are_hex_digits ds) (λ h.
    let za : 48 ≡ a = grind (arith, nat_tests) in
    let xb : 120 ≡ b = grind (arith, nat_tests) in
    let some : 1 ≤ length ds = grind (arith, nat_tests) in
    let few : length ds ≤ 16 = grind (arith, nat_tests) in
    only_some (digits_value 16 ds) (subst (λ c. IsNumber (c ∷ b ∷ ds) (digits_value 16 ds)) za (subst (λ c. IsNumber (48 ∷ c ∷ ds) (digits_value 16 ds)) xb
    (IsNumber.hexadecimal_digits some few (sym (same_digits ds) ∙ h)))))))))
hexadecimal_only _ = only_none

number_only : (w : List ℕ) → Only (IsNumber w) (number_of w)
unfolding number_of
number_only w = go (is_digits w) refl
  where
    go : (t : Bool) → is_digits w ≡ t → Only (IsNumber w) (cond t (decimal_of w) (hexadecimal_of w))
    go true d = decimal_only w d
    go false d = hexadecimal_only w

-- f is the word of a number
abbrev pub IsNumberForm : Form → ℕ → Type 0
IsNumberForm f n = (w : List ℕ) × (f ≡ Atom w) × IsNumber w n

pub number_at_only : (f : Form) → Only (IsNumberForm f) (number_at f)
number_at_only f = go (out-Form f) refl
  where
    go : (x : Form-F Form) → out-Form f ≡ x → Only (IsNumberForm f) (number_in x)
    go (Form-F.List fs) o = only_none
    go (Form-F.Atom w) o = only_more (number_only w) (λ n is. (w, is_atom f w o, is))

-- ---- a word is read as the number that it writes

plain_decimal : (w : List ℕ) → 0 < length w → (get_or w 0 0 ≡ 48 → length w ≡ 1) → is_plain w ≡ true
plain_decimal [] l h = absurd (omega arith)
plain_decimal (b ∷ []) l h = refl
plain_decimal (b ∷ c ∷ bs) l h = not_zero b (λ e. absurd (omega (arith, h e)))
  where
    not_zero : (b : ℕ) → b ≢ 48 → is_plain (b ∷ c ∷ bs) ≡ true
    not_zero b ne = grind (arith, nat_tests)

zero_alone : (n : ℕ) → n < 2 ^ 64 → get_or (decimal n) 0 0 ≡ 48 → length (decimal n) ≡ 1
zero_alone zero l z = rw (decimal_digit 0 (omega arith)) refl
zero_alone (suc n) l z = absurd (omega (arith, first_decimal (suc n) (omega arith) l))

decimal_again : (n : ℕ) → n < 2 ^ 64 → number_of (decimal n) ≡ Some n
unfolding number_of value_of
decimal_again n l =
    let d : is_digits (decimal n) ≡ true = digits_decimal own n l in
    let p : is_plain (decimal n) ≡ true = plain_decimal (decimal n) (decimal_nonempty n l) (zero_alone n l) in
    let v : digits_value 10 (decimal n) ≡ n = digits_value-decimal own n l in
    let b : nat_lt n (2 ^ 64) ≡ true = grind (arith, nat_tests) in
    rw (d, p, v, b) refl

number_again : (w : List ℕ) (n : ℕ) → IsNumber w n → n < 2 ^ 64 → number_of w ≡ Some n
unfolding number_of
number_again _ _ (IsNumber.decimal_digits {n = n}) l = decimal_again n l
number_again _ _ (IsNumber.hexadecimal_digits {digits = ds} some few h) l =
    let s : nat_le 1 (length ds) ≡ true = grind (arith, nat_tests) in
    let f : nat_le (length ds) 16 ≡ true = grind (arith, nat_tests) in
    let d : are_hex_digits ds ≡ true = same_digits ds ∙ h in
    rw (s, f, d) refl

pub number_at_again : (w : List ℕ) (n : ℕ) → IsNumber w n → n < 2 ^ 64 → number_at (Atom w) ≡ Some n
number_at_again w n is l = ap number_in (outs-Atom w) ∙ number_again w n is l
