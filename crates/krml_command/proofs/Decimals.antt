-- What a text that is read as a number writes.
use Rattle.std.proofs.Common.{cond, ◌∙◌, ◌≡◌, ◌≢◌, ◌≤◌, ◌<◌, ◌^◌, ◌&&◌, ℕ, Bool, true, false, Some, None, get_or, nat_lt, nat_le, length, refl, sym, subst, ap, arith}
use Rattle.std.specs.Str.Parse.{IsNumeral, digits_value, without_leading_plus}
use Rattle.std.proofs.lemmas.Str.Parse.{numerals_by_value, tells_all_ascii_digits, without_leading_plus_none}
use Rattle.std.proofs.lemmas.Bool.{le-leb, leb-true, lt-ltb, ltb-true}
use Rattle.clap.proofs.WalkLemmas.{both}
use Rattle.clap.specs.Words.{Text}
use Rattle.krml_command.specs.Values.{is_decimal, number_in}

decimal_of : (ds : Text) → IsNumeral 10 ds → is_decimal ds ≡ true
decimal_of ds n = rw (lt-ltb 0 (length ds) n.0, (numerals_by_value _ tells_all_ascii_digits).from ds n.1) refl

numeral_of : (ds : Text) → is_decimal ds ≡ true → IsNumeral 10 ds
numeral_of ds e = let p = both (nat_lt 0 (length ds)) _ e in (ltb-true 0 (length ds) p.0, (numerals_by_value _ tells_all_ascii_digits).to ds p.1)

-- a numeral that fits 64 bits
abbrev Fits : Text → Type 0
Fits ds = IsNumeral 10 ds × (digits_value 10 ds < 2 ^ 64)

-- a number in the range
pub number_read : (least most n : ℕ) (bs : Text) → get_or bs 0 0 ≢ 43 → Fits (without_leading_plus bs) × (n ≡ digits_value 10 (without_leading_plus bs))
    → least ≤ n → n ≤ most → Some n ≡ number_in least most bs
number_read least most n bs plain parsed low high =
    let same = without_leading_plus_none bs plain in
    let value : n ≡ digits_value 10 bs = parsed.1 ∙ ap (digits_value 10) same in
    rw (decimal_of bs (subst (IsNumeral 10) same parsed.0.0), ← value, le-leb least n low, le-leb n most high) refl

-- what is no number of 64 bits is none in the range
pub number_unread : (least most : ℕ) (bs : Text) → most < 2 ^ 64 → get_or bs 0 0 ≢ 43 → (Fits (without_leading_plus bs) → ⊥) → None ≡ number_in least most bs
number_unread least most bs fits plain refused = go (is_decimal bs) (nat_le least (digits_value 10 bs)) (nat_le (digits_value 10 bs) most) refl refl
  where
    go : (d l m : Bool) → is_decimal bs ≡ d → nat_le (digits_value 10 bs) most ≡ m → None ≡ cond (d && (l && m)) (Some (digits_value 10 bs)) None
    go false l m d h = refl
    go true false m d h = refl
    go true true false d h = refl
    go true true true d h =
        absurd (refused (subst Fits (sym (without_leading_plus_none bs plain)) (numeral_of bs d, omega (arith, leb-true _ most h, fits))))
