-- How numbers are written, and what a word is read as.
use Rattle.std.specs.Prelude.{◌≡◌, ℕ, ◌≤◌, ◌^◌, Bool, true, false, not, if◌then◌else◌, nat_lt, nat_le, ◌==◌, ◌||◌, ◌&&◌, List, [], ◌∷◌, length, Option, Some, None}
use Rattle.std.specs.Char.{is_ascii_digit, is_ascii_hexdigit}
use Rattle.std.specs.Fmt.{decimal}
use Rattle.std.specs.List.{list_all}
use Rattle.std.specs.Str.Parse.{digits_value}
use Rattle.krml_trace.specs.Byte.{is_digit}
use Rattle.krml_forms.specs.declared.form.Form.{Form, out-Form}
use Rattle.krml_forms.specs.declared.form.Form.TheOpen.{Form-F}

-- a digit, or a letter from a to f of either case
abbrev pub is_hex_digit : ℕ → Bool
is_hex_digit b = is_digit b || (nat_le 97 b && nat_le b 102) || (nat_le 65 b && nat_le b 70)

-- A word writes a number.
pub data IsNumber : List ℕ → ℕ → Type 0 where
  -- in decimal digits, without leading zeros
  decimal_digits : {n : ℕ} → IsNumber (decimal n) n
  -- `0x` and 1 to 16 hexadecimal digits
  hexadecimal_digits : {digits : List ℕ} → 1 ≤ length digits → length digits ≤ 16 → list_all is_hex_digit digits ≡ true
      → IsNumber (48 ∷ 120 ∷ digits) (digits_value 16 digits)

-- ---- what a word is read as

abbrev pub is_digits : List ℕ → Bool
is_digits = list_all is_ascii_digit

-- one digit or more, and no zero before another digit
abbrev pub is_plain : List ℕ → Bool
is_plain [] = false
is_plain (b ∷ []) = true
is_plain (b ∷ c ∷ bs) = not (b == 48)

-- the number that digits write, below 2 to the power 64
unfoldable pub value_of : List ℕ → Option ℕ
value_of w = if nat_lt (digits_value 10 w) (2 ^ 64) then Some (digits_value 10 w) else None

abbrev pub decimal_of : List ℕ → Option ℕ
decimal_of w = if is_plain w then value_of w else None

abbrev pub are_hex_digits : List ℕ → Bool
are_hex_digits = list_all is_ascii_hexdigit

abbrev pub hex_value_of : List ℕ → Option ℕ
hex_value_of digits = Some (digits_value 16 digits)

abbrev pub hexadecimal_of : List ℕ → Option ℕ
hexadecimal_of (a ∷ b ∷ digits) =
    if a == 48 then (if b == 120 then (if nat_le 1 (length digits) then (if nat_le (length digits) 16 then (if are_hex_digits digits then hex_value_of digits else None) else None) else None) else None) else None
hexadecimal_of _ = None

unfoldable pub number_of : List ℕ → Option ℕ
number_of w = if is_digits w then decimal_of w else hexadecimal_of w

abbrev pub number_in : Form-F Form → Option ℕ
number_in (Form-F.Atom w) = number_of w
number_in (Form-F.List fs) = None

abbrev pub number_at : Form → Option ℕ
number_at f = number_in (out-Form f)
