-- The words of a program are runs, and what the reading asks of them.
use Rattle.std.proofs.Common.{◌≡◌, ℕ, zero, suc, ◌<◌, ◌^◌, ◌/◌, ◌%◌, Bool, true, false, ◌&&◌, if◌then◌else◌, ◌==◌, List, [], ◌∷◌, ◌++◌, length, codes, refl, sym, ap, ◌∙◌, append-nil, arith, rules}
use Rattle.std.proofs.lemmas.Bool.Decides.{nat_tests}
use Rattle.std.specs.List.{list_all}
use Rattle.std.specs.Fmt.{decimal, digits, digits_onto, digit_glyph}
use Rattle.std.specs.Char.{is_ascii_digit}
use Rattle.std.specs.Str.{bytes_eq}
use Rattle.std.specs.Str.Parse.{digits_value}
use Rattle.std.proofs.lemmas.Fmt.{digits_decimal, digits_value-decimal, decimal_nonempty}
use Rattle.std.proofs.lemmas.Str.Parse.{IsNumeralModel, numerals_by_value}
use Rattle.krml_trace.specs.Byte.{is_letter, is_digit, is_name_byte}
use Rattle.krml_trace.specs.Name.{is_name, IsName}
use Rattle.krml_trace.specs.Width.{bits}
use Rattle.krml_trace.specs.declared.width.Width.{Width}
use Rattle.krml_trace.specs.declared.width.Width.TheVariants.{W8, W32, W64}
use Rattle.krml_ctree.specs.Text.{number, width_word}
use Rattle.krml_ctree.specs.Shape.{is_decimal, IsVariable, IsFunction, IsStruct, IsTable, IsField, IsLiteral}
use Rattle.krml_ctree.proofs.Cut.{IsRun, halves}

-- all bytes are name bytes
abbrev pub AllNamed : List ℕ → Type 0
AllNamed w = list_all is_name_byte w ≡ true

-- one byte more
named_one : (b : ℕ) (w : List ℕ) → is_name_byte b ≡ true → AllNamed w → AllNamed (b ∷ w)
named_one b w h k = rw h k

-- one text behind another
named_both : (v w : List ℕ) → AllNamed v → AllNamed w → AllNamed (v ++ w)
named_both [] w h k = k
named_both (b ∷ v) w h k = let p = halves (is_name_byte b) (list_all is_name_byte v) h in named_one b (v ++ w) p.0 (named_both v w p.1 k)

-- a digit is a name byte
digit_named : (b : ℕ) → is_digit b ≡ true → is_name_byte b ≡ true
digit_named b h = grind (arith, nat_tests)

-- and so are digits
digits_named : (w : List ℕ) → list_all is_digit w ≡ true → AllNamed w
digits_named [] h = refl
digits_named (b ∷ w) h = let p = halves (is_digit b) (list_all is_digit w) h in named_one b w (digit_named b p.0) (digits_named w p.1)

-- a number of a name is digits
numeral_digits : (k : List ℕ) → is_decimal k ≡ true → list_all is_digit k ≡ true
numeral_digits [] h = absurd (cc)
numeral_digits (b ∷ []) h = rw h refl
numeral_digits (b ∷ c ∷ k) h = at (b == 48) h
  where
    at : (x : Bool) → (if x then false else is_digit b && list_all is_digit (c ∷ k)) ≡ true → (is_digit b && list_all is_digit (c ∷ k)) ≡ true
    at true q = absurd (cc)
    at false q = q

-- the bytes of a number are name bytes
numeral_named : (k : List ℕ) → is_decimal k ≡ true → AllNamed k
numeral_named k h = digits_named k (numeral_digits k h)

-- so is a letter
letter_named : (b : ℕ) → is_letter b ≡ true → is_name_byte b ≡ true
letter_named b h = rw h refl

-- so are those of a name
name_named : (w : List ℕ) → IsName w → AllNamed w
unfolding is_name
name_named [] h = absurd (cc)
name_named (b ∷ w) h =
    let p = (halves (is_letter b && list_all is_name_byte w) _ h).0 in
    let q = halves (is_letter b) (list_all is_name_byte w) p in
    named_one b w (letter_named b q.0) q.1

-- and those of a number and a name
behind_number : (k name : List ℕ) → is_decimal k ≡ true → IsName name → AllNamed (k ++ (codes "_" ++ name))
behind_number k name h n = named_both k (codes "_" ++ name) (numeral_named k h) (name_named name n)

-- a variable is a run
pub variable_run : {x : List ℕ} → IsVariable x → IsRun x
variable_run (IsVariable.plain k h) = numeral_named k h
variable_run (IsVariable.named k name h n) = behind_number k name h n

-- a function's name is a run
pub function_run : {x : List ℕ} → IsFunction x → IsRun x
function_run (IsFunction.plain name n) = name_named name n
function_run (IsFunction.instance_of k name h n) = behind_number k name h n

-- so is that of a struct
pub struct_run : {x : List ℕ} → IsStruct x → IsRun x
struct_run (IsStruct.plain name n) = name_named name n
struct_run (IsStruct.instance_of k name h n) = behind_number k name h n

-- that of a table
pub table_run : {x : List ℕ} → IsTable x → IsRun x
table_run (IsTable.plain name n) = name_named name n

-- and that of a field
pub field_run : {x : List ℕ} → IsField x → IsRun x
field_run (IsField.plain name n) = name_named name n
field_run IsField.tag = refl
field_run (IsField.argument k j h l) = named_both k (codes "_" ++ j) (numeral_named k h) (numeral_named j l)

-- the word of a width is a run
pub width_run : (w : Width) → IsRun (width_word w)
width_run W8 = refl
width_run W32 = refl
width_run W64 = refl

-- decimal digits and their value
own : IsNumeralModel (λ ds. list_all is_ascii_digit ds ≡ true) (digits_value 10)
own = numerals_by_value _ (search rules)

-- std's digits are the digits
ascii_digit : (b : ℕ) → is_ascii_digit b ≡ true → is_digit b ≡ true
ascii_digit b h = grind (arith, nat_tests)

-- and name bytes
ascii_named : (b : ℕ) → is_ascii_digit b ≡ true → is_name_byte b ≡ true
ascii_named b h = digit_named b (ascii_digit b h)

-- the bytes of a decimal number are name bytes
decimal_named : (n : ℕ) → n < 2 ^ 64 → AllNamed (decimal n)
decimal_named n h = at (decimal n) (digits_decimal own n h)
  where
    at : (w : List ℕ) → list_all is_ascii_digit w ≡ true → AllNamed w
    at [] q = refl
    at (b ∷ w) q = let p = halves (is_ascii_digit b) (list_all is_ascii_digit w) q in named_one b w (ascii_named b p.0) (at w p.1)

-- so is a last digit
glyph_named : (n : ℕ) → is_name_byte (digit_glyph false (n % 10)) ≡ true
glyph_named n = let l : n % 10 < 10 = omega arith in grind (arith, nat_tests)

-- and digits before others are a run
onto_run : (k n : ℕ) (more : List ℕ) → AllNamed more → IsRun (digits_onto (suc k) 10 false n more)
onto_run zero n more h = at (n / 10 == 0)
  where
    at : (x : Bool) → IsRun (if x then digit_glyph false (n % 10) ∷ more else digit_glyph false (n % 10) ∷ more)
    at true = named_one (digit_glyph false (n % 10)) more (glyph_named n) h
    at false = named_one (digit_glyph false (n % 10)) more (glyph_named n) h
onto_run (suc k) n more h = at (n / 10 == 0) (onto_run k (n / 10) (digit_glyph false (n % 10) ∷ more) (named_one (digit_glyph false (n % 10)) more (glyph_named n) h))
  where
    at : (x : Bool) → IsRun (digits_onto (suc k) 10 false (n / 10) (digit_glyph false (n % 10) ∷ more)) → IsRun (if x then digit_glyph false (n % 10) ∷ more else digits_onto (suc k) 10 false (n / 10) (digit_glyph false (n % 10) ∷ more))
    at true r = named_one (digit_glyph false (n % 10)) more (glyph_named n) h
    at false r = r

-- each decimal number is one
pub decimal_run : (n : ℕ) → IsRun (decimal n)
unfolding digits
decimal_run n = onto_run 63 n [] refl

-- a decimal number begins with a digit
decimal_begins : (n : ℕ) → n < 2 ^ 64 → (b : ℕ) × (rest : List ℕ) × (decimal n ≡ b ∷ rest) × (is_digit b ≡ true)
decimal_begins n h = at (decimal n) (digits_decimal own n h) (decimal_nonempty n h)
  where
    at : (w : List ℕ) → list_all is_ascii_digit w ≡ true → 0 < length w → (b : ℕ) × (rest : List ℕ) × (w ≡ b ∷ rest) × (is_digit b ≡ true)
    at [] q l = absurd (omega arith)
    at (b ∷ w) q l = (b, w, refl, ascii_digit b (halves (is_ascii_digit b) (list_all is_ascii_digit w) q).0)

-- the digits of a number and its suffix
pub suffixed_run : (n : ℕ) (suffix : List ℕ) → n < 2 ^ 64 → AllNamed suffix → IsRun (decimal n ++ suffix)
suffixed_run n suffix h k = let d = decimal_begins n h in at (decimal n) d.0 d.1 d.2 (decimal_named n h)
  where
    at : (w : List ℕ) (b : ℕ) (rest : List ℕ) → w ≡ b ∷ rest → AllNamed w → IsRun (w ++ suffix)
    at [] b rest e a = absurd (cc)
    at (c ∷ w) b rest e a = named_both (c ∷ w) suffix a k

-- a number is a run
pub number_run : (w : Width) (n : ℕ) → n < 2 ^ bits w → IsRun (number w n)
number_run W8 n h = suffixed_run n (codes "u") (omega arith) refl
number_run W32 n h = suffixed_run n (codes "u") (omega arith) refl
number_run W64 n h = suffixed_run n (codes "ull") h refl

-- a literal fits its width
pub literal_fits : {w : Width} {n : ℕ} → IsLiteral w n → n < 2 ^ bits w
literal_fits (IsLiteral.short h) = h
literal_fits (IsLiteral.long h) = h

-- the digits at the front
abbrev pub front_digits : List ℕ → List ℕ
front_digits [] = []
front_digits (b ∷ w) = if is_digit b then b ∷ front_digits w else []

-- the number that digits at the front are of
abbrev pub front_value : List ℕ → ℕ
front_value w = digits_value 10 (front_digits w)

-- the digits before what begins with none
front_is : (w suffix : List ℕ) → list_all is_ascii_digit w ≡ true → front_digits suffix ≡ [] → front_digits (w ++ suffix) ≡ w
front_is [] suffix h e = e
front_is (b ∷ w) suffix h e = let p = halves (is_ascii_digit b) (list_all is_ascii_digit w) h in rw (ascii_digit b p.0, front_is w suffix p.1 e) refl

-- a number before its suffix has its value
pub suffixed_value : (n : ℕ) (suffix : List ℕ) → n < 2 ^ 64 → front_digits suffix ≡ [] → front_value (decimal n ++ suffix) ≡ n
suffixed_value n suffix h e = rw (front_is (decimal n) suffix (digits_decimal own n h) e) (digits_value-decimal own n h)

-- a number without a suffix has its value
pub decimal_value : (n : ℕ) → n < 2 ^ 64 → front_value (decimal n) ≡ n
decimal_value n h = ap front_value (sym (append-nil (decimal n))) ∙ suffixed_value n [] h refl

-- so the reading knows a number
pub number_value : (w : Width) (n : ℕ) → n < 2 ^ bits w → front_value (number w n) ≡ n
number_value W8 n h = suffixed_value n (codes "u") (omega arith) refl
number_value W32 n h = suffixed_value n (codes "u") (omega arith) refl
number_value W64 n h = suffixed_value n (codes "ull") h refl

-- the first byte of a word
abbrev pub initial : List ℕ → ℕ
initial [] = 0
initial (b ∷ w) = b

-- a number before its suffix begins with a digit
suffixed_begins : (n : ℕ) (suffix : List ℕ) → n < 2 ^ 64 → is_digit (initial (decimal n ++ suffix)) ≡ true
suffixed_begins n suffix h = let d = decimal_begins n h in at (decimal n) d.0 d.1 d.2 d.3
  where
    at : (w : List ℕ) (b : ℕ) (rest : List ℕ) → w ≡ b ∷ rest → is_digit b ≡ true → is_digit (initial (w ++ suffix)) ≡ true
    at w b rest e d = rw (e, d) refl

-- so does a number
pub number_begins : (w : Width) (n : ℕ) → n < 2 ^ bits w → is_digit (initial (number w n)) ≡ true
number_begins W8 n h = suffixed_begins n (codes "u") (omega arith)
number_begins W32 n h = suffixed_begins n (codes "u") (omega arith)
number_begins W64 n h = suffixed_begins n (codes "ull") h

-- a variable is no `*`
pub variable_no_star : {x : List ℕ} → IsVariable x → bytes_eq x (codes "*") ≡ false
variable_no_star (IsVariable.plain k h) = refl
variable_no_star (IsVariable.named k name h n) = refl

-- nor is a function
pub function_no_star : {x : List ℕ} → IsFunction x → bytes_eq x (codes "*") ≡ false
function_no_star (IsFunction.plain name n) = refl
function_no_star (IsFunction.instance_of k name h n) = refl

-- nor is a field
pub field_no_star : {x : List ℕ} → IsField x → bytes_eq x (codes "*") ≡ false
field_no_star (IsField.plain name n) = refl
field_no_star IsField.tag = refl
field_no_star (IsField.argument k j h l) = refl

-- and opens no brace
pub function_no_brace : {x : List ℕ} → IsFunction x → bytes_eq x (codes "{") ≡ false
function_no_brace (IsFunction.plain name n) = refl
function_no_brace (IsFunction.instance_of k name h n) = refl

-- a digit is no `}`
digit_no_brace : (w : List ℕ) → is_digit (initial w) ≡ true → bytes_eq w (codes "}") ≡ false
digit_no_brace [] h = absurd (cc)
digit_no_brace (b ∷ w) h = let e : (b == 125) ≡ false = grind (arith, nat_tests) in rw e refl

-- nor is a number
pub number_no_brace : (w : Width) (n : ℕ) → n < 2 ^ bits w → bytes_eq (number w n) (codes "}") ≡ false
number_no_brace w n h = digit_no_brace (number w n) (number_begins w n h)
