-- The words that are written: names, keywords and numbers.
use Rattle.std.proofs.Common.{◌≡◌, ℕ, ◌<◌, ◌^◌, Bool, true, false, not, ◌&&◌, List, [], ◌∷◌, length, refl, rules, arith}
use Rattle.std.specs.Char.{is_ascii_digit}
use Rattle.std.specs.Fmt.{decimal}
use Rattle.std.specs.List.{list_all}
use Rattle.std.specs.Str.Parse.{digits_value}
use Rattle.std.proofs.lemmas.Bool.{and_parts}
use Rattle.std.proofs.lemmas.Bool.Decides.{nat_tests}
use Rattle.std.proofs.lemmas.Fmt.{digits_decimal, decimal_nonempty}
use Rattle.std.proofs.lemmas.Str.Parse.{IsNumeralModel, numerals_by_value}
use Rattle.krml_trace.specs.Byte.{is_letter, is_name_byte}
use Rattle.krml_trace.specs.Name.{is_reserved, is_name, IsName}
use Rattle.krml_trace.specs.declared.width.Width.{Width}
use Rattle.krml_trace.specs.declared.width.Width.TheVariants.{W8, W32, W64}
use Rattle.krml_forms.specs.Text.{is_word}
use Rattle.krml_forms.specs.Writing.{IsWord}
use Rattle.krml_syntax.specs.declared.tree.IntTy.{IntTy}
use Rattle.krml_syntax.specs.declared.tree.BinOp.{BinOp}
use Rattle.krml_syntax.specs.declared.tree.BinOp.TheVariants as binop
use Rattle.krml_syntax.specs.declared.tree.CmpOp.{CmpOp}
use Rattle.krml_syntax.specs.declared.tree.CmpOp.TheVariants as cmpop
use Rattle.krml_syntax.specs.Number.{is_digits}
use Rattle.krml_syntax.specs.Spelling.{int_word, bool_word, bin_word, shift_word, cmp_word}

-- ---- names

letter_in_word : (b : ℕ) → is_letter b ≡ true → is_word b ≡ true
letter_in_word b h = grind (arith, nat_tests)

name_byte_in_word : (b : ℕ) → is_name_byte b ≡ true → is_word b ≡ true
name_byte_in_word b h = rw h refl

name_bytes_in_word : (bs : List ℕ) → list_all is_name_byte bs ≡ true → list_all is_word bs ≡ true
name_bytes_in_word [] h = refl
name_bytes_in_word (b ∷ bs) h =
    let p = and_parts (is_name_byte b) (list_all is_name_byte bs) h in
    rw (name_byte_in_word b p.0) (name_bytes_in_word bs p.1)

pub name_is_word : (x : List ℕ) → IsName x → IsWord x
unfolding is_name
name_is_word [] h = absurd (cc)
name_is_word (b ∷ bs) h =
    let p = and_parts (is_letter b && list_all is_name_byte bs) (not (is_reserved (b ∷ bs))) h in
    let q = and_parts (is_letter b) (list_all is_name_byte bs) p.0 in
    rw (letter_in_word b q.0) (name_bytes_in_word bs q.1)

-- behind a quote
pub variable_is_word : (x : List ℕ) → IsName x → IsWord (39 ∷ x)
variable_is_word [] h = refl
variable_is_word (b ∷ bs) h = name_is_word (b ∷ bs) h

-- ---- keywords

pub int_is_word : (i : IntTy) → IsWord (int_word i)
int_is_word i = go i.secret i.width
  where
    go : (secret : Bool) (w : Width) → IsWord (int_word (record { width = w; secret = secret }))
    go true W8 = refl
    go true W32 = refl
    go true W64 = refl
    go false W8 = refl
    go false W32 = refl
    go false W64 = refl

pub bool_is_word : (b : Bool) → IsWord (bool_word b)
bool_is_word true = refl
bool_is_word false = refl

pub bin_is_word : (op : BinOp) → IsWord (bin_word op)
bin_is_word binop.Add = refl
bin_is_word binop.Sub = refl
bin_is_word binop.Mul = refl
bin_is_word binop.Div = refl
bin_is_word binop.Rem = refl
bin_is_word binop.And = refl
bin_is_word binop.Or = refl
bin_is_word binop.Xor = refl
bin_is_word binop.EqMask = refl
bin_is_word binop.GteMask = refl

pub shift_is_word : (left : Bool) → IsWord (shift_word left)
shift_is_word true = refl
shift_is_word false = refl

pub cmp_is_word : (op : CmpOp) → IsWord (cmp_word op)
cmp_is_word cmpop.Eq = refl
cmp_is_word cmpop.Ne = refl
cmp_is_word cmpop.Lt = refl
cmp_is_word cmpop.Le = refl
cmp_is_word cmpop.Gt = refl
cmp_is_word cmpop.Ge = refl

-- ---- numbers

own : IsNumeralModel (λ ds. is_digits ds ≡ true) (digits_value 10)
own = numerals_by_value _ (search rules)

digit_in_word : (b : ℕ) → is_ascii_digit b ≡ true → is_word b ≡ true
digit_in_word b h = grind (arith, nat_tests)

digits_in_word : (bs : List ℕ) → is_digits bs ≡ true → list_all is_word bs ≡ true
digits_in_word [] h = refl
digits_in_word (b ∷ bs) h =
    let p = and_parts (is_ascii_digit b) (is_digits bs) h in
    rw (digit_in_word b p.0) (digits_in_word bs p.1)

some_is_word : (w : List ℕ) → 0 < length w → list_all is_word w ≡ true → IsWord w
some_is_word [] l h = absurd (omega arith)
some_is_word (b ∷ bs) l h = h

pub decimal_is_word : (n : ℕ) → n < 2 ^ 64 → IsWord (decimal n)
decimal_is_word n l = some_is_word (decimal n) (decimal_nonempty n l) (digits_in_word (decimal n) (digits_decimal own n l))
