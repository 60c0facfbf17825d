-- The new names are of the shapes that C's names have.
use Rattle.std.proofs.Common.{◌≡◌, ℕ, zero, suc, ◌<◌, ◌/◌, ◌%◌, ◌==◌, Bool, true, false, ◌&&◌, not, if◌then◌else◌, List, [], ◌∷◌, ◌++◌, codes, Some, None, inl, inr, refl, sym, subst, arith}
use Rattle.std.specs.List.{list_all}
use Rattle.std.specs.Fmt.{decimal, digits, digits_onto, digit_glyph}
use Rattle.std.proofs.lemmas.Bool.{and_parts}
use Rattle.std.proofs.lemmas.Bool.Decides.{nat_tests}
use Rattle.krml_trace.specs.Byte.{is_letter, is_digit, is_name_byte}
use Rattle.krml_syntax.specs.Name.{is_name, is_reserved, IsName}
use Rattle.krml_ast.specs.FileTypes.{IsSourceName, IsPlainName, IsEmitted}
use Rattle.krml_ast.specs.Instances.{at_quote}
use Rattle.krml_bundle.specs.Emitted.{is_number, with_prefix, emitted}

-- ---- digits

glyph_digit : (n : ℕ) → n < 10 → is_digit (digit_glyph false n) ≡ true
glyph_digit n h = grind (arith, nat_tests, h)

onto_number : (k n b : ℕ) (bs : List ℕ) → is_number (b ∷ bs) ≡ true → is_number (digits_onto k 10 false n (b ∷ bs)) ≡ true
onto_number zero n b bs h = h
onto_number (suc k) n b bs h =
    let glyph : ℕ = digit_glyph false (n % 10) in
    let more : is_number (glyph ∷ b ∷ bs) ≡ true = rw (glyph_digit (n % 10) (omega arith)) h in
    go (n / 10 == 0) (glyph ∷ b ∷ bs) more (onto_number k (n / 10) glyph (b ∷ bs) more)
  where
    go : (c : Bool) (now : List ℕ) → is_number now ≡ true → is_number (digits_onto k 10 false (n / 10) now) ≡ true → is_number (if c then now else digits_onto k 10 false (n / 10) now) ≡ true
    go true now more later = more
    go false now more later = later

decimal_number : (n : ℕ) → is_number (decimal n) ≡ true
unfolding digits
decimal_number n = go (n / 10 == 0)
  where
    glyph : ℕ
    glyph = digit_glyph false (n % 10)

    one : is_number (glyph ∷ []) ≡ true
    one = rw (glyph_digit (n % 10) (omega arith)) refl

    go : (c : Bool) → is_number (if c then glyph ∷ [] else digits_onto 63 10 false (n / 10) (glyph ∷ [])) ≡ true
    go true = one
    go false = onto_number 63 (n / 10) glyph [] one

-- ---- names hold no quote

no_quote : (b : ℕ) → is_name_byte b ≡ true → (b == 39) ≡ false
no_quote b h = grind (arith, nat_tests, h)

name_bytes : (x : List ℕ) → IsName x → list_all is_name_byte x ≡ true
unfolding is_name
name_bytes [] h = refl
name_bytes (b ∷ bs) h =
    let p = and_parts (is_letter b && list_all is_name_byte bs) (not (is_reserved (b ∷ bs))) h in
    let q = and_parts (is_letter b) (list_all is_name_byte bs) p.0 in
    rw (q.0, q.1) refl

plain_at_quote : (x : List ℕ) → list_all is_name_byte x ≡ true → at_quote x ≡ None
plain_at_quote [] h = refl
plain_at_quote (b ∷ bs) h = let p = and_parts (is_name_byte b) (list_all is_name_byte bs) h in rw (no_quote b p.0, plain_at_quote bs p.1) refl

instance_at_quote : (x k : List ℕ) → list_all is_name_byte x ≡ true → at_quote (x ++ codes "'" ++ k) ≡ Some (x, k)
instance_at_quote [] k h = refl
instance_at_quote (b ∷ bs) k h = let p = and_parts (is_name_byte b) (list_all is_name_byte bs) h in rw (no_quote b p.0, instance_at_quote bs k p.1) refl

-- ---- the shapes of new names

pub plain_prefix : (prefix x : List ℕ) → IsName x → IsPlainName prefix (with_prefix prefix x)
plain_prefix prefix x h = record { name = x; named = h; is = refl }

pub emitted_shape : (plain numbered x : List ℕ) → IsSourceName x → IsEmitted plain numbered (emitted plain numbered x)
emitted_shape plain numbered x (inl h) = rw (plain_at_quote x (name_bytes x h)) (inl (plain_prefix plain x h))
emitted_shape plain numbered x (inr i) = subst (λ z. IsEmitted plain numbered (emitted plain numbered z)) (sym i.is)
    (rw (instance_at_quote i.name (decimal i.k) (name_bytes i.name i.named), decimal_number i.k) (inr (record { name = i.name; k = i.k; small = i.small; named = i.named; is = refl })))
