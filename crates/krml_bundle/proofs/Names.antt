-- The new names are as different as the old ones.
use Rattle.std.proofs.Common.{◌≡◌, ℕ, ◌==◌, nat_le, Bool, true, false, if◌then◌else◌, List, [], ◌∷◌, ◌++◌, codes, Option, Some, None, option_map, bytes_eq, refl, sym, ap, ◌∙◌, arith, append_assoc}
use Rattle.std.specs.List.{list_all}
use Rattle.std.proofs.lemmas.Bool.{and_parts}
use Rattle.std.proofs.lemmas.Bool.Decides.{nat_tests}
use Rattle.std.proofs.lemmas.Slice.Eq.{bytes_eq-Decides}
use Rattle.krml_trace.specs.Byte.{is_digit}
use Rattle.krml_ast.specs.Instances.{at_quote}
use Rattle.krml_bundle.specs.Emitted.{is_number, with_prefix, emitted_as, emitted, emitted_fun, emitted_type, emitted_table, emitted_field}

-- names that can be read back are as different as what they are made of
as_different : (f back : List ℕ → List ℕ) → ((x : List ℕ) → back (f x) ≡ x) → (x y : List ℕ) → bytes_eq (f x) (f y) ≡ bytes_eq x y
as_different f back is x y = go (bytes_eq x y) refl
  where
    go : (b : Bool) → bytes_eq x y ≡ b → bytes_eq (f x) (f y) ≡ b
    go true e = (bytes_eq-Decides (f x) (f y)).1 (ap f ((bytes_eq-Decides x y).0 e))
    go false e = new (bytes_eq (f x) (f y)) refl
      where
        new : (c : Bool) → bytes_eq (f x) (f y) ≡ c → c ≡ false
        new true q =
            let same : x ≡ y = sym (is x) ∙ ap back ((bytes_eq-Decides (f x) (f y)).0 q) ∙ is y in
            sym ((bytes_eq-Decides x y).1 same) ∙ e
        new false q = refl

-- ---- what is read back

-- what stands before the first `_`, and behind it
abbrev at_line : List ℕ → List ℕ × List ℕ
at_line [] = ([], [])
at_line (b ∷ bs) = if b == 95 then ([], bs) else (b ∷ (at_line bs).0, (at_line bs).1)

-- the old name, of what stands behind the prefix of the new one
abbrev name_behind : List ℕ → List ℕ
name_behind [] = []
name_behind (b ∷ bs) = if b == 95 then bs else (at_line (b ∷ bs)).1 ++ 39 ∷ (at_line (b ∷ bs)).0

abbrev name_of : List ℕ → List ℕ
name_of [] = []
name_of (b ∷ bs) = name_behind bs

no_line : (b : ℕ) → is_digit b ≡ true → (b == 95) ≡ false
no_line b h = let p : (nat_le 48 b ≡ true) × (nat_le b 57 ≡ true) = and_parts (nat_le 48 b) (nat_le b 57) h in grind (arith, nat_tests, p.0, p.1)

digits_end : (k x : List ℕ) → list_all is_digit k ≡ true → at_line (k ++ 95 ∷ x) ≡ (k, x)
digits_end [] x h = refl
digits_end (b ∷ k) x h =
    let p = and_parts (is_digit b) (list_all is_digit k) h in
    rw (no_line b p.0, digits_end k x p.1) refl

numbered_back : (k x : List ℕ) → is_number k ≡ true → name_behind (k ++ 95 ∷ x) ≡ x ++ 39 ∷ k
numbered_back [] x h = absurd (cc)
numbered_back (b ∷ k) x h =
    let p = and_parts (is_digit b) (list_all is_digit k) h in
    rw (no_line b p.0, digits_end k x p.1) refl

-- the name before its first quote, and behind it
quoted : (x : List ℕ) (p : List ℕ × List ℕ) → at_quote x ≡ Some p → p.0 ++ 39 ∷ p.1 ≡ x
quoted [] p h = absurd (cc)
quoted (b ∷ bs) p h = go (b == 39) refl (at_quote bs) (quoted bs) h
  where
    go : (c : Bool) → (b == 39) ≡ c → (o : Option (List ℕ × List ℕ)) → ((q : List ℕ × List ℕ) → o ≡ Some q → q.0 ++ 39 ∷ q.1 ≡ bs)
        → (if c then Some ([], bs) else option_map (λ q. (b ∷ q.0, q.1)) o) ≡ Some p → p.0 ++ 39 ∷ p.1 ≡ b ∷ bs
    go true e o ih k =
        let same : ([], bs) ≡ p = cc in
        let it : 39 ≡ b = grind (arith, nat_tests, e) in
        sym (ap (λ z. z.0 ++ 39 ∷ z.1) same) ∙ ap (λ z. z ∷ bs) it
    go false e (Some q) ih k = let same : (b ∷ q.0, q.1) ≡ p = cc in sym (ap (λ z. z.0 ++ 39 ∷ z.1) same) ∙ ap (λ z. b ∷ z) (ih q refl)
    go false e None ih k = absurd (cc)

emitted_back : (p q : ℕ) (x : List ℕ) → name_of (emitted (p ∷ []) (q ∷ []) x) ≡ x
emitted_back p q x = go (at_quote x) (quoted x)
  where
    go : (o : Option (List ℕ × List ℕ)) → ((r : List ℕ × List ℕ) → o ≡ Some r → r.0 ++ 39 ∷ r.1 ≡ x) → name_of (emitted_as (p ∷ []) (q ∷ []) x o) ≡ x
    go None h = refl
    go (Some r) h = number (is_number r.1) refl
      where
        number : (b : Bool) → is_number r.1 ≡ b → name_of (if b then (q ∷ []) ++ r.1 ++ codes "_" ++ r.0 else with_prefix (p ∷ []) x) ≡ x
        number true e = ap name_behind (append_assoc r.1 (95 ∷ []) r.0) ∙ numbered_back r.1 r.0 e ∙ h r refl
        number false e = refl

-- ---- the new names

pub fun_as_different : (x y : List ℕ) → bytes_eq (emitted_fun x) (emitted_fun y) ≡ bytes_eq x y
fun_as_different = as_different emitted_fun name_of (emitted_back 102 103)

pub type_as_different : (x y : List ℕ) → bytes_eq (emitted_type x) (emitted_type y) ≡ bytes_eq x y
type_as_different = as_different emitted_type name_of (emitted_back 115 115)

pub table_as_different : (x y : List ℕ) → bytes_eq (emitted_table x) (emitted_table y) ≡ bytes_eq x y
table_as_different = as_different emitted_table name_of (λ x. refl)

pub field_as_different : (x y : List ℕ) → bytes_eq (emitted_field x) (emitted_field y) ≡ bytes_eq x y
field_as_different = as_different emitted_field name_of (λ x. refl)
