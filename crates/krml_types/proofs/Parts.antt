-- What the parts of types, definitions and scopes are.
use Rattle.std.proofs.Common.{◌≡◌, ℕ, ◌<◌, ◌≤◌, nat_lt, nat_le, Bool, true, false, not, ◌&&◌, List, [], ◌∷◌, map, Option, Some, None, refl, sym, ap, ◌∙◌, arith}
use Rattle.std.specs.Bool.{Decides}
use Rattle.std.specs.List.{AllByRecursion, IsDistinct}
use Rattle.std.specs.Str.{bytes_eq}
use Rattle.std.proofs.lemmas.Bool.{and_parts}
use Rattle.std.proofs.lemmas.Bool.Decides.{nat_tests}
use Rattle.std.proofs.lemmas.Slice.Eq.{bytes_eq-Decides}
use Rattle.krml_syntax.specs.declared.tree.Ty.{Ty, out-Ty, roll-Ty, roll-out-Ty}
use Rattle.krml_syntax.specs.declared.tree.Ty.TheOpen.{Ty-F}
use Rattle.krml_syntax.specs.declared.tree.Ty.TheVariants as t
use Rattle.krml_syntax.specs.Types.{is_unit_in, element_of, name_of}
use Rattle.krml_ast.specs.IsType.{IsValue}
use Rattle.krml_ast.specs.Typing.{Vars, AreDistinct}
use Rattle.krml_intern.specs.Scope.{is_new, are_distinct}
use Rattle.krml_syntax.specs.Read.{◌>>=◌}
use Rattle.krml_syntax.proofs.Only.{Only, only_none, only_some}
use Rattle.krml_types.specs.Types.{same_ty}
use Rattle.krml_types.specs.Parts.{demand, is_value, args_of}

-- ---- what is given

pub only_demand : {B : Type 0} {Q : B → Type 0} (b : Bool) {f : Unit {0} → Option B} → (b ≡ true → (u : Unit {0}) → Only Q (f u)) → Only Q (demand b >>= f)
only_demand true k = k refl tt
only_demand false k = only_none

pub only_test : {Q : Unit {0} → Type 0} (b : Bool) → (b ≡ true → Q tt) → Only Q (demand b)
only_test true k = only_some tt (k refl)
only_test false k = only_none

-- with the equation
pub only_at : {A B : Type 0} {Q : B → Type 0} (o : Option A) {f : A → Option B} → ((a : A) → o ≡ Some a → Only Q (f a)) → Only Q (o >>= f)
only_at None k = only_none
only_at (Some a) k = k a refl

pub name_same : (x : List ℕ) → bytes_eq x x ≡ true
name_same x = (bytes_eq-Decides x x).1 refl

pub below : (m n : ℕ) → nat_lt m n ≡ true → m < n
below m n h = grind (arith, nat_tests)

pub below_again : (m n : ℕ) → m < n → nat_lt m n ≡ true
below_again m n h = grind (arith, nat_tests)

pub at_most : (m n : ℕ) → nat_le m n ≡ true → m ≤ n
at_most m n h = grind (arith, nat_tests)

pub at_most_again : (m n : ℕ) → m ≤ n → nat_le m n ≡ true
at_most_again m n h = grind (arith, nat_tests)

-- ---- types

unless : (b : Bool) → not b ≡ true → b ≡ false
unless false h = refl
unless true h = absurd (cc)

pub value_is : (a : Ty) → is_value a ≡ true → IsValue a
value_is a h = unless (is_unit_in (out-Ty a)) h

pub value_again : (a : Ty) → IsValue a → is_value a ≡ true
value_again a h = rw h refl

pub only_element : (a : Ty) → Only (λ b. a ≡ t.Buf b) (element_of (out-Ty a))
only_element a = go (out-Ty a) (λ b q. sym (roll-out-Ty a) ∙ ap roll-Ty q ∙ t.rolls-Buf b)
  where
    go : (o : Ty-F Ty) → ((b : Ty) → o ≡ Ty-F.Buf b → a ≡ t.Buf b) → Only (λ b. a ≡ t.Buf b) (element_of o)
    go (Ty-F.Buf b) is = only_some b (is b refl)
    go _ is = only_none

pub only_name : (a : Ty) → Only (λ n. a ≡ t.Named n.0 n.1) (name_of (out-Ty a))
only_name a = go (out-Ty a) (λ x args q. sym (roll-out-Ty a) ∙ ap roll-Ty q ∙ t.rolls-Named x args)
  where
    go : (o : Ty-F Ty) → ((x : List ℕ) (args : List Ty) → o ≡ Ty-F.Named x args → a ≡ t.Named x args) → Only (λ n. a ≡ t.Named n.0 n.1) (name_of o)
    go (Ty-F.Named x args) is = only_some (x, args) (is x args refl)
    go _ is = only_none

pub only_args : (x : List ℕ) (a : Ty) → Only (λ args. a ≡ t.Named x args) (args_of x (out-Ty a))
only_args x a = go (out-Ty a) (λ y args q. sym (roll-out-Ty a) ∙ ap roll-Ty q ∙ t.rolls-Named y args)
  where
    go : (o : Ty-F Ty) → ((y : List ℕ) (args : List Ty) → o ≡ Ty-F.Named y args → a ≡ t.Named y args) → Only (λ args. a ≡ t.Named x args) (args_of x o)
    go (Ty-F.Named y args) is = test (bytes_eq y x) refl
      where
        test : (b : Bool) → bytes_eq y x ≡ b → Only (λ args. a ≡ t.Named x args) (args_of x (Ty-F.Named y args))
        test true h = rw h (only_some args (is y args refl ∙ ap (λ z. t.Named z args) ((bytes_eq-Decides y x).0 h)))
        test false h = rw h only_none
    go _ is = only_none

pub args_again : (x : List ℕ) (args : List Ty) → args_of x (out-Ty (t.Named x args)) ≡ Some args
args_again x args = rw (t.outs-Named x args, name_same x) refl

-- ---- variables

neither : (b c : Bool) → (not b && c) ≡ true → (b ≡ false) × (c ≡ true)
neither false c h = (refl, h)
neither true c h = absurd (cc)

abbrev names : Vars → List (List ℕ)
names vars = map (λ v. v.0) vars

new_is : (vars : Vars) (x : List ℕ) → is_new vars x ≡ true → AllByRecursion (λ y. bytes_eq x y ≡ false) (names vars)
new_is [] x h = tt
new_is ((y, a) ∷ vars) x h = let n = neither (bytes_eq x y) (is_new vars x) h in (n.0, new_is vars x n.1)

new_again : (vars : Vars) (x : List ℕ) → AllByRecursion (λ y. bytes_eq x y ≡ false) (names vars) → is_new vars x ≡ true
new_again [] x h = refl
new_again ((y, a) ∷ vars) x h = rw (h.0, new_again vars x h.1) refl

pub distinct_is : (vars : Vars) → are_distinct vars ≡ true → AreDistinct vars
unfolding IsDistinct
distinct_is [] h = tt
distinct_is ((x, a) ∷ vars) h = let both = and_parts (is_new vars x) (are_distinct vars) h in (new_is vars x both.0, distinct_is vars both.1)

pub distinct_again : (vars : Vars) → AreDistinct vars → are_distinct vars ≡ true
unfolding IsDistinct
distinct_again [] h = refl
distinct_again ((x, a) ∷ vars) h = rw (new_again vars x h.0, distinct_again vars h.1) refl

-- ---- types that are the same

module _ (same : (a b : Ty) → Decides (same_ty a b) (a ≡ b)) where
  pub same_again : (a : Ty) → same_ty a a ≡ true
  same_again a = (same a a).1 refl

  pub same_is : (a b : Ty) → same_ty a b ≡ true → a ≡ b
  same_is a b = (same a b).0
