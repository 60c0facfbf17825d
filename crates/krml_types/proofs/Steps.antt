-- Steps of the checker, where types are known by number.
use Prim.Native.Nat.{zero, suc}
use Rattle.std.proofs.Common.{◌≡◌, ℕ, ◌+◌, ◌<◌, Bool, true, false, List, [], ◌∷◌, length, drop, map, get_or, slice_get, Option, Some, None, Result, Err, refl, sym, ap, subst, ◌∙◌}
use Rattle.std.specs.Bool.{Decides}
use Rattle.std.proofs.lemmas.List.{drop_more}
use Rattle.std.proofs.lemmas.Option.{slice_get_within, get_or_from_slice_get}
use Rattle.krml_syntax.specs.declared.tree.Ty.{Ty, out-Ty, roll-Ty, roll-out-Ty}
use Rattle.krml_syntax.specs.declared.tree.Ty.TheOpen.{Ty-F}
use Rattle.krml_syntax.specs.declared.tree.Ty.TheVariants as ty
use Rattle.krml_syntax.specs.Read.{◌>>=◌}
use Rattle.krml_syntax.specs.Types.{is_unit_in}
use Rattle.krml_ast.specs.Typing.{Scope}
use Rattle.krml_intern.specs.Table.{Table, Grows}
use Rattle.krml_intern.specs.Unlabelled.{IsErased}
use Rattle.krml_intern.proofs.Erasing.{is_erased_still}
use Rattle.krml_ast.specs.declared.component.Component.{Component}
use Rattle.krml_trace.specs.declared.missing.Missing.{Missing}
use Rattle.krml_trace.specs.declared.missing.Missing.TheVariants.{Absent, NoMemory}
use Rattle.krml_types.specs.Definitions.{is_of}
use Rattle.krml_types.specs.Expressions.{Comp, ArmComp, ItemComp, has, each_has, are_tests, joined, arms_from, cases_from, items_from}
use Rattle.krml_trace.specs.Gives.{Gives}
use Rattle.krml_types.specs.Instances.{part_at}
use Rattle.krml_types.specs.Judging.{Place, GivesNumber, IsNumberOf, Leads, is_none, AreParts}
use Rattle.krml_types.specs.Parts.{demand}
use Rattle.krml_types.specs.Types.{same_ty}
use Rattle.krml_types.proofs.Decided.{same_decides}

-- ---- tests

-- two tests that decide the same are one
pub one_test : (x y : Bool) {P : Type 0} → Decides x P → Decides y P → x ≡ y
one_test true y d e = sym (e.1 (d.0 refl))
one_test false true d e = absurd (let on : false ≡ true = d.1 (e.0 refl) in cc)
one_test false false d e = refl

pub unit_decides : (b : Ty) → Decides (is_unit_in (out-Ty b)) (b ≡ ty.Unit)
unit_decides b = (λ h. go (out-Ty b) refl h, λ e. ap (λ z. is_unit_in (out-Ty z)) e ∙ ap is_unit_in ty.outs-Unit)
  where
    go : (o : Ty-F Ty) → out-Ty b ≡ o → is_unit_in o ≡ true → b ≡ ty.Unit
    go Ty-F.Unit q h = sym (roll-out-Ty b) ∙ ap roll-Ty q ∙ ty.rolls-Unit
    go _ q h = absurd (cc)

-- an operand has a type, by a test of its own
pub has_by : (o : Option Ty) (a b : Ty) (s : Bool) (r : Result (Unit {0}) Missing) → o ≡ Some b → Decides s (b ≡ a) → Gives r (demand s) → Gives r (o >>= λ c. demand (same_ty c a))
has_by o a b s r is d g = subst (λ z. Gives r (z >>= λ c. demand (same_ty c a))) (sym is) (subst (λ x. Gives r (demand x)) (one_test s (same_ty b a) d (same_decides b a)) g)

pub has_unit_by : (o : Option Ty) (b : Ty) (r : Result (Unit {0}) Missing) → o ≡ Some b → Gives r (demand (is_unit_in (out-Ty b))) → Gives r (o >>= λ c. demand (same_ty c ty.Unit))
has_unit_by o b r is g = has_by o ty.Unit b (is_unit_in (out-Ty b)) r is (unit_decides b) g

-- ---- failures

pub fails : {A : Type 0} (t : Table) (o : Option A) (f : A → Option Ty) (r : Result A Missing) (q : Result ℕ Missing) (e : Missing) → Gives r o → r ≡ Err e → q ≡ Err e → GivesNumber t q (o >>= f)
fails t o f r q Absent g r_is q_is =
    let none : o ≡ None = subst (λ x. Gives x o) r_is g in
    subst (λ x. GivesNumber t x (o >>= f)) (sym q_is) (ap (λ z. z >>= f) none)
fails t o f r q NoMemory g r_is q_is = subst (λ x. GivesNumber t x (o >>= f)) (sym q_is) tt

-- ---- components

pub get_drop : (types : List Ty) (j : ℕ) (b : Ty) → slice_get types j ≡ Some b → drop j types ≡ b ∷ drop (j + 1) types
get_drop types j b is = drop_more types j b (slice_get_within types j b is) ∙ ap (λ x. x ∷ drop (j + 1) types) (get_or_from_slice_get types j b b is)

pub none_drop : (types : List Ty) (j : ℕ) → slice_get types j ≡ None → drop j types ≡ []
none_drop [] zero is = refl
none_drop [] (suc j) is = refl
none_drop (b ∷ types) zero is = absurd (cc)
none_drop (b ∷ types) (suc j) is = none_drop types j is

module _ {X : Type 0} (f : X → Comp) (es : List X) (types : List Ty) (g : Scope) (j : ℕ) (e : X) (within : j < length es) (e_is : e ≡ get_or es j e) where
  head : drop j es ≡ e ∷ drop (j + 1) es
  head = drop_more es j e within ∙ ap (λ x. x ∷ drop (j + 1) es) (sym e_is)

  -- one operand more
  pub each_has_more : (b : Ty) → slice_get types j ≡ Some b → has (f e) b g ≡ Some tt
      → each_has (map f (drop j es)) (drop j types) g ≡ each_has (map f (drop (j + 1) es)) (drop (j + 1) types) g
  each_has_more b b_is h =
      ap (λ xs. each_has (map f xs) (drop j types) g) head ∙ ap (λ ts. each_has (f e ∷ map f (drop (j + 1) es)) ts g) (get_drop types j b b_is)
      ∙ ap (λ o. o >>= λ u. each_has (map f (drop (j + 1) es)) (drop (j + 1) types) g) h

  pub each_has_fails : (b : Ty) → slice_get types j ≡ Some b → has (f e) b g ≡ None → each_has (map f (drop j es)) (drop j types) g ≡ None
  each_has_fails b b_is h =
      ap (λ xs. each_has (map f xs) (drop j types) g) head ∙ ap (λ ts. each_has (f e ∷ map f (drop (j + 1) es)) ts g) (get_drop types j b b_is)
      ∙ ap (λ o. o >>= λ u. each_has (map f (drop (j + 1) es)) (drop (j + 1) types) g) h

  pub each_has_past : slice_get types j ≡ None → each_has (map f (drop j es)) (drop j types) g ≡ None
  each_has_past is =
      ap (λ xs. each_has (map f xs) (drop j types) g) head ∙ ap (λ ts. each_has (f e ∷ map f (drop (j + 1) es)) ts g) (none_drop types j is)

pub drop_all : {A : Type 0} (xs : List A) → drop (length xs) xs ≡ []
drop_all [] = refl
drop_all (x ∷ xs) = drop_all xs

-- past the last operand
pub each_has_end : (types : List Ty) (g : Scope) (n : ℕ) → each_has [] (drop n types) g ≡ demand (is_none (slice_get types n))
each_has_end types g n = go (slice_get types n) refl
  where
    go : (o : Option Ty) → slice_get types n ≡ o → each_has [] (drop n types) g ≡ demand (is_none (slice_get types n))
    go None is = ap (λ ts. each_has [] ts g) (none_drop types n is) ∙ sym (ap (λ o. demand (is_none o)) is)
    go (Some b) is = ap (λ ts. each_has [] ts g) (get_drop types n b is) ∙ sym (ap (λ o. demand (is_none o)) is)

-- what is found of a component is the type of its place
pub component_at : (s t u : Table) (p q : Place) (kind : Component) (k j : ℕ) (types : List Ty) (r : Result ℕ Missing) → Grows s t → p ≡ q → AreParts s q.defs kind k types
    → ((x : List ℕ) (args : List Ty) → IsErased t k (ty.Named x args) → GivesNumber u r (part_at p.defs kind x args j)) → GivesNumber u r (slice_get types j)
component_at s t u p q kind k j types r g same all is =
    subst (λ o. GivesNumber u r o) (ap (λ (p : Place). part_at p.defs kind all.name all.args j) same ∙ all.each j) (is all.name all.args (is_erased_still s t g k (ty.Named all.name all.args) all.is))

pub ends_at : (s t : Table) (p q : Place) (kind : Component) (k j : ℕ) (types : List Ty) (b : Bool) → Grows s t → p ≡ q → AreParts s q.defs kind k types
    → ((x : List ℕ) (args : List Ty) → IsErased t k (ty.Named x args) → b ≡ is_none (part_at p.defs kind x args j)) → b ≡ is_none (slice_get types j)
ends_at s t p q kind k j types b g same all is =
    is all.name all.args (is_erased_still s t g k (ty.Named all.name all.args) all.is)
    ∙ ap is_none (ap (λ (p : Place). part_at p.defs kind all.name all.args j) same ∙ all.each j)

-- a failure is handed on
pub handed_on : (t : Table) (r : Result ℕ Missing) (q : Result (Unit {0}) Missing) (e : Missing) (o : Option Ty) (x : Option (Unit {0})) → GivesNumber t r o → r ≡ Err e → q ≡ Err e → (o ≡ None → x ≡ None) → Gives q x
handed_on t r q Absent o x g r_is q_is none = subst (λ z. Gives z x) (sym q_is) (none (subst (λ z. GivesNumber t z o) r_is g))
handed_on t r q NoMemory o x g r_is q_is none = subst (λ z. Gives z x) (sym q_is) tt

pub handed : (r q : Result (Unit {0}) Missing) (e : Missing) (o x : Option (Unit {0})) → Gives r o → r ≡ Err e → q ≡ Err e → (o ≡ None → x ≡ None) → Gives q x
handed r q Absent o x g r_is q_is none = subst (λ z. Gives z x) (sym q_is) (none (subst (λ z. Gives z o) r_is g))
handed r q NoMemory o x g r_is q_is none = subst (λ z. Gives z x) (sym q_is) tt

pub unmet_number : (t : Table) (r : Result (Unit {0}) Missing) (q : Result ℕ Missing) (e : Missing) (o : Option (Unit {0})) (x : Option Ty) → Gives r o → r ≡ Err e → q ≡ Err e → (o ≡ None → x ≡ None) → GivesNumber t q x
unmet_number t r q Absent o x g r_is q_is none = subst (λ z. GivesNumber t z x) (sym q_is) (none (subst (λ z. Gives z o) r_is g))
unmet_number t r q NoMemory o x g r_is q_is none = subst (λ z. GivesNumber t z x) (sym q_is) tt

-- what is given stays under an equal option
pub seen_as : (t : Table) (r : Result ℕ Missing) (o x : Option Ty) → o ≡ x → GivesNumber t r x → GivesNumber t r o
seen_as t r o x is g = subst (λ z. GivesNumber t r z) (sym is) g

pub handed_number : (s t : Table) (r q : Result ℕ Missing) (e : Missing) (o x : Option Ty) → GivesNumber s r o → r ≡ Err e → q ≡ Err e → (o ≡ None → x ≡ None) → GivesNumber t q x
handed_number s t r q Absent o x g r_is q_is none = subst (λ z. GivesNumber t z x) (sym q_is) (none (subst (λ z. GivesNumber s z o) r_is g))
handed_number s t r q NoMemory o x g r_is q_is none = subst (λ z. GivesNumber t z x) (sym q_is) tt

-- ---- branches

pub number_still : (s t : Table) → Grows s t → (found : Option ℕ) (r : Option Ty) → IsNumberOf s found r → IsNumberOf t found r
number_still s t g (Some k) r is = (is.0, is.1, is_erased_still s t g k is.0 is.2)
number_still s t g None r is = is

module _ {X : Type 0} (f : X → ArmComp) (xs : List X) (i : ℕ) (x : X) (s : Ty) (g : Scope) (found : Option Ty) (a : Ty) (within : i < length xs) (x_is : x ≡ get_or xs i x) (a_is : f x s g ≡ Some a) where
  arms_head : arms_from (map f (drop i xs)) s g found ≡ (joined found a >>= λ r. arms_from (map f (drop (i + 1) xs)) s g (Some r))
  arms_head = ap (λ ys. arms_from (map f ys) s g found) (drop_more xs i x within ∙ ap (λ y. y ∷ drop (i + 1) xs) (sym x_is))
      ∙ ap (λ o. o >>= λ a. joined found a >>= λ r. arms_from (map f (drop (i + 1) xs)) s g (Some r)) a_is

  pub arms_more : (r : Ty) → joined found a ≡ Some r → arms_from (map f (drop i xs)) s g found ≡ arms_from (map f (drop (i + 1) xs)) s g (Some r)
  arms_more r r_is = arms_head ∙ ap (λ o. o >>= λ r. arms_from (map f (drop (i + 1) xs)) s g (Some r)) r_is

  pub arms_fail : joined found a ≡ None → arms_from (map f (drop i xs)) s g found ≡ None
  arms_fail r_is = arms_head ∙ ap (λ o. o >>= λ r. arms_from (map f (drop (i + 1) xs)) s g (Some r)) r_is

module _ {X : Type 0} (f : X → Comp) (xs : List X) (i : ℕ) (x : X) (g : Scope) (found : Option Ty) (a : Ty) (within : i < length xs) (x_is : x ≡ get_or xs i x) (a_is : f x g ≡ Some a) where
  cases_head : cases_from (map f (drop i xs)) g found ≡ (joined found a >>= λ r. cases_from (map f (drop (i + 1) xs)) g (Some r))
  cases_head = ap (λ ys. cases_from (map f ys) g found) (drop_more xs i x within ∙ ap (λ y. y ∷ drop (i + 1) xs) (sym x_is))
      ∙ ap (λ o. o >>= λ a. joined found a >>= λ r. cases_from (map f (drop (i + 1) xs)) g (Some r)) a_is

  pub cases_more : (r : Ty) → joined found a ≡ Some r → cases_from (map f (drop i xs)) g found ≡ cases_from (map f (drop (i + 1) xs)) g (Some r)
  cases_more r r_is = cases_head ∙ ap (λ o. o >>= λ r. cases_from (map f (drop (i + 1) xs)) g (Some r)) r_is

  pub cases_fail : joined found a ≡ None → cases_from (map f (drop i xs)) g found ≡ None
  cases_fail r_is = cases_head ∙ ap (λ o. o >>= λ r. cases_from (map f (drop (i + 1) xs)) g (Some r)) r_is

pub joined_by : (r : Option Ty) (a b : Ty) (s : Bool) → r ≡ Some b → Decides s (a ≡ b) → joined r a ≡ (demand s >>= λ u. Some b)
joined_by r a b s is d = ap (λ o. joined o a) is ∙ ap (λ x. demand x >>= λ u. Some b) (one_test (same_ty a b) s (same_decides a b) d)

-- ---- tests and items

module _ {X : Type 0} (f : X → Comp) (xs : List X) (g : Scope) (i : ℕ) (x : X) (within : i < length xs) (x_is : x ≡ get_or xs i x) where
  tests_head : are_tests (map f (drop i xs)) g ≡ (has (f x) ty.Bool g >>= λ u. are_tests (map f (drop (i + 1) xs)) g)
  tests_head = ap (λ ys. are_tests (map f ys) g) (drop_more xs i x within ∙ ap (λ y. y ∷ drop (i + 1) xs) (sym x_is))

  pub tests_more : has (f x) ty.Bool g ≡ Some tt → are_tests (map f (drop i xs)) g ≡ are_tests (map f (drop (i + 1) xs)) g
  tests_more h = tests_head ∙ ap (λ o. o >>= λ u. are_tests (map f (drop (i + 1) xs)) g) h

  pub tests_fail : has (f x) ty.Bool g ≡ None → are_tests (map f (drop i xs)) g ≡ None
  tests_fail h = tests_head ∙ ap (λ o. o >>= λ u. are_tests (map f (drop (i + 1) xs)) g) h

module _ {X : Type 0} (f : X → ItemComp) (xs : List X) (g : Scope) (i : ℕ) (x : X) (within : i < length xs) (x_is : x ≡ get_or xs i x) where
  items_head : items_from (map f (drop i xs)) g ≡ (f x g >>= λ h. items_from (map f (drop (i + 1) xs)) h)
  items_head = ap (λ ys. items_from (map f ys) g) (drop_more xs i x within ∙ ap (λ y. y ∷ drop (i + 1) xs) (sym x_is))

  pub items_more : (h : Scope) → f x g ≡ Some h → items_from (map f (drop i xs)) g ≡ items_from (map f (drop (i + 1) xs)) h
  items_more h is = items_head ∙ ap (λ o. o >>= λ h. items_from (map f (drop (i + 1) xs)) h) is

  pub items_fail : f x g ≡ None → items_from (map f (drop i xs)) g ≡ None
  items_fail is = items_head ∙ ap (λ o. o >>= λ h. items_from (map f (drop (i + 1) xs)) h) is

pub unled : (r q : Result (Unit {0}) Missing) (e : Missing) (o x : Option Scope) (old new before after : Place) → Leads r o old new → r ≡ Err e → q ≡ Err e → (o ≡ None → x ≡ None) → Leads q x before after
unled r q Absent o x old new before after l r_is q_is none = subst (λ z. Leads z x before after) (sym q_is) (none (subst (λ z. Leads z o old new) r_is l))
unled r q NoMemory o x old new before after l r_is q_is none = subst (λ z. Leads z x before after) (sym q_is) tt

-- the body of a function has the type of its result
pub body_by : (o : Option Ty) (a r b : Ty) (s : Bool) (q : Result (Unit {0}) Missing) → o ≡ Some a → Some r ≡ Some b → Decides s (a ≡ b) → Gives q (demand s) → Gives q (demand (is_of o r))
body_by o a r b s q is r_is d g =
    let same : r ≡ b = cc in
    subst (λ z. Gives q (demand (is_of z r))) (sym is)
    (subst (λ z. Gives q (demand (same_ty a z))) (sym same) (subst (λ x. Gives q (demand x)) (one_test s (same_ty a b) d (same_decides a b)) g))
