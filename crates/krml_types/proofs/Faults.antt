-- The first fault that is found is the first definition that is not well typed.
use Rattle.std.proofs.Common.{◌≡◌, ℕ, zero, suc, ◌+◌, ◌<◌, ◌≤◌, Bool, true, false, if◌then◌else◌, List, [], ◌∷◌, ◌++◌, length, take, slice_get, Option, Some, None, ◌⊎◌, inl, inr, refl, sym, ap, ◌∙◌, subst, arith, append_assoc, append-nil}
use Rattle.std.specs.Bool.{Decides}
use Rattle.std.specs.List.{AllByRecursion, Contains}
use Rattle.krml_trace.proofs.Lists.{take_front, at_front}
use Rattle.krml_syntax.specs.declared.tree.Field.{Field}
use Rattle.krml_syntax.specs.declared.tree.Def.{Def}
use Rattle.krml_syntax.specs.declared.tree.Def.TheVariants as d
use Rattle.krml_ast.specs.Names.{Struct, type_here, type_named}
use Rattle.krml_ast.specs.IsType.{IsValue, IsType}
use Rattle.krml_ast.specs.WellTyped.{WellTyped, IsWellTyped, AreWellTyped}
use Rattle.krml_ast.proofs.Named.{is_struct}
use Rattle.krml_ast.proofs.Earlier.{Settled, none_settled, named_last, type_more}
use Rattle.krml_types.specs.Definitions.{well_typed}
use Rattle.krml_types.specs.Check.{fault_from, first_fault, IsFirstFault}
use Rattle.krml_types.proofs.Definitions.{well_decides}

-- ---- definitions that are well typed leave the names settled

all_at : {A : Type 0} (P : A → Type 0) (xs : List A) (x : A) → AllByRecursion P xs → Contains xs x → P x
all_at P [] x all (k, l, e) = absurd (omega (arith, l))
all_at P (y ∷ xs) x all (zero, l, e) = subst P e all.0
all_at P (y ∷ xs) x all (suc k, l, e) = all_at P xs x all.1 (k, omega (arith, l), e)

new_fields : (defs before : List Def) (x : List ℕ) (vars : List (List ℕ)) (fields : List Field) (f : Field)
    → WellTyped defs before (d.Struct x vars fields) → Contains fields f → IsType before vars f.ty
new_fields defs before x vars fields f (WellTyped.struct new vs fs ok) has = (all_at (λ g. IsType before vars g.ty × IsValue g.ty) fields f ok has).0

settled_more : (defs before : List Def) (def : Def) → Settled before → WellTyped defs before def → Settled (before ++ def ∷ [])
settled_more defs before def s w = record { fields = λ x vars fields f is has. go x vars fields f has (named_last before def x (Struct vars fields) is) }
  where
    go : (x : List ℕ) (vars : List (List ℕ)) (fields : List Field) (f : Field) → Contains fields f
        → (type_named before x ≡ Some (Struct vars fields)) ⊎ (type_here x def ≡ Some (Struct vars fields)) → IsType (before ++ def ∷ []) vars f.ty
    go x vars fields f has (inl is) = type_more before (def ∷ []) s f.ty vars (s.fields x vars fields f is has)
    go x vars fields f has (inr is) = type_more before (def ∷ []) s f.ty vars (new_fields defs before x vars fields f (subst (WellTyped defs before) (is_struct x vars fields def is) w) has)

-- ---- places

none_past : {A : Type 0} (xs : List A) (j : ℕ) → length xs ≤ j → slice_get xs j ≡ None
none_past [] j l = refl
none_past (x ∷ xs) zero l = absurd (omega (arith, l))
none_past (x ∷ xs) (suc j) l = none_past xs j (omega (arith, l))

length_one : {A : Type 0} (xs : List A) (x : A) → length (xs ++ x ∷ []) ≡ length xs + 1
length_one [] x = refl
length_one (y ∷ xs) x = let h = length_one xs x in omega (arith, h)

-- ---- the first fault

abbrev pub IsAnswer : List Def → Option ℕ → Type 0
IsAnswer defs None = AreWellTyped defs
IsAnswer defs (Some k) = IsFirstFault defs k

below_or : (j k : ℕ) → (j < k) ⊎ (k ≤ j)
below_or j zero = inr (omega arith)
below_or zero (suc k) = inl (omega arith)
below_or (suc j) (suc k) = more (below_or j k)
  where
    more : (j < k) ⊎ (k ≤ j) → (suc j < suc k) ⊎ (suc k ≤ suc j)
    more (inl l) = inl (omega (arith, l))
    more (inr l) = inr (omega (arith, l))

module _ (defs : List Def) where
  abbrev Below : ℕ → Type 0
  Below k = (j : ℕ) → j < k → IsWellTyped defs j

  one_decides : (before rest : List Def) (def : Def) → before ++ def ∷ rest ≡ defs → Settled before
      → Decides (well_typed defs (take (length before) defs) def) (WellTyped defs (take (length before) defs) def)
  one_decides before rest def e s =
      let front : before ≡ take (length before) defs = sym (take_front before (def ∷ rest)) ∙ ap (take (length before)) e in
      let whole : Decides (well_typed defs before def) (WellTyped defs before def) =
      subst (λ z. Decides (well_typed z before def) (WellTyped z before def)) e (well_decides before (def ∷ rest) s def) in
      subst (λ z. Decides (well_typed defs z def) (WellTyped defs z def)) front whole

  at_place : (before rest : List Def) (def : Def) → before ++ def ∷ rest ≡ defs → slice_get defs (length before) ≡ Some def
  at_place before rest def e = ap (λ z. slice_get z (length before)) (sym e) ∙ at_front before def rest

  same_def : (a b : Def) (o : Option Def) → o ≡ Some a → o ≡ Some b → a ≡ b
  same_def a b o p q = cc

  below_more : (k : ℕ) (def : Def) → Below k → slice_get defs k ≡ Some def → WellTyped defs (take k defs) def → Below (k + 1)
  below_more k def b is w j l = go (below_or j k)
    where
      go : (j < k) ⊎ (k ≤ j) → IsWellTyped defs j
      go (inl m) = b j m
      go (inr m) = let same : k ≡ j = omega (arith, l, m) in
          subst (λ i. IsWellTyped defs i) same (λ other there. subst (λ z. WellTyped defs (take k defs) z) (same_def def other (slice_get defs k) is there) w)

  from_is : (rest before : List Def) → before ++ rest ≡ defs → Settled before → Below (length before) → IsAnswer defs (fault_from defs (length before) rest)
  from_is [] before e s b = λ j. go j (below_or j (length before))
    where
      go : (j : ℕ) → (j < length before) ⊎ (length before ≤ j) → IsWellTyped defs j
      go j (inl l) = b j l
      go j (inr l) = λ def is.
          let all : length before ≡ length defs = ap (λ z. length z) (sym (append-nil before) ∙ e) in
          let none : slice_get defs j ≡ None = none_past defs j (omega (arith, all, l)) in
          absurd (cc)
  from_is (def ∷ rest) before e s b = go (well_typed defs (take (length before) defs) def) refl
      (λ w. from_is rest (before ++ def ∷ []) (append_assoc before (def ∷ []) rest ∙ e)
      (settled_more defs before def s (subst (λ z. WellTyped defs z def) (ap (take (length before)) (sym e) ∙ take_front before (def ∷ rest)) w))
      (subst Below (sym (length_one before def)) (below_more (length before) def b (at_place before rest def e) w)))
    where
      go : (test : Bool) → well_typed defs (take (length before) defs) def ≡ test
          → (WellTyped defs (take (length before) defs) def → IsAnswer defs (fault_from defs (length (before ++ def ∷ [])) rest))
          → IsAnswer defs (if test then fault_from defs (length before + 1) rest else Some (length before))
      go true h later = subst (λ k. IsAnswer defs (fault_from defs k rest)) (length_one before def) (later ((one_decides before rest def e s).0 h))
      go false h later = (b, λ w. let bad = (one_decides before rest def e s).1 (w def (at_place before rest def e)) in absurd (cc))

pub first_is : (defs : List Def) → IsAnswer defs (first_fault defs)
unfolding first_fault
first_is defs = from_is defs defs [] refl none_settled (λ j l. absurd (omega (arith, l)))
