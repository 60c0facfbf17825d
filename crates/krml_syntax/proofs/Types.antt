-- Types with labels erased, and at type arguments.
use Rattle.std.proofs.Common.{◌≡◌, ℕ, Bool, true, false, if◌then◌else◌, List, [], ◌∷◌, map, refl, sym, ap, ◌∙◌, subst}
use Rattle.std.specs.Str.{bytes_eq}
use Rattle.krml_syntax.specs.declared.tree.IntTy.{IntTy}
use Rattle.krml_syntax.specs.declared.tree.Ty.{Ty, roll-Ty, map-Ty}
use Rattle.krml_syntax.specs.declared.tree.Ty.TheVariants as t
use Rattle.krml_syntax.specs.declared.tree.Ty.TheOpen.{Ty-F}
use Rattle.krml_syntax.specs.declared.tree.Ty.TheFolds.{fold_out-Ty, ind-Ty}
use Rattle.krml_syntax.specs.Types.{public, level_erased, erased, argument_of, level_at, type_at}

-- ---- labels erased

pub erased_bool : erased t.Bool ≡ t.Bool
erased_bool = rw (fold_out-Ty Ty level_erased t.Bool, t.outs-Bool) refl

pub erased_unit : erased t.Unit ≡ t.Unit
erased_unit = rw (fold_out-Ty Ty level_erased t.Unit, t.outs-Unit) refl

pub erased_int : (i : IntTy) → erased (t.Int i) ≡ t.Int (public i)
erased_int i = rw (fold_out-Ty Ty level_erased (t.Int i), t.outs-Int i) refl

pub erased_buf : (a : Ty) → erased (t.Buf a) ≡ t.Buf (erased a)
erased_buf a = rw (fold_out-Ty Ty level_erased (t.Buf a), t.outs-Buf a) refl

pub erased_var : (x : List ℕ) → erased (t.Var x) ≡ t.Var x
erased_var x = rw (fold_out-Ty Ty level_erased (t.Var x), t.outs-Var x) refl

pub erased_named : (x : List ℕ) (args : List Ty) → erased (t.Named x args) ≡ t.Named x (map erased args)
erased_named x args = rw (fold_out-Ty Ty level_erased (t.Named x args), t.outs-Named x args) refl

module _ (X : Type 0) (w : X → Ty) (h : (x : X) → erased (erased (w x)) ≡ erased (w x)) where
  all_twice : (xs : List X) → map erased (map erased (map w xs)) ≡ map erased (map w xs)
  all_twice [] = refl
  all_twice (x ∷ xs) = ap (λ z. z ∷ map erased (map erased (map w xs))) (h x) ∙ ap (λ z. erased (w x) ∷ z) (all_twice xs)

  step_twice : (y : Ty-F X) → erased (erased (roll-Ty (map-Ty X Ty w y))) ≡ erased (roll-Ty (map-Ty X Ty w y))
  step_twice Ty-F.Bool = rw t.rolls-Bool (rw (erased_bool, erased_bool) refl)
  step_twice Ty-F.Unit = rw t.rolls-Unit (rw (erased_unit, erased_unit) refl)
  step_twice (Ty-F.Int i) = rw (t.rolls-Int i) (rw (erased_int i, erased_int (public i)) refl)
  step_twice (Ty-F.Buf x) = rw (t.rolls-Buf (w x)) (rw (erased_buf (w x), erased_buf (erased (w x)), h x) refl)
  step_twice (Ty-F.Var x) = rw (t.rolls-Var x) (rw (erased_var x, erased_var x) refl)
  step_twice (Ty-F.Named x xs) = rw (t.rolls-Named x (map w xs)) (rw (erased_named x (map w xs), erased_named x (map erased (map w xs)), all_twice xs) refl)

pub erased_twice : (a : Ty) → erased (erased a) ≡ erased a
erased_twice = ind-Ty (λ a. erased (erased a) ≡ erased a)
    (λ x y eq. subst (λ z. erased (erased (roll-Ty z)) ≡ erased (roll-Ty z)) eq (step_twice _ (λ p. p.0) (λ p. p.1) y))

pub all_erased_twice : (args : List Ty) → map erased (map erased args) ≡ map erased args
all_erased_twice [] = refl
all_erased_twice (a ∷ args) = ap (λ z. z ∷ map erased (map erased args)) (erased_twice a) ∙ ap (λ z. erased a ∷ z) (all_erased_twice args)

-- ---- at type arguments

module _ (vars : List (List ℕ)) (args : List Ty) where
  pub at_bool : type_at vars args t.Bool ≡ t.Bool
  at_bool = rw (fold_out-Ty Ty (level_at vars args) t.Bool, t.outs-Bool) refl

  pub at_unit : type_at vars args t.Unit ≡ t.Unit
  at_unit = rw (fold_out-Ty Ty (level_at vars args) t.Unit, t.outs-Unit) refl

  pub at_int : (i : IntTy) → type_at vars args (t.Int i) ≡ t.Int i
  at_int i = rw (fold_out-Ty Ty (level_at vars args) (t.Int i), t.outs-Int i) refl

  pub at_buf : (a : Ty) → type_at vars args (t.Buf a) ≡ t.Buf (type_at vars args a)
  at_buf a = rw (fold_out-Ty Ty (level_at vars args) (t.Buf a), t.outs-Buf a) refl

  pub at_var : (x : List ℕ) → type_at vars args (t.Var x) ≡ argument_of vars args x
  at_var x = rw (fold_out-Ty Ty (level_at vars args) (t.Var x), t.outs-Var x) refl

  pub at_named : (x : List ℕ) (as' : List Ty) → type_at vars args (t.Named x as') ≡ t.Named x (map (type_at vars args) as')
  at_named x as' = rw (fold_out-Ty Ty (level_at vars args) (t.Named x as'), t.outs-Named x as') refl

-- ---- labels at type arguments

erased_argument : (vars : List (List ℕ)) (args : List Ty) (x : List ℕ) → erased (argument_of vars args x) ≡ argument_of vars (map erased args) x
erased_argument [] args x = erased_var x
erased_argument (v ∷ vars) [] x = erased_var x
erased_argument (v ∷ vars) (a ∷ args) x = go (bytes_eq v x) (erased_argument vars args x)
  where
    go : (b : Bool) → erased (argument_of vars args x) ≡ argument_of vars (map erased args) x
        → erased (if b then a else argument_of vars args x) ≡ (if b then erased a else argument_of vars (map erased args) x)
    go true h = refl
    go false h = h

module _ (vars : List (List ℕ)) (args : List Ty) where
  abbrev ErasedAt : Ty → Type 0
  ErasedAt a = erased (type_at vars args a) ≡ type_at vars (map erased args) (erased a)

  module _ (X : Type 0) (w : X → Ty) (h : (x : X) → ErasedAt (w x)) where
    all_erased_at : (xs : List X) → map erased (map (type_at vars args) (map w xs)) ≡ map (type_at vars (map erased args)) (map erased (map w xs))
    all_erased_at [] = refl
    all_erased_at (x ∷ xs) = ap (λ z. z ∷ map erased (map (type_at vars args) (map w xs))) (h x)
        ∙ ap (λ z. type_at vars (map erased args) (erased (w x)) ∷ z) (all_erased_at xs)

    step_erased_at : (y : Ty-F X) → ErasedAt (roll-Ty (map-Ty X Ty w y))
    step_erased_at Ty-F.Bool = rw t.rolls-Bool (rw (at_bool vars args, erased_bool, at_bool vars (map erased args)) refl)
    step_erased_at Ty-F.Unit = rw t.rolls-Unit (rw (at_unit vars args, erased_unit, at_unit vars (map erased args)) refl)
    step_erased_at (Ty-F.Int i) = rw (t.rolls-Int i) (rw (at_int vars args i, erased_int i, at_int vars (map erased args) (public i)) refl)
    step_erased_at (Ty-F.Buf x) = rw (t.rolls-Buf (w x)) (rw (
      at_buf vars args (w x),
      erased_buf (type_at vars args (w x)),
      erased_buf (w x),
      at_buf vars (map erased args) (erased (w x)),
      h x,
    ) refl)
    step_erased_at (Ty-F.Var x) = rw (t.rolls-Var x) (rw (at_var vars args x, erased_var x, at_var vars (map erased args) x) (erased_argument vars args x))
    step_erased_at (Ty-F.Named x xs) = rw (t.rolls-Named x (map w xs)) (rw (
      at_named vars args x (map w xs),
      erased_named x (map (type_at vars args) (map w xs)),
      erased_named x (map w xs),
      at_named vars (map erased args) x (map erased (map w xs)),
    ) (ap (λ z. t.Named x z) (all_erased_at xs)))

  pub erased_at : (a : Ty) → erased (type_at vars args a) ≡ type_at vars (map erased args) (erased a)
  erased_at = ind-Ty ErasedAt (λ x y eq. subst (λ z. ErasedAt (roll-Ty z)) eq (step_erased_at _ (λ p. p.0) (λ p. p.1) y))

-- labels of the arguments make no difference
pub at_erased : (vars : List (List ℕ)) (args : List Ty) (a : Ty) → erased (type_at vars args a) ≡ erased (type_at vars (map erased args) a)
at_erased vars args a =
    erased_at vars args a ∙ ap (λ z. type_at vars z (erased a)) (sym (all_erased_twice args)) ∙ sym (erased_at vars (map erased args) a)

-- ---- where there are no type variables

module _ (args : List Ty) where
  abbrev Stays : Ty → Type 0
  Stays a = type_at [] args a ≡ a

  module _ (X : Type 0) (w : X → Ty) (h : (x : X) → Stays (w x)) where
    all_stay : (xs : List X) → map (type_at [] args) (map w xs) ≡ map w xs
    all_stay [] = refl
    all_stay (x ∷ xs) = rw (h x, all_stay xs) refl

    step_stays : (y : Ty-F X) → Stays (roll-Ty (map-Ty X Ty w y))
    step_stays Ty-F.Bool = rw t.rolls-Bool (at_bool [] args)
    step_stays Ty-F.Unit = rw t.rolls-Unit (at_unit [] args)
    step_stays (Ty-F.Int i) = rw (t.rolls-Int i) (at_int [] args i)
    step_stays (Ty-F.Buf x) = rw (t.rolls-Buf (w x)) (rw (at_buf [] args (w x), h x) refl)
    step_stays (Ty-F.Var x) = rw (t.rolls-Var x) (at_var [] args x)
    step_stays (Ty-F.Named x xs) = rw (t.rolls-Named x (map w xs)) (rw (at_named [] args x (map w xs), all_stay xs) refl)

  pub at_none : (a : Ty) → type_at [] args a ≡ a
  at_none = ind-Ty Stays (λ x y eq. subst (λ z. Stays (roll-Ty z)) eq (step_stays _ (λ p. p.0) (λ p. p.1) y))

  pub all_at_none : (types : List Ty) → map (type_at [] args) types ≡ types
  all_at_none [] = refl
  all_at_none (a ∷ types) = rw (at_none a, all_at_none types) refl
