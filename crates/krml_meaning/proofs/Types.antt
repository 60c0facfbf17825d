-- Types at type arguments that stand in type arguments.
use Rattle.std.proofs.Common.{◌≡◌, ℕ, zero, suc, Bool, true, false, if◌then◌else◌, List, [], ◌∷◌, map, length, Contains, refl, sym, ap, ◌∙◌, arith}
use Rattle.std.specs.Str.{bytes_eq}
use Rattle.std.proofs.lemmas.Slice.Eq.{bytes_eq-Decides}
use Rattle.krml_syntax.specs.declared.tree.Ty.{Ty}
use Rattle.krml_syntax.specs.declared.tree.Ty.TheVariants as t
use Rattle.krml_syntax.specs.declared.tree.Def.{Def}
use Rattle.krml_syntax.specs.Types.{erased, argument_of, type_at}
use Rattle.krml_syntax.proofs.Types.{erased_twice, all_erased_twice, at_bool, at_unit, at_int, at_buf, at_var, at_named, erased_at}
use Rattle.krml_ast.specs.IsType.{IsType, AreArguments}
use Rattle.krml_ast.specs.Typing.{at}

-- labels of the arguments make no difference
pub at_same : (vars : List (List ℕ)) (args args' : List Ty) (a : Ty) → map erased args ≡ map erased args' → at vars args a ≡ at vars args' a
at_same vars args args' a e = erased_at vars args a ∙ ap (λ z. type_at vars z (erased a)) e ∙ sym (erased_at vars args' a)

-- ---- arguments in arguments

pub name_same : (x : List ℕ) → bytes_eq x x ≡ true
name_same x = (bytes_eq-Decides x x).1 refl

module _ (outer : List (List ℕ)) (types : List Ty) where
  argument_twice : (vars : List (List ℕ)) (args : List Ty) (x : List ℕ) → length args ≡ length vars → Contains vars x
      → type_at outer types (argument_of vars args x) ≡ argument_of vars (map (type_at outer types) args) x
  argument_twice [] args x n (k, l, q) = absurd (omega (arith, l))
  argument_twice (v ∷ vars) [] x n has = absurd (omega (arith, n))
  argument_twice (v ∷ vars) (a ∷ args) x n (zero, l, q) = rw ((bytes_eq-Decides v x).1 q) refl
  argument_twice (v ∷ vars) (a ∷ args) x n (suc k, l, q) = go (bytes_eq v x) (argument_twice vars args x (omega (arith, n)) (k, omega (arith, l), q))
    where
      go : (b : Bool) → type_at outer types (argument_of vars args x) ≡ argument_of vars (map (type_at outer types) args) x
          → type_at outer types (if b then a else argument_of vars args x) ≡ (if b then type_at outer types a else argument_of vars (map (type_at outer types) args) x)
      go true h = refl
      go false h = h

  module _ (defs : List Def) (vars : List (List ℕ)) (args : List Ty) (n : length args ≡ length vars) where
    mutual
      pub at_twice : (a : Ty) → IsType defs vars a → type_at outer types (type_at vars args a) ≡ type_at vars (map (type_at outer types) args) a
      at_twice a IsType.bool = rw (at_bool vars args, at_bool outer types, at_bool vars (map (type_at outer types) args)) refl
      at_twice a IsType.unit = rw (at_unit vars args, at_unit outer types, at_unit vars (map (type_at outer types) args)) refl
      at_twice a (IsType.int i) = rw (at_int vars args i, at_int outer types i, at_int vars (map (type_at outer types) args) i) refl
      at_twice a (IsType.buf b ok f) = rw (at_buf vars args b, at_buf outer types (type_at vars args b), at_buf vars (map (type_at outer types) args) b)
          (ap (λ z. t.Buf z) (at_twice b ok))
      at_twice a (IsType.var {x = x} has) = rw (at_var vars args x, at_var vars (map (type_at outer types) args) x) (argument_twice vars args x n has)
      at_twice a (IsType.named {x = x} {args = inner} is m oks) = rw (
        at_named vars args x inner,
        at_named outer types x (map (type_at vars args) inner),
        at_named vars (map (type_at outer types) args) x inner,
      ) (ap (λ z. t.Named x z) (all_twice inner oks))

      all_twice : (inner : List Ty) → AreArguments defs vars inner
          → map (type_at outer types) (map (type_at vars args) inner) ≡ map (type_at vars (map (type_at outer types) args)) inner
      all_twice inner AreArguments.none = refl
      all_twice inner (AreArguments.one {a = a} {args = more} ok f oks) =
          ap (λ z. z ∷ map (type_at outer types) (map (type_at vars args) more)) (at_twice a ok)
          ∙ ap (λ z. type_at vars (map (type_at outer types) args) a ∷ z) (all_twice more oks)

  -- a type at arguments, closed
  pub at_closed : (defs : List Def) (vars : List (List ℕ)) (args : List Ty) (a : Ty) → length args ≡ length vars → IsType defs vars a
      → type_at outer (map erased types) (at vars args a) ≡ at vars (map (type_at outer types) args) a
  at_closed defs vars args a n ok = sym (erased_at outer types (type_at vars args a)) ∙ ap erased (at_twice defs vars args n a ok)

  -- a type without labels, closed by types without labels
  pub closed_erased : (a : Ty) → erased (type_at outer (map erased types) a) ≡ erased (type_at outer types a)
  closed_erased a = erased_at outer (map erased types) a ∙ ap (λ z. type_at outer z (erased a)) (all_erased_twice types) ∙ sym (erased_at outer types a)

  pub all_closed_erased : (args : List Ty) → map erased (map (type_at outer (map erased types)) (map erased args)) ≡ map erased (map (type_at outer types) args)
  all_closed_erased [] = refl
  all_closed_erased (a ∷ args) = ap (λ z. z ∷ map erased (map (type_at outer (map erased types)) (map erased args))) (one a)
      ∙ ap (λ z. erased (type_at outer types a) ∷ z) (all_closed_erased args)
    where
      one : (a : Ty) → erased (type_at outer (map erased types) (erased a)) ≡ erased (type_at outer types a)
      one a = erased_at outer (map erased types) (erased a) ∙ ap (λ z. type_at outer z (erased (erased a))) (all_erased_twice types)
          ∙ ap (type_at outer (map erased types)) (erased_twice a) ∙ sym (erased_at outer types a)
