-- Types that hold no buffer, and well formed ones, at type arguments and without labels.
use Rattle.std.proofs.Common.{◌≡◌, ℕ, zero, suc, Bool, true, false, if◌then◌else◌, List, [], ◌∷◌, map, length, Contains, Some, refl, sym, ap, ◌∙◌, subst, arith}
use Rattle.std.specs.List.{AllByRecursion}
use Rattle.std.specs.Str.{bytes_eq}
use Rattle.std.proofs.lemmas.Slice.Eq.{bytes_eq-Decides}
use Rattle.krml_syntax.specs.declared.tree.IntTy.{IntTy}
use Rattle.krml_syntax.specs.declared.tree.Ty.{Ty, out-Ty, roll-Ty, roll-out-Ty}
use Rattle.krml_syntax.specs.declared.tree.Ty.TheVariants as t
use Rattle.krml_syntax.specs.declared.tree.Ty.TheOpen.{Ty-F}
use Rattle.krml_syntax.specs.declared.tree.Field.{Field}
use Rattle.krml_syntax.specs.declared.tree.Def.{Def}
use Rattle.krml_ast.specs.Names.{Struct, type_named}
use Rattle.krml_syntax.specs.Types.{public, erased, argument_of, type_at, is_unit_in}
use Rattle.krml_ast.specs.IsType.{IsValue, HoldsBuffer, IsFlat, IsType, AreArguments}
use Rattle.krml_meaning.proofs.Lists.{map_length}
use Rattle.krml_syntax.proofs.Types.{erased_bool, erased_unit, erased_int, erased_buf, erased_var, erased_named, at_bool, at_unit, at_int, at_buf, at_var, at_named}

-- a type is of one of these forms
pub by_form : (P : Ty → Type 0) → P t.Bool → P t.Unit → ((i : IntTy) → P (t.Int i)) → ((a : Ty) → P (t.Buf a)) → ((x : List ℕ) → P (t.Var x))
    → ((x : List ℕ) (args : List Ty) → P (t.Named x args)) → (a : Ty) → P a
by_form P b u i f v n a = subst P (roll-out-Ty a) (go (out-Ty a))
  where
    go : (o : Ty-F Ty) → P (roll-Ty o)
    go Ty-F.Bool = rw t.rolls-Bool b
    go Ty-F.Unit = rw t.rolls-Unit u
    go (Ty-F.Int j) = rw (t.rolls-Int j) (i j)
    go (Ty-F.Buf a) = rw (t.rolls-Buf a) (f a)
    go (Ty-F.Var x) = rw (t.rolls-Var x) (v x)
    go (Ty-F.Named x args) = rw (t.rolls-Named x args) (n x args)

-- ---- values

pub value_erased : (a : Ty) → IsValue a → IsValue (erased a)
value_erased = by_form (λ a. IsValue a → IsValue (erased a)) (λ h. rw (erased_bool, t.outs-Bool) refl) (λ h. absurd (no_unit h))
    (λ i h. rw (erased_int i, t.outs-Int (public i)) refl) (λ a h. rw (erased_buf a, t.outs-Buf (erased a)) refl) (λ x h. rw (erased_var x, t.outs-Var x) refl)
    (λ x args h. rw (erased_named x args, t.outs-Named x (map erased args)) refl)
  where
    no_unit : IsValue t.Unit → ⊥
    no_unit h = let e : is_unit_in Ty-F.Unit ≡ false = ap is_unit_in (sym t.outs-Unit) ∙ h in absurd (cc)

module _ (defs : List Def) where
  -- ---- what holds a buffer

  abbrev HoldsIn : Ty-F Ty → Type 0
  HoldsIn (Ty-F.Buf a) = Unit {0}
  HoldsIn (Ty-F.Named x args) = (vars : List (List ℕ)) × (fields : List Field) × (f : Field) × (type_named defs x ≡ Some (Struct vars fields)) × Contains fields f × HoldsBuffer defs f.ty
  HoldsIn _ = ⊥

  holds_in : (a : Ty) → HoldsBuffer defs a → HoldsIn (out-Ty a)
  holds_in a (HoldsBuffer.buffer b) = rw (t.outs-Buf b) tt
  holds_in a (HoldsBuffer.field {x = x} args {vars = vars} {fields = fields} {f = f} is has h) = rw (t.outs-Named x args) (vars, fields, f, is, has, h)

  none_bool : HoldsBuffer defs t.Bool → ⊥
  none_bool h = subst HoldsIn t.outs-Bool (holds_in t.Bool h)

  pub none_unit : HoldsBuffer defs t.Unit → ⊥
  none_unit h = subst HoldsIn t.outs-Unit (holds_in t.Unit h)

  pub none_int : (i : IntTy) → HoldsBuffer defs (t.Int i) → ⊥
  none_int i h = subst HoldsIn (t.outs-Int i) (holds_in (t.Int i) h)

  none_var : (x : List ℕ) → HoldsBuffer defs (t.Var x) → ⊥
  none_var x h = subst HoldsIn (t.outs-Var x) (holds_in (t.Var x) h)

  -- whatever the arguments
  holds_named : (x : List ℕ) (args other : List Ty) → HoldsBuffer defs (t.Named x args) → HoldsBuffer defs (t.Named x other)
  holds_named x args other h =
      let k : HoldsIn (Ty-F.Named x args) = subst HoldsIn (t.outs-Named x args) (holds_in (t.Named x args) h) in
      HoldsBuffer.field other k.3 k.4 k.5

  pub holds_erased : (a : Ty) → HoldsBuffer defs (erased a) → HoldsBuffer defs a
  holds_erased = by_form (λ a. HoldsBuffer defs (erased a) → HoldsBuffer defs a) (λ h. subst (HoldsBuffer defs) erased_bool h) (λ h. subst (HoldsBuffer defs) erased_unit h)
      (λ i h. absurd (none_int (public i) (subst (HoldsBuffer defs) (erased_int i) h))) (λ a h. HoldsBuffer.buffer a) (λ x h. subst (HoldsBuffer defs) (erased_var x) h)
      (λ x args h. holds_named x (map erased args) args (subst (HoldsBuffer defs) (erased_named x args) h))

  pub flat_erased : (a : Ty) → IsFlat defs a → IsFlat defs (erased a)
  flat_erased a f = record { value = value_erased a f.value; flat = λ h. f.flat (holds_erased a h) }

  -- ---- at flat arguments

  module _ (vars : List (List ℕ)) where
    flat_argument : (names : List (List ℕ)) (args : List Ty) (x : List ℕ) → AllByRecursion (IsFlat defs) args → IsFlat defs (argument_of names args x)
    flat_argument [] args x fs = record { value = rw (t.outs-Var x) refl; flat = none_var x }
    flat_argument (v ∷ names) [] x fs = record { value = rw (t.outs-Var x) refl; flat = none_var x }
    flat_argument (v ∷ names) (a ∷ args) x fs = go (bytes_eq v x) (flat_argument names args x fs.1)
      where
        go : (b : Bool) → IsFlat defs (argument_of names args x) → IsFlat defs (if b then a else argument_of names args x)
        go true later = fs.0
        go false later = later

    module _ (args : List Ty) (fs : AllByRecursion (IsFlat defs) args) where
      pub holds_at : (a : Ty) → HoldsBuffer defs (type_at vars args a) → HoldsBuffer defs a
      holds_at = by_form (λ a. HoldsBuffer defs (type_at vars args a) → HoldsBuffer defs a) (λ h. subst (HoldsBuffer defs) (at_bool vars args) h)
          (λ h. subst (HoldsBuffer defs) (at_unit vars args) h) (λ i h. subst (HoldsBuffer defs) (at_int vars args i) h) (λ a h. HoldsBuffer.buffer a)
          (λ x h. absurd ((flat_argument vars args x fs).flat (subst (HoldsBuffer defs) (at_var vars args x) h)))
          (λ x inner h. holds_named x (map (type_at vars args) inner) inner (subst (HoldsBuffer defs) (at_named vars args x inner) h))

      value_at : (a : Ty) → IsValue a → IsValue (type_at vars args a)
      value_at = by_form (λ a. IsValue a → IsValue (type_at vars args a)) (λ h. rw (at_bool vars args) h) (λ h. rw (at_unit vars args) h) (λ i h. rw (at_int vars args i) h)
          (λ a h. rw (at_buf vars args a, t.outs-Buf (type_at vars args a)) refl) (λ x h. rw (at_var vars args x) (flat_argument vars args x fs).value)
          (λ x inner h. rw (at_named vars args x inner, t.outs-Named x (map (type_at vars args) inner)) refl)

      pub flat_at : (a : Ty) → IsFlat defs a → IsFlat defs (type_at vars args a)
      flat_at a f = record { value = value_at a f.value; flat = λ h. f.flat (holds_at a h) }

  -- ---- well formed types

  pub all_flat : (vars : List (List ℕ)) (args : List Ty) → AreArguments defs vars args → AllByRecursion (IsFlat defs) args
  all_flat vars args AreArguments.none = tt
  all_flat vars args (AreArguments.one {args = more} ok f oks) = (f, all_flat vars more oks)

  mutual
    pub type_erased : (vars : List (List ℕ)) (a : Ty) → IsType defs vars a → IsType defs vars (erased a)
    type_erased vars a IsType.bool = rw erased_bool IsType.bool
    type_erased vars a IsType.unit = rw erased_unit IsType.unit
    type_erased vars a (IsType.int i) = rw (erased_int i) (IsType.int (public i))
    type_erased vars a (IsType.buf b ok f) = rw (erased_buf b) (IsType.buf (erased b) (type_erased vars b ok) (flat_erased b f))
    type_erased vars a (IsType.var {x = x} has) = rw (erased_var x) (IsType.var has)
    type_erased vars a (IsType.named {x = x} {args = args} is n oks) = rw (erased_named x args) (IsType.named is (map_length erased args ∙ n) (arguments_erased vars args oks))

    pub arguments_erased : (vars : List (List ℕ)) (args : List Ty) → AreArguments defs vars args → AreArguments defs vars (map erased args)
    arguments_erased vars args AreArguments.none = AreArguments.none
    arguments_erased vars args (AreArguments.one {a = a} {args = more} ok f oks) = AreArguments.one (type_erased vars a ok) (flat_erased a f) (arguments_erased vars more oks)

  module _ (vars : List (List ℕ)) (types : List Ty) (n : length types ≡ length vars) (good : AreArguments defs [] types) where
    argument_typed : (names : List (List ℕ)) (args : List Ty) (x : List ℕ) → length args ≡ length names → AreArguments defs [] args → Contains names x
        → IsType defs [] (argument_of names args x)
    argument_typed [] args x m oks (k, l, q) = absurd (omega (arith, l))
    argument_typed (v ∷ names) [] x m oks has = absurd (omega (arith, m))
    argument_typed (v ∷ names) args x m (AreArguments.one {a = a} {args = more} ok f oks) (zero, l, q) = rw ((bytes_eq-Decides v x).1 q) ok
    argument_typed (v ∷ names) args x m (AreArguments.one {a = a} {args = more} ok f oks) (suc k, l, q) =
        go (bytes_eq v x) (argument_typed names more x (omega (arith, m)) oks (k, omega (arith, l), q))
      where
        go : (b : Bool) → IsType defs [] (argument_of names more x) → IsType defs [] (if b then a else argument_of names more x)
        go true later = ok
        go false later = later

    mutual
      pub type_closed : (a : Ty) → IsType defs vars a → IsType defs [] (type_at vars types a)
      type_closed a IsType.bool = rw (at_bool vars types) IsType.bool
      type_closed a IsType.unit = rw (at_unit vars types) IsType.unit
      type_closed a (IsType.int i) = rw (at_int vars types i) (IsType.int i)
      type_closed a (IsType.buf b ok f) = rw (at_buf vars types b) (IsType.buf (type_at vars types b) (type_closed b ok) (flat_at vars types (all_flat [] types good) b f))
      type_closed a (IsType.var {x = x} has) = rw (at_var vars types x) (argument_typed vars types x n good has)
      type_closed a (IsType.named {x = x} {args = args} is m oks) = rw (at_named vars types x args)
          (IsType.named is (map_length (type_at vars types) args ∙ m) (arguments_closed args oks))

      pub arguments_closed : (args : List Ty) → AreArguments defs vars args → AreArguments defs [] (map (type_at vars types) args)
      arguments_closed args AreArguments.none = AreArguments.none
      arguments_closed args (AreArguments.one {a = a} {args = more} ok f oks) =
          AreArguments.one (type_closed a ok) (flat_at vars types (all_flat [] types good) a f) (arguments_closed more oks)
