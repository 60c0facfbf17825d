-- Types under the new names: well formed, flat and without labels where the old ones are.
use Rattle.std.proofs.Common.{◌≡◌, ℕ, zero, suc, List, [], ◌∷◌, map, length, Option, Some, None, option_map, Contains, refl, sym, ap, ◌∙◌, subst, arith}
use Rattle.krml_meaning.proofs.Lists.{map_length}
use Rattle.krml_syntax.specs.declared.tree.IntTy.{IntTy}
use Rattle.krml_syntax.specs.declared.tree.Ty.{Ty, out-Ty, roll-Ty, map-Ty}
use Rattle.krml_syntax.specs.declared.tree.Ty.TheViews.{roll-out-Ty}
use Rattle.krml_syntax.specs.declared.tree.Ty.TheVariants as t
use Rattle.krml_syntax.specs.declared.tree.Ty.TheOpen.{Ty-F}
use Rattle.krml_syntax.specs.declared.tree.Ty.TheFolds.{ind-Ty}
use Rattle.krml_syntax.specs.declared.tree.Field.{Field}
use Rattle.krml_syntax.specs.declared.tree.Def.{Def}
use Rattle.krml_ast.specs.Names.{Composite, Struct, Sum, type_named, vars_of}
use Rattle.krml_syntax.specs.Types.{public, erased, int_ty, type_at, is_unit_in}
use Rattle.krml_ast.specs.IsType.{IsValue, HoldsBuffer, IsFlat, IsType, AreArguments}
use Rattle.krml_ast.specs.Typing.{at}
use Rattle.krml_syntax.proofs.Types.{erased_bool, erased_unit, erased_int, erased_buf, erased_var, erased_named}
use Rattle.krml_passing.specs.Naming.{ty_under, field_under, expr_under, def_renamed, Naming, TellsNamesApart}
use Rattle.krml_passing.proofs.Lookups.{bool_under, unit_under, int_under, buf_under, var_under, named_under, ty_at, composite_under, type_named_under}

module _ (nm : Naming) (apart : TellsNamesApart nm) where
  -- ---- labels

  abbrev ErasedUnder : Ty → Type 0
  ErasedUnder a = erased (nm.ty a) ≡ nm.ty (erased a)

  module _ (X : Type 0) (w : X → Ty) (h : (x : X) → ErasedUnder (w x)) where
    all_erased_under : (xs : List X) → map erased (map nm.ty (map w xs)) ≡ map nm.ty (map erased (map w xs))
    all_erased_under [] = refl
    all_erased_under (x ∷ xs) = ap (λ z. z ∷ map erased (map nm.ty (map w xs))) (h x) ∙ ap (λ z. nm.ty (erased (w x)) ∷ z) (all_erased_under xs)

    step_erased_under : (y : Ty-F X) → ErasedUnder (roll-Ty (map-Ty X Ty w y))
    step_erased_under Ty-F.Bool = rw t.rolls-Bool (rw (bool_under nm apart, erased_bool, bool_under nm apart) refl)
    step_erased_under Ty-F.Unit = rw t.rolls-Unit (rw (unit_under nm apart, erased_unit, unit_under nm apart) refl)
    step_erased_under (Ty-F.Int i) = rw (t.rolls-Int i) (rw (int_under nm apart i, erased_int i, (int_under nm apart) (public i)) refl)
    step_erased_under (Ty-F.Buf x) = rw (t.rolls-Buf (w x)) (rw (buf_under nm apart (w x), erased_buf (nm.ty (w x)), erased_buf (w x), (buf_under nm apart) (erased (w x)), h x) refl)
    step_erased_under (Ty-F.Var x) = rw (t.rolls-Var x) (rw (var_under nm apart x, erased_var x, (var_under nm apart) x) refl)
    step_erased_under (Ty-F.Named x xs) = rw (t.rolls-Named x (map w xs)) (rw (
      (named_under nm apart) x (map w xs),
      erased_named (nm.named x) (map nm.ty (map w xs)),
      erased_named x (map w xs),
      (named_under nm apart) x (map erased (map w xs)),
      all_erased_under xs,
    ) refl)

  -- labels may be erased before the new names are given
  pub erased_under : (a : Ty) → erased (nm.ty a) ≡ nm.ty (erased a)
  erased_under = ind-Ty ErasedUnder (λ x y eq. subst (λ z. ErasedUnder (roll-Ty z)) eq (step_erased_under _ (λ p. p.0) (λ p. p.1) y))

  pub all_erased : (args : List Ty) → map erased (map nm.ty args) ≡ map nm.ty (map erased args)
  all_erased [] = refl
  all_erased (a ∷ args) = ap (λ z. z ∷ map erased (map nm.ty args)) (erased_under a) ∙ ap (λ z. nm.ty (erased a) ∷ z) (all_erased args)

  pub at_args_under : (vars : List (List ℕ)) (args : List Ty) (a : Ty) → at vars (map nm.ty args) (nm.ty a) ≡ nm.ty (at vars args a)
  at_args_under vars args a = ap erased (ty_at nm apart vars args a) ∙ erased_under (type_at vars args a)

  pub int_ty_same : (i : IntTy) → nm.ty (int_ty i) ≡ int_ty i
  int_ty_same i = int_under nm apart (public i)

  -- ---- values and buffers

  pub is_unit_under : (a : Ty) → is_unit_in (out-Ty (nm.ty a)) ≡ is_unit_in (out-Ty a)
  is_unit_under a = ap is_unit_in (apart.out_ty a) ∙ go (out-Ty a)
    where
      go : (o : Ty-F Ty) → is_unit_in ((ty_under nm.ty nm.named) o) ≡ is_unit_in o
      go Ty-F.Bool = refl
      go Ty-F.Unit = refl
      go (Ty-F.Int i) = refl
      go (Ty-F.Buf a) = refl
      go (Ty-F.Var x) = refl
      go (Ty-F.Named x args) = refl

  pub value_kept : (a : Ty) → IsValue a → IsValue (nm.ty a)
  value_kept a h = is_unit_under a ∙ h

  -- what is in a list under the new names has an old name
  pub contained_before : {A B : Type 0} (f : A → B) (xs : List A) (y : B) → Contains (map f xs) y → (x : A) × Contains xs x × (y ≡ f x)
  contained_before f [] y (k, l, e) = absurd (omega (arith, l))
  contained_before f (x ∷ xs) y (zero, l, e) = (x, (0, omega arith, refl), sym e)
  contained_before f (x ∷ xs) y (suc k, l, e) = let r = contained_before f xs y (k, omega (arith, l), e) in (r.0, (suc r.1.0, omega (arith, r.1.1), r.1.2), r.2)

  pub contained_after : {A B : Type 0} (f : A → B) (xs : List A) (x : A) → Contains xs x → Contains (map f xs) (f x)
  contained_after f [] x (k, l, e) = absurd (omega (arith, l))
  contained_after f (y ∷ xs) x (zero, l, e) = (0, omega arith, ap f e)
  contained_after f (y ∷ xs) x (suc k, l, e) = let r = contained_after f xs x (k, omega (arith, l), e) in (suc r.0, omega (arith, r.1), r.2)

  rolled : (a : Ty) (o : Ty-F Ty) → out-Ty a ≡ o → a ≡ roll-Ty o
  rolled a o e = sym (roll-out-Ty a) ∙ ap roll-Ty e

  -- a type that is a buffer under the new names is one
  buffer_before : (a b : Ty) → t.Buf b ≡ nm.ty a → (c : Ty) × (a ≡ t.Buf c)
  buffer_before a b h = go (out-Ty a) refl (sym (t.outs-Buf b) ∙ ap out-Ty h ∙ apart.out_ty a)
    where
      go : (o : Ty-F Ty) → out-Ty a ≡ o → Ty-F.Buf b ≡ (ty_under nm.ty nm.named) o → (c : Ty) × (a ≡ t.Buf c)
      go Ty-F.Bool e q = absurd (cc)
      go Ty-F.Unit e q = absurd (cc)
      go (Ty-F.Int i) e q = absurd (cc)
      go (Ty-F.Buf c) e q = (c, rolled a (Ty-F.Buf c) e ∙ t.rolls-Buf c)
      go (Ty-F.Var x) e q = absurd (cc)
      go (Ty-F.Named x args) e q = absurd (cc)

  -- and one that is a struct or a sum was that
  record NamedBefore (a : Ty) (x : List ℕ) : Type 0 where
    pub name : List ℕ
    pub args : List Ty
    pub is : a ≡ t.Named name args
    pub new : nm.named name ≡ x

  named_before : (a : Ty) (x : List ℕ) (types : List Ty) → t.Named x types ≡ nm.ty a → NamedBefore a x
  named_before a x types h = go (out-Ty a) refl (sym (t.outs-Named x types) ∙ ap out-Ty h ∙ apart.out_ty a)
    where
      go : (o : Ty-F Ty) → out-Ty a ≡ o → Ty-F.Named x types ≡ (ty_under nm.ty nm.named) o → NamedBefore a x
      go Ty-F.Bool e q = absurd (cc)
      go Ty-F.Unit e q = absurd (cc)
      go (Ty-F.Int i) e q = absurd (cc)
      go (Ty-F.Buf c) e q = absurd (cc)
      go (Ty-F.Var y) e q = absurd (cc)
      go (Ty-F.Named y args) e q = record { name = y; args = args; is = rolled a (Ty-F.Named y args) e ∙ t.rolls-Named y args; new = cc }

  -- the struct of an old name
  record StructBefore (vars : List (List ℕ)) (fields : List Field) (o : Option Composite) : Type 0 where
    pub olds : List Field
    pub is : o ≡ Some (Struct vars olds)
    pub new : fields ≡ map (field_under nm) olds

  struct_before : (vars : List (List ℕ)) (fields : List Field) (o : Option Composite) → option_map (composite_under nm apart) o ≡ Some (Struct vars fields) → StructBefore vars fields o
  struct_before vars fields None h = absurd (cc)
  struct_before vars fields (Some (Struct vs fs)) h =
      let v : vs ≡ vars = cc in
      let f : map (field_under nm) fs ≡ fields = cc in
      record { olds = fs; is = ap (λ z. Some (Struct z fs)) v; new = sym f }
  struct_before vars fields (Some (Sum vs cons)) h = absurd (cc)

  module _ (defs : List Def) where
    abbrev defs' : List Def
    defs' = map (def_renamed nm) defs

    -- what is a buffer or has one in it under the new names has one
    holds_before : (b : Ty) → HoldsBuffer defs' b → (a : Ty) → b ≡ nm.ty a → HoldsBuffer defs a
    holds_before b (HoldsBuffer.buffer c) a e = let k = buffer_before a c e in rw k.1 (HoldsBuffer.buffer k.0)
    holds_before b (HoldsBuffer.field {x = x} args {vars = vars} {fields = fields} {f = f} is has h) a e =
        let n = named_before a x args e in
        let s = struct_before vars fields (type_named defs n.name) (sym ((type_named_under nm apart (expr_under nm)) defs n.name) ∙ ap (type_named defs') n.new ∙ is) in
        let c = contained_before (field_under nm) s.olds f (subst (λ z. Contains z f) s.new has) in
        let inner : HoldsBuffer defs c.0.ty = holds_before f.ty h c.0.ty (ap (λ z. z.ty) c.2) in
        rw n.is (HoldsBuffer.field n.args s.is c.1 inner)

    pub flat_kept : (a : Ty) → IsFlat defs a → IsFlat defs' (nm.ty a)
    flat_kept a f = record { value = value_kept a f.value; flat = λ h. f.flat (holds_before (nm.ty a) h a refl) }

    -- ---- well formed types

    pub type_is : (x : List ℕ) (c : Composite) → type_named defs x ≡ Some c → type_named defs' (nm.named x) ≡ Some (composite_under nm apart c)
    type_is x c is = (type_named_under nm apart (expr_under nm)) defs x ∙ ap (option_map (composite_under nm apart)) is

    pub vars_of_under : (c : Composite) → vars_of (composite_under nm apart c) ≡ vars_of c
    vars_of_under (Struct vars fields) = refl
    vars_of_under (Sum vars cons) = refl

    pub as_many : {A : Type 0} (args : List Ty) (vars : List A) → length args ≡ length vars → length (map nm.ty args) ≡ length vars
    as_many args vars n = map_length nm.ty args ∙ n

    mutual
      pub type_kept : (vars : List (List ℕ)) (a : Ty) → IsType defs vars a → IsType defs' vars (nm.ty a)
      type_kept vars a IsType.bool = rw (bool_under nm apart) IsType.bool
      type_kept vars a IsType.unit = rw (unit_under nm apart) IsType.unit
      type_kept vars a (IsType.int i) = rw (int_under nm apart i) (IsType.int i)
      type_kept vars a (IsType.buf b ok f) = rw (buf_under nm apart b) (IsType.buf (nm.ty b) (type_kept vars b ok) (flat_kept b f))
      type_kept vars a (IsType.var {x = x} h) = rw (var_under nm apart x) (IsType.var h)
      type_kept vars a (IsType.named {x = x} {c = c} {args = args} is n oks) = rw (named_under nm apart x args)
          (IsType.named (type_is x c is) (as_many args (vars_of c) n ∙ ap length (sym (vars_of_under c))) (arguments_kept vars args oks))

      pub arguments_kept : (vars : List (List ℕ)) (args : List Ty) → AreArguments defs vars args → AreArguments defs' vars (map nm.ty args)
      arguments_kept vars args AreArguments.none = AreArguments.none
      arguments_kept vars args (AreArguments.one {a = a} {args = more} ok f oks) = AreArguments.one (type_kept vars a ok) (flat_kept a f) (arguments_kept vars more oks)
