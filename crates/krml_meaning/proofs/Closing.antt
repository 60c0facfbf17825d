-- The types of fields, parameters and arguments, closed by the types that a function's type variables stand for.
use Rattle.std.proofs.Common.{◌≡◌, ℕ, List, [], ◌∷◌, map, length, inl, inr, refl, sym, ap, ◌∙◌, subst}
use Rattle.std.specs.List.{AllByRecursion}
use Rattle.krml_syntax.specs.declared.tree.IntTy.{IntTy}
use Rattle.krml_syntax.specs.declared.tree.Ty.{Ty}
use Rattle.krml_syntax.specs.declared.tree.Ty.TheVariants as t
use Rattle.krml_syntax.specs.declared.tree.Field.{Field}
use Rattle.krml_syntax.specs.declared.tree.Def.{Def}
use Rattle.krml_syntax.specs.Types.{public, erased, int_ty, type_at}
use Rattle.krml_ast.specs.IsType.{HoldsBuffer, IsFlat, IsType, AreArguments}
use Rattle.krml_ast.specs.Typing.{at, fields_at, IsResult}
use Rattle.krml_meaning.proofs.Lists.{map_length}
use Rattle.krml_syntax.proofs.Types.{at_bool, at_unit, at_int, at_buf, at_named}
use Rattle.krml_meaning.proofs.Types.{at_same, at_closed, closed_erased, all_closed_erased}
use Rattle.krml_meaning.proofs.Flat.{holds_at, all_flat, flat_at, none_unit, arguments_erased, arguments_closed}
use Rattle.krml_meaning.proofs.Scopes.{Instance, here}

module _ (defs : List Def) (at_args : Instance defs) where
  abbrev pub close : Ty → Ty
  close a = here defs at_args a

  -- a written type, closed
  abbrev pub close_written : Ty → Ty
  close_written a = type_at at_args.tvars at_args.targs a

  pub close_bool : close t.Bool ≡ t.Bool
  close_bool = at_bool at_args.tvars (map erased at_args.targs)

  pub close_unit : close t.Unit ≡ t.Unit
  close_unit = at_unit at_args.tvars (map erased at_args.targs)

  pub close_int : (i : IntTy) → close (int_ty i) ≡ int_ty i
  close_int i = at_int at_args.tvars (map erased at_args.targs) (public i)

  pub close_buf : (a : Ty) → close (t.Buf a) ≡ t.Buf (close a)
  close_buf a = at_buf at_args.tvars (map erased at_args.targs) a

  pub close_named : (x : List ℕ) (args : List Ty) → close (t.Named x args) ≡ t.Named x (map close args)
  close_named x args = at_named at_args.tvars (map erased at_args.targs) x args

  -- ---- at arguments

  all_close : (args : List Ty) → map erased (map close args) ≡ map erased (map close_written args)
  all_close [] = refl
  all_close (a ∷ args) = ap (λ z. z ∷ map erased (map close args)) (closed_erased at_args.tvars at_args.targs a) ∙ ap (λ z. erased (close_written a) ∷ z) (all_close args)

  module _ (vars : List (List ℕ)) (args : List Ty) (n : length args ≡ length vars) where
    -- at arguments without labels
    pub close_at : (a : Ty) → IsType defs vars a → close (at vars args a) ≡ at vars (map close args) a
    close_at a ok = at_closed at_args.tvars at_args.targs defs vars args a n ok ∙ sym (at_same vars (map close args) (map close_written args) a (all_close args))

    -- at written ones, which lose their labels
    pub close_at_written : (a : Ty) → IsType defs vars a → close (at vars args a) ≡ at vars (map close (map erased args)) a
    close_at_written a ok = at_closed at_args.tvars at_args.targs defs vars args a n ok
        ∙ sym (at_same vars (map close (map erased args)) (map close_written args) a (all_closed_erased at_args.tvars at_args.targs args))

    -- at those that a call passes
    pub close_at_passed : (a : Ty) → IsType defs vars a → close (at vars args a) ≡ at vars (map close_written args) a
    close_at_passed a ok = at_closed at_args.tvars at_args.targs defs vars args a n ok

  -- ---- lists

  pub all_are : (vars : List (List ℕ)) (args other : List Ty) (types : List Ty) → AllByRecursion (IsType defs vars) types
      → ((a : Ty) → IsType defs vars a → close (at vars args a) ≡ at vars other a) → map close (map (at vars args) types) ≡ map (at vars other) types
  all_are vars args other [] oks f = refl
  all_are vars args other (a ∷ types) oks f = ap (λ z. z ∷ map close (map (at vars args) types)) (f a oks.0) ∙ ap (λ z. at vars other a ∷ z) (all_are vars args other types oks.1 f)

  pub fields_are : (vars : List (List ℕ)) (args other : List Ty) (fields : List Field) → AllByRecursion (λ f. IsType defs vars f.ty) fields
      → ((a : Ty) → IsType defs vars a → close (at vars args a) ≡ at vars other a) → map close (fields_at vars args fields) ≡ fields_at vars other fields
  fields_are vars args other [] oks f = refl
  fields_are vars args other (g ∷ fields) oks f =
      ap (λ z. z ∷ map close (fields_at vars args fields)) (f g.ty oks.0) ∙ ap (λ z. at vars other g.ty ∷ z) (fields_are vars args other fields oks.1 f)

  -- ---- type arguments

  pub arguments_passed : (args : List Ty) → AreArguments defs at_args.tvars args → AreArguments defs [] (map close_written args)
  arguments_passed args oks = arguments_closed defs at_args.tvars at_args.targs at_args.count at_args.typed args oks

  pub arguments_written : (args : List Ty) → AreArguments defs at_args.tvars args → AreArguments defs [] (map close (map erased args))
  arguments_written args oks = arguments_closed defs at_args.tvars (map erased at_args.targs) (map_length erased at_args.targs ∙ at_args.count)
      (arguments_erased defs [] at_args.targs at_args.typed) (map erased args) (arguments_erased defs at_args.tvars args oks)

  pub flat_closed : (a : Ty) → IsFlat defs a → IsFlat defs (close_written a)
  flat_closed a f = flat_at defs at_args.tvars at_args.targs (all_flat defs [] at_args.targs at_args.typed) a f

  pub result_closed : (a : Ty) → IsResult defs a → HoldsBuffer defs (close a) → ⊥
  result_closed a (inl e) h = none_unit defs (subst (HoldsBuffer defs) (ap close e ∙ close_unit) h)
  result_closed a (inr f) h = f.flat (holds_at defs at_args.tvars (map erased at_args.targs) (all_flat defs [] (map erased at_args.targs) (arguments_erased defs [] at_args.targs at_args.typed)) a h)
