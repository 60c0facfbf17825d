-- Types with their labels kept or erased, at type arguments.
use Rattle.std.proofs.Common.{◌≡◌, ℕ, ◌+◌, ◌<◌, List, [], ◌∷◌, ◌++◌, length, map, take, get_or, refl, sym, ap, ◌∙◌}
use Rattle.std.proofs.lemmas.List.{map-append}
use Rattle.krml_syntax.specs.declared.tree.IntTy.{IntTy}
use Rattle.krml_syntax.specs.declared.tree.Ty.{Ty}
use Rattle.krml_syntax.specs.declared.tree.Ty.TheVariants as ty
use Rattle.krml_syntax.specs.Types.{int_ty, erased, type_at}
use Rattle.krml_syntax.proofs.Types.{erased_int, erased_named, at_named, erased_at}
use Rattle.krml_intern.specs.declared.labelling.Labelling.{Labelling}
use Rattle.krml_intern.specs.declared.labelling.Labelling.TheVariants as l
use Rattle.krml_intern.specs.Labels.{labelled}
use Rattle.krml_intern.specs.Unlabelled.{NoLabels}
use Rattle.krml_intern.proofs.Erasing.{all_same}
use Rattle.krml_intern.proofs.Lasts.{map_take_more}

-- ---- forms of types

pub int_erased : (labels : Labelling) (i : IntTy) → labels ≡ l.Erased → int_ty i ≡ labelled labels (ty.Int i)
int_erased labels i is = sym (ap (λ (x : Labelling). labelled x (ty.Int i)) is ∙ erased_int i)

pub all_kept : (types : List Ty) → types ≡ map (labelled l.Kept) types
all_kept [] = refl
all_kept (a ∷ types) = ap (λ ts. a ∷ ts) (all_kept types)

labelled_named : (labels : Labelling) (x : List ℕ) (types : List Ty) → labelled labels (ty.Named x types) ≡ ty.Named x (map (labelled labels) types)
labelled_named l.Kept x types = ap (ty.Named x) (all_kept types)
labelled_named l.Erased x types = erased_named x types

-- ---- and at type arguments

module _ (labels : Labelling) (vars : List (List ℕ)) (all : List Ty) where
  pub put_named : (x : List ℕ) (types : List Ty) → ty.Named x (map (type_at vars all) (map (labelled labels) types)) ≡ type_at vars all (labelled labels (ty.Named x types))
  put_named x types = sym (ap (type_at vars all) (labelled_named labels x types) ∙ at_named vars all x (map (labelled labels) types))

  pub take_more : (types : List Ty) (i : ℕ) (a : Ty) → i < length types → a ≡ get_or types i a
      → map (type_at vars all) (map (labelled labels) (take (i + 1) types)) ≡ map (type_at vars all) (map (labelled labels) (take i types)) ++ type_at vars all (labelled labels a) ∷ []
  take_more types i a l is =
      ap (map (type_at vars all)) (map_take_more (labelled labels) types i a l is)
      ∙ map-append (type_at vars all) (map (labelled labels) (take i types)) (labelled labels a ∷ [])

-- ---- where the arguments have no labels

pub erased_before : (vars : List (List ℕ)) (types : List Ty) (a : Ty) → NoLabels types → type_at vars types (erased a) ≡ erased (type_at vars types a)
erased_before vars types a all = sym (erased_at vars types a ∙ ap (λ ts. type_at vars ts (erased a)) (all_same types all))
