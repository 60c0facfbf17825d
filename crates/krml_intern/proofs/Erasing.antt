-- Types without labels, and their parts.
use Rattle.std.proofs.Common.{◌≡◌, ℕ, List, [], ◌∷◌, map, Some, refl, sym, ap, subst, ◌∙◌}
use Rattle.krml_syntax.specs.declared.tree.IntTy.{IntTy}
use Rattle.krml_syntax.specs.declared.tree.Ty.{Ty, out-Ty}
use Rattle.krml_syntax.specs.declared.tree.Ty.TheOpen.{Ty-F}
use Rattle.krml_syntax.specs.declared.tree.Ty.TheVariants as ty
use Rattle.krml_syntax.specs.Types.{int_ty, public, erased}
use Rattle.krml_syntax.proofs.Types.{erased_twice, erased_int, erased_buf, erased_named}
use Rattle.krml_intern.specs.Table.{Table, Means, AllMean, Grows}
use Rattle.krml_intern.specs.Unlabelled.{NoLabels, IsErased, AllErased}

-- ---- types without labels

pub all_erased_plain : (types : List Ty) → NoLabels (map erased types)
all_erased_plain [] = tt
all_erased_plain (a ∷ types) = (erased_twice a, all_erased_plain types)

pub all_same : (types : List Ty) → NoLabels types → map erased types ≡ types
all_same [] all = refl
all_same (a ∷ types) all = rw (all.0, all_same types all.1) refl

pub all_plain : (types : List Ty) → map erased types ≡ types → NoLabels types
all_plain types same = subst NoLabels same (all_erased_plain types)

pub int_plain : (i : IntTy) → erased (int_ty i) ≡ int_ty i
int_plain i = erased_int (public i)

-- ---- their parts

pub element_plain : (a : Ty) → erased (ty.Buf a) ≡ ty.Buf a → erased a ≡ a
element_plain a same =
    let layer : Ty-F.Buf (erased a) ≡ Ty-F.Buf a = sym (ty.outs-Buf (erased a)) ∙ ap out-Ty (sym (erased_buf a) ∙ same) ∙ ty.outs-Buf a in
    cc

pub buf_plain : (a : Ty) → erased a ≡ a → erased (ty.Buf a) ≡ ty.Buf a
buf_plain a same = erased_buf a ∙ ap ty.Buf same

pub args_plain : (x : List ℕ) (types : List Ty) → erased (ty.Named x types) ≡ ty.Named x types → NoLabels types
args_plain x types same =
    let layer : Ty-F.Named x (map erased types) ≡ Ty-F.Named x types = sym (ty.outs-Named x (map erased types)) ∙ ap out-Ty (sym (erased_named x types) ∙ same) ∙ ty.outs-Named x types in
    all_plain types (cc)

pub named_plain : (x : List ℕ) (types : List Ty) → NoLabels types → erased (ty.Named x types) ≡ ty.Named x types
named_plain x types all = erased_named x types ∙ ap (ty.Named x) (all_same types all)

-- ---- numbers of types without labels

pub is_erased_still : (s t : Table) → Grows s t → (k : ℕ) (a : Ty) → IsErased s k a → IsErased t k a
is_erased_still s t g k a is = record { means = g.types k a is.means; plain = is.plain }

pub is_erased : (t : Table) (k : ℕ) (a : Ty) → Means t k (erased a) → IsErased t k (erased a)
is_erased t k a m = record { means = m; plain = erased_twice a }

pub all_args_erased : (t : Table) (ks : List ℕ) (x : List ℕ) (types : List Ty) → AllMean t ks types → erased (ty.Named x types) ≡ ty.Named x types → AllErased t ks types
all_args_erased t ks x types all same = record { mean = all; erased = args_plain x types same }

pub one_meaning : (t : Table) (k : ℕ) (a b : Ty) → Means t k a → Means t k b → a ≡ b
one_meaning t k a b m o = let both : Some a ≡ Some b = sym m ∙ o in cc
