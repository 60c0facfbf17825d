-- New names by five functions that tell names apart, and names as they are: types, patterns and values have them in every layer.
use Rattle.std.proofs.Common.{◌≡◌, ℕ, List, map, refl, sym, ap, ◌∙◌}
use Rattle.std.proofs.lemmas.List.{map-id}
use Rattle.krml_syntax.specs.declared.tree.Ty.{Ty, out-Ty, roll-Ty}
use Rattle.krml_syntax.specs.declared.tree.Ty.TheViews.{out-roll-Ty}
use Rattle.krml_syntax.specs.declared.tree.Ty.TheOpen.{Ty-F}
use Rattle.krml_syntax.specs.declared.tree.Ty.TheFolds.{fold_out-Ty}
use Rattle.krml_syntax.specs.declared.tree.Pat.{Pat, out-Pat, roll-Pat}
use Rattle.krml_syntax.specs.declared.tree.Pat.TheViews.{out-roll-Pat}
use Rattle.krml_syntax.specs.declared.tree.Pat.TheOpen.{Pat-F}
use Rattle.krml_syntax.specs.declared.tree.Pat.TheFolds.{fold_out-Pat}
use Rattle.krml_meaning.specs.declared.value.Value.{Value, out-Value, roll-Value}
use Rattle.krml_meaning.specs.declared.value.Value.TheViews.{out-roll-Value}
use Rattle.krml_meaning.specs.declared.value.Value.TheOpen.{Value-F}
use Rattle.krml_meaning.specs.declared.value.Value.TheFolds.{fold_out-Value}
use Rattle.krml_passing.specs.Images.{value_renamed, value_under}
use Rattle.krml_passing.specs.Naming.{TellsApart, TellsNamesApart, naming, unchanged, ty_renamed, pat_renamed, ty_under, pat_under, ty_named, pat_named, value_named}

-- ---- by five functions

pub out_ty_named : (named : List ℕ → List ℕ) (a : Ty) → out-Ty (ty_named named a) ≡ ty_under (ty_named named) named (out-Ty a)
out_ty_named named a = ap out-Ty (fold_out-Ty Ty (λ y. roll-Ty (ty_renamed named y)) a) ∙ out-roll-Ty _

pub out_pat_named : (con named : List ℕ → List ℕ) (q : Pat) → out-Pat (pat_named con named q)
    ≡ pat_under (pat_named con named) con named (out-Pat q)
out_pat_named con named q = ap out-Pat (fold_out-Pat Pat (λ y. roll-Pat (pat_renamed con named y)) q) ∙ out-roll-Pat _

pub out_value_named : (field : List ℕ → List ℕ) (x : Value) → out-Value (value_named field x)
    ≡ value_under (value_named field) field (out-Value x)
out_value_named field x = ap out-Value (fold_out-Value Value (λ y. roll-Value (value_renamed field y)) x) ∙ out-roll-Value _

pub naming_apart : (named con fun table field : List ℕ → List ℕ) → TellsApart named → TellsApart con → TellsApart fun → TellsApart table
    → TellsApart field → TellsNamesApart (naming named con fun table field)
naming_apart named con fun table field named_apart con_apart fun_apart table_apart field_apart = record {
  named_apart = named_apart;
  con_apart = con_apart;
  fun_apart = fun_apart;
  table_apart = table_apart;
  field_apart = field_apart;
  out_ty = out_ty_named named;
  out_pat = out_pat_named con named;
  out_value = out_value_named field;
}

-- ---- as they are

pub ty_itself : (o : Ty-F Ty) → o ≡ ty_under (λ a. a) (λ x. x) o
ty_itself (Ty-F.Named x args) = ap (λ z. Ty-F.Named x z) (sym (map-id args))
ty_itself _ = refl

pub pat_itself : (o : Pat-F Pat) → o ≡ pat_under (λ q. q) (λ x. x) (λ x. x) o
pat_itself (Pat-F.Con x qs) = ap (λ z. Pat-F.Con x z) (sym (map-id qs))
pat_itself (Pat-F.Make x qs) = ap (λ z. Pat-F.Make x z) (sym (map-id qs))
pat_itself _ = refl

pub value_itself : (o : Value-F Value) → o ≡ value_under (λ x. x) (λ x. x) o
value_itself (Value-F.Struct names xs) = ap (λ z. Value-F.Struct z xs) (sym (map-id names))
    ∙ ap (λ z. Value-F.Struct (map (λ x. x) names) z) (sym (map-id xs))
value_itself (Value-F.Con k xs) = ap (λ z. Value-F.Con k z) (sym (map-id xs))
value_itself _ = refl

pub unchanged_apart : TellsNamesApart unchanged
unchanged_apart = record {
  named_apart = λ x y. refl;
  con_apart = λ x y. refl;
  fun_apart = λ x y. refl;
  table_apart = λ x y. refl;
  field_apart = λ x y. refl;
  out_ty = λ a. ty_itself (out-Ty a);
  out_pat = λ q. pat_itself (out-Pat q);
  out_value = λ x. value_itself (out-Value x);
}
