-- Types of the source as C has them.
use Rattle.std.proofs.Common.{◌≡◌, ℕ, true, false, List, map, refl, sym, ap, ◌∙◌, subst}
use Rattle.krml_syntax.specs.declared.tree.IntTy.{IntTy}
use Rattle.krml_syntax.specs.declared.tree.Ty.{Ty, out-Ty, roll-Ty, map-Ty}
use Rattle.krml_syntax.specs.declared.tree.Ty.TheVariants as t
use Rattle.krml_syntax.specs.declared.tree.Ty.TheOpen.{Ty-F}
use Rattle.krml_syntax.specs.declared.tree.Ty.TheFolds.{fold_out-Ty, ind-Ty}
use Rattle.krml_syntax.specs.Types.{is_unit_in, level_erased, erased}
use Rattle.krml_ctree.specs.declared.tree.CType.{CType}
use Rattle.krml_ctree.specs.declared.tree.CType.TheVariants as ct
use Rattle.krml_ctree.specs.Text.{width_type}
use Rattle.krml_syntax.proofs.Types.{erased_bool, erased_unit, erased_int, erased_buf, erased_var, erased_named}
use Rattle.krml_cstar.specs.Types.{ctype_in, ctype, is_unit}

-- ---- in C

pub ctype_bool : ctype t.Bool ≡ ct.U8
ctype_bool = rw (fold_out-Ty CType ctype_in t.Bool, t.outs-Bool) refl

pub ctype_unit : ctype t.Unit ≡ ct.U8
ctype_unit = rw (fold_out-Ty CType ctype_in t.Unit, t.outs-Unit) refl

pub ctype_int : (i : IntTy) → ctype (t.Int i) ≡ width_type i.width
ctype_int i = rw (fold_out-Ty CType ctype_in (t.Int i), t.outs-Int i) refl

pub ctype_buf : (a : Ty) → ctype (t.Buf a) ≡ ct.Ptr (ctype a)
ctype_buf a = rw (fold_out-Ty CType ctype_in (t.Buf a), t.outs-Buf a) refl

pub ctype_named : (x : List ℕ) (args : List Ty) → ctype (t.Named x args) ≡ ct.Struct x
ctype_named x args = rw (fold_out-Ty CType ctype_in (t.Named x args), t.outs-Named x args) refl

module _ (X : Type 0) (w : X → Ty) (h : (x : X) → ctype (erased (w x)) ≡ ctype (w x)) where
  step_same : (y : Ty-F X) → ctype (erased (roll-Ty (map-Ty X Ty w y))) ≡ ctype (roll-Ty (map-Ty X Ty w y))
  step_same Ty-F.Bool = rw t.rolls-Bool (ap ctype erased_bool)
  step_same Ty-F.Unit = rw t.rolls-Unit (ap ctype erased_unit)
  step_same (Ty-F.Int i) = rw (t.rolls-Int i) (ap ctype (erased_int i) ∙ ctype_int _ ∙ sym (ctype_int i))
  step_same (Ty-F.Buf x) = rw (t.rolls-Buf (w x)) (ap ctype (erased_buf (w x)) ∙ ctype_buf (erased (w x)) ∙ ap ct.Ptr (h x) ∙ sym (ctype_buf (w x)))
  step_same (Ty-F.Var x) = rw (t.rolls-Var x) (ap ctype (erased_var x))
  step_same (Ty-F.Named x xs) = rw (t.rolls-Named x (map w xs)) (ap ctype (erased_named x (map w xs)) ∙ ctype_named x (map erased (map w xs)) ∙ sym (ctype_named x (map w xs)))

-- labels make no difference
pub ctype_erased : (a : Ty) → ctype (erased a) ≡ ctype a
ctype_erased = ind-Ty (λ a. ctype (erased a) ≡ ctype a)
    (λ x y eq. subst (λ z. ctype (erased (roll-Ty z)) ≡ ctype (roll-Ty z)) eq (step_same _ (λ p. p.0) (λ p. p.1) y))

-- types that differ in labels alone are one type
pub ctype_same : (a b : Ty) → erased a ≡ b → ctype a ≡ ctype b
ctype_same a b e = sym (ctype_erased a) ∙ ap ctype e

-- ---- unit

pub unit_is_unit : is_unit t.Unit ≡ true
unit_is_unit = rw t.outs-Unit refl

pub bool_is_value : is_unit t.Bool ≡ false
bool_is_value = rw t.outs-Bool refl

pub int_is_value : (i : IntTy) → is_unit (t.Int i) ≡ false
int_is_value i = rw (t.outs-Int i) refl

pub named_is_value : (x : List ℕ) (args : List Ty) → is_unit (t.Named x args) ≡ false
named_is_value x args = rw (t.outs-Named x args) refl

-- labels make no difference
pub unit_erased : (a : Ty) → is_unit (erased a) ≡ is_unit a
unit_erased a = rw (fold_out-Ty Ty level_erased a) (at (out-Ty a))
  where
    at : (y : Ty-F Ty) → is_unit (level_erased (map-Ty Ty Ty erased y)) ≡ is_unit_in y
    at Ty-F.Bool = rw t.outs-Bool refl
    at Ty-F.Unit = rw t.outs-Unit refl
    at (Ty-F.Int i) = rw t.outs-Int refl
    at (Ty-F.Buf x) = rw t.outs-Buf refl
    at (Ty-F.Var x) = rw t.outs-Var refl
    at (Ty-F.Named x args) = rw t.outs-Named refl

-- ---- the name of a struct

abbrev IsNamed : List ℕ → Ty-F Ty → Type 0
IsNamed x (Ty-F.Named y args) = y ≡ x
IsNamed x _ = ⊥

-- a type that is a struct without its labels is that struct
pub record NamesStruct (x : List ℕ) (a : Ty) : Type 0 where
  pub args : List Ty
  pub is : out-Ty a ≡ Ty-F.Named x args

pub named_out : (a : Ty) (x : List ℕ) (args : List Ty) → erased a ≡ t.Named x args → NamesStruct x a
named_out a x args e = at (out-Ty a) refl (subst (IsNamed x) (ap out-Ty (sym e ∙ fold_out-Ty Ty level_erased a)) (rw (t.outs-Named x args) refl))
  where
    at : (y : Ty-F Ty) → out-Ty a ≡ y → IsNamed x (out-Ty (level_erased (map-Ty Ty Ty erased y))) → NamesStruct x a
    at Ty-F.Bool q h = absurd (subst (IsNamed x) t.outs-Bool h)
    at Ty-F.Unit q h = absurd (subst (IsNamed x) t.outs-Unit h)
    at (Ty-F.Int i) q h = absurd (subst (IsNamed x) (t.outs-Int _) h)
    at (Ty-F.Buf b) q h = absurd (subst (IsNamed x) (t.outs-Buf _) h)
    at (Ty-F.Var y) q h = absurd (subst (IsNamed x) (t.outs-Var y) h)
    at (Ty-F.Named y ts) q h = let same : y ≡ x = subst (IsNamed x) (t.outs-Named y _) h in record { args = ts; is = q ∙ ap (λ z. Ty-F.Named z ts) same }
