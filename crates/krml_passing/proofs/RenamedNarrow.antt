-- Types have as many leaves under the new names as before, whatever bodies of functions become: so narrow files stay narrow.
use Rattle.std.proofs.Common.{◌≡◌, ℕ, zero, suc, ◌+◌, ◌≤◌, List, [], ◌∷◌, map, length, Option, Some, None, option_map, flat_map, refl, sym, ap, ◌∙◌, subst}
use Rattle.std.specs.List.{sum_by}
use Rattle.std.proofs.lemmas.List.{length-map}
use Rattle.std.proofs.lemmas.List.Sums.{sum_by-append, sum_by-cons}
use Rattle.krml_syntax.specs.declared.tree.Ty.{Ty, out-Ty}
use Rattle.krml_syntax.specs.declared.tree.Ty.TheOpen.{Ty-F}
use Rattle.krml_syntax.specs.declared.tree.Field.{Field}
use Rattle.krml_syntax.specs.declared.tree.Con.{Con}
use Rattle.krml_syntax.specs.declared.tree.Expr.{Expr}
use Rattle.krml_syntax.specs.declared.tree.Def.{Def}
use Rattle.krml_syntax.specs.declared.tree.Def.TheVariants as d
use Rattle.krml_ast.specs.Names.{Composite, Struct, Sum, type_named}
use Rattle.krml_ast.specs.Leaves.{tag_type, leaves_of, leaves_in, leaves_within, leaves, max_leaves, composite_of, leaves_of_def, AreNarrow}
use Rattle.krml_passing.specs.Naming.{Naming, TellsNamesApart, ty_under, field_under, con_under, def_under}
use Rattle.krml_passing.proofs.Lookups.{int_under, composite_under, to, type_named_under}
use Rattle.krml_passing.proofs.RenamedNames.{each_map}

module _ (n : Naming) (ok : TellsNamesApart n) where
  -- ---- structs and sums

  module _ (count count' : Ty → ℕ) (h : (a : Ty) → count' (n.ty a) ≡ count a) where
    types_counted : (types : List Ty) → sum_by count' (map n.ty types) ≡ sum_by count types
    types_counted [] = refl
    types_counted (a ∷ types) = sum_by-cons count' (n.ty a) (map n.ty types)
        ∙ ap (λ z. z + sum_by count' (map n.ty types)) (h a) ∙ ap (λ z. count a + z) (types_counted types)
        ∙ sym (sum_by-cons count a types)

    fields_counted : (fields : List Field) → sum_by count' (map (λ f. f.ty) (map (field_under n) fields))
        ≡ sum_by count (map (λ f. f.ty) fields)
    fields_counted [] = refl
    fields_counted (f ∷ fields) = sum_by-cons count' (n.ty f.ty) (map (λ f. f.ty) (map (field_under n) fields))
        ∙ ap (λ z. z + sum_by count' (map (λ f. f.ty) (map (field_under n) fields))) (h f.ty)
        ∙ ap (λ z. count f.ty + z) (fields_counted fields)
        ∙ sym (sum_by-cons count f.ty (map (λ f. f.ty) fields))

    cons_counted : (cons : List Con) → sum_by count' (flat_map (λ c. c.args) (map (con_under n) cons))
        ≡ sum_by count (flat_map (λ c. c.args) cons)
    cons_counted [] = refl
    cons_counted (c ∷ cons) = sum_by-append count' (map n.ty c.args) (flat_map (λ c. c.args) (map (con_under n) cons))
        ∙ ap (λ z. z + sum_by count' (flat_map (λ c. c.args) (map (con_under n) cons))) (types_counted c.args)
        ∙ ap (λ z. sum_by count c.args + z) (cons_counted cons)
        ∙ sym (sum_by-append count c.args (flat_map (λ c. c.args) cons))

    tag_counted : count' tag_type ≡ count tag_type
    tag_counted = ap count' (sym (int_under n ok _)) ∙ h tag_type

    composite_counted : (o : Option Composite) → leaves_of count' (option_map (composite_under n ok) o) ≡ leaves_of count o
    composite_counted None = refl
    composite_counted (Some (Struct vars fields)) = fields_counted fields
    composite_counted (Some (Sum vars cons)) = sum_by-cons count' tag_type (flat_map (λ c. c.args) (map (con_under n) cons))
        ∙ ap (λ z. z + sum_by count' (flat_map (λ c. c.args) (map (con_under n) cons))) tag_counted
        ∙ ap (λ z. count tag_type + z) (cons_counted cons)
        ∙ sym (sum_by-cons count tag_type (flat_map (λ c. c.args) cons))

  -- ---- types and definitions

  module _ (body : Expr → Expr) (defs : List Def) where
    leaves_within_under : (k : ℕ) (a : Ty) → leaves_within k (to n ok body defs) (n.ty a) ≡ leaves_within k defs a
    leaves_within_under zero a = refl
    leaves_within_under (suc k) a = ap (leaves_in (leaves_within k (to n ok body defs)) (to n ok body defs)) (ok.out_ty a)
        ∙ go (leaves_within_under k) (out-Ty a)
      where
        go : ((a : Ty) → leaves_within k (to n ok body defs) (n.ty a) ≡ leaves_within k defs a) → (o : Ty-F Ty)
            → leaves_in (leaves_within k (to n ok body defs)) (to n ok body defs) (ty_under n.ty n.named o)
            ≡ leaves_in (leaves_within k defs) defs o
        go h Ty-F.Bool = refl
        go h Ty-F.Unit = refl
        go h (Ty-F.Int i) = refl
        go h (Ty-F.Buf a) = refl
        go h (Ty-F.Var x) = refl
        go h (Ty-F.Named x args) = ap (leaves_of (leaves_within k (to n ok body defs))) (type_named_under n ok body defs x)
            ∙ composite_counted (leaves_within k defs) (leaves_within k (to n ok body defs)) h (type_named defs x)

    pub leaves_under : (a : Ty) → leaves (to n ok body defs) (n.ty a) ≡ leaves defs a
    leaves_under a = ap (λ k. leaves_within (suc k) (to n ok body defs) (n.ty a)) (length-map defs (def_under n body))
        ∙ leaves_within_under (suc (length defs)) a

    composite_of_under : (def : Def) → composite_of (def_under n body def) ≡ option_map (composite_under n ok) (composite_of def)
    composite_of_under (d.Struct x vars fields) = refl
    composite_of_under (d.Sum x vars cons) = refl
    composite_of_under (d.Table x i nums) = refl
    composite_of_under (d.Fun x vars params result e) = refl
    composite_of_under (d.Entry x) = refl

    pub def_leaves_under : (def : Def) → leaves_of_def (to n ok body defs) (def_under n body def) ≡ leaves_of_def defs def
    def_leaves_under def = ap (leaves_of (leaves (to n ok body defs))) (composite_of_under def)
        ∙ composite_counted (leaves defs) (leaves (to n ok body defs)) leaves_under (composite_of def)

    pub narrow_under : AreNarrow defs → AreNarrow (to n ok body defs)
    narrow_under h = each_map n ok (def_under n body) (λ def. leaves_of_def defs def ≤ max_leaves)
        (λ def. leaves_of_def (to n ok body defs) def ≤ max_leaves) defs
        (λ def small. subst (λ z. z ≤ max_leaves) (sym (def_leaves_under def)) small) h
