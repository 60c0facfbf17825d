-- Labelled types and erased ones: what erased types have the labelled ones have.
use Rattle.std.proofs.Common.{◌≡◌, ℕ, List, [], ◌∷◌, map, slice_get, Some, option_map, refl, sym, ap, ◌∙◌}
use Rattle.krml_syntax.specs.declared.tree.Ty.{Ty, out-Ty, map-Ty}
use Rattle.krml_syntax.specs.declared.tree.Ty.TheOpen.{Ty-F}
use Rattle.krml_syntax.specs.declared.tree.Ty.TheFolds.{fold_out-Ty}
use Rattle.krml_syntax.specs.declared.tree.Ty.TheVariants as t
use Rattle.krml_syntax.specs.declared.tree.Field.{Field}
use Rattle.krml_syntax.specs.declared.tree.Def.{Def}
use Rattle.krml_syntax.specs.Types.{public, level_erased, erased, type_at, element_of}
use Rattle.krml_syntax.proofs.Types.{at_erased}
use Rattle.krml_ast.specs.Names.{Struct, Constructor, type_named, con_named, field_named}
use Rattle.krml_ast.specs.Typing.{at, fields_at}
use Rattle.krml_ast.specs.Labelled.{con_parts, make_parts, field_type, part_type}

-- ---- parts of definitions at labelled type arguments

module _ (vars : List (List ℕ)) (args : List Ty) where
  pub types_erased : (types : List Ty) → map erased (map (type_at vars args) types) ≡ map (at vars (map erased args)) types
  types_erased [] = refl
  types_erased (a ∷ types) = rw (at_erased vars args a, types_erased types) refl

  pub fields_erased : (fields : List Field) → map erased (map (λ f. type_at vars args f.ty) fields) ≡ fields_at vars (map erased args) fields
  fields_erased [] = refl
  fields_erased (f ∷ fields) = rw (at_erased vars args f.ty, fields_erased fields) refl

-- ---- what the labelled type has

-- the layer of a type that is this one when its labels are erased
layer_is : (a b : Ty) → erased a ≡ b → out-Ty (level_erased (map-Ty Ty Ty erased (out-Ty a))) ≡ out-Ty b
layer_is a b h = ap out-Ty (sym (fold_out-Ty Ty level_erased a) ∙ h)

pub element_is : (a b : Ty) → erased a ≡ t.Buf b → option_map erased (element_of (out-Ty a)) ≡ Some b
element_is a b h = go (out-Ty a) (layer_is a (t.Buf b) h ∙ t.outs-Buf b)
  where
    go : (o : Ty-F Ty) → out-Ty (level_erased (map-Ty Ty Ty erased o)) ≡ Ty-F.Buf b → option_map erased (element_of o) ≡ Some b
    go Ty-F.Bool q = let w : Ty-F.Bool ≡ Ty-F.Buf b = sym t.outs-Bool ∙ q in absurd (cc)
    go Ty-F.Unit q = let w : Ty-F.Unit ≡ Ty-F.Buf b = sym t.outs-Unit ∙ q in absurd (cc)
    go (Ty-F.Int i) q = let w : Ty-F.Int (public i) ≡ Ty-F.Buf b = sym (t.outs-Int (public i)) ∙ q in absurd (cc)
    go (Ty-F.Buf c) q = let w : Ty-F.Buf (erased c) ≡ Ty-F.Buf b = sym (t.outs-Buf (erased c)) ∙ q in cc
    go (Ty-F.Var x) q = let w : Ty-F.Var x ≡ Ty-F.Buf b = sym (t.outs-Var x) ∙ q in absurd (cc)
    go (Ty-F.Named x args) q = let w : Ty-F.Named x (map erased args) ≡ Ty-F.Buf b = sym (t.outs-Named x (map erased args)) ∙ q in absurd (cc)

-- a type that is a struct or a sum
pub record IsNamed (a : Ty) (x : List ℕ) (args : List Ty) : Type 0 where
  pub labelled : List Ty
  pub is : out-Ty a ≡ Ty-F.Named x labelled
  pub same : map erased labelled ≡ args

pub named_is : (a : Ty) (x : List ℕ) (args : List Ty) → erased a ≡ t.Named x args → IsNamed a x args
named_is a x args h = go (out-Ty a) refl (layer_is a (t.Named x args) h ∙ t.outs-Named x args)
  where
    go : (o : Ty-F Ty) → out-Ty a ≡ o → out-Ty (level_erased (map-Ty Ty Ty erased o)) ≡ Ty-F.Named x args → IsNamed a x args
    go Ty-F.Bool e q = let w : Ty-F.Bool ≡ Ty-F.Named x args = sym t.outs-Bool ∙ q in absurd (cc)
    go Ty-F.Unit e q = let w : Ty-F.Unit ≡ Ty-F.Named x args = sym t.outs-Unit ∙ q in absurd (cc)
    go (Ty-F.Int i) e q = let w : Ty-F.Int (public i) ≡ Ty-F.Named x args = sym (t.outs-Int (public i)) ∙ q in absurd (cc)
    go (Ty-F.Buf c) e q = let w : Ty-F.Buf (erased c) ≡ Ty-F.Named x args = sym (t.outs-Buf (erased c)) ∙ q in absurd (cc)
    go (Ty-F.Var y) e q = let w : Ty-F.Var y ≡ Ty-F.Named x args = sym (t.outs-Var y) ∙ q in absurd (cc)
    go (Ty-F.Named y types) e q =
        let w : Ty-F.Named y (map erased types) ≡ Ty-F.Named x args = sym (t.outs-Named y (map erased types)) ∙ q in
        let name : y ≡ x = cc in
        record { labelled = types; is = e ∙ ap (λ z. Ty-F.Named z types) name; same = cc }

-- what is had at the labelled arguments is had at the erased ones
abbrev at_args : (vars : List (List ℕ)) (b : Ty) {args others : List Ty} → args ≡ others → Some (at vars args b) ≡ Some (at vars others b)
at_args vars b same = ap (λ z. Some (at vars z b)) same

module _ (defs : List Def) where
  pub field_is : (y x : List ℕ) (vars : List (List ℕ)) (fields : List Field) (args : List Ty) (b a : Ty) → type_named defs x ≡ Some (Struct vars fields)
      → field_named fields y ≡ Some b → erased a ≡ t.Named x args → option_map erased (field_type defs y a) ≡ Some (at vars args b)
  field_is y x vars fields args b a x_is b_is h =
      let n = named_is a x args h in
      rw (n.is, x_is, b_is, at_erased vars n.labelled b) (at_args vars b n.same)

  pub part_is : (x : List ℕ) (j : ℕ) (c : Constructor) (args : List Ty) (b a : Ty) → con_named defs x ≡ Some c
      → slice_get c.args j ≡ Some b → erased a ≡ t.Named c.sum args → option_map erased (part_type defs x j a) ≡ Some (at c.vars args b)
  part_is x j c args b a c_is b_is h =
      let n = named_is a c.sum args h in
      rw (c_is, b_is, n.is, at_erased c.vars n.labelled b) (at_args c.vars b n.same)

pub con_parts_are : (c : Constructor) (args : List Ty) (a : Ty) → erased a ≡ t.Named c.sum args
    → map erased (con_parts (Some c) a) ≡ map (at c.vars args) c.args
con_parts_are c args a h =
    let n = named_is a c.sum args h in
    rw n.is (types_erased c.vars n.labelled c.args ∙ ap (λ z. map (at c.vars z) c.args) n.same)

pub make_parts_are : (x : List ℕ) (vars : List (List ℕ)) (fields : List Field) (args : List Ty) (a : Ty) → erased a ≡ t.Named x args
    → map erased (make_parts (Some (vars, fields)) a) ≡ fields_at vars args fields
make_parts_are x vars fields args a h =
    let n = named_is a x args h in
    rw n.is (fields_erased vars n.labelled fields ∙ ap (λ z. fields_at vars z fields) n.same)
