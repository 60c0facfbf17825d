-- Values as C has them are of the C types that stand for theirs, in the part of the language that is built.
use Rattle.std.proofs.Common.{◌≡◌, ℕ, suc, Bool, true, false, if◌then◌else◌, List, [], ◌∷◌, map, Some, refl, sym, ap, ◌∙◌, subst}
use Rattle.std.specs.List.{AllByRecursion}
use Rattle.krml_trace.specs.declared.width.Width.{Width}
use Rattle.krml_trace.specs.declared.width.Width.TheVariants.{W8, W32, W64}
use Rattle.krml_syntax.specs.declared.tree.Ty.{Ty}
use Rattle.krml_syntax.specs.declared.tree.Ty.TheVariants as t
use Rattle.krml_syntax.specs.declared.tree.Field.{Field}
use Rattle.krml_syntax.specs.declared.tree.Def.{Def}
use Rattle.krml_ast.specs.Names.{Struct, type_named}
use Rattle.krml_syntax.specs.Types.{erased, is_unit_in}
use Rattle.krml_ast.specs.IsType.{IsValue}
use Rattle.krml_ast.specs.WellTyped.{names_of}
use Rattle.krml_meaning.specs.declared.value.Value.{Value}
use Rattle.krml_meaning.specs.declared.value.Value.TheVariants as v
use Rattle.krml_meaning.specs.declared.value.Value.TheFolds.{fold_out-Value}
use Rattle.krml_meaning.specs.State.{Block}
use Rattle.krml_meaning.specs.Shape.{number_ty, HasShape, AllHaveShape}
use Rattle.krml_meaning.proofs.Types.{name_same}
use Rattle.krml_meaning.proofs.Flat.{value_erased}
use Rattle.krml_ctree.specs.declared.value.CValue.{CValue}
use Rattle.krml_ctree.specs.declared.value.CValue.TheVariants as c
use Rattle.krml_ctree.specs.declared.tree.CType.TheVariants as ct
use Rattle.krml_ctree.specs.declared.tree.CVar.{CVar}
use Rattle.krml_ctree.specs.Text.{width_type}
use Rattle.krml_ctree.specs.Parts.{has_type}
use Rattle.krml_ctree.specs.Meaning.{fit}
use Rattle.krml_cstar.specs.Built.{level_ty_built, is_ty_built, AreBuilt}
use Rattle.krml_cstar.specs.Types.{ctype, is_unit}
use Rattle.krml_cstar.specs.Translation.{params_from, cvars}
use Rattle.krml_cstar.proofs.Images.{level_image, field_images, image_at, images_at}
use Rattle.krml_cstar.proofs.Lookups.{fields_of}
use Rattle.krml_cstar.proofs.Part.{FieldsBuilt, erased_built, no_sum}
use Rattle.krml_cstar.proofs.TypesInC.{ctype_bool, ctype_int, ctype_named}

-- ---- types as C has them

pub has_number : (m : List _) (w : Width) (n : ℕ) → has_type m (c.Num w n) (width_type w) ≡ true
has_number m W8 n = rw (c.outs-Num W8 n, ct.outs-U8) refl
has_number m W32 n = rw (c.outs-Num W32 n, ct.outs-U32) refl
has_number m W64 n = rw (c.outs-Num W64 n, ct.outs-U64) refl

pub has_struct : (m : List _) (x : List ℕ) (xs : List CValue) → has_type m (c.Struct x xs) (ct.Struct x) ≡ true
has_struct m x xs = rw (c.outs-Struct x xs, ct.outs-Struct x) (name_same x)

-- ---- values as C has them

module _ (defs : List Def) where
  pub image_bool : (b : Bool) (a : Ty) → image_at defs (v.Bool b) a ≡ c.Num W8 (if b then 1 else 0)
  image_bool b a = rw (fold_out-Value (Ty → CValue) (level_image defs) (v.Bool b), v.outs-Bool b) refl

  pub image_num : (w : Width) (n : ℕ) (a : Ty) → image_at defs (v.Num w n) a ≡ c.Num w n
  image_num w n a = rw (fold_out-Value (Ty → CValue) (level_image defs) (v.Num w n), v.outs-Num w n) refl

  -- the values of a struct's fields, by the types of the fields
  pub images_of_fields : (xs : List Value) (fields : List Field) → field_images (map (image_at defs) xs) fields ≡ images_at defs xs (map (λ f. erased f.ty) fields)
  images_of_fields [] [] = refl
  images_of_fields [] (f ∷ fields) = refl
  images_of_fields (x ∷ xs) [] = refl
  images_of_fields (x ∷ xs) (f ∷ fields) = ap (λ z. image_at defs x (erased f.ty) ∷ z) (images_of_fields xs fields)

  pub image_struct : (names : List (List ℕ)) (xs : List Value) (x : List ℕ) (args : List Ty) (vars : List (List ℕ)) (fields : List Field) → type_named defs x ≡ Some (Struct vars fields)
      → image_at defs (v.Struct names xs) (t.Named x args) ≡ c.Struct x (images_at defs xs (map (λ f. erased f.ty) fields))
  image_struct names xs x args vars fields is =
      rw (fold_out-Value (Ty → CValue) (level_image defs) (v.Struct names xs), v.outs-Struct names xs, t.outs-Named x args, is) (ap (λ z. c.Struct x z) (images_of_fields xs fields))

  -- ---- and their types

  module _ (built : AreBuilt defs) where
    pub image_typed : (m : List Block) (x : Value) (a : Ty) → HasShape defs m x a → is_ty_built a ≡ true → is_unit a ≡ false → has_type [] (image_at defs x a) (ctype a) ≡ true
    image_typed m x a HasShape.unit b nu = absurd (no_unit (sym (ap is_unit_in t.outs-Unit) ∙ nu))
      where
        no_unit : true ≡ false → ⊥
        no_unit e = cc
    image_typed m x a (HasShape.bool {b = y}) b nu = rw (image_bool y t.Bool, ctype_bool) (has_number [] W8 (if y then 1 else 0))
    image_typed m x a (HasShape.num {w = w} {n = n} h) b nu = rw (image_num w n (number_ty w), ctype_int (record { width = w; secret = false })) (has_number [] w n)
    image_typed m x a (HasShape.struct {x = s} {vars = vars} {fields = fields} {args = args} {xs = xs} is n oks all) b nu =
        rw (image_struct (names_of fields) xs s args vars fields is, ctype_named s args) (has_struct [] s (images_at defs xs (map (λ f. erased f.ty) fields)))
    image_typed m x a (HasShape.con {x = s} {vars = vars} {cons = cons} is n oks there all) b nu = absurd (no_sum defs built s vars cons is)
    image_typed m x a (HasShape.buf {a = e} u h) b nu = absurd (no_buf (sym (ap level_ty_built (t.outs-Buf e)) ∙ b))
      where
        no_buf : false ≡ true → ⊥
        no_buf e = cc

    -- values of types side by side fit variables of the C types
    pub images_fit : (m : List Block) (xs : List Value) (types : List Ty) (vars : List CVar) → AllHaveShape defs m xs types → AllByRecursion (λ a. is_ty_built a ≡ true) types
        → AllByRecursion IsValue types → map (λ q. q.ty) vars ≡ map ctype types → fit [] vars (images_at defs xs types) ≡ true
    images_fit m xs types vars AllHaveShape.none b nu e = no_vars vars e
      where
        no_vars : (vars : List CVar) → map (λ (q : CVar). q.ty) vars ≡ [] → fit [] vars [] ≡ true
        no_vars [] e = refl
        no_vars (q ∷ vars) e = absurd (cc)
    images_fit m xs types [] (AllHaveShape.one h all) b nu e = absurd (cc)
    images_fit m xs types (q ∷ vars) (AllHaveShape.one {x = x} {a = a} {xs = ys} {types = more} h all) b nu e =
        let first : q.ty ≡ ctype a = cc in
        let rest : map (λ (q : CVar). q.ty) vars ≡ map ctype more = cc in
        let head : has_type [] (image_at defs x a) q.ty ≡ true = ap (has_type [] (image_at defs x a)) first ∙ image_typed m x a h b.0 nu.0 in
        let tail = images_fit m ys more vars all b.1 nu.1 rest in
        rw (head, tail) refl

    each_built : (fields : List Field) → FieldsBuilt fields → AllByRecursion (λ a. is_ty_built a ≡ true) (map (λ f. erased f.ty) fields)
    each_built [] e = tt
    each_built (f ∷ fields) e =
        (subst (λ z. is_ty_built z ≡ true) (sym (erased_built f.ty e.0)) e.0, each_built fields e.1)

    pub each_value : (fields : List Field) → AllByRecursion (λ f. IsValue f.ty) fields → AllByRecursion IsValue (map (λ f. erased f.ty) fields)
    each_value [] h = tt
    each_value (f ∷ fields) h = (value_erased f.ty h.0, each_value fields h.1)

    -- the values of a struct's fields
    pub fields_fit : (m : List Block) (xs : List Value) (fields : List Field) → AllHaveShape defs m xs (map (λ f. erased f.ty) fields) → FieldsBuilt fields
        → AllByRecursion (λ f. IsValue f.ty) fields → fit [] (fields_of fields) (images_at defs xs (map (λ f. erased f.ty) fields)) ≡ true
    fields_fit m xs fields h b nu = images_fit m xs (map (λ f. erased f.ty) fields) (fields_of fields) h (each_built fields b) (each_value fields nu) (types_are fields b)
      where
        types_are : (fields : List Field) → FieldsBuilt fields → map (λ (q : CVar). q.ty) (fields_of fields) ≡ map ctype (map (λ (f : Field). erased f.ty) fields)
        types_are [] e = refl
        types_are (f ∷ fields) e =
            ap (λ z. ctype z ∷ map (λ (q : CVar). q.ty) (fields_of fields)) (sym (erased_built f.ty e.0)) ∙ ap (λ z. ctype (erased f.ty) ∷ z) (types_are fields e.1)

    -- the arguments of a function
    pub arguments_fit : (m : List Block) (xs : List Value) (k : ℕ) (params : List Field) → AllHaveShape defs m xs (map (λ f. erased f.ty) params) → FieldsBuilt params
        → AllByRecursion (λ f. IsValue f.ty) params → fit [] (cvars (params_from k params)) (images_at defs xs (map (λ f. erased f.ty) params)) ≡ true
    arguments_fit m xs k params h b nu = images_fit m xs (map (λ f. erased f.ty) params) (cvars (params_from k params)) h (each_built params b) (each_value params nu) (types_are k params b)
      where
        types_are : (k : ℕ) (params : List Field) → FieldsBuilt params → map (λ (q : CVar). q.ty) (cvars (params_from k params)) ≡ map ctype (map (λ (f : Field). erased f.ty) params)
        types_are k [] e = refl
        types_are k (f ∷ params) e =
            ap (λ z. ctype z ∷ map (λ (q : CVar). q.ty) (cvars (params_from (suc k) params))) (sym (erased_built f.ty e.0)) ∙ ap (λ z. ctype (erased f.ty) ∷ z) (types_are (suc k) params e.1)
