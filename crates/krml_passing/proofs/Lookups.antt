-- What a name means in a file, and its new name in the file under the new names, whatever bodies of functions become.
use Rattle.std.proofs.Common.{◌≡◌, ℕ, zero, suc, Bool, true, false, if◌then◌else◌, List, [], ◌∷◌, map, length, Option, Some, None, option_map, option_and_then, bytes_eq, refl, sym, ap, ◌∙◌, subst}
use Rattle.std.proofs.lemmas.List.{length-map}
use Rattle.krml_trace.specs.First.{first, numbered}
use Rattle.krml_trace.proofs.First.{first_map, first_same, first_moved, map_if, map_numbered}
use Rattle.krml_syntax.specs.declared.tree.Ty.{Ty, out-Ty, roll-Ty, map-Ty}
use Rattle.krml_syntax.specs.declared.tree.Ty.TheVariants as t
use Rattle.krml_syntax.specs.declared.tree.Ty.TheViews.{roll-out-Ty}
use Rattle.krml_syntax.specs.declared.tree.Ty.TheOpen.{Ty-F}
use Rattle.krml_syntax.specs.declared.tree.Ty.TheFolds.{ind-Ty}
use Rattle.krml_syntax.specs.declared.tree.Field.{Field}
use Rattle.krml_syntax.specs.declared.tree.Con.{Con}
use Rattle.krml_syntax.specs.declared.tree.Expr.{Expr}
use Rattle.krml_syntax.specs.declared.tree.IntTy.{IntTy}
use Rattle.krml_syntax.specs.declared.tree.Def.{Def}
use Rattle.krml_syntax.specs.declared.tree.Def.TheVariants as d
use Rattle.krml_syntax.specs.Types.{argument_of, type_at}
use Rattle.krml_syntax.proofs.Types.{at_bool, at_unit, at_int, at_buf, at_var, at_named}
use Rattle.krml_ast.specs.Names.{Composite, Struct, Sum, type_here, type_named}
use Rattle.krml_ast.specs.WellTyped.{names_of}
use Rattle.krml_meaning.specs.declared.value.Value.{Value}
use Rattle.krml_meaning.specs.declared.value.Value.TheVariants as v
use Rattle.krml_meaning.specs.Meaning as src
use Rattle.krml_passing.specs.Images.{Images}
use Rattle.krml_passing.specs.Naming.{Naming, TellsNamesApart, ty_under, images_of, field_under, con_under, def_under, function_under}
use Rattle.krml_passing.proofs.Values as is

pub image_if : {X Y : Type 0} (g : X → Y) {b c : Bool} → c ≡ b → (v : X) → (if c then Some (g v) else None) ≡ option_map g (if b then Some v else None)
image_if g {b = b} e v = ap (λ z. if z then Some (g v) else None) e ∙ map_if g b v

module _ (n : Naming) (ok : TellsNamesApart n) where
  -- ---- types

  ty_is : (a : Ty) → n.ty a ≡ roll-Ty (ty_under n.ty n.named (out-Ty a))
  ty_is a = sym (roll-out-Ty (n.ty a)) ∙ ap roll-Ty (ok.out_ty a)

  pub bool_under : n.ty t.Bool ≡ t.Bool
  bool_under = ty_is t.Bool ∙ ap (λ o. roll-Ty (ty_under n.ty n.named o)) t.outs-Bool ∙ t.rolls-Bool

  pub unit_under : n.ty t.Unit ≡ t.Unit
  unit_under = ty_is t.Unit ∙ ap (λ o. roll-Ty (ty_under n.ty n.named o)) t.outs-Unit ∙ t.rolls-Unit

  pub int_under : (i : IntTy) → n.ty (t.Int i) ≡ t.Int i
  int_under i = ty_is (t.Int i) ∙ ap (λ o. roll-Ty (ty_under n.ty n.named o)) (t.outs-Int i) ∙ t.rolls-Int i

  pub buf_under : (a : Ty) → n.ty (t.Buf a) ≡ t.Buf (n.ty a)
  buf_under a = ty_is (t.Buf a) ∙ ap (λ o. roll-Ty (ty_under n.ty n.named o)) (t.outs-Buf a) ∙ t.rolls-Buf (n.ty a)

  pub var_under : (x : List ℕ) → n.ty (t.Var x) ≡ t.Var x
  var_under x = ty_is (t.Var x) ∙ ap (λ o. roll-Ty (ty_under n.ty n.named o)) (t.outs-Var x) ∙ t.rolls-Var x

  pub named_under : (x : List ℕ) (args : List Ty) → n.ty (t.Named x args) ≡ t.Named (n.named x) (map n.ty args)
  named_under x args = ty_is (t.Named x args) ∙ ap (λ o. roll-Ty (ty_under n.ty n.named o)) (t.outs-Named x args)
      ∙ t.rolls-Named (n.named x) (map n.ty args)

  argument_under : (vars : List (List ℕ)) (args : List Ty) (x : List ℕ) → argument_of vars (map n.ty args) x
      ≡ n.ty (argument_of vars args x)
  argument_under [] args x = sym (var_under x)
  argument_under (y ∷ vars) [] x = sym (var_under x)
  argument_under (y ∷ vars) (a ∷ args) x = rw (argument_under vars args x) (go (bytes_eq y x))
    where
      go : (b : Bool) → (if b then n.ty a else n.ty (argument_of vars args x)) ≡ n.ty (if b then a else argument_of vars args x)
      go true = refl
      go false = refl

  module _ (vars : List (List ℕ)) (args : List Ty) where
    abbrev UnderAt : Ty → Type 0
    UnderAt a = type_at vars (map n.ty args) (n.ty a) ≡ n.ty (type_at vars args a)

    module _ (X : Type 0) (w : X → Ty) (h : (x : X) → UnderAt (w x)) where
      all_under_at : (xs : List X) → map (type_at vars (map n.ty args)) (map n.ty (map w xs))
          ≡ map n.ty (map (type_at vars args) (map w xs))
      all_under_at [] = refl
      all_under_at (x ∷ xs) = ap (λ z. z ∷ map (type_at vars (map n.ty args)) (map n.ty (map w xs))) (h x)
          ∙ ap (λ z. n.ty (type_at vars args (w x)) ∷ z) (all_under_at xs)

      step_under_at : (y : Ty-F X) → UnderAt (roll-Ty (map-Ty X Ty w y))
      step_under_at Ty-F.Bool = rw t.rolls-Bool (rw (at_bool vars args, bool_under, at_bool vars (map n.ty args)) refl)
      step_under_at Ty-F.Unit = rw t.rolls-Unit (rw (at_unit vars args, unit_under, at_unit vars (map n.ty args)) refl)
      step_under_at (Ty-F.Int i) = rw (t.rolls-Int i) (rw (at_int vars args i, int_under i, at_int vars (map n.ty args) i) refl)
      step_under_at (Ty-F.Buf x) = rw (t.rolls-Buf (w x))
          (rw (at_buf vars args (w x), buf_under (type_at vars args (w x)), buf_under (w x), at_buf vars (map n.ty args) (n.ty (w x)), h x) refl)
      step_under_at (Ty-F.Var x) = rw (t.rolls-Var x) (rw (at_var vars args x, var_under x, at_var vars (map n.ty args) x)
          (argument_under vars args x))
      step_under_at (Ty-F.Named x xs) = rw (t.rolls-Named x (map w xs)) (rw (
        at_named vars args x (map w xs),
        named_under x (map (type_at vars args) (map w xs)),
        named_under x (map w xs),
        at_named vars (map n.ty args) (n.named x) (map n.ty (map w xs)),
      ) (ap (λ z. t.Named (n.named x) z) (all_under_at xs)))

    -- new names may be given before the type arguments are put in
    pub ty_at : (a : Ty) → type_at vars (map n.ty args) (n.ty a) ≡ n.ty (type_at vars args a)
    ty_at = ind-Ty UnderAt (λ x y eq. subst (λ z. UnderAt (roll-Ty z)) eq (step_under_at _ (λ p. p.0) (λ p. p.1) y))

  -- ---- structs and sums

  abbrev pub composite_under : Composite → Composite
  composite_under (Struct vars fields) = Struct vars (map (field_under n) fields)
  composite_under (Sum vars cons) = Sum vars (map (con_under n) cons)

  pub names_under : (fields : List Field) → names_of (map (field_under n) fields) ≡ map n.field (names_of fields)
  names_under [] = refl
  names_under (f ∷ fields) = ap (λ z. n.field f.name ∷ z) (names_under fields)

  abbrev pub place_under : ℕ × List Ty → ℕ × List Ty
  place_under p = (p.0, map n.ty p.1)

  place_in_under : (cons : List Con) (x : List ℕ) → src.place_in (map (con_under n) cons) (n.con x) ≡ option_map place_under (src.place_in cons x)
  place_in_under cons x = ap (first (src.place_here (n.con x))) (map_numbered (con_under n) 0 cons)
      ∙ first_moved (λ p. (p.0, con_under n p.1)) place_under (src.place_here (n.con x)) (src.place_here x)
      (λ p. image_if place_under (ok.con_apart p.1.name x) (p.0, p.1.args)) (numbered 0 cons)

  module _ (body : Expr → Expr) where
    abbrev pub to : List Def → List Def
    to defs = map (def_under n body) defs

    type_under : (x : List ℕ) (def : Def) → type_here (n.named x) (def_under n body def) ≡ option_map composite_under (type_here x def)
    type_under x (d.Struct name vars fields) = image_if composite_under (ok.named_apart name x) (Struct vars fields)
    type_under x (d.Sum name vars cons) = image_if composite_under (ok.named_apart name x) (Sum vars cons)
    type_under x (d.Table name i nums) = refl
    type_under x (d.Fun name vars params result e) = refl
    type_under x (d.Entry name) = refl

    pub type_named_under : (defs : List Def) (x : List ℕ) → type_named (to defs) (n.named x)
        ≡ option_map composite_under (type_named defs x)
    type_named_under defs x = first_moved (def_under n body) composite_under (type_here (n.named x)) (type_here x) (type_under x) defs

    pub fields_of_under : (defs : List Def) (x : List ℕ) → src.fields_of (type_named (to defs) (n.named x))
        ≡ option_map (map n.field) (src.fields_of (type_named defs x))
    fields_of_under defs x = ap src.fields_of (type_named_under defs x) ∙ go (type_named defs x)
      where
        go : (o : Option Composite) → src.fields_of (option_map composite_under o) ≡ option_map (map n.field) (src.fields_of o)
        go (Some (Struct vars fields)) = ap Some (names_under fields)
        go (Some (Sum vars cons)) = refl
        go None = refl

    con_under_place : (x : List ℕ) (def : Def) → src.con_place_here (n.con x) (def_under n body def) ≡ option_map place_under (src.con_place_here x def)
    con_under_place x (d.Sum name vars cons) = place_in_under cons x
    con_under_place x (d.Struct name vars fields) = refl
    con_under_place x (d.Table name i nums) = refl
    con_under_place x (d.Fun name vars params result e) = refl
    con_under_place x (d.Entry name) = refl

    pub con_place_under : (defs : List Def) (x : List ℕ) → src.con_place (to defs) (n.con x) ≡ option_map place_under (src.con_place defs x)
    con_place_under defs x = first_moved (def_under n body) place_under (src.con_place_here (n.con x)) (src.con_place_here x) (con_under_place x) defs

    -- ---- tables, functions and entries

    table_under : (x : List ℕ) (p : ℕ × Def) → src.table_at p.0 (n.table x) (def_under n body p.1) ≡ src.table_at p.0 x p.1
    table_under x (k, d.Table name i nums) = ap (λ b. if b then Some (record { place = k; ty = i; nums = nums }) else None) (ok.table_apart name x)
    table_under x (k, d.Struct name vars fields) = refl
    table_under x (k, d.Sum name vars cons) = refl
    table_under x (k, d.Fun name vars params result e) = refl
    table_under x (k, d.Entry name) = refl

    pub table_from_under : (k : ℕ) (defs : List Def) (x : List ℕ) → src.table_from k (to defs) (n.table x) ≡ src.table_from k defs x
    table_from_under k defs x = ap (first (λ p. src.table_at p.0 (n.table x) p.1)) (map_numbered (def_under n body) k defs)
        ∙ first_map (λ p. src.table_at p.0 (n.table x) p.1) (λ p. (p.0, def_under n body p.1)) (numbered k defs)
        ∙ first_same (λ p. src.table_at p.0 (n.table x) (def_under n body p.1)) (λ p. src.table_at p.0 x p.1) (numbered k defs) (table_under x)

    fun_under : (x : List ℕ) (def : Def) → src.function_here (n.fun x) (def_under n body def) ≡ option_map (function_under n body) (src.function_here x def)
    fun_under x (d.Fun name vars params result e) = image_if (function_under n body) (ok.fun_apart name x) (record { tvars = vars; params = params; body = e })
    fun_under x (d.Struct name vars fields) = refl
    fun_under x (d.Sum name vars cons) = refl
    fun_under x (d.Table name i nums) = refl
    fun_under x (d.Entry name) = refl

    pub function_named_under : (defs : List Def) (x : List ℕ) → src.function_named (to defs) (n.fun x)
        ≡ option_map (function_under n body) (src.function_named defs x)
    function_named_under defs x = first_moved (def_under n body) (function_under n body) (src.function_here (n.fun x)) (src.function_here x) (fun_under x) defs

    pub has_entry_under : (defs : List Def) (x : List ℕ) → src.has_entry (to defs) (n.fun x) ≡ src.has_entry defs x
    has_entry_under [] x = refl
    has_entry_under (d.Entry name ∷ defs) x = rw (ok.fun_apart name x, has_entry_under defs x) refl
    has_entry_under (_ ∷ defs) x = has_entry_under defs x

  -- ---- zero values

  abbrev im : Images
  im = images_of n ok

  all_some_under : (os : List (Option Value)) → src.all_some (map (option_map n.value) os) ≡ option_map (map n.value) (src.all_some os)
  all_some_under [] = refl
  all_some_under (o ∷ os) = rw (all_some_under os) (go o (src.all_some os))
    where
      go : (o : Option Value) (more : Option (List Value))
          → option_and_then (λ a. option_map (λ xs. a ∷ xs) (option_map (map n.value) more)) (option_map n.value o)
          ≡ option_map (map n.value) (option_and_then (λ a. option_map (λ xs. a ∷ xs) more) o)
      go None more = refl
      go (Some a) None = refl
      go (Some a) (Some xs) = refl

  module _ (zeros zeros' : Ty → Option Value) (h : (a : Ty) → zeros' (n.ty a) ≡ option_map n.value (zeros a)) where
    module _ (vars : List (List ℕ)) (args : List Ty) where
      zero_at : (a : Ty) → zeros' (type_at vars (map n.ty args) (n.ty a)) ≡ option_map n.value (zeros (type_at vars args a))
      zero_at a = ap zeros' (ty_at vars args a) ∙ h (type_at vars args a)

      zero_fields : (fields : List Field) → map (λ f. zeros' (type_at vars (map n.ty args) f.ty)) (map (field_under n) fields)
          ≡ map (option_map n.value) (map (λ f. zeros (type_at vars args f.ty)) fields)
      zero_fields [] = refl
      zero_fields (f ∷ fields) = rw (zero_at f.ty, zero_fields fields) refl

      zero_args : (types : List Ty) → map (λ a. zeros' (type_at vars (map n.ty args) a)) (map n.ty types)
          ≡ map (option_map n.value) (map (λ a. zeros (type_at vars args a)) types)
      zero_args [] = refl
      zero_args (a ∷ types) = rw (zero_at a, zero_args types) refl

    zero_of_under : (args : List Ty) (o : Option Composite) → src.zero_of zeros' (map n.ty args) (option_map composite_under o)
        ≡ option_map n.value (src.zero_of zeros args o)
    zero_of_under args (Some (Struct vars fields)) =
        rw (names_under fields, zero_fields vars args fields, all_some_under (map (λ f. zeros (type_at vars args f.ty)) fields))
        (go (src.all_some (map (λ f. zeros (type_at vars args f.ty)) fields)))
      where
        go : (o : Option (List Value)) → option_map (λ xs. v.Struct (map n.field (names_of fields)) xs) (option_map (map n.value) o)
            ≡ option_map n.value (option_map (λ xs. v.Struct (names_of fields) xs) o)
        go (Some xs) = ap Some (sym (is.struct_value im (names_of fields) xs))
        go None = refl
    zero_of_under args (Some (Sum vars [])) = refl
    zero_of_under args (Some (Sum vars (c ∷ cons))) =
        rw (zero_args vars args c.args, all_some_under (map (λ a. zeros (type_at vars args a)) c.args))
        (go (src.all_some (map (λ a. zeros (type_at vars args a)) c.args)))
      where
        go : (o : Option (List Value)) → option_map (λ xs. v.Con 0 xs) (option_map (map n.value) o)
            ≡ option_map n.value (option_map (λ xs. v.Con 0 xs) o)
        go (Some xs) = ap Some (sym (is.con_value im 0 xs))
        go None = refl
    zero_of_under args None = refl

  module _ (body : Expr → Expr) (defs : List Def) where
    zero_within_under : (k : ℕ) (a : Ty) → src.zero_within k (to body defs) (n.ty a) ≡ option_map n.value (src.zero_within k defs a)
    zero_within_under zero a = refl
    zero_within_under (suc k) a = ap (src.zero_in (src.zero_within k (to body defs)) (to body defs)) (ok.out_ty a)
        ∙ go (zero_within_under k) (out-Ty a)
      where
        go : ((a : Ty) → src.zero_within k (to body defs) (n.ty a) ≡ option_map n.value (src.zero_within k defs a)) → (o : Ty-F Ty)
            → src.zero_in (src.zero_within k (to body defs)) (to body defs) (ty_under n.ty n.named o)
            ≡ option_map n.value (src.zero_in (src.zero_within k defs) defs o)
        go h Ty-F.Bool = ap Some (sym (is.bool_value im false))
        go h Ty-F.Unit = ap Some (sym (is.unit_value im))
        go h (Ty-F.Int i) = ap Some (sym (is.num_value im i.width 0))
        go h (Ty-F.Buf a) = refl
        go h (Ty-F.Var x) = refl
        go h (Ty-F.Named x args) = rw (type_named_under body defs x) (zero_of_under (src.zero_within k defs)
            (src.zero_within k (to body defs)) h args (type_named defs x))

    pub zero_value_under : (a : Ty) → src.zero_value (to body defs) (n.ty a) ≡ option_map n.value (src.zero_value defs a)
    zero_value_under a = ap (λ k. src.zero_within (suc k) (to body defs) (n.ty a)) (length-map defs (def_under n body))
        ∙ zero_within_under (suc (length defs)) a
