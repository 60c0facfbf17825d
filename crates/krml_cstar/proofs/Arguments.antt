-- Arguments of a run: what they come to in the source, and what in C.
use Rattle.std.proofs.Common.{◌≡◌, ℕ, ◌<◌, ◌^◌, Bool, true, false, if◌then◌else◌, List, [], ◌∷◌, ◌++◌, map, reverse, Some, None, refl, sym, ap, ◌∙◌, subst, append_assoc, append-nil}
use Rattle.std.specs.List.{list_all}
use Rattle.std.proofs.lemmas.Bool.{ltb-true, and_parts}
use Rattle.std.proofs.lemmas.List.{reverse-append}
use Rattle.krml_trace.specs.declared.width.Width.{Width}
use Rattle.krml_trace.specs.declared.argument.Arg.{Arg}
use Rattle.krml_trace.specs.declared.argument.Arg.TheVariants as arg
use Rattle.krml_trace.specs.Argument.{fits}
use Rattle.krml_trace.specs.Width.{bits, same_width}
use Rattle.krml_trace.specs.Host.{Plain, pass, pass_all}
use Rattle.krml_syntax.specs.declared.tree.IntTy.{IntTy}
use Rattle.krml_syntax.specs.declared.tree.Ty.{Ty, out-Ty}
use Rattle.krml_syntax.specs.declared.tree.Ty.TheVariants as t
use Rattle.krml_syntax.specs.declared.tree.Ty.TheOpen.{Ty-F}
use Rattle.krml_syntax.specs.declared.tree.Field.{Field}
use Rattle.krml_syntax.specs.declared.tree.Def.{Def}
use Rattle.krml_syntax.specs.Types.{erased}
use Rattle.krml_meaning.specs.declared.value.Value.{Value}
use Rattle.krml_meaning.specs.declared.value.Value.TheVariants as v
use Rattle.krml_meaning.specs.Meaning as src
use Rattle.krml_meaning.specs.Shape.{number_ty, HasShape, AllHaveShape}
use Rattle.krml_meaning.proofs.Lists.{same_some, no_some}
use Rattle.krml_syntax.proofs.Types.{erased_bool, erased_int}
use Rattle.krml_meaning.proofs.Entries.{width_is, one_more}
use Rattle.krml_ctree.specs.declared.value.CValue.{CValue}
use Rattle.krml_ctree.specs.Meaning as tgt
use Rattle.krml_cstar.specs.Built.{is_ty_built}
use Rattle.krml_cstar.proofs.Images.{image_at, images_at}
use Rattle.krml_cstar.proofs.Part.{FieldsBuilt, built_form}
use Rattle.krml_cstar.proofs.Typed.{image_bool, image_num}
use Rattle.krml_cstar.proofs.Fits.{param_types}

module _ (defs : List Def) where
  -- An argument is a value of the parameter's type, and no block; in C it is its image.
  pub record OnePassed (x : List ℕ) (a : Ty) (g : Arg) (k : src.Passing) : Type 0 where
    pub value : Value
    pub is : Plain (x, value) ≡ k
    pub shape : HasShape defs [] value (erased a)
    pub image : tgt.passing g ≡ Plain (image_at defs value (erased a))

  module _ (x : List ℕ) (k : src.Passing) where
    to_bool : (g : Arg) → src.passing x g Ty-F.Bool ≡ Some k → OnePassed x t.Bool g k
    to_bool (arg.Bool b) e = record {
      value = v.Bool b;
      is = same_some (Plain (x, v.Bool b)) k e;
      shape = subst (HasShape defs [] (v.Bool b)) (sym erased_bool) HasShape.bool;
      image = ap (λ u. Plain u) (sym (image_bool defs b (erased t.Bool)));
    }
    to_bool (arg.Num w n) e = absurd (no_some k e)
    to_bool (arg.Buf w nums) e = absurd (no_some k e)

    num_to_int : (w : Width) (n : ℕ) (i : IntTy) → n < 2 ^ bits w → (b : Bool) → same_width w i.width ≡ b → (if b then Some (Plain (x, v.Num w n)) else None) ≡ Some k
        → OnePassed x (t.Int i) (arg.Num w n) k
    num_to_int w n i lt true s e = record {
      value = v.Num w n;
      is = same_some (Plain (x, v.Num w n)) k e;
      shape = subst (HasShape defs [] (v.Num w n)) (ap number_ty (width_is w i.width s) ∙ sym (erased_int i)) (HasShape.num lt);
      image = ap (λ u. Plain u) (sym (image_num defs w n (erased (t.Int i))));
    }
    num_to_int w n i lt false s e = absurd (no_some k e)

    to_int : (i : IntTy) (g : Arg) → fits g ≡ true → src.passing x g (Ty-F.Int i) ≡ Some k → OnePassed x (t.Int i) g k
    to_int i (arg.Num w n) fit e = num_to_int w n i (ltb-true n (2 ^ bits w) fit) (same_width w i.width) refl e
    to_int i (arg.Bool b) fit e = absurd (no_some k e)
    to_int i (arg.Buf w nums) fit e = absurd (no_some k e)

    to_unit : (g : Arg) → src.passing x g Ty-F.Unit ≡ Some k → ⊥
    to_unit (arg.Bool b) e = no_some k e
    to_unit (arg.Num w n) e = no_some k e
    to_unit (arg.Buf w nums) e = no_some k e

    to_named : (y : List ℕ) (g : Arg) → src.passing x g (Ty-F.Named y []) ≡ Some k → ⊥
    to_named y (arg.Bool b) e = no_some k e
    to_named y (arg.Num w n) e = no_some k e
    to_named y (arg.Buf w nums) e = no_some k e

    one_passed : (g : Arg) → fits g ≡ true → (a : Ty) → is_ty_built a ≡ true → src.passing x g (out-Ty a) ≡ Some k → OnePassed x a g k
    one_passed g fit = built_form (λ a. src.passing x g (out-Ty a) ≡ Some k → OnePassed x a g k)
        (λ e. to_bool g (sym (ap (λ o. src.passing x g o) t.outs-Bool) ∙ e))
        (λ e. absurd (to_unit g (sym (ap (λ o. src.passing x g o) t.outs-Unit) ∙ e)))
        (λ i h e. to_int i g fit (sym (ap (λ o. src.passing x g o) (t.outs-Int i)) ∙ e))
        (λ y e. absurd (to_named y g (sym (ap (λ o. src.passing x g o) (t.outs-Named y [])) ∙ e)))

  -- All of them.
  pub record AllPassed (params : List Field) (args : List Arg) (p q : src.Passed) : Type 0 where
    pub values : List Value
    pub given : src.params_over params values p.given ≡ Some q.given
    pub memory : q.memory ≡ p.memory
    pub events : q.events ≡ p.events
    pub shapes : AllHaveShape defs [] values (param_types params)
    pub images : (c : tgt.Passed) → pass_all c (map tgt.passing args) ≡ record c { given = reverse (images_at defs values (param_types params)) ++ c.given }

  pub all_passed : (params : List Field) (args : List Arg) (p : src.Passed) (ks : List src.Passing) → list_all fits args ≡ true → FieldsBuilt params
      → src.passings params args ≡ Some ks → AllPassed params args p (pass_all p ks)
  all_passed [] [] p ks fit b e = subst (λ z. AllPassed [] [] p (pass_all p z)) (same_some [] ks e)
      (record { values = []; given = refl; memory = refl; events = refl; shapes = AllHaveShape.none; images = λ c. refl })
  all_passed [] (g ∷ args) p ks fit b e = absurd (no_some ks e)
  all_passed (f ∷ params) [] p ks fit b e = absurd (no_some ks e)
  all_passed (f ∷ params) (g ∷ args) p ks fit b e =
      let both = and_parts (fits g) (list_all fits args) fit in
      let k = one_more (src.passing f.name g (out-Ty f.ty)) (src.passings params args) ks e in
      let first = one_passed f.name k.first g both.0 f.ty b.0 k.one in
      let late : src.Passed = pass p (Plain (f.name, first.value)) in
      let rest = all_passed params args late k.rest both.1 b.1 k.more in
      let all : Plain (f.name, first.value) ∷ k.rest ≡ ks = ap (λ z. z ∷ k.rest) first.is ∙ k.all in
      subst (λ z. AllPassed (f ∷ params) (g ∷ args) p (pass_all p z)) all (record {
        values = first.value ∷ rest.values;
        given = rest.given;
        memory = rest.memory;
        events = rest.events;
        shapes = AllHaveShape.one first.shape rest.shapes;
        images = λ c.
            let u : CValue = image_at defs first.value (erased f.ty) in
            let us : List CValue = images_at defs rest.values (param_types params) in
            let turned : reverse (u ∷ us) ≡ reverse us ++ u ∷ [] = reverse-append (u ∷ []) us in
            ap (λ z. pass_all (pass c z) (map tgt.passing args)) first.image ∙ rest.images (record c { given = u ∷ c.given })
            ∙ ap (λ z. record c { given = z }) (sym (append_assoc (reverse us) (u ∷ []) c.given) ∙ ap (λ z. z ++ c.given) (sym turned));
      })

  -- what C begins with
  pub passed_is : (params : List Field) (args : List Arg) (p q : src.Passed) (k : AllPassed params args p q)
      → tgt.passed args ≡ record { given = reverse (images_at defs k.values (param_types params)); memory = []; events = [] }
  passed_is params args p q k = k.images (record { given = []; memory = []; events = [] })
      ∙ ap (λ us. record { given = us; memory = []; events = [] }) (append-nil (reverse (images_at defs k.values (param_types params))))
