-- Operands in order, and structs: what is made of them, and their fields.
use Rattle.std.proofs.Common.{◌≡◌, ℕ, ◌≤◌, ◌^◌, Bool, true, false, if◌then◌else◌, List, [], ◌∷◌, ◌++◌, map, length, Some, None, refl, sym, ap, ◌∙◌, subst, arith}
use Rattle.std.specs.Option.{option_or}
use Rattle.std.specs.List.{AllByRecursion, IsDistinct}
use Rattle.std.specs.Str.{bytes_eq}
use Rattle.krml_trace.specs.Run.{Goes, bind, with_some}
use Rattle.krml_trace.specs.declared.why.Why.TheVariants.{Undefined}
use Rattle.krml_trace.proofs.Simulates.{goes, sim_last_after, sim_some}
use Rattle.krml_syntax.specs.declared.tree.Ty.{Ty, out-Ty}
use Rattle.krml_syntax.specs.declared.tree.Ty.TheVariants as t
use Rattle.krml_syntax.specs.declared.tree.Ty.TheOpen.{Ty-F}
use Rattle.krml_syntax.specs.declared.tree.Field.{Field}
use Rattle.krml_syntax.specs.declared.tree.Def.{Def}
use Rattle.krml_ast.specs.Names.{Struct, Sum, type_named, field_named}
use Rattle.krml_syntax.specs.Types.{erased, is_unit_in}
use Rattle.krml_ast.specs.IsType.{IsValue, IsType, AreArguments}
use Rattle.krml_ast.specs.Typing.{Vars, at}
use Rattle.krml_ast.specs.WellTyped.{names_of, AreWellTyped}
use Rattle.krml_meaning.specs.declared.value.Value.{Value, out-Value}
use Rattle.krml_meaning.specs.declared.value.Value.TheVariants as v
use Rattle.krml_meaning.specs.declared.value.Value.TheOpen.{Value-F}
use Rattle.krml_meaning.specs.declared.value.Value.TheFolds.{fold_out-Value}
use Rattle.krml_meaning.specs.State.{Block, SourceState, SourceRan, Env, Sem, as_struct, struct_in}
use Rattle.krml_meaning.specs.Meaning as src
use Rattle.krml_meaning.specs.Shape.{HasShape}
use Rattle.krml_meaning.proofs.Lists.{same_some, no_some, same_answer}
use Rattle.krml_meaning.proofs.Facts.{same_struct}
use Rattle.krml_meaning.proofs.Files.{facts}
use Rattle.krml_meaning.proofs.Shapes.{ShapeIn, StructShape, shape_in}
use Rattle.krml_meaning.proofs.Levels.{other_name}
use Rattle.krml_meaning.proofs.Forms.{SoundAll, FineAll, no_values_sound, more_values_sound, make_sound, get_sound}
use Rattle.krml_ctree.specs.declared.value.CValue.{CValue}
use Rattle.krml_ctree.specs.declared.value.CValue.TheVariants as cv
use Rattle.krml_ctree.specs.declared.tree.CExpr.{CExpr}
use Rattle.krml_ctree.specs.declared.tree.CExpr.TheVariants as c
use Rattle.krml_ctree.specs.declared.tree.CStatement.{CStatement}
use Rattle.krml_ctree.specs.declared.tree.CProgram.{CProgram}
use Rattle.krml_ctree.specs.Parts.{Locals, CRan}
use Rattle.krml_ctree.specs.Meaning as tgt
use Rattle.krml_ctree.proofs.Forms as forms
use Rattle.krml_cstar.specs.Built.{is_ty_built, AreBuilt}
use Rattle.krml_cstar.specs.Translation as code
use Rattle.krml_cstar.specs.Types.{is_unit}
use Rattle.krml_cstar.specs.Variables.{KnownVars}
use Rattle.krml_cstar.specs.Translation.{Comp, gives}
use Rattle.krml_cstar.proofs.Images.{level_image, image_at, images_at, the_image, state_image, Sim}
use Rattle.krml_cstar.proofs.Lookups.{Lookups, fields_of}
use Rattle.krml_cstar.proofs.Part.{FieldsBuilt, struct_built, erased_built, at_built, types_here}
use Rattle.krml_cstar.proofs.Typed.{images_of_fields, image_struct, fields_fit}
use Rattle.krml_cstar.proofs.PartTypes.{struct_part, type_part}
use Rattle.krml_cstar.proofs.VariableNames.{name_is}
use Rattle.krml_cstar.proofs.LocalsInC.{Keeps, Below, keeps_all, keeps_then}
use Rattle.krml_cstar.proofs.Fits.{param_types, In, Stands, Good, Fits}
use Rattle.krml_cstar.proofs.Forms.{stands_on, exec, in_turn, part_then, on_in}

-- ---- fields of structs

-- what holds of each field holds of the one that a name means
pub field_among : (P : Ty → Type 0) (fields : List Field) (y : List ℕ) (b : Ty) → AllByRecursion (λ f. P f.ty) fields → field_named fields y ≡ Some b → P b
field_among P [] y b h e = absurd (no_some b e)
field_among P (f ∷ fields) y b h e = go (bytes_eq f.name y) e (field_among P fields y b h.1)
  where
    go : (same : Bool) → option_or (if same then Some f.ty else None) (field_named fields y) ≡ Some b → (field_named fields y ≡ Some b → P b) → P b
    go true q later = subst P (same_some f.ty b q) h.0
    go false q later = later q

module _ (defs : List Def) (p : CProgram) (calls : tgt.Calls) where
  -- ---- operands in order

  -- After the code of operands: the expressions of C have their values.
  pub record GoodAll (n : ℕ) (before : Locals) (es : List CExpr) (m : ℕ) (types : List Ty) (xs : List Value) (now : Locals) : Type 0 where
    pub keeps : Keeps n before now
    pub below : Below m now
    pub holds : (late : Locals) → Keeps m now late → tgt.all_of (map (tgt.value_of p) es) [] late ≡ Some (images_at defs xs types)

  pub record FitsAll (vars : Vars) (types : List Ty) (evs : List Sem) (cos : List Comp) : Type 0 where
    pub sound : SoundAll defs (In defs vars) types evs
    pub grows : (names : KnownVars) (n : ℕ) → n ≤ (code.all cos names n).next
    pub sim : (env : Env) (names : KnownVars) (n : ℕ) (now : Locals) (s : SourceState) → (code.all cos names n).next ≤ 2 ^ 64 → Stands defs vars names n now env s
        → Sim defs (GoodAll n now (code.all cos names n).values (code.all cos names n).next types) (src.values evs env s) (exec defs p calls (code.all cos names n).code now (state_image defs s))

  pub none_fit : (vars : Vars) → FitsAll vars [] [] []
  none_fit vars = record {
    sound = no_values_sound defs (In defs vars) (on_in defs p calls vars);
    grows = λ names n. omega arith;
    sim = λ env names n now s small here. goes (the_image defs) (GoodAll n now [] n []) [] now s (record { keeps = keeps_all n now; below = here.below; holds = λ late k. refl });
  }

  pub more_fit : (vars : Vars) (a : Ty) (types : List Ty) (ev : Sem) (evs : List Sem) (co : Comp) (cos : List Comp) → is_unit a ≡ false → Fits defs p calls vars a ev co
      → FitsAll vars types evs cos → FitsAll vars (a ∷ types) (ev ∷ evs) (co ∷ cos)
  more_fit vars a types ev evs co cos nu h hs = record {
    sound = more_values_sound defs (In defs vars) (on_in defs p calls vars) a types ev evs h.sound hs.sound;
    grows = λ names n. let g = h.grows names n in let gs = hs.grows names (co.run names n).next in omega (arith, g, gs);
    sim = λ env names n now s small here.
        let o = co.run names n in
        let os = code.all cos names o.next in
        let g = h.grows names n in
        let gs = hs.grows names o.next in
        let Q = GoodAll n now (o.value ∷ os.values) os.next (a ∷ types) in
        part_then defs p calls vars a ev co h env names n now s (omega (arith, gs, small)) here Q os.code (λ x s1. bind (src.values evs env s1) (λ xs s2. Goes (x ∷ xs) s2)) (λ x late s1 k.
        sim_last_after (the_image defs) (FineAll defs s1.memory types) (GoodAll o.next late os.values os.next types) Q (src.values evs env s1) (exec defs p calls os.code late (state_image defs s1))
        (λ xs s2. Goes (x ∷ xs) s2) (hs.sound.run env s1 k.stands.ready k.stands.memory) (hs.sim env names o.next late s1 small k.stands) (λ xs now2 s2 f2 h2.
        goes (the_image defs) Q (x ∷ xs) now2 s2 (record {
          keeps = keeps_then n o.next now late now2 g k.good.keeps h2.keeps;
          below = h2.below;
          holds = λ end q. rw ((k.good.holds nu).later end (keeps_then o.next os.next late now2 end gs h2.keeps q), h2.holds end q) refl;
        })));
  }

  -- operands, and then what follows
  pub record ThenAll (vars : Vars) (types : List Ty) (cos : List Comp) (env : Env) (names : KnownVars) (n : ℕ) (now : Locals) (s : SourceState) (xs : List Value) (late : Locals) (s1 : SourceState) : Type 0 where
    pub fine : FineAll defs s.memory types xs s1
    pub good : GoodAll n now (code.all cos names n).values (code.all cos names n).next types xs late
    pub stands : Stands defs vars names (code.all cos names n).next late env s1

  pub all_then : {A : Type 0} (vars : Vars) (types : List Ty) (evs : List Sem) (cos : List Comp) → FitsAll vars types evs cos → (env : Env) (names : KnownVars) (n : ℕ) (now : Locals) (s : SourceState)
      → (code.all cos names n).next ≤ 2 ^ 64 → Stands defs vars names n now env s → (Q : A → Locals → Type 0) (b : List CStatement) (go : List Value → SourceState → SourceRan A)
      → ((xs : List Value) (late : Locals) (s1 : SourceState) → ThenAll vars types cos env names n now s xs late s1 → Sim defs Q (go xs s1) (exec defs p calls b late (state_image defs s1)))
      → Sim defs Q (bind (src.values evs env s) go) (exec defs p calls ((code.all cos names n).code ++ b) now (state_image defs s))
  all_then vars types evs cos h env names n now s small here Q b go k =
      let os = code.all cos names n in
      in_turn defs p calls (FineAll defs s.memory types) (GoodAll n now os.values os.next types) Q os.code b now (state_image defs s) (src.values evs env s) go
      (h.sound.run env s here.ready here.memory) (h.sim env names n now s small here) (λ xs late s1 f g. k xs late s1 (record {
        fine = f;
        good = g;
        stands = stands_on defs vars names n os.next now late env s s1 here (h.grows names n) g.keeps g.below f.extends f.memory;
      }))

  -- ---- structs

  module _ (typed : AreWellTyped defs) (built : AreBuilt defs) (lookups : Lookups defs p) where
    -- (make S () a..)
    pub make_fits : (vars : Vars) (x : List ℕ) (tvars : List (List ℕ)) (fields : List Field) (evs : List Sem) (cos : List Comp) → type_named defs x ≡ Some (Struct tvars fields)
        → FitsAll vars (param_types fields) evs cos → Fits defs p calls vars (t.Named x []) (src.make defs x evs) (gives (code.built x cos))
    make_fits vars x tvars fields evs cos is hs =
        let b = struct_built defs typed built x tvars fields is in
        record {
          sound = make_sound defs (In defs vars) (on_in defs p calls vars) x tvars fields [] evs is (ap (λ vs. length vs) (sym b.none)) AreArguments.none
              (subst (λ types. SoundAll defs (In defs vars) types evs) (sym (types_here tvars [] fields b.types)) hs.sound);
          part = struct_part p defs built lookups x (Struct tvars fields) is;
          unit = sym (ap is_unit_in (t.outs-Named x []));
          grows = λ names n. hs.grows names n;
          typed = λ names n nm. refl;
          sim = λ env names n now s small here.
              let os = code.all cos names n in
              let Q = Good defs p calls n now (c.Build x os.values) os.next (t.Named x []) in
              sim_last_after (the_image defs) (FineAll defs s.memory (param_types fields)) (GoodAll n now os.values os.next (param_types fields)) Q (src.values evs env s)
              (exec defs p calls os.code now (state_image defs s)) _ (hs.sound.run env s here.ready here.memory) (hs.sim env names n now s small here) (λ xs late s1 f1 h1.
              let made : src.fields_of (type_named defs x) ≡ Some (names_of fields) = ap src.fields_of is in
              rw made (goes (the_image defs) Q (v.Struct (names_of fields) xs) late s1 (record {
                keeps = h1.keeps;
                below = h1.below;
                holds = λ q. record {
                  later = λ end k.
                      let fits = fields_fit defs built s1.memory xs fields f1.shapes b.types b.values in
                      forms.build_is p x os.values [] end
                      ∙ rw (lookups.struct x tvars fields is, h1.holds end k, fits) (ap (λ u. Some u) (sym (image_struct defs (names_of fields) xs x [] tvars fields is)));
                };
              })));
        }

    -- the fields of a name are one
    none_named : (fields : List Field) (xs : List Value) (y : List ℕ) → AllByRecursion (λ z. bytes_eq y z ≡ false) (names_of fields)
        → tgt.fields_named (fields_of fields) (images_at defs xs (param_types fields)) y ≡ []
    none_named [] xs y h = refl
    none_named (f ∷ fields) [] y h = refl
    none_named (f ∷ fields) (x ∷ xs) y h = let e = other_name y f.name h.0 in let ih = none_named fields xs y h.1 in rw (e, ih) refl

    one_named : (fields : List Field) (xs : List Value) (y : List ℕ) (b : Ty) (w : Value) → IsDistinct bytes_eq (names_of fields) → FieldsBuilt fields
        → field_named fields y ≡ Some b → src.field_of (names_of fields) xs y ≡ Some w
        → tgt.fields_named (fields_of fields) (images_at defs xs (param_types fields)) y ≡ image_at defs w b ∷ []
    unfolding IsDistinct
    one_named [] xs y b w d built e q = absurd (no_some b e)
    one_named (f ∷ fields) [] y b w d built e q = absurd (no_some w q)
    one_named (f ∷ fields) (x ∷ xs) y b w d built e q =
        go built.0 (bytes_eq f.name y) refl e q (one_named fields xs y b w d.1 built.1)
      where
        go : is_ty_built f.ty ≡ true → (same : Bool) → bytes_eq f.name y ≡ same → option_or (if same then Some f.ty else None) (field_named fields y) ≡ Some b
            → (if same then Some x else src.field_of (names_of fields) xs y) ≡ Some w
            → (field_named fields y ≡ Some b → src.field_of (names_of fields) xs y ≡ Some w
            → tgt.fields_named (fields_of fields) (images_at defs xs (param_types fields)) y ≡ image_at defs w b ∷ [])
            → (if same then image_at defs x (erased f.ty) ∷ tgt.fields_named (fields_of fields) (images_at defs xs (param_types fields)) y
            else tgt.fields_named (fields_of fields) (images_at defs xs (param_types fields)) y) ≡ image_at defs w b ∷ []
        go fb true is e' q' later =
            let none = none_named fields xs y (subst (λ z. AllByRecursion (λ n. bytes_eq z n ≡ false) (names_of fields)) (name_is f.name y is) d.0) in
            let ty : erased f.ty ≡ b = erased_built f.ty fb ∙ same_some f.ty b e' in
            let there : x ≡ w = same_some x w q' in
            ap (λ us. image_at defs x (erased f.ty) ∷ us) none ∙ ap (λ z. image_at defs x z ∷ []) ty ∙ ap (λ z. image_at defs z b ∷ []) there
        go fb false is e' q' later = later e' q'

    -- ---- fields

    module _ {A A' : Type 0} (Q : A → A' → Type 0) (m : List Block) (s : SourceState) (r' : CRan A') (x : List ℕ) (args : List Ty) (tvars : List (List ℕ)) (fields : List Field)
        (is : type_named defs x ≡ Some (Struct tvars fields)) where
      struct_at : (o : Value-F Value) (next : List (List ℕ) → List Value → SourceRan A) → ShapeIn defs m o (Ty-F.Named x args)
          → ((names : List (List ℕ)) (xs : List Value) → o ≡ Value-F.Struct names xs → StructShape defs m names xs x args → Sim defs Q (next names xs) r') → Sim defs Q (struct_in o s next) r'
      struct_at (Value-F.Struct names xs) next h k = k names xs refl h
      struct_at (Value-F.Con i xs) next h k = absurd (no_sum (same_answer (type_named defs x) (Struct tvars fields) (Sum h.vars h.cons) is h.is))
        where
          no_sum : {vs ws : List (List ℕ)} {fs : List Field} {cs : List _} → Struct vs fs ≡ Sum ws cs → ⊥
          no_sum e = cc
      struct_at (Value-F.Bool b) next h k = absurd h
      struct_at (Value-F.Num w n) next h k = absurd h
      struct_at Value-F.Unit next h k = absurd h
      struct_at (Value-F.Buf n off len) next h k = absurd h

      image_fields : (y : Value) (names : List (List ℕ)) (xs : List Value) → out-Value y ≡ Value-F.Struct names xs → image_at defs y (t.Named x args) ≡ cv.Struct x (images_at defs xs (param_types fields))
      image_fields y names xs e = rw (fold_out-Value (Ty → CValue) (level_image defs) y, e, t.outs-Named x args, is) (ap (λ z. cv.Struct x z) (images_of_fields defs xs fields))

      -- a struct's fields, and its image
      sim_struct : (y : Value) (next : List (List ℕ) → List Value → SourceRan A) → HasShape defs m y (t.Named x args)
          → ((names : List (List ℕ)) (xs : List Value) → image_at defs y (t.Named x args) ≡ cv.Struct x (images_at defs xs (param_types fields)) → StructShape defs m names xs x args
          → Sim defs Q (next names xs) r') → Sim defs Q (as_struct y s next) r'
      sim_struct y next h k = struct_at (out-Value y) next (subst (ShapeIn defs m (out-Value y)) (t.outs-Named x args) (shape_in defs m y (t.Named x args) h))
          (λ names xs e shape. k names xs (image_fields y names xs e) shape)

    -- (get f a)
    pub get_fits : (vars : Vars) (x y : List ℕ) (args : List Ty) (tvars : List (List ℕ)) (fields : List Field) (b : Ty) (ev : Sem) (co : Comp) → type_named defs x ≡ Some (Struct tvars fields)
        → field_named fields y ≡ Some b → Fits defs p calls vars (t.Named x args) ev co
        → Fits defs p calls vars b (src.get y ev) (gives (code.operand co (code.got defs y)))
    get_fits vars x y args tvars fields b ev co is b_is h =
        let sb = struct_built defs typed built x tvars fields is in
        let bb : is_ty_built b ≡ true = field_among (λ a. is_ty_built a ≡ true) fields y b sb.types b_is in
        let nu : is_unit b ≡ false = field_among IsValue fields y b sb.values b_is in
        let here : at tvars args b ≡ b = at_built tvars args b bb in
        record {
          sound = get_sound defs (In defs vars) (on_in defs p calls vars) x y tvars fields args b b ev is b_is (λ n. here) h.sound;
          part = type_part p defs built lookups tvars b (field_among (IsType defs tvars) fields y b ((facts defs typed).fields x tvars fields is) b_is) bb;
          unit = sym nu;
          grows = λ names n. h.grows names n;
          typed = λ names n nm. ap (λ a. code.field_type defs y (out-Ty a)) (h.typed names n nm) ∙ rw (t.outs-Named x args, is, b_is) refl;
          sim = λ env names n now s small stand.
              let o = co.run names n in
              let Q = Good defs p calls n now (c.Field o.value y) o.next b in
              part_then defs p calls vars (t.Named x args) ev co h env names n now s small stand Q []
              (λ z s1. as_struct z s1 (λ ns xs. with_some Undefined (src.field_of ns xs y) s1 (λ w. Goes w s1))) (λ z late s1 k.
              sim_struct Q s1.memory s1 (exec defs p calls [] late (state_image defs s1)) x args tvars fields is z _ k.fine.shape (λ ns xs image shape.
              sim_some (the_image defs) Q (src.field_of ns xs y) s1 (λ w. Goes w s1) (Goes late (state_image defs s1)) (λ w there.
              let same = same_struct shape.vars tvars shape.fields fields (same_answer (type_named defs x) (Struct shape.vars shape.fields) (Struct tvars fields) shape.is is) in
              let names_are : ns ≡ names_of fields = shape.names_are ∙ ap names_of same.1 in
              let one = one_named fields xs y b w sb.distinct sb.types b_is (ap (λ l. src.field_of l xs y) (sym names_are) ∙ there) in
              goes (the_image defs) Q w late s1 (record {
                keeps = k.good.keeps;
                below = k.good.below;
                holds = λ q. record {
                  later = λ end e.
                      let struct = (k.good.holds (ap is_unit_in (t.outs-Named x args))).later end e ∙ ap (λ u. Some u) image in
                      forms.field_is p o.value y [] end ∙ rw (struct, cv.outs-Struct x (images_at defs xs (param_types fields)), lookups.struct x tvars fields is, one) refl;
                };
              }))));
        }
