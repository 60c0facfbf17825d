-- The parameters of a function at the begin of its body: those of the source, and those of C.
use Rattle.std.proofs.Common.{◌≡◌, ℕ, suc, ◌+◌, ◌≤◌, ◌^◌, Bool, true, false, if◌then◌else◌, List, [], ◌∷◌, length, Some, refl, sym, ap, ◌∙◌, subst, arith}
use Rattle.std.specs.List.{AllByRecursion, IsDistinct}
use Rattle.std.specs.Str.{bytes_eq}
use Rattle.std.proofs.lemmas.Slice.Eq.{bytes_eq-Decides}
use Rattle.krml_syntax.specs.declared.tree.Field.{Field}
use Rattle.krml_syntax.specs.declared.tree.Def.{Def}
use Rattle.krml_syntax.specs.Types.{erased}
use Rattle.krml_ast.specs.WellTyped.{names_of}
use Rattle.krml_meaning.specs.declared.value.Value.{Value}
use Rattle.krml_meaning.specs.State.{Block, Variables, value_of}
use Rattle.krml_meaning.specs.Meaning as src
use Rattle.krml_meaning.specs.Shape.{AllHaveShape}
use Rattle.krml_meaning.proofs.Lists.{same_some, no_some}
use Rattle.krml_meaning.proofs.Types.{name_same}
use Rattle.krml_meaning.proofs.Shapes.{shapes_in}
use Rattle.krml_meaning.proofs.Levels.{param_vars}
use Rattle.krml_ctree.specs.declared.value.CValue.{CValue}
use Rattle.krml_ctree.specs.Parts.{Local, Locals}
use Rattle.krml_ctree.specs.Meaning as tgt
use Rattle.krml_cstar.specs.Types.{ctype}
use Rattle.krml_cstar.specs.Variables.{Known, look, named}
use Rattle.krml_cstar.specs.Translation.{params_from, cvars}
use Rattle.krml_cstar.proofs.Images.{image_at, images_at}
use Rattle.krml_cstar.proofs.Part.{FieldsBuilt, erased_built}
use Rattle.krml_cstar.proofs.VariableNames.{number_of, number-named}
use Rattle.krml_cstar.proofs.LocalsInC.{Keeps, Below, below_more, keeps_all, keeps_then, keeps_new, keeps_value, new_named, only_value}
use Rattle.krml_cstar.proofs.Fits.{Named, param_types, Carries, Scoped}

-- ---- as the translation has them

pub params_named : (k : ℕ) (params : List Field) → FieldsBuilt params → Named (param_vars params) (params_from k params)
params_named k [] e = tt
params_named k (p ∷ params) e =
    (record { name = refl; ty = sym (erased_built p.ty e.0) }, params_named (suc k) params e.1)

-- ---- as the source has them

-- what was in scope before, and has no parameter's name, is found as before
found_before : (params : List Field) (xs : List Value) (before vars : Variables) (x : List ℕ) → AllByRecursion (λ y. bytes_eq x y ≡ false) (names_of params)
    → src.params_over params xs before ≡ Some vars → value_of vars x ≡ value_of before x
found_before [] [] before vars x h e = ap (λ z. value_of z x) (sym (same_some before vars e))
found_before [] (y ∷ xs) before vars x h e = absurd (no_some vars e)
found_before (p ∷ params) [] before vars x h e = absurd (no_some vars e)
found_before (p ∷ params) (y ∷ xs) before vars x h e = found_before params xs ((p.name, y) ∷ before) vars x h.1 e ∙ other (bytes_eq p.name x) refl
  where
    other : (b : Bool) → bytes_eq p.name x ≡ b → (if b then Some y else value_of before x) ≡ value_of before x
    other false q = refl
    other true q =
        let same : p.name ≡ x = (bytes_eq-Decides p.name x).0 q in
        let e : true ≡ false = sym (name_same x) ∙ ap (bytes_eq x) (sym same) ∙ h.0 in
        absurd (cc)

-- ---- as C has them

module _ (n : ℕ) (small : n ≤ 2 ^ 64) where
  -- the names have numbers from k on
  params_keep : (k : ℕ) (params : List Field) (us : List CValue) (locals : Locals) → k + length params ≤ n → Keeps k locals (tgt.params_over (cvars (params_from k params)) us locals)
  params_keep k [] us locals le = keeps_all k locals
  params_keep k (p ∷ params) [] locals le = keeps_all k locals
  params_keep k (p ∷ params) (u ∷ us) locals le =
      let l : Local = record { name = named k p.name; ty = ctype p.ty; value = Some u; array = false } in
      let num : number_of (named k p.name) ≡ k = number-named k p.name (omega (arith, le, small)) in
      keeps_then k (suc k) locals (l ∷ locals) (tgt.params_over (cvars (params_from (suc k) params)) us (l ∷ locals)) (omega arith)
      (keeps_new k l locals (omega (arith, num))) (params_keep (suc k) params us (l ∷ locals) (omega (arith, le)))

  pub params_below : (k : ℕ) (params : List Field) (us : List CValue) (locals : Locals) → k + length params ≤ n → Below k locals
      → Below n (tgt.params_over (cvars (params_from k params)) us locals)
  params_below k [] us locals le h = below_more k n locals (omega (arith, le)) h
  params_below k (p ∷ params) [] locals le h = below_more k n locals (omega (arith, le)) h
  params_below k (p ∷ params) (u ∷ us) locals le h =
      let l : Local = record { name = named k p.name; ty = ctype p.ty; value = Some u; array = false } in
      let num : number_of (named k p.name) ≡ k = number-named k p.name (omega (arith, le, small)) in
      params_below (suc k) params us (l ∷ locals) (omega (arith, le)) (omega (arith, num), below_more k (suc k) locals (omega arith) h)

  module _ (defs : List Def) (m : List Block) where
    -- The arguments of the source are found in the scope of a body, and those of C in that of its code.
    pub params_scoped : (k : ℕ) (params : List Field) (xs : List Value) (before vars : Variables) (locals : Locals) → k + length params ≤ n → IsDistinct bytes_eq (names_of params)
        → AllHaveShape defs m xs (param_types params) → src.params_over params xs before ≡ Some vars → Below k locals
        → Scoped defs n vars (params_from k params) (tgt.params_over (cvars (params_from k params)) (images_at defs xs (param_types params)) locals)
    unfolding IsDistinct
    params_scoped k [] xs before vars locals le d hs e h x kn q = absurd (no_some kn q)
    params_scoped k (p ∷ params) [] before vars locals le d hs e h x kn q = absurd (no_some vars e)
    params_scoped k (p ∷ params) (y ∷ xs) before vars locals le d hs e h x kn q =
        let num : number_of (named k p.name) ≡ k = number-named k p.name (omega (arith, le, small)) in
        let l : Local = record { name = named k p.name; ty = ctype p.ty; value = Some (image_at defs y (erased p.ty)); array = false } in
        go (bytes_eq p.name x) refl q (λ e'.
        params_scoped (suc k) params xs ((p.name, y) ∷ before) vars (l ∷ locals) (omega (arith, le)) d.1 (shapes_in defs m (y ∷ xs) (param_types (p ∷ params)) hs).1 e
        (omega (arith, num), below_more k (suc k) locals (omega arith) h) x kn e')
      where
        go : (b : Bool) → bytes_eq p.name x ≡ b → (if b then Some (record { name = p.name; emitted = named k p.name; ty = p.ty }) else look (params_from (suc k) params) x) ≡ Some kn
            → (look (params_from (suc k) params) x ≡ Some kn → Carries defs n vars x kn (tgt.params_over (cvars (params_from (suc k) params)) (images_at defs xs (param_types params))
            (record { name = named k p.name; ty = ctype p.ty; value = Some (image_at defs y (erased p.ty)); array = false } ∷ locals)))
            → Carries defs n vars x kn (tgt.params_over (cvars (params_from (suc k) params)) (images_at defs xs (param_types params))
            (record { name = named k p.name; ty = ctype p.ty; value = Some (image_at defs y (erased p.ty)); array = false } ∷ locals))
        go true is e' later =
            let u : CValue = image_at defs y (erased p.ty) in
            let us : List CValue = images_at defs xs (param_types params) in
            let l : Local = record { name = named k p.name; ty = ctype p.ty; value = Some u; array = false } in
            let late : Locals = tgt.params_over (cvars (params_from (suc k) params)) us (l ∷ locals) in
            let num : number_of (named k p.name) ≡ k = number-named k p.name (omega (arith, le, small)) in
            let same : record { name = p.name; emitted = named k p.name; ty = p.ty } ≡ kn = same_some (record { name = p.name; emitted = named k p.name; ty = p.ty }) kn e' in
            let mine : value_of vars p.name ≡ Some y = found_before params xs ((p.name, y) ∷ before) vars p.name d.0 e ∙ first (bytes_eq p.name p.name) (name_same p.name) in
            let here = new_named k l locals h (omega (arith, num)) in
            let there : tgt.var (named k p.name) [] (l ∷ locals) ≡ Some u = only_value (named k p.name) (l ∷ locals) l u here refl in
            subst (λ (z : Known). Carries defs n vars x z late) same (record {
              found = y;
              is = ap (value_of vars) (sym ((bytes_eq-Decides p.name x).0 is)) ∙ mine;
              below = omega (arith, num, le);
              value = keeps_value (suc k) (l ∷ locals) late (named k p.name) u (params_keep (suc k) params us (l ∷ locals) (omega (arith, le))) (omega (arith, num)) there;
            })
          where
            first : (b : Bool) → b ≡ true → (if b then Some y else value_of before p.name) ≡ Some y
            first true e = refl
            first false e = absurd (cc)
        go false is e' later = later e'
