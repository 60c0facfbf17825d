-- Calls of functions do in C what they do in the source, at every level, where their bodies do.
use Rattle.std.proofs.Common.{◌≡◌, ℕ, ◌+◌, ◌≤◌, ◌^◌, Bool, true, false, if◌then◌else◌, List, [], ◌∷◌, length, Some, None, refl, sym, ap, ◌∙◌, subst, arith}
use Rattle.std.specs.List.{AllByRecursion}
use Rattle.krml_trace.specs.Run.{Goes}
use Rattle.krml_trace.proofs.Levels.{within_both}
use Rattle.krml_trace.proofs.Simulates.{goes, sim_more_after}
use Rattle.krml_syntax.specs.declared.tree.Ty.{Ty}
use Rattle.krml_syntax.specs.declared.tree.Field.{Field}
use Rattle.krml_syntax.specs.declared.tree.Expr.{Expr}
use Rattle.krml_syntax.specs.declared.tree.Def.{Def}
use Rattle.krml_syntax.specs.Types.{erased}
use Rattle.krml_ast.specs.IsType.{IsValue, IsType}
use Rattle.krml_ast.specs.Typing.{Vars, HasType, fields_at}
use Rattle.krml_ast.specs.WellTyped.{AreWellTyped}
use Rattle.krml_meaning.specs.declared.value.Value.{Value}
use Rattle.krml_meaning.specs.State.{SourceState, Env}
use Rattle.krml_meaning.specs.Meaning as src
use Rattle.krml_meaning.specs.Shape.{HasShape, AllHaveShape}
use Rattle.krml_meaning.specs.Sound.{Fine}
use Rattle.krml_meaning.proofs.Bodies.{bodies_run}
use Rattle.krml_meaning.proofs.Lists.{same_answer}
use Rattle.krml_meaning.proofs.Forms.{CallsSound}
use Rattle.krml_meaning.proofs.Flat.{value_erased}
use Rattle.krml_meaning.proofs.Files.{facts}
use Rattle.krml_meaning.proofs.Levels.{param_vars, entered, called_sound, enter_sound}
use Rattle.krml_ctree.specs.declared.value.CValue.{CValue}
use Rattle.krml_ctree.specs.declared.tree.CProgram.{CProgram}
use Rattle.krml_ctree.specs.Parts.{Locals, has_type}
use Rattle.krml_ctree.specs.Meaning as tgt
use Rattle.krml_cstar.specs.Built.{is_ty_built, AreBuilt}
use Rattle.krml_cstar.specs.Types.{ctype, is_unit}
use Rattle.krml_cstar.specs.Variables.{Known}
use Rattle.krml_cstar.specs.Translation.{Out, code_of, params_from, cvars}
use Rattle.krml_cstar.specs.Count.{variables_of, HaveFewVariables}
use Rattle.krml_cstar.proofs.Images.{image_at, images_at, the_image, state_image, Sim}
use Rattle.krml_cstar.proofs.Lookups.{Lookups}
use Rattle.krml_cstar.proofs.Part.{FieldsBuilt, ExprBuilt, erased_built, fields_at_built, fields_erased_built, at_function, FunctionBuilt, function_built}
use Rattle.krml_cstar.proofs.Typed.{image_typed}
use Rattle.krml_cstar.proofs.PartTypes.{type_part}
use Rattle.krml_cstar.proofs.LocalsInC.{keeps_all}
use Rattle.krml_cstar.proofs.Fits.{IsPart, AreParts, param_types, no_vars, In, Stands, Gave, CallsFit, Good, Fits}
use Rattle.krml_cstar.proofs.Parameters.{params_named, params_below, params_scoped}
use Rattle.krml_cstar.proofs.BuiltFiles.{built_can_run}

-- What is said of bodies.
abbrev pub BodiesFit : List Def → CProgram → Type 0
BodiesFit defs p = (calls : src.Calls) (ccalls : tgt.Calls) → CallsSound defs calls → CallsFit defs calls ccalls → (vars : Vars) (x : Expr) (a : Ty) → AreParts p vars
    → HasType defs [] (record { vars = vars; frame = None }) x a → ExprBuilt x → Fits defs p ccalls vars a (src.eval defs calls x) (code_of defs x)

module _ (defs : List Def) (typed : AreWellTyped defs) (built : AreBuilt defs) (p : CProgram) (lookups : Lookups defs p) (few : HaveFewVariables defs) where
  -- what a body gives is what the function of C returns
  module _ (r : Ty) (is_built : is_ty_built r ≡ true) (calls : tgt.Calls) (n : ℕ) (before now : Locals) (o : Out) (x : Value) (s : SourceState)
      (shape : HasShape defs s.memory x (erased r)) (good : Good defs p calls n before o.value o.next (erased r) x now) where
    abbrev Answers : Bool → Type 0
    Answers b = Sim defs (λ x u. u ≡ (if b then None else Some (image_at defs x (erased r)))) (Goes x s)
        (tgt.answered p (if b then None else Some (ctype r)) (if b then None else Some o.value) now (state_image defs s))

    answers : (b : Bool) → is_unit r ≡ b → Answers b
    answers true e = goes (the_image defs) (λ x u. u ≡ None) x None s refl
    answers false e =
        let u : CValue = image_at defs x (erased r) in
        let same = erased_built r is_built in
        let nu : is_unit (erased r) ≡ false = ap is_unit same ∙ e in
        let is : tgt.value_of p o.value [] now ≡ Some u = (good.holds nu).later now (keeps_all o.next now) in
        let has : has_type [] u (ctype r) ≡ true =
        ap (λ z. has_type [] u (ctype z)) (sym same) ∙ image_typed defs built s.memory x (erased r) shape (subst (λ z. is_ty_built z ≡ true) (sym same) is_built) nu in
        rw (is, has) (goes (the_image defs) (λ x o. o ≡ Some (image_at defs x (erased r))) x (Some u) s refl)

  -- the parameters are values of types of the part
  params_parts : (vars : List (List ℕ)) (params : List Field) → AllByRecursion (λ q. IsType defs vars q.ty) params → FieldsBuilt params
      → AllByRecursion (λ q. IsValue q.ty) params → AreParts p (param_vars params)
  params_parts vars [] ok b nu = tt
  params_parts vars (q ∷ params) ok b nu =
      let part : IsPart p (erased q.ty) = subst (IsPart p) (sym (erased_built q.ty b.0)) (type_part p defs built lookups vars q.ty ok.0 b.0) in
      ((part, value_erased q.ty nu.0), params_parts vars params ok.1 b.1 nu.1)

  module _ (fits : BodiesFit defs p) where
    pub calls_sound : (levels : ℕ) → CallsSound defs (src.enter defs levels)
    calls_sound levels = enter_sound defs (facts defs typed) (bodies_run defs typed (built_can_run defs built)) levels

    -- the bodies do the same where the calls in them do
    body_fits : (calls : src.Calls) (ccalls : tgt.Calls) → CallsSound defs calls → CallsFit defs calls ccalls → CallsFit defs (src.body_of defs calls) (tgt.body_of p ccalls)
    body_fits calls ccalls hk hc x f fun xs s e q hs hm =
        let fn = (facts defs typed).function x f e in
        let fb : FunctionBuilt f fun.body = function_built defs typed built x f fun e q in
        let same : fn.body ≡ fun = same_answer (src.function_named defs x) fn.body fun fn.is q in
        let params : fun.params ≡ f.params = ap (λ (z : src.Function). z.params) (sym same) ∙ fn.params in
        let tvars : fun.tvars ≡ [] = ap (λ (z : src.Function). z.tvars) (sym same) ∙ fn.vars ∙ fb.none in
        let a = erased f.result in
        let vars : Vars = param_vars f.params in
        let ty : HasType defs [] (record { vars = vars; frame = None }) fun.body a =
        subst (λ z. HasType defs z (record { vars = vars; frame = None }) fun.body a) fb.none (subst (λ (z : src.Function). HasType defs f.vars (record { vars = vars; frame = None }) z.body a) same fn.typed) in
        let names : List Known = params_from 0 f.params in
        let n = length f.params in
        let o = (code_of defs fun.body).run names n in
        let h = fits calls ccalls hk hc vars fun.body a (params_parts f.vars f.params fn.each fb.types fb.values) ty fb.body in
        let small : o.next ≤ 2 ^ 64 = at_function (λ def. variables_of defs def ≤ 2 ^ 64) defs x f fun few e q in
        let grows : n ≤ o.next = h.grows names n in
        let types : param_types f.params ≡ fields_at [] [] f.params = fields_erased_built f.params fb.types ∙ sym (fields_at_built [] [] f.params fb.types) in
        let into = entered defs (no_vars defs) s.memory f.params xs [] fb.distinct (subst (AllHaveShape defs s.memory xs) types hs) in
        let env : Env = src.env_of fun [] into.vars in
        let now : Locals = tgt.params_over (cvars names) (images_at defs xs (param_types f.params)) [] in
        let low : 0 + n ≤ n = omega arith in
        let few_n : n ≤ 2 ^ 64 = omega (arith, grows, small) in
        let ready : In defs vars s.memory env = record { tvars = tvars; targs = refl; vars = into.there; frame = tt } in
        let stands : Stands defs vars names n now env s = record {
          ready = ready;
          memory = hm;
          named = params_named 0 f.params fb.types;
          scoped = params_scoped n few_n defs s.memory 0 f.params xs [] into.vars [] low fb.distinct hs into.is tt;
          below = params_below n few_n 0 f.params (images_at defs xs (param_types f.params)) [] low tt;
        } in
        let there : src.params_over fun.params xs [] ≡ Some into.vars = ap (λ ps. src.params_over ps xs []) params ∙ into.is in
        rw (q, there) (sim_more_after (the_image defs) (Fine defs s.memory a) (Good defs p ccalls n now o.value o.next a) (Gave defs f.result)
        (src.eval defs calls fun.body env s) (tgt.exec p ccalls o.code now (state_image defs s)) _ (h.sound.run env s ready hm) (h.sim env names n now s small stands) (λ x late s1 f1 h1.
        answers f.result fb.result ccalls n now late o x s1 f1.shape h1 (is_unit f.result) refl))

    -- calls with as many levels left, of which those of the source are sound
    abbrev SoundAndFit : src.Calls → tgt.Calls → Type 0
    SoundAndFit calls ccalls = CallsSound defs calls × CallsFit defs calls ccalls

    -- by induction on the levels
    pub enter_fits : (levels : ℕ) → CallsFit defs (src.enter defs levels) (tgt.enter p levels)
    enter_fits levels = (within_both SoundAndFit (src.body_of defs) (tgt.body_of p) ((λ x f types xs s e n oks hs hm. tt), (λ x f fun xs s e q hs hm. refl))
        (λ calls ccalls h. (called_sound defs (facts defs typed) (bodies_run defs typed (built_can_run defs built)) calls h.0, body_fits calls ccalls h.0 h.1)) levels).1
