-- Calls, with a result or without, and look-ups in tables.
use Rattle.std.proofs.Common.{◌≡◌, ℕ, zero, suc, ◌+◌, ◌<◌, ◌≤◌, ◌^◌, Bool, true, false, if◌then◌else◌, List, [], ◌∷◌, length, Some, None, slice_get, refl, sym, ap, ◌∙◌, subst, arith}
use Rattle.krml_trace.specs.declared.width.Width.TheVariants.{W32}
use Rattle.krml_trace.specs.declared.outcome.Cause.TheVariants as cause
use Rattle.krml_trace.specs.declared.why.Why.TheVariants.{Undefined}
use Rattle.krml_trace.specs.Run.{Goes, leave, with_some, spend, tick}
use Rattle.krml_trace.specs.After.{After}
use Rattle.krml_trace.proofs.Simulates.{goes, sim_end, sim_found, sim_more_after}
use Rattle.krml_syntax.specs.declared.tree.IntTy.{IntTy}
use Rattle.krml_syntax.specs.declared.tree.Ty.{Ty}
use Rattle.krml_syntax.specs.declared.tree.Ty.TheVariants as t
use Rattle.krml_syntax.specs.declared.tree.Def.{Def}
use Rattle.krml_ast.specs.declared.event.SourceEvent.TheVariants as event
use Rattle.krml_ast.specs.Names.{Signature, fun_named, table_named}
use Rattle.krml_syntax.specs.Types.{erased, int_ty, u32}
use Rattle.krml_ast.specs.IsType.{AreArguments}
use Rattle.krml_ast.specs.Typing.{Vars, at, fields_at}
use Rattle.krml_ast.specs.WellTyped.{AreWellTyped}
use Rattle.krml_meaning.specs.declared.value.Value.{Value}
use Rattle.krml_meaning.specs.declared.value.Value.TheVariants as v
use Rattle.krml_meaning.specs.State.{Block, SourceState, SourceRan, Sem, as_number}
use Rattle.krml_meaning.specs.Meaning as src
use Rattle.krml_meaning.specs.Shape.{AllHaveShape, MemoryTyped}
use Rattle.krml_meaning.specs.Sound.{Fine}
use Rattle.krml_meaning.proofs.Files.{facts}
use Rattle.krml_meaning.proofs.Forms.{Sound, SoundAll, CallsSound, call_sound, tab_sound}
use Rattle.krml_ctree.specs.declared.value.CValue.TheVariants as cv
use Rattle.krml_ctree.specs.declared.tree.CVar.{CVar}
use Rattle.krml_ctree.specs.declared.tree.CExpr.TheVariants as c
use Rattle.krml_ctree.specs.declared.tree.CStatement.TheVariants as st
use Rattle.krml_ctree.specs.declared.tree.CFun.{CFun}
use Rattle.krml_ctree.specs.declared.tree.CProgram.{CProgram}
use Rattle.krml_ctree.specs.Parts.{Locals, CState, CRan}
use Rattle.krml_ctree.specs.Parts as parts
use Rattle.krml_ctree.specs.Meaning as tgt
use Rattle.krml_ctree.specs.Meaning.{blank_local}
use Rattle.krml_ctree.proofs.Forms as forms
use Rattle.krml_cstar.specs.Built.{AreBuilt}
use Rattle.krml_cstar.specs.Variables as variables
use Rattle.krml_cstar.specs.Translation as code
use Rattle.krml_cstar.specs.Types.{ctype, is_unit}
use Rattle.krml_cstar.specs.Variables.{plain}
use Rattle.krml_cstar.specs.Translation.{Comp, gives, does, nothing, params_from, cvars, fun_code}
use Rattle.krml_cstar.proofs.Images.{image_at, images_at, the_image, state_image, Sim}
use Rattle.krml_cstar.proofs.Lookups.{Lookups}
use Rattle.krml_cstar.proofs.Part.{FunctionBuilt, function_built, table_built, erased_built, at_built, public_same, types_here}
use Rattle.krml_cstar.proofs.Typed.{has_number, image_num, image_typed, arguments_fit}
use Rattle.krml_cstar.proofs.TypesInC.{ctype_int}
use Rattle.krml_cstar.proofs.PartTypes.{number_part, known_width, type_part}
use Rattle.krml_cstar.proofs.VariableNames.{number_of, number-plain}
use Rattle.krml_cstar.proofs.LocalsInC.{Keeps, Below, below_more, keeps_all, keeps_then, keeps_new, new_named, only_value}
use Rattle.krml_cstar.proofs.Fits.{IsPart, param_types, In, Gave, CallsFit, Good, Fits}
use Rattle.krml_cstar.proofs.Forms.{var_holds, unit_clash, number_value, sim_number, exec, made, part_then, on_in}
use Rattle.krml_cstar.proofs.Structs.{FitsAll, all_then}

module _ (defs : List Def) (typed : AreWellTyped defs) (built : AreBuilt defs) (p : CProgram) (lookups : Lookups defs p) (calls : tgt.Calls) where
  -- both spend a tick
  sim_ticked : {A A' : Type 0} (Q : A → A' → Type 0) (s : SourceState) (go : SourceState → SourceRan A) (go' : CState → CRan A')
      → ((n : ℕ) → Sim defs Q (go (record s { ticks = n })) (go' (state_image defs (record s { ticks = n })))) → Sim defs Q (tick s go) (tick (state_image defs s) go')
  sim_ticked Q s go go' k = at s.ticks
    where
      at : (n : ℕ) → Sim defs Q (spend n s go) (spend n (state_image defs s) go')
      at zero = refl
      at (suc n) = k n

  -- a new variable of the number n has its value
  new_good : (n m : ℕ) (before now : Locals) (a : Ty) (x : Value) (ty : _) → n ≤ m → m < 2 ^ 64 → Keeps n before now → Below m now
      → Good defs p calls n before (c.Var (plain m)) (m + 1) a x (made defs p calls (variables.var m ty) (image_at defs x a) ∷ now)
  new_good n m before now a x ty le small kept be =
      let y : List ℕ = plain m in
      let nr : number_of y ≡ m = number-plain m small in
      let ge : m ≤ number_of y = omega (arith, nr) in
      let lt : number_of y < m + 1 = omega (arith, nr) in
      let l = made defs p calls (variables.var m ty) (image_at defs x a) in
      record {
        keeps = keeps_then n m before now (l ∷ now) le kept (keeps_new m l now ge);
        below = (lt, below_more m (m + 1) now (omega arith) be);
        holds = λ q. var_holds p (m + 1) y (l ∷ now) (image_at defs x a) lt (only_value y (l ∷ now) l (image_at defs x a) (new_named m l now be ge) refl);
      }

  -- ---- tables

  -- (tab t i)
  pub tab_fits : (vars : Vars) (x : List ℕ) (i : IntTy) (ev : Sem) (co : Comp) → table_named defs x ≡ Some i → Fits defs p calls vars u32 ev co
      → Fits defs p calls vars (int_ty i) (src.tab defs x ev) (gives (code.operand co (code.looked_up defs x)))
  tab_fits vars x i ev co is h = subst (λ o. Fits defs p calls vars (int_ty i) (src.tab defs x ev) (of_type (code.table_type o))) (sym is) (record {
    sound = tab_sound defs (In defs vars) (on_in defs p calls vars) (facts defs typed) x i ev is h.sound;
    part = number_part p i.width;
    unit = sym (number_value i.width);
    grows = λ names n. let g = h.grows names n in omega (arith, g);
    typed = λ names n nm. ap (λ z. t.Int z) (sym (public_same i (table_built defs typed built x i is)));
    sim = λ env names n now s small here.
        let o = co.run names n in
        let m = o.next in
        let g = h.grows names n in
        let small_m : m < 2 ^ 64 = omega (arith, small) in
        let d : CVar = variables.var m (ctype (t.Int i)) in
        let f = (facts defs typed).table x i is in
        let table = f.table in
        let Q = Good defs p calls n now (c.Var (plain m)) (m + 1) (int_ty i) in
        part_then defs p calls vars u32 ev co h env names n now s (omega (arith, small_m)) here Q (st.Tab d x o.value ∷ [])
        (λ y s1. as_number W32 y s1 (λ j. with_some Undefined (src.table_from 0 defs x) s1 (λ table. src.look_up table j s1))) (λ y late s1 k.
        sim_number defs Q s1.memory s1 (exec defs p calls (st.Tab d x o.value ∷ []) late (state_image defs s1)) W32 y _ k.fine.shape (λ j lj image.
        rw f.is (sim_found (the_image defs) Q cause.Index (slice_get table.nums j) s1 (λ e. Goes (v.Num table.ty.width e) (leave (event.Tab table.place j) s1)) _ (λ e there.
        let ge : m ≤ number_of (plain m) = let nr = number-plain m small_m in omega (arith, nr) in
        let index : tgt.value_of p o.value [] (blank_local d ∷ late) ≡ Some (cv.Num W32 j) = (k.good.holds (number_value W32)).later (blank_local d ∷ late) (keeps_new m (blank_local d) late ge)
        ∙ ap (λ u. Some u) image in
        let number : parts.as_number_of W32 (cv.Num W32 j) ≡ Some j = rw (cv.outs-Num W32 j) refl in
        let known : parts.is_known p (ctype (t.Int i)) ≡ true = ap (parts.is_known p) (ctype_int i) ∙ known_width p i.width in
        let has : parts.has_type [] (cv.Num table.ty.width e) (ctype (t.Int i)) ≡ true = ap (λ (z : IntTy). parts.has_type [] (cv.Num z.width e) (ctype (t.Int i))) f.ty
        ∙ ap (parts.has_type [] (cv.Num i.width e)) (ctype_int i) ∙ has_number [] i.width e in
        let z : Value = v.Num table.ty.width e in
        let image_z : image_at defs z (int_ty i) ≡ cv.Num table.ty.width e = image_num defs table.ty.width e (int_ty i) in
        let l = made defs p calls d (cv.Num table.ty.width e) in
        rw (forms.tab_is p calls d x o.value, known, index, number, lookups.table x table f.is, there, has)
        (goes (the_image defs) Q z (l ∷ late) (leave (event.Tab table.place j) s1)
        (subst (λ u. Good defs p calls n now (c.Var (plain m)) (m + 1) (int_ty i) z (made defs p calls d u ∷ late)) image_z
        (new_good n m now late (int_ty i) z (ctype (t.Int i)) g small_m k.good.keeps k.good.below)))))));
  })
    where
      of_type : Ty → Comp
      of_type r = gives (code.operand co (λ a names n. record { code = st.Tab (variables.var n (ctype r)) x a.value ∷ []; value = c.Var (plain n); ty = r; next = n + 1 }))

  -- ---- calls

  module _ (source : src.Calls) (hk : CallsSound defs source) (kf : CallsFit defs source calls) (vars : Vars) (x : List ℕ) (f : Signature) (evs : List Sem) (cos : List Comp)
      (is : fun_named defs x ≡ Some f) (hs : FitsAll defs p calls vars (param_types f.params) evs cos) where
    abbrev fun : src.Function
    fun = ((facts defs typed).function x f is).body

    fun_is : src.function_named defs x ≡ Some fun
    fun_is = ((facts defs typed).function x f is).is

    b : FunctionBuilt f fun.body
    b = function_built defs typed built x f fun is fun_is

    abbrev no_args : List Ty
    no_args = []

    count : length no_args ≡ length f.vars
    count = ap (λ vs. length vs) (sym b.none)

    types_are : fields_at f.vars [] f.params ≡ param_types f.params
    types_are = types_here f.vars [] f.params b.types

    result_is : at f.vars [] f.result ≡ f.result
    result_is = at_built f.vars [] f.result b.result

    call_is_sound : Sound defs (In defs vars) f.result (src.call source x [] evs)
    call_is_sound = subst (λ a. Sound defs (In defs vars) a (src.call source x [] evs)) result_is
        (call_sound defs (In defs vars) (on_in defs p calls vars) source hk x f [] [] evs is count AreArguments.none (λ m env r. refl)
        (subst (λ types. SoundAll defs (In defs vars) types evs) (sym types_are) hs.sound))

    result_part : IsPart p f.result
    result_part = type_part p defs built lookups f.vars f.result ((facts defs typed).function x f is).result b.result

    -- what is known of a run of the function
    ran_after : (xs : List Value) (s : SourceState) → AllHaveShape defs s.memory xs (param_types f.params) → MemoryTyped defs s.memory
        → After (Fine defs s.memory f.result) (source (record { name = x; types = []; values = xs }) s)
    ran_after xs s shapes hm = subst (λ a. After (Fine defs s.memory a) (source (record { name = x; types = []; values = xs }) s)) result_is
        (hk x f [] xs s is count AreArguments.none (subst (AllHaveShape defs s.memory xs) (sym types_are) shapes) hm)

    abbrev c_fun : CFun
    c_fun = fun_code defs x f.params f.result fun.body

    there : parts.function_named p x ≡ Some c_fun
    there = lookups.function x f fun is fun_is

    fits : (m : List Block) (xs : List Value) → AllHaveShape defs m xs (param_types f.params) → tgt.fit [] (cvars (params_from 0 f.params)) (images_at defs xs (param_types f.params)) ≡ true
    fits m xs shapes = arguments_fit defs built m xs 0 f.params shapes b.types b.values

    called_fits : is_unit f.result ≡ false → Fits defs p calls vars f.result (src.call source x [] evs) (gives (code.called f.result x cos))
    called_fits nu = record {
      sound = call_is_sound;
      part = result_part;
      unit = sym nu;
      grows = λ names n. let g = hs.grows names n in omega (arith, g);
      typed = λ names n nm. refl;
      sim = λ env names n now s small here.
          let os = code.all cos names n in
          let m = os.next in
          let g = hs.grows names n in
          let small_m : m < 2 ^ 64 = omega (arith, small) in
          let d : CVar = variables.var m (ctype f.result) in
          let Q = Good defs p calls n now (c.Var (plain m)) (m + 1) f.result in
          all_then defs p calls vars (param_types f.params) evs cos hs env names n now s (omega (arith, small_m)) here Q (st.Call d x os.values ∷ [])
          (λ xs s1. tick s1 (λ s2. source (record { name = x; types = []; values = xs }) s2)) (λ xs late s1 k.
          let ge : m ≤ number_of (plain m) = let nr = number-plain m small_m in omega (arith, nr) in
          let gives_one : tgt.gives_as true (if is_unit f.result then None else Some (ctype f.result)) ≡ true = rw nu refl in
          rw (forms.call_is p calls d x os.values, result_part.known, there, k.good.holds (blank_local d ∷ late) (keeps_new m (blank_local d) late ge), fits s1.memory xs k.fine.shapes, gives_one)
          (sim_end (the_image defs) Q _ _ (sim_ticked Q s1 _ _ (λ j.
          let s2 : SourceState = record s1 { ticks = j } in
          sim_more_after (the_image defs) (Fine defs s1.memory f.result) (Gave defs f.result) Q _ _ _ (ran_after xs s2 k.fine.shapes k.fine.memory)
          (kf x f fun xs s2 is fun_is k.fine.shapes k.fine.memory) (λ z o s3 f3 eo.
          let some : o ≡ Some (image_at defs z f.result) = eo ∙ ap (λ (q : Bool). if q then None else Some (image_at defs z (erased f.result))) nu
          ∙ ap (λ a. Some (image_at defs z a)) (erased_built f.result b.result) in
          rw (some, image_typed defs built s3.memory z f.result f3.shape b.result nu)
          (goes (the_image defs) Q z (made defs p calls d (image_at defs z f.result) ∷ late) s3
          (new_good n m now late f.result z (ctype f.result) g small_m k.good.keeps k.good.below)))))));
    }

    ran_fits : is_unit f.result ≡ true → Fits defs p calls vars f.result (src.call source x [] evs) (does (code.ran f.result x cos))
    ran_fits isu = record {
      sound = call_is_sound;
      part = result_part;
      unit = sym isu;
      grows = λ names n. hs.grows names n;
      typed = λ names n nm. refl;
      sim = λ env names n now s small here.
          let os = code.all cos names n in
          let m = os.next in
          let Q = Good defs p calls n now nothing m f.result in
          all_then defs p calls vars (param_types f.params) evs cos hs env names n now s small here Q (st.Run x os.values ∷ [])
          (λ xs s1. tick s1 (λ s2. source (record { name = x; types = []; values = xs }) s2)) (λ xs late s1 k.
          let gives_none : tgt.gives_as false (if is_unit f.result then None else Some (ctype f.result)) ≡ true = rw isu refl in
          rw (forms.run_is p calls x os.values, there, k.good.holds late (keeps_all m late), fits s1.memory xs k.fine.shapes, gives_none)
          (sim_end (the_image defs) Q _ _ (sim_ticked Q s1 _ _ (λ j.
          let s2 : SourceState = record s1 { ticks = j } in
          sim_more_after (the_image defs) (Fine defs s1.memory f.result) (Gave defs f.result) Q _ _ _ (ran_after xs s2 k.fine.shapes k.fine.memory)
          (kf x f fun xs s2 is fun_is k.fine.shapes k.fine.memory) (λ z o s3 f3 eo.
          goes (the_image defs) Q z late s3 (record { keeps = k.good.keeps; below = k.good.below; holds = λ q. unit_clash f.result isu q }))))));
    }

    -- (call f () a..)
    pub call_fits : Fits defs p calls vars f.result (src.call source x [] evs) (code.call defs x cos)
    call_fits = subst (λ o. Fits defs p calls vars f.result (src.call source x [] evs) (made_of (code.result_of o))) (sym is) (at_unit (is_unit f.result) refl)
      where
        made_of : Ty → Comp
        made_of r = if is_unit r then does (code.ran r x cos) else gives (code.called r x cos)

        at_unit : (q : Bool) → is_unit f.result ≡ q → Fits defs p calls vars f.result (src.call source x [] evs) (made_of f.result)
        at_unit true e = rw e (ran_fits e)
        at_unit false e = rw e (called_fits e)
