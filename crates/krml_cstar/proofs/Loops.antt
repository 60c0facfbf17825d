-- Loops: with a test, and over numbers.
use Rattle.std.proofs.Common.{◌≡◌, ℕ, suc, ◌+◌, ◌<◌, ◌≤◌, ◌^◌, nat_lt, Bool, true, false, if◌then◌else◌, List, [], ◌∷◌, ◌++◌, map, Some, refl, sym, ap, ◌∙◌, subst, arith, append_assoc, mod-eq_of_lt}
use Rattle.std.proofs.lemmas.Bool.{ltb-true}
use Rattle.krml_trace.specs.declared.width.Width.TheVariants.{W8, W32}
use Rattle.krml_trace.specs.Width.{bits}
use Rattle.krml_trace.specs.Run.{Goes, bind, leave}
use Rattle.krml_trace.specs.Loop.{Turn, Again, Over, loop}
use Rattle.krml_trace.specs.After.{After}
use Rattle.krml_trace.proofs.After.{after_bind, Turned}
use Rattle.krml_trace.proofs.Simulates.{goes, sim_bind_after, sim_more_after, sim_end, loop_sim, BothTurned}
use Rattle.krml_syntax.specs.declared.tree.Ty.TheVariants as t
use Rattle.krml_syntax.specs.declared.tree.BinOp.TheVariants as op
use Rattle.krml_syntax.specs.declared.tree.CmpOp.TheVariants as cmp
use Rattle.krml_syntax.specs.declared.tree.Def.{Def}
use Rattle.krml_ast.specs.declared.event.SourceEvent.TheVariants as event
use Rattle.krml_syntax.specs.Types.{u32}
use Rattle.krml_ast.specs.Typing.{Vars}
use Rattle.krml_ast.specs.WellTyped.{AreWellTyped}
use Rattle.krml_meaning.specs.declared.value.Value.{Value}
use Rattle.krml_meaning.specs.declared.value.Value.TheVariants as v
use Rattle.krml_meaning.specs.State.{SourceState, SourceRan, Env, Sem, with_vars}
use Rattle.krml_meaning.specs.Meaning as src
use Rattle.krml_meaning.specs.Shape.{HasShape}
use Rattle.krml_meaning.specs.Sound.{Fine}
use Rattle.krml_meaning.proofs.Files.{facts}
use Rattle.krml_meaning.proofs.Shapes.{extends_same, extends_then, after_truth}
use Rattle.krml_meaning.proofs.Forms.{Kept, while_sound}
use Rattle.krml_meaning.proofs.Buffers.{for_sound}
use Rattle.krml_ctree.specs.declared.event.CEvent.TheVariants as c_event
use Rattle.krml_ctree.specs.declared.value.CValue.TheVariants as cv
use Rattle.krml_ctree.specs.declared.tree.CType.TheVariants as ct
use Rattle.krml_ctree.specs.declared.tree.CVar.{CVar}
use Rattle.krml_ctree.specs.declared.tree.CBin.TheVariants as cop
use Rattle.krml_ctree.specs.declared.tree.CmpKind.TheVariants as ck
use Rattle.krml_ctree.specs.declared.tree.CExpr.{CExpr}
use Rattle.krml_ctree.specs.declared.tree.CExpr.TheVariants as c
use Rattle.krml_ctree.specs.declared.tree.CStatement.{CStatement}
use Rattle.krml_ctree.specs.declared.tree.CStatement.TheVariants as st
use Rattle.krml_ctree.specs.declared.tree.CProgram.{CProgram}
use Rattle.krml_ctree.specs.Parts.{Local, Locals, set, close}
use Rattle.krml_ctree.specs.Parts as parts
use Rattle.krml_ctree.specs.Meaning as tgt
use Rattle.krml_ctree.proofs.Forms as forms
use Rattle.krml_cstar.specs.Built.{AreBuilt}
use Rattle.krml_cstar.specs.Variables as variables
use Rattle.krml_cstar.specs.Translation as code
use Rattle.krml_cstar.specs.Variables.{Known, KnownVars, plain, named}
use Rattle.krml_cstar.specs.Translation.{Comp, does, nothing}
use Rattle.krml_cstar.proofs.Images.{the_image, state_image, Sim}
use Rattle.krml_cstar.proofs.Typed.{has_number, image_num}
use Rattle.krml_cstar.proofs.PartTypes.{unit_part, number_part, known_width}
use Rattle.krml_cstar.proofs.Values.{literal_value, arithmetic_value, compared_value}
use Rattle.krml_cstar.proofs.VariableNames.{number_of, number-plain, number-named}
use Rattle.krml_cstar.proofs.LocalsInC.{all_named, Keeps, Below, below_more, keeps_named, keeps_all, keeps_then, keeps_new, keeps_close, below_close, new_named, only_value, branch_keeps, branch_below, branch_named, branch_other, branch_again}
use Rattle.krml_cstar.proofs.Fits.{IsPart, In, Stands, Good, Fits}
use Rattle.krml_cstar.proofs.Forms.{holds_now, unit_clash, unit_is, bool_value, stands_on, exec, made, decl_then, set_then, part_more, on_in}
use Rattle.krml_cstar.proofs.Blocks.{ready_more, stands_known}
use Rattle.krml_cstar.proofs.Operators.{operands_then}
use Rattle.krml_cstar.proofs.Choices.{tested}

module _ (defs : List Def) (p : CProgram) (calls : tgt.Calls) where
  -- what a loop keeps holds of a state with other ticks
  kept_on : {X : Type 0} (s : SourceState) (x : X) (s1 : SourceState) (n : ℕ) → Kept defs s.memory s1 → Kept defs s.memory (record s1 { ticks = n })
  kept_on s x s1 n k = record { extends = k.extends; memory = k.memory }

  -- the body of a turn, where its test is true; and no turn more, where it is false
  turned_after : {X : Type 0} (m : _) (b : Bool) (s : SourceState) (body : SourceState → SourceRan (Turn X Value)) → Kept defs m s
      → (b ≡ true → After (Turned (λ (x : X). Kept defs m) (λ (a : Value) s. Unit {0})) (body (leave (event.Turn true) s)))
      → After (Turned (λ (x : X). Kept defs m) (λ (a : Value) s. Unit {0})) (src.turn_on b body s)
  turned_after m true s body k h = h refl
  turned_after m false s body k h = tt

  -- ---- (while c a)

  module _ (vars : Vars) (ev ev' : Sem) (co co' : Comp) (h : Fits defs p calls vars t.Bool ev co) (h' : Fits defs p calls vars t.Unit ev' co') (env : Env) (names : KnownVars) (n : ℕ)
      (now : Locals) (s : SourceState) (small : (co'.run names (co.run names n).next).next ≤ 2 ^ 64) (here : Stands defs vars names n now env s) where
    -- the scopes at the begin of a turn
    record Between (u : Unit {0}) (late : Locals) : Type 0 where
      pub keeps : Keeps n now late
      pub below : Below n late

    abbrev while_good : Value → Locals → Type 0
    while_good = Good defs p calls n now nothing (co'.run names (co.run names n).next).next t.Unit

    stands_between : (u : Unit {0}) (late : Locals) (s1 : SourceState) → Kept defs s.memory s1 → Between u late → Stands defs vars names n late env s1
    stands_between u late s1 k b = stands_on defs vars names n n now late env s s1 here (omega arith) b.keeps b.below k.extends k.memory

    while_kept : (u : Unit {0}) (s1 : SourceState) → Kept defs s.memory s1 → After (Turned (λ (u : Unit {0}). Kept defs s.memory) (λ (a : Value) s. Unit {0})) (src.while_turn ev ev' env u s1)
    while_kept u s1 k =
        let Q = Turned (λ (u : Unit {0}). Kept defs s.memory) (λ (a : Value) s. Unit {0}) in
        let r1 = on_in defs p calls vars s.memory s1.memory env k.extends here.ready in
        after_bind (Fine defs s1.memory t.Bool) Q (ev env s1) _ (h.sound.run env s1 r1 k.memory) (λ x s2 h2.
        let q = extends_then s.memory s1.memory s2.memory k.extends h2.extends in
        after_truth defs Q s2.memory s2 x _ h2.shape (λ b. turned_after s.memory b s2 _ (record { extends = q; memory = h2.memory }) (λ e.
        after_bind (Fine defs s2.memory t.Unit) Q (ev' env (leave (event.Turn true) s2)) _
        (h'.sound.run env (leave (event.Turn true) s2) (on_in defs p calls vars s.memory s2.memory env q here.ready) h2.memory) (λ y s3 h3.
        record { extends = extends_then s.memory s2.memory s3.memory q h3.extends; memory = h3.memory }))))

    abbrev first_steps : List tgt.Step
    first_steps = map (tgt.do_one p calls) (co.run names n).code

    abbrev body_steps : List tgt.Step
    body_steps = map (tgt.do_one p calls) (co'.run names (co.run names n).next).code

    while_each : (u : Unit {0}) (late : Locals) (s1 : SourceState) → Kept defs s.memory s1 → Between u late
        → Sim defs (BothTurned (the_image defs) Between while_good) (src.while_turn ev ev' env u s1)
        (tgt.turn first_steps (tgt.value_of p (co.run names n).value) body_steps late (state_image defs s1))
    while_each u late s1 kept between =
        let o = co.run names n in
        let m = o.next in
        let o' = co'.run names m in
        let g = h.grows names n in
        let g' = h'.grows names m in
        let stand = stands_between u late s1 kept between in
        let Q = BothTurned (the_image defs) Between while_good in
        sim_bind_after (the_image defs) (Fine defs s1.memory t.Bool) (Good defs p calls n late o.value m t.Bool) Q (ev env s1) (exec defs p calls o.code late (state_image defs s1)) _ _
        (h.sound.run env s1 stand.ready stand.memory) (h.sim env names n late s1 (omega (arith, g', small)) stand) (λ x late2 s2 f2 h2.
        tested defs Q p s2.memory x s2 o.value late2 _
        (λ b s. if b then bind (tgt.braces body_steps late2 s) (λ end s. Goes (Again (close late end)) s) else Goes (Over (close late late2)) s) f2.shape
        (holds_now p m o.value late2 _ (h2.holds bool_value)) (λ b. taken late2 s2 f2 h2 b))
      where
        taken : (late2 : Locals) (s2 : SourceState) {x : Value} → Fine defs s1.memory t.Bool x s2 → Good defs p calls n late (co.run names n).value (co.run names n).next t.Bool x late2 → (b : Bool)
            → Sim defs (BothTurned (the_image defs) Between while_good) (src.turn_on b (λ s. bind (ev' env s) (λ y s. Goes (Again tt) s)) s2)
            (if b then bind (tgt.braces body_steps late2 (leave (c_event.Br b) (state_image defs s2))) (λ end s. Goes (Again (close late end)) s)
            else Goes (Over (close late late2)) (leave (c_event.Br b) (state_image defs s2)))
        taken late2 s2 f2 h2 false =
            let g = h.grows names n in
            let g' = h'.grows names (co.run names n).next in
            goes (the_image defs) (BothTurned (the_image defs) Between while_good) (Over v.Unit) (Over (close late late2)) (leave (event.Turn false) s2) (record {
              keeps = keeps_then n n now late (close late late2) (omega arith) between.keeps (keeps_close n late late2 h2.keeps);
              below = below_more n (co'.run names (co.run names n).next).next (close late late2) (omega (arith, g, g')) (below_close n n late late2 h2.keeps between.below);
              holds = λ q. unit_clash t.Unit unit_is q;
            })
        taken late2 s2 f2 h2 true =
            let o = co.run names n in
            let m = o.next in
            let o' = co'.run names m in
            let g = h.grows names n in
            let s3 : SourceState = leave (event.Turn true) s2 in
            let stand = stands_on defs vars names n m late late2 env s1 s3 (stands_between u late s1 kept between) g h2.keeps h2.below f2.extends f2.memory in
            let AfterBody : Value → Locals → Type 0 = λ y end. Keeps m late2 end in
            sim_bind_after (the_image defs) (Fine defs s3.memory t.Unit) AfterBody (BothTurned (the_image defs) Between while_good) (ev' env s3) (tgt.braces body_steps late2 (state_image defs s3))
            (λ y s. Goes (Again tt) s) (λ end s. Goes (Again (close late end)) s) (h'.sound.run env s3 stand.ready stand.memory)
            (sim_more_after (the_image defs) (Fine defs s3.memory t.Unit) (Good defs p calls m late2 o'.value o'.next t.Unit) AfterBody (ev' env s3) (exec defs p calls o'.code late2 (state_image defs s3))
            (λ end s. Goes (close late2 end) s) (h'.sound.run env s3 stand.ready stand.memory) (h'.sim env names m late2 s3 small stand) (λ y end s4 f4 h4.
            goes (the_image defs) AfterBody y (close late2 end) s4 (keeps_close m late2 end h4.keeps)))
            (λ y end s4 f4 k4.
            let kept : Keeps n late end = keeps_then n m late late2 end g h2.keeps k4 in
            goes (the_image defs) (BothTurned (the_image defs) Between while_good) (Again tt) (Again (close late end)) s4 (record {
              keeps = keeps_then n n now late (close late end) (omega arith) between.keeps (keeps_close n late end kept);
              below = below_close n n late end kept between.below;
            }))

  pub while_fits : (vars : Vars) (ev ev' : Sem) (co co' : Comp) → Fits defs p calls vars t.Bool ev co → Fits defs p calls vars t.Unit ev' co'
      → Fits defs p calls vars t.Unit (src.while ev ev') (does (code.while co co'))
  while_fits vars ev ev' co co' h h' = record {
    sound = while_sound defs (In defs vars) (on_in defs p calls vars) ev ev' h.sound h'.sound;
    part = unit_part p;
    unit = sym unit_is;
    grows = λ names n. let g = h.grows names n in let g' = h'.grows names (co.run names n).next in omega (arith, g, g');
    typed = λ names n nm. refl;
    sim = λ env names n now s small here.
        let o = co.run names n in
        let o' = co'.run names o.next in
        rw (forms.loop_is p calls o.code o.value o'.code)
        (sim_end (the_image defs) (while_good vars ev ev' co co' h h' env names n now s small here) _ _
        (loop_sim (the_image defs) (Between vars ev ev' co co' h h' env names n now s small here) (while_good vars ev ev' co co' h h' env names n now s small here)
        (λ (u : Unit {0}). Kept defs s.memory) (src.while_turn ev ev' env)
        (tgt.turn (map (tgt.do_one p calls) o.code) (tgt.value_of p o.value) (map (tgt.do_one p calls) o'.code)) (kept_on s)
        (while_kept vars ev ev' co co' h h' env names n now s small here) (while_each vars ev ev' co co' h h' env names n now s small here)
        tt now s (record { extends = extends_same s.memory; memory = here.memory }) (record { keeps = keeps_all n now; below = here.below })));
  }

-- ---- (for x a b c)

module _ (defs : List Def) (typed : AreWellTyped defs) (built : AreBuilt defs) (p : CProgram) (calls : tgt.Calls) (vars : Vars) (x : List ℕ) (ev ev' ev'' : Sem) (co co' co'' : Comp)
    (h : Fits defs p calls vars u32 ev co) (h' : Fits defs p calls vars u32 ev' co') (h'' : Fits defs p calls ((x, u32) ∷ vars) t.Unit ev'' co'') where
  -- the counter, as the body knows it, and the variables of C for it and for the bound
  abbrev known : ℕ → Known
  known i = record { name = x; emitted = named i x; ty = u32 }

  abbrev counter : ℕ → CVar
  counter i = record { ty = ct.U32; name = named i x }

  abbrev bound : ℕ → CVar
  bound i = variables.var (i + 1) ct.U32

  -- a variable of C with a number
  abbrev holding : CVar → ℕ → Local
  holding d n = made defs p calls d (cv.Num W32 n)

  abbrev test : ℕ → CExpr
  test i = c.Cmp W8 ck.Lt (c.Var (named i x)) (c.Var (plain (i + 1)))

  abbrev body_of : KnownVars → ℕ → List CStatement
  body_of names i = (co''.run (known i ∷ names) (i + 2)).code ++ code.stepped (named i x) ∷ []

  u32_part : IsPart p u32
  u32_part = number_part p W32

  module _ (env : Env) (names : KnownVars) (n i : ℕ) (now late : Locals) (s : SourceState) (end : ℕ) (end_fits : end < 2 ^ 32) (small : (co''.run (known i ∷ names) (i + 2)).next ≤ 2 ^ 64)
      (le : n ≤ i) (kept : Keeps n now late) (here : Stands defs vars names i late env s) where
    abbrev last : ℕ
    last = (co''.run (known i ∷ names) (i + 2)).next

    small_i : i + 2 ≤ 2 ^ 64
    small_i = let g = h''.grows (known i ∷ names) (i + 2) in omega (arith, g, small)

    number_counter : number_of (named i x) ≡ i
    number_counter = let q = small_i in number-named i x (omega (arith, q))

    number_bound : number_of (plain (i + 1)) ≡ i + 1
    number_bound = let q = small_i in number-plain (i + 1) (omega (arith, q))

    -- The scope at the begin of a turn for the number j.
    record AtTurn (j : ℕ) (there : Locals) : Type 0 where
      pub fits : j < 2 ^ 32
      pub keeps : Keeps i late there
      pub below : Below (i + 2) there
      pub count : all_named (named i x) there ≡ holding (counter i) j ∷ []
      pub most : all_named (plain (i + 1)) there ≡ holding (bound i) end ∷ []

    abbrev for_good : Value → Locals → Type 0
    for_good = Good defs p calls n now nothing last t.Unit

    -- the body's scope
    stands_inside : (j : ℕ) (there : Locals) (s1 : SourceState) → Kept defs s.memory s1 → AtTurn j there
        → Stands defs ((x, u32) ∷ vars) (known i ∷ names) (i + 2) there (with_vars ((x, v.Num W32 j) ∷ []) env) s1
    stands_inside j there s1 k a =
        let q = number_counter in
        let value = only_value (named i x) there (holding (counter i) j) (cv.Num W32 j) a.count refl in
        stands_known defs built p calls vars names (i + 2) there env s1 x (named i x) u32 (v.Num W32 j) u32_part (HasShape.num a.fits) (omega (arith, q))
        (value ∙ ap (λ u. Some u) (sym (image_num defs W32 j u32)))
        (stands_on defs vars names i (i + 2) late there env s s1 here (omega arith) a.keeps a.below k.extends k.memory)

    for_kept : (j : ℕ) (s1 : SourceState) → Kept defs s.memory s1 → After (Turned (λ (j : ℕ). Kept defs s.memory) (λ (a : Value) s. Unit {0})) (src.for_turn x end ev'' env j s1)
    for_kept j s1 k =
        let Q = Turned (λ (j : ℕ). Kept defs s.memory) (λ (a : Value) s. Unit {0}) in
        turned_after defs p calls s.memory (nat_lt j end) s1 _ k (λ e.
        let lt : j < end = ltb-true j end e in
        let fits : j < 2 ^ bits W32 = omega (arith, lt, end_fits) in
        let ready = ready_more defs built p calls vars x u32 u32_part s1.memory env (v.Num W32 j) (on_in defs p calls vars s.memory s1.memory env k.extends here.ready) (HasShape.num fits) in
        after_bind (Fine defs s1.memory t.Unit) Q (ev'' (with_vars ((x, v.Num W32 j) ∷ []) env) (leave (event.Turn true) s1)) _
        (h''.sound.run (with_vars ((x, v.Num W32 j) ∷ []) env) (leave (event.Turn true) s1) ready k.memory) (λ y s3 h3.
        record { extends = extends_then s.memory s1.memory s3.memory k.extends h3.extends; memory = h3.memory }))

    -- the counter's next number
    next_value : (j : ℕ) (there : Locals) → suc j < 2 ^ 32 → tgt.value_of p (c.Var (named i x)) [] there ≡ Some (cv.Num W32 j)
        → tgt.value_of p (c.Bin cop.Add (c.Var (named i x)) (c.Lit W32 1)) [] there ≡ Some (cv.Num W32 (suc j))
    next_value j there fits is =
        let one : tgt.value_of p (c.Lit W32 1) [] there ≡ Some (cv.Num W32 1) = literal_value p [] there W32 1 (omega arith) in
        let lt : j < 2 ^ 32 = omega (arith, fits) in
        let sum : src.result_of op.Add W32 j 1 ≡ suc j = let e : j + 1 ≡ suc j = omega arith in ap (src.wrap W32) e ∙ mod-eq_of_lt fits in
        arithmetic_value p [] there op.Add cop.Add W32 (c.Var (named i x)) (c.Lit W32 1) j 1 refl lt (omega arith) is one ∙ ap (λ k. Some (cv.Num W32 k)) sum

    -- After a body and the counter's step, before the scope ends.
    record Stepped (j : ℕ) (there : Locals) (y : Value) (stepped : Locals) : Type 0 where
      pub inside : Locals
      pub keeps : Keeps (i + 2) there inside
      pub is : stepped ≡ set (named i x) (cv.Num W32 (suc j)) inside

    body_runs : (j : ℕ) (there : Locals) (s1 : SourceState) → Kept defs s.memory s1 → AtTurn j there → suc j < 2 ^ 32
        → Sim defs (Stepped j there) (ev'' (with_vars ((x, v.Num W32 j) ∷ []) env) s1) (exec defs p calls (body_of names i) there (state_image defs s1))
    body_runs j there s1 k a fits =
        let y = named i x in
        let q = number_counter in
        let lt : number_of y < i + 2 = omega (arith, q) in
        part_more defs p calls ((x, u32) ∷ vars) t.Unit ev'' co'' h'' (with_vars ((x, v.Num W32 j) ∷ []) env) (known i ∷ names) (i + 2) there s1 small (stands_inside j there s1 k a)
        (Stepped j there) (code.stepped y ∷ []) (λ z inside s2 k2.
        let count : all_named y inside ≡ holding (counter i) j ∷ [] = keeps_named (i + 2) there inside k2.good.keeps y lt ∙ a.count in
        let value : tgt.value_of p (c.Var y) [] inside ≡ Some (cv.Num W32 j) = forms.var_is p y [] inside ∙ only_value y inside (holding (counter i) j) (cv.Num W32 j) count refl in
        rw (set_then defs p calls y (c.Bin cop.Add (c.Var y) (c.Lit W32 1)) (cv.Num W32 (suc j)) (holding (counter i) j) [] inside s2 (next_value j inside fits value) count refl (has_number [] W32 (suc j)))
        (goes (the_image defs) (Stepped j there) z (set y (cv.Num W32 (suc j)) inside) s2 (record { inside = inside; keeps = k2.good.keeps; is = refl })))

    for_each : (j : ℕ) (there : Locals) (s1 : SourceState) → Kept defs s.memory s1 → AtTurn j there
        → Sim defs (BothTurned (the_image defs) AtTurn for_good) (src.for_turn x end ev'' env j s1)
        (tgt.turn [] (tgt.value_of p (test i)) (map (tgt.do_one p calls) (body_of names i)) there (state_image defs s1))
    for_each j there s1 k a =
        let y = named i x in
        let z = plain (i + 1) in
        let value_y : tgt.value_of p (c.Var y) [] there ≡ Some (cv.Num W32 j) = forms.var_is p y [] there ∙ only_value y there (holding (counter i) j) (cv.Num W32 j) a.count refl in
        let value_z : tgt.value_of p (c.Var z) [] there ≡ Some (cv.Num W32 end) = forms.var_is p z [] there ∙ only_value z there (holding (bound i) end) (cv.Num W32 end) a.most refl in
        let tests = compared_value p [] there cmp.Lt W32 (c.Var y) (c.Var z) j end a.fits end_fits value_y value_z in
        rw (tests, truth_of (nat_lt j end)) (taken (nat_lt j end) refl)
      where
        truth_of : (b : Bool) → parts.as_truth (cv.Num W8 (if b then 1 else 0)) ≡ Some b
        truth_of true = rw (cv.outs-Num W8 1) refl
        truth_of false = rw (cv.outs-Num W8 0) refl

        taken : (b : Bool) → nat_lt j end ≡ b → Sim defs (BothTurned (the_image defs) AtTurn for_good)
            (src.turn_on b (λ s. bind (ev'' (with_vars ((x, v.Num W32 j) ∷ []) env) s) (λ y s. Goes (Again (suc j)) s)) s1)
            (if b then bind (tgt.braces (map (tgt.do_one p calls) (body_of names i)) there (leave (c_event.Br b) (state_image defs s1))) (λ now s. Goes (Again (close there now)) s)
            else Goes (Over (close there there)) (leave (c_event.Br b) (state_image defs s1)))
        taken false e =
            let g = h''.grows (known i ∷ names) (i + 2) in
            goes (the_image defs) (BothTurned (the_image defs) AtTurn for_good) (Over v.Unit) (Over (close there there)) (leave (event.Turn false) s1) (record {
              keeps = keeps_then n i now late (close there there) le kept (keeps_then i i late there (close there there) (omega arith) a.keeps (keeps_close i there there (keeps_all i there)));
              below = below_more (i + 2) last (close there there) g (below_close i (i + 2) there there (keeps_all i there) a.below);
              holds = λ q. unit_clash t.Unit unit_is q;
            })
        taken true e =
            let y = named i x in
            let z = plain (i + 1) in
            let lt : j < end = ltb-true j end e in
            let fits : suc j < 2 ^ 32 = omega (arith, lt, end_fits) in
            let s2 : SourceState = leave (event.Turn true) s1 in
            let inner : Env = with_vars ((x, v.Num W32 j) ∷ []) env in
            let k2 : Kept defs s.memory s2 = record { extends = k.extends; memory = k.memory } in
            let stand = stands_inside j there s2 k2 a in
            let qy = number_counter in
            let qz = number_bound in
            let AfterBody : Value → Locals → Type 0 = λ w after. (inside : Locals) × Keeps (i + 2) there inside × (after ≡ close there (set y (cv.Num W32 (suc j)) inside)) in
            sim_bind_after (the_image defs) (Fine defs s2.memory t.Unit) AfterBody (BothTurned (the_image defs) AtTurn for_good) (ev'' inner s2)
            (tgt.braces (map (tgt.do_one p calls) (body_of names i)) there (state_image defs s2)) (λ y s. Goes (Again (suc j)) s) (λ now s. Goes (Again (close there now)) s)
            (h''.sound.run inner s2 stand.ready stand.memory)
            (sim_more_after (the_image defs) (Fine defs s2.memory t.Unit) (Stepped j there) AfterBody (ev'' inner s2) (exec defs p calls (body_of names i) there (state_image defs s2))
            (λ now s. Goes (close there now) s) (h''.sound.run inner s2 stand.ready stand.memory) (body_runs j there s2 k2 a fits) (λ w stepped s3 f3 h3.
            goes (the_image defs) AfterBody w (close there stepped) s3 (h3.inside, h3.keeps, ap (close there) h3.is)))
            (λ w after s3 f3 h3.
            let u = cv.Num W32 (suc j) in
            let inside = h3.0 in
            let closed : Locals = close there (set y u inside) in
            let again : close there after ≡ closed = ap (close there) h3.2 ∙ branch_again (i + 2) there inside h3.1 y u in
            let turned : AtTurn (suc j) closed = record {
              fits = fits;
              keeps = keeps_then i i late there closed (omega arith) a.keeps (branch_keeps i (i + 2) there inside y u h3.1 (omega (arith, qy)) (omega (arith, qy)));
              below = branch_below (i + 2) (i + 2) there inside y u h3.1 a.below;
              count = branch_named (i + 2) there inside y u (holding (counter i) j) h3.1 (omega (arith, qy)) a.count;
              most = branch_other (i + 2) there inside y z u h3.1 (omega (arith, qz)) (λ same. let q : number_of y ≡ number_of z = ap number_of same in absurd (omega (arith, q, qy, qz))) ∙ a.most;
            } in
            goes (the_image defs) (BothTurned (the_image defs) AtTurn for_good) (Again (suc j)) (Again (close there after)) s3 (subst (AtTurn (suc j)) (sym again) turned))

  pub for_fits : Fits defs p calls vars t.Unit (src.for x ev ev' ev'') (does (code.for x co co' co''))
  for_fits = record {
    sound = for_sound defs (facts defs typed) (In defs vars) (on_in defs p calls vars) (In defs ((x, u32) ∷ vars)) x ev ev' ev''
        (λ m env j lt r. ready_more defs built p calls vars x u32 u32_part m env (v.Num W32 j) r (HasShape.num lt)) h.sound h'.sound h''.sound;
    part = unit_part p;
    unit = sym unit_is;
    grows = λ names n.
        let i = (co'.run names (co.run names n).next).next in
        let g = h.grows names n in
        let g' = h'.grows names (co.run names n).next in
        let g'' = h''.grows (known i ∷ names) (i + 2) in omega (arith, g, g', g'');
    typed = λ names n nm. refl;
    sim = λ env names n now s small here.
        let o = co.run names n in
        let o' = co'.run names o.next in
        let i = o'.next in
        let g = h.grows names n in
        let g' = h'.grows names o.next in
        let g'' = h''.grows (known i ∷ names) (i + 2) in
        let le : n ≤ i = omega (arith, g, g') in
        let y = named i x in
        let z = plain (i + 1) in
        let qy : number_of y ≡ i = number-named i x (omega (arith, g'', small)) in
        let qz : number_of z ≡ i + 1 = number-plain (i + 1) (omega (arith, g'', small)) in
        let turns : CStatement = st.Loop [] (test i) (body_of names i) in
        let Q = Good defs p calls n now nothing (co''.run (known i ∷ names) (i + 2)).next t.Unit in
        rw (append_assoc o.code o'.code (st.Decl (counter i) o.value ∷ st.Decl (bound i) o'.value ∷ turns ∷ []))
        (operands_then defs p calls vars W32 W32 ev ev' co co' h h' Q (st.Decl (counter i) o.value ∷ st.Decl (bound i) o'.value ∷ turns ∷ []) env names n now s
        (λ start end s. loop (src.for_turn x end ev'' env) start s) (omega (arith, g'', small)) here (λ start end late s2 k.
        let l : Local = holding (counter i) start in
        let l' : Local = holding (bound i) end in
        let late1 : Locals = l ∷ late in
        let late2 : Locals = l' ∷ late1 in
        let ge : i ≤ number_of y = omega (arith, qy) in
        let ge' : i + 1 ≤ number_of z = omega (arith, qz) in
        let kept : Keeps i late late1 = keeps_new i l late ge in
        let kept' : Keeps (i + 1) late1 late2 = keeps_new (i + 1) l' late1 ge' in
        let blank = tgt.blank_local (counter i) in
        let blank' = tgt.blank_local (bound i) in
        let be1 : Below (i + 1) late1 = (omega (arith, qy), below_more i (i + 1) late (omega arith) k.stands.below) in
        let be2 : Below (i + 2) late2 = (omega (arith, qz), below_more (i + 1) (i + 2) late1 (omega arith) be1) in
        let count : all_named y late2 ≡ l ∷ [] = keeps_named (i + 1) late1 late2 kept' y (omega (arith, qy)) ∙ new_named i l late k.stands.below ge in
        rw (
          decl_then defs p calls (counter i) o.value (cv.Num W32 start) (st.Decl (bound i) o'.value ∷ turns ∷ []) late s2 (known_width p W32)
              (k.left.later (blank ∷ late) (keeps_new i blank late ge)) (has_number [] W32 start),
          decl_then defs p calls (bound i) o'.value (cv.Num W32 end) (turns ∷ []) late1 s2 (known_width p W32)
              (k.right.later (blank' ∷ late1) (keeps_then i (i + 1) late late1 (blank' ∷ late1) (omega arith) kept (keeps_new (i + 1) blank' late1 ge'))) (has_number [] W32 end),
          forms.loop_is p calls [] (test i) (body_of names i),
        ) (sim_end (the_image defs) Q _ _
        (loop_sim (the_image defs) (AtTurn env names n i now late s2 end k.right_fits small le k.keeps k.stands) Q (λ (j : ℕ). Kept defs s2.memory) (src.for_turn x end ev'' env)
        (tgt.turn [] (tgt.value_of p (test i)) (map (tgt.do_one p calls) (body_of names i))) (kept_on defs p calls s2)
        (for_kept env names n i now late s2 end k.right_fits small le k.keeps k.stands) (for_each env names n i now late s2 end k.right_fits small le k.keeps k.stands)
        start late2 s2 (record { extends = extends_same s2.memory; memory = k.stands.memory }) (record {
          fits = k.left_fits;
          keeps = keeps_then i (i + 1) late late1 late2 (omega arith) kept kept';
          below = be2;
          count = count;
          most = new_named (i + 1) l' late1 be1 ge';
        })))));
  }
