-- Choices: a test, and then one of two branches, each of which leaves its value in the variable of the result.
use Rattle.std.proofs.Common.{◌≡◌, ℕ, ◌+◌, ◌<◌, ◌≤◌, ◌^◌, Bool, true, false, if◌then◌else◌, List, [], ◌∷◌, ◌++◌, map, Some, refl, sym, ap, ◌∙◌, subst, arith}
use Rattle.krml_trace.specs.declared.width.Width.TheVariants.{W8}
use Rattle.krml_trace.specs.Run.{Goes, leave}
use Rattle.krml_trace.proofs.Simulates.{goes, sim_end, sim_more_after}
use Rattle.krml_syntax.specs.declared.tree.Ty.{Ty}
use Rattle.krml_syntax.specs.declared.tree.Ty.TheVariants as t
use Rattle.krml_syntax.specs.declared.tree.Def.{Def}
use Rattle.krml_ast.specs.declared.event.SourceEvent.TheVariants as event
use Rattle.krml_ast.specs.Typing.{Vars}
use Rattle.krml_meaning.specs.declared.value.Value.{Value}
use Rattle.krml_meaning.specs.State.{Block, SourceState, SourceRan, Env, Sem, as_truth}
use Rattle.krml_meaning.specs.Meaning as src
use Rattle.krml_meaning.specs.Shape.{HasShape}
use Rattle.krml_meaning.specs.Sound.{Fine}
use Rattle.krml_meaning.proofs.Shapes.{extends_same}
use Rattle.krml_meaning.proofs.Forms.{choose_sound}
use Rattle.krml_ctree.specs.declared.event.CEvent.TheVariants as c_event
use Rattle.krml_ctree.specs.declared.value.CValue.{CValue}
use Rattle.krml_ctree.specs.declared.value.CValue.TheVariants as cv
use Rattle.krml_ctree.specs.declared.tree.CVar.{CVar}
use Rattle.krml_ctree.specs.declared.tree.CExpr.{CExpr}
use Rattle.krml_ctree.specs.declared.tree.CExpr.TheVariants as c
use Rattle.krml_ctree.specs.declared.tree.CStatement.{CStatement}
use Rattle.krml_ctree.specs.declared.tree.CStatement.TheVariants as st
use Rattle.krml_ctree.specs.declared.tree.CProgram.{CProgram}
use Rattle.krml_ctree.specs.Parts.{Locals, CState, CRan, set, close}
use Rattle.krml_ctree.specs.Parts as parts
use Rattle.krml_ctree.specs.Meaning as tgt
use Rattle.krml_ctree.specs.Meaning.{blank_local}
use Rattle.krml_ctree.proofs.Forms as forms
use Rattle.krml_cstar.specs.Built.{AreBuilt}
use Rattle.krml_cstar.specs.Variables as variables
use Rattle.krml_cstar.specs.Translation as code
use Rattle.krml_cstar.specs.Types.{ctype, is_unit}
use Rattle.krml_cstar.specs.Variables.{KnownVars, plain}
use Rattle.krml_cstar.specs.Translation.{Comp, nothing}
use Rattle.krml_cstar.proofs.Images.{image_at, the_image, state_image, Sim}
use Rattle.krml_cstar.proofs.Typed.{image_typed}
use Rattle.krml_cstar.proofs.VariableNames.{number_of, number-plain}
use Rattle.krml_cstar.proofs.LocalsInC.{all_named, Keeps, Below, below_more, keeps_all, keeps_named, keeps_then, keeps_new, keeps_close, below_close, new_named, only_value, branch_keeps, branch_below, branch_named}
use Rattle.krml_cstar.proofs.Fits.{In, Stands, Good, Fits}
use Rattle.krml_cstar.proofs.Forms.{holds_now, var_holds, unit_clash, bool_value, stands_on, sim_truth, exec, blank_then, set_then, part_then, part_more, on_in}

module _ (defs : List Def) where
  -- a test of a value that an expression of C has
  pub tested : {A A' : Type 0} (Q : A → A' → Type 0) (p : CProgram) (m : List Block) (x : Value) (s : SourceState) (e : CExpr) (now : Locals) (go : Bool → SourceRan A)
      (next : Bool → CState → CRan A') → HasShape defs m x t.Bool → tgt.value_of p e [] now ≡ Some (image_at defs x t.Bool)
      → ((b : Bool) → Sim defs Q (go b) (next b (leave (c_event.Br b) (state_image defs s))))
      → Sim defs Q (as_truth x s go) (tgt.testing (tgt.value_of p e) now (state_image defs s) next)
  tested Q p m x s e now go next shape is k = sim_truth defs Q m s (tgt.testing (tgt.value_of p e) now (state_image defs s) next) x go shape (λ b q.
      let tells : parts.as_truth (image_at defs x t.Bool) ≡ Some b = ap parts.as_truth q ∙ told b in
      rw (is, tells) (k b))
    where
      told : (b : Bool) → parts.as_truth (cv.Num W8 (if b then 1 else 0)) ≡ Some b
      told true = rw (cv.outs-Num W8 1) refl
      told false = rw (cv.outs-Num W8 0) refl

module _ (defs : List Def) (built : AreBuilt defs) (p : CProgram) (calls : tgt.Calls) where
  abbrev steps_of : List CStatement → List tgt.Step
  steps_of body = map (tgt.do_one p calls) body

  -- ---- branches

  -- After a branch's code, before its scope ends: the variable y of the result has just taken the value.
  record Branched (j : ℕ) (before : Locals) (y : List ℕ) (a : Ty) (x : Value) (now : Locals) : Type 0 where
    pub late : Locals
    pub keeps : Keeps j before late
    pub is : now ≡ set y (image_at defs x a) late

  -- A branch, whose code begins at j: the variable of the result, with a number k from n on and below j, has its value then.
  branch_fits : (vars : Vars) (a : Ty) (ev : Sem) (co : Comp) → Fits defs p calls vars a ev co → is_unit a ≡ false → (env : Env) (names : KnownVars) (n k j m : ℕ) (d : CVar) (now now2 : Locals)
      (s : SourceState) → number_of d.name ≡ k → d.ty ≡ ctype a → n ≤ k → k < j → (co.run names j).next ≤ m → m ≤ 2 ^ 64 → Keeps n now now2 → Below (k + 1) now2
      → all_named d.name now2 ≡ blank_local d ∷ [] → Stands defs vars names j now2 env s
      → Sim defs (Good defs p calls n now (c.Var d.name) m a) (ev env s)
      (tgt.braces (steps_of ((co.run names j).code ++ st.Set d.name (co.run names j).value ∷ [])) now2 (state_image defs s))
  branch_fits vars a ev co h nu env names n k j m d now now2 s nr same le lt small_m small kept be there here =
      let o = co.run names j in
      let y : List ℕ = d.name in
      let g = h.grows names j in
      let Q = Good defs p calls n now (c.Var y) m a in
      let lt_y : number_of y < j = omega (arith, nr, lt) in
      let le_y : n ≤ number_of y = omega (arith, nr, le) in
      let lt_m : number_of y < m = omega (arith, nr, lt, g, small_m) in
      sim_more_after (the_image defs) (Fine defs s.memory a) (Branched j now2 y a) Q (ev env s) (exec defs p calls (o.code ++ st.Set y o.value ∷ []) now2 (state_image defs s))
      (λ late t. Goes (close now2 late) t) (h.sound.run env s here.ready here.memory)
      (part_more defs p calls vars a ev co h env names j now2 s (omega (arith, small_m, small)) here (Branched j now2 y a) (st.Set y o.value ∷ []) (λ x late s1 k1.
      let u : CValue = image_at defs x a in
      let l : all_named y late ≡ blank_local d ∷ [] = keeps_named j now2 late k1.good.keeps y lt_y ∙ there in
      let has : parts.has_type [] u d.ty ≡ true = ap (parts.has_type [] u) same ∙ image_typed defs built s1.memory x a k1.fine.shape h.part.built nu in
      rw (set_then defs p calls y o.value u (blank_local d) [] late s1 (holds_now p o.next o.value late u (k1.good.holds nu)) l refl has)
      (goes (the_image defs) (Branched j now2 y a) x (set y u late) s1 (record { late = late; keeps = k1.good.keeps; is = refl }))))
      (λ x end s1 f1 h2.
      let u : CValue = image_at defs x a in
      let last : Locals = close now2 (set y u h2.late) in
      let kept2 : Keeps n now2 last = branch_keeps n j now2 h2.late y u h2.keeps le_y lt_y in
      let has : tgt.var y [] last ≡ Some u = only_value y last (record (blank_local d) { value = Some u }) u (branch_named j now2 h2.late y u (blank_local d) h2.keeps lt_y there) refl in
      rw h2.is (goes (the_image defs) Q x last s1 (record {
        keeps = keeps_then n n now now2 last (omega arith) kept kept2;
        below = below_more (k + 1) m last (omega (arith, lt, g, small_m)) (branch_below (k + 1) j now2 h2.late y u h2.keeps be);
        holds = λ q. var_holds p m y last u lt_m has;
      })))

  -- a branch that gives nothing
  branch_unit : (vars : Vars) (a : Ty) (ev : Sem) (co : Comp) → Fits defs p calls vars a ev co → is_unit a ≡ true → (env : Env) (names : KnownVars) (n k j m : ℕ) (now now2 : Locals)
      (s : SourceState) → n ≤ j → k ≤ m → (co.run names j).next ≤ m → m ≤ 2 ^ 64 → Keeps n now now2 → Below k now2 → Stands defs vars names j now2 env s
      → Sim defs (Good defs p calls n now nothing m a) (ev env s) (tgt.braces (steps_of (co.run names j).code) now2 (state_image defs s))
  branch_unit vars a ev co h isu env names n k j m now now2 s le k_m small_m small kept be here =
      let o = co.run names j in
      let Q = Good defs p calls n now nothing m a in
      sim_more_after (the_image defs) (Fine defs s.memory a) (Good defs p calls j now2 o.value o.next a) Q (ev env s) (exec defs p calls o.code now2 (state_image defs s))
      (λ late t. Goes (close now2 late) t) (h.sound.run env s here.ready here.memory) (h.sim env names j now2 s (omega (arith, small_m, small)) here) (λ x late s1 f1 h2.
      goes (the_image defs) Q x (close now2 late) s1 (record {
        keeps = keeps_then n j now now2 (close now2 late) le kept (keeps_close j now2 late h2.keeps);
        below = below_more k m (close now2 late) k_m (below_close j k now2 late h2.keeps be);
        holds = λ q. unit_clash a isu q;
      }))

  -- ---- both kinds

  -- both take the same branch, and the event of the test is the image of the source's
  taken : (Q : Value → Locals → Type 0) (go go' : SourceState → SourceRan Value) (next next' : CState → CRan Locals) (s : SourceState) (b : Bool)
      → Sim defs Q (go (leave (event.If true) s)) (next (state_image defs (leave (event.If true) s)))
      → Sim defs Q (go' (leave (event.If false) s)) (next' (state_image defs (leave (event.If false) s)))
      → Sim defs Q (if b then go (leave (event.If true) s) else go' (leave (event.If false) s))
      (if b then next (leave (c_event.Br b) (state_image defs s)) else next' (leave (c_event.Br b) (state_image defs s)))
  taken Q go go' next next' s true x y = x
  taken Q go go' next next' s false x y = y

  module _ (vars : Vars) (a : Ty) (ev ev' ev'' : Sem) (co co' co'' : Comp) (h : Fits defs p calls vars t.Bool ev co) (h' : Fits defs p calls vars a ev' co')
      (h'' : Fits defs p calls vars a ev'' co'') where
    value_fits : is_unit a ≡ false → Fits defs p calls vars a (src.choose ev ev' ev'') (record { unit = false; run = code.if_value co co' co'' })
    value_fits nu = record {
      sound = choose_sound defs (In defs vars) (on_in defs p calls vars) a ev ev' ev'' h.sound h'.sound h''.sound;
      part = h'.part;
      unit = sym nu;
      grows = λ names n.
          let r = (co.run names n).next in
          let g = h.grows names n in
          let g' = h'.grows names (r + 1) in
          let g'' = h''.grows names (co'.run names (r + 1)).next in omega (arith, g, g', g'');
      typed = λ names n nm. h'.typed names ((co.run names n).next + 1) nm;
      sim = λ env names n now s small here.
          let o = co.run names n in
          let r = o.next in
          let o' = co'.run names (r + 1) in
          let o'' = co''.run names o'.next in
          let g = h.grows names n in
          let g' = h'.grows names (r + 1) in
          let g'' = h''.grows names o'.next in
          let small_r : r < 2 ^ 64 = omega (arith, g', g'', small) in
          let y : List ℕ = plain r in
          let nr : number_of y ≡ r = number-plain r small_r in
          let d : CVar = variables.var r (ctype o'.ty) in
          let same : ctype o'.ty ≡ ctype a = ap ctype (h'.typed names (r + 1) here.named) in
          let Q = Good defs p calls n now (c.Var y) o''.next a in
          part_then defs p calls vars t.Bool ev co h env names n now s (omega (arith, small_r)) here Q
          (st.Blank d ∷ st.Chain (code.arm o.value (code.into r o') ∷ []) (code.into r o'') ∷ [])
          (λ x s1. as_truth x s1 (λ b. if b then ev' env (leave (event.If true) s1) else ev'' env (leave (event.If false) s1))) (λ x late s1 k.
          let ge : r ≤ number_of y = omega (arith, nr) in
          let lt : number_of y < r + 1 = omega (arith, nr) in
          let late2 : Locals = blank_local d ∷ late in
          let new : Keeps r late late2 = keeps_new r (blank_local d) late ge in
          let kept : Keeps n now late2 = keeps_then n r now late late2 g k.good.keeps new in
          let be : Below (r + 1) late2 = (lt, below_more r (r + 1) late (omega arith) k.good.below) in
          let there : all_named y late2 ≡ blank_local d ∷ [] = new_named r (blank_local d) late k.good.below ge in
          let holds = (k.good.holds bool_value).later late2 new in
          let known : parts.is_known p d.ty ≡ true = ap (parts.is_known p) same ∙ h'.part.known in
          let on : (j : ℕ) (b : Bool) → r + 1 ≤ j → Stands defs vars names j late2 env (leave (event.If b) s1) = λ j b le.
          stands_on defs vars names r j late late2 env s1 (leave (event.If b) s1) k.stands (omega (arith, le)) new (below_more (r + 1) j late2 le be) (extends_same s1.memory) k.fine.memory in
          rw (blank_then defs p calls d (st.Chain (code.arm o.value (code.into r o') ∷ []) (code.into r o'') ∷ []) late s1 known, forms.if_is p calls o.value (code.into r o') (code.into r o''))
          (sim_end (the_image defs) Q _ _ (tested defs Q p s1.memory x s1 o.value late2 _
          (λ b s. if b then tgt.braces (steps_of (code.into r o')) late2 s else tgt.braces (steps_of (code.into r o'')) late2 s) k.fine.shape holds (λ b.
          taken Q (ev' env) (ev'' env) (tgt.braces (steps_of (code.into r o')) late2) (tgt.braces (steps_of (code.into r o'')) late2) s1 b
          (branch_fits vars a ev' co' h' nu env names n r (r + 1) o''.next d now late2 (leave (event.If true) s1) nr same g (omega arith) (omega (arith, g'')) small kept be there (on (r + 1) true (omega arith)))
          (branch_fits vars a ev'' co'' h'' nu env names n r o'.next o''.next d now late2 (leave (event.If false) s1) nr same g (omega (arith, g')) (omega arith) small kept be there
          (on o'.next false (omega (arith, g'))))))));
    }

    nothing_fits : is_unit a ≡ true → Fits defs p calls vars a (src.choose ev ev' ev'') (record { unit = true; run = code.if_unit co co' co'' })
    nothing_fits isu = record {
      sound = choose_sound defs (In defs vars) (on_in defs p calls vars) a ev ev' ev'' h.sound h'.sound h''.sound;
      part = h'.part;
      unit = sym isu;
      grows = λ names n.
          let r = (co.run names n).next in
          let g = h.grows names n in
          let g' = h'.grows names r in
          let g'' = h''.grows names (co'.run names r).next in omega (arith, g, g', g'');
      typed = λ names n nm. h'.typed names (co.run names n).next nm;
      sim = λ env names n now s small here.
          let o = co.run names n in
          let r = o.next in
          let o' = co'.run names r in
          let o'' = co''.run names o'.next in
          let g = h.grows names n in
          let g' = h'.grows names r in
          let g'' = h''.grows names o'.next in
          let Q = Good defs p calls n now nothing o''.next a in
          part_then defs p calls vars t.Bool ev co h env names n now s (omega (arith, g', g'', small)) here Q (st.Chain (code.arm o.value o'.code ∷ []) o''.code ∷ [])
          (λ x s1. as_truth x s1 (λ b. if b then ev' env (leave (event.If true) s1) else ev'' env (leave (event.If false) s1))) (λ x late s1 k.
          let on : (j : ℕ) (b : Bool) → r ≤ j → Stands defs vars names j late env (leave (event.If b) s1) = λ j b le.
          stands_on defs vars names r j late late env s1 (leave (event.If b) s1) k.stands le (keeps_all r late) (below_more r j late le k.good.below) (extends_same s1.memory) k.fine.memory in
          rw (forms.if_is p calls o.value o'.code o''.code)
          (sim_end (the_image defs) Q _ _ (tested defs Q p s1.memory x s1 o.value late _
          (λ b s. if b then tgt.braces (steps_of o'.code) late s else tgt.braces (steps_of o''.code) late s) k.fine.shape (holds_now p r o.value late _ (k.good.holds bool_value)) (λ b.
          taken Q (ev' env) (ev'' env) (tgt.braces (steps_of o'.code) late) (tgt.braces (steps_of o''.code) late) s1 b
          (branch_unit vars a ev' co' h' isu env names n r r o''.next now late (leave (event.If true) s1) g (omega (arith, g', g'')) (omega (arith, g'')) small k.good.keeps k.good.below
          (on r true (omega arith)))
          (branch_unit vars a ev'' co'' h'' isu env names n r o'.next o''.next now late (leave (event.If false) s1) (omega (arith, g, g')) (omega (arith, g', g'')) (omega arith) small
          k.good.keeps k.good.below (on o'.next false g'))))));
    }

    -- (if c a b)
    pub choice_fits : Fits defs p calls vars a (src.choose ev ev' ev'') (code.choice co co' co'')
    choice_fits = at (is_unit a) refl
      where
        made : Bool → Comp
        made b = record { unit = b; run = λ names n. if b then code.if_unit co co' co'' names n else code.if_value co co' co'' names n }

        at : (b : Bool) → is_unit a ≡ b → Fits defs p calls vars a (src.choose ev ev' ev'') (made co'.unit)
        at true e = subst (λ b. Fits defs p calls vars a (src.choose ev ev' ev'') (made b)) (sym (h'.unit ∙ e)) (nothing_fits e)
        at false e = subst (λ b. Fits defs p calls vars a (src.choose ev ev' ev'') (made b)) (sym (h'.unit ∙ e)) (value_fits e)
