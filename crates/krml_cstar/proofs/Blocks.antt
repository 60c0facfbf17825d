-- Blocks: what stands in a `do`, one after another, and what it gives.
use Rattle.std.proofs.Common.{◌≡◌, ℕ, ◌+◌, ◌<◌, ◌≤◌, ◌^◌, Bool, true, false, if◌then◌else◌, List, [], ◌∷◌, Some, None, refl, sym, ap, ◌∙◌, subst, arith, append_assoc}
use Rattle.std.specs.Str.{bytes_eq}
use Rattle.krml_trace.specs.Run.{Goes}
use Rattle.krml_trace.proofs.Bind.{bind_bind}
use Rattle.krml_trace.proofs.Simulates.{goes, sim_so}
use Rattle.krml_syntax.specs.declared.tree.Ty.{Ty}
use Rattle.krml_syntax.specs.declared.tree.Def.{Def}
use Rattle.krml_ast.specs.Typing.{Vars}
use Rattle.krml_meaning.specs.declared.value.Value.{Value}
use Rattle.krml_meaning.specs.State.{Block, SourceState, Env, Sem, with_vars}
use Rattle.krml_meaning.specs.Meaning as src
use Rattle.krml_meaning.specs.Shape.{HasShape}
use Rattle.krml_meaning.proofs.Lists.{same_some}
use Rattle.krml_meaning.proofs.Shapes.{extends_same}
use Rattle.krml_meaning.proofs.Scopes.{ready_with}
use Rattle.krml_meaning.proofs.Forms.{FineEnv}
use Rattle.krml_meaning.proofs.Branches.{SoundSteps, no_steps_sound, bound_sound, ran_sound, block_sound}
use Rattle.krml_ctree.specs.declared.value.CValue.{CValue}
use Rattle.krml_ctree.specs.declared.tree.CVar.{CVar}
use Rattle.krml_ctree.specs.declared.tree.CStatement.TheVariants as st
use Rattle.krml_ctree.specs.declared.tree.CProgram.{CProgram}
use Rattle.krml_ctree.specs.Parts.{Locals}
use Rattle.krml_ctree.specs.Meaning as tgt
use Rattle.krml_cstar.specs.Built.{AreBuilt}
use Rattle.krml_cstar.specs.Variables as variables
use Rattle.krml_cstar.specs.Translation as code
use Rattle.krml_cstar.specs.Types.{ctype, is_unit}
use Rattle.krml_cstar.specs.Variables.{Known, KnownVars, named}
use Rattle.krml_cstar.specs.Translation.{Comp, ItemComp}
use Rattle.krml_cstar.proofs.Images.{image_at, the_image, state_image, Sim}
use Rattle.krml_cstar.proofs.Part.{erased_built, type_at_built}
use Rattle.krml_cstar.proofs.Typed.{image_typed}
use Rattle.krml_cstar.proofs.VariableNames.{number_of, number-named}
use Rattle.krml_cstar.proofs.LocalsInC.{Keeps, Below, keeps_all, keeps_then, keeps_new, below_more, new_named, only_value}
use Rattle.krml_cstar.proofs.Fits.{IsPart, Named, no_vars, In, Carries, Scoped, Stands, Good, Fits}
use Rattle.krml_cstar.proofs.Forms.{stands_on, exec, in_turn, made, decl_then, part_then, on_in}

module _ (defs : List Def) (built : AreBuilt defs) (p : CProgram) (calls : tgt.Calls) where
  -- After the code of items: what was before is kept, and the scope of what follows is carried.
  pub record GoodItems (n : ℕ) (before : Locals) (names : KnownVars) (m : ℕ) (env : Env) (now : Locals) : Type 0 where
    pub keeps : Keeps n before now
    pub below : Below m now
    pub scoped : Scoped defs m env.vars names now

  -- Items lead from a scope to the scope of what follows, and their code does what they do.
  pub record FitItems (vars inner : Vars) (items : List src.Step) (co : ItemComp) : Type 0 where
    pub sound : SoundSteps defs (In defs vars) (In defs inner) items
    pub grows : (names : KnownVars) (n : ℕ) → n ≤ (co names n).next
    pub named : (names : KnownVars) (n : ℕ) → Named vars names → Named inner (co names n).names
    pub sim : (env : Env) (names : KnownVars) (n : ℕ) (now : Locals) (s : SourceState) → (co names n).next ≤ 2 ^ 64 → Stands defs vars names n now env s
        → Sim defs (GoodItems n now (co names n).names (co names n).next) (src.steps items env s) (exec defs p calls (co names n).code now (state_image defs s))

  pub no_items_fit : (vars : Vars) → FitItems vars vars [] (code.items [])
  no_items_fit vars = record {
    sound = no_steps_sound defs (In defs vars) (In defs vars) (λ m env r. r);
    grows = λ names n. omega arith;
    named = λ names n nm. nm;
    sim = λ env names n now s small here. goes (the_image defs) (GoodItems n now names n) env now s (record { keeps = keeps_all n now; below = here.below; scoped = here.scoped });
  }

  -- a variable more is ready
  pub ready_more : (vars : Vars) (x : List ℕ) (a : Ty) → IsPart p a → (m : List Block) (env : Env) (y : Value) → In defs vars m env → HasShape defs m y a
      → In defs ((x, a) ∷ vars) m (with_vars ((x, y) ∷ []) env)
  ready_more vars x a part m env y r h = ready_with defs (no_vars defs) (record { vars = vars; frame = None }) 0 [] m env ((x, y) ∷ []) ((x, a) ∷ [])
      (refl, subst (HasShape defs m y) (sym (type_at_built [] [] a part.built)) h, tt) r

  -- Where a variable of C has the value of a further variable of the source.
  pub stands_known : (vars : Vars) (names : KnownVars) (m : ℕ) (now : Locals) (env : Env) (s : SourceState) (x z : List ℕ) (a : Ty) (y : Value) → IsPart p a → HasShape defs s.memory y a
      → number_of z < m → tgt.var z [] now ≡ Some (image_at defs y a) → Stands defs vars names m now env s
      → Stands defs ((x, a) ∷ vars) (record { name = x; emitted = z; ty = a } ∷ names) m now (with_vars ((x, y) ∷ []) env) s
  stands_known vars names m now env s x z a y part shape lt value h = record {
    ready = ready_more vars x a part s.memory env y h.ready shape;
    memory = h.memory;
    named = (record { name = refl; ty = refl }, h.named);
    scoped = λ q k e. go q k (bytes_eq x q) refl e;
    below = h.below;
  }
    where
      -- the new name, or one from before
      go : (q : List ℕ) (k : Known) (same : Bool) → bytes_eq x q ≡ same → (if same then Some (record { name = x; emitted = z; ty = a }) else variables.look names q) ≡ Some k
          → Carries defs m ((x, y) ∷ env.vars) q k now
      go q k true is e = subst (λ (w : Known). Carries defs m ((x, y) ∷ env.vars) q w now) (same_some (record { name = x; emitted = z; ty = a }) k e)
          (record { found = y; is = rw is refl; below = lt; value = value ∙ ap (λ w. Some (image_at defs y w)) (sym (erased_built a part.built)) })
      go q k false is e = let c = h.scoped q k e in record { found = c.found; is = rw is c.is; below = c.below; value = c.value }

  -- and where that is a new variable of C, with the number n
  pub stands_more : (vars : Vars) (names : KnownVars) (n : ℕ) (now : Locals) (env : Env) (s : SourceState) (x : List ℕ) (a : Ty) (y : Value) → n < 2 ^ 64 → IsPart p a
      → HasShape defs s.memory y a → Stands defs vars names n now env s
      → Stands defs ((x, a) ∷ vars) (record { name = x; emitted = named n x; ty = a } ∷ names) (n + 1)
      (made defs p calls (record { ty = ctype a; name = named n x }) (image_at defs y a) ∷ now) (with_vars ((x, y) ∷ []) env) s
  stands_more vars names n now env s x a y small part shape h =
      let z : List ℕ = named n x in
      let is : number_of z ≡ n = number-named n x small in
      let le : n ≤ number_of z = omega (arith, is) in
      let lt : number_of z < n + 1 = omega (arith, is) in
      let l = made defs p calls (record { ty = ctype a; name = z }) (image_at defs y a) in
      stands_known vars names (n + 1) (l ∷ now) env s x z a y part shape lt (only_value z (l ∷ now) l (image_at defs y a) (new_named n l now h.below le) refl)
      (stands_on defs vars names n (n + 1) now (l ∷ now) env s s h (omega arith) (keeps_new n l now le) (lt, below_more n (n + 1) now (omega arith) h.below) (extends_same s.memory) h.memory)

  -- (let x T a)
  pub bound_fits : (vars inner : Vars) (x : List ℕ) (a : Ty) (ev : Sem) (co : Comp) (items : List src.Step) (cos : List ItemComp) → is_unit a ≡ false
      → Fits defs p calls vars a ev co → FitItems ((x, a) ∷ vars) inner items (code.items cos) → FitItems vars inner (src.bound x ev ∷ items) (code.items (code.bound x a co ∷ cos))
  bound_fits vars inner x a ev co items cos nu h hs = record {
    sound = bound_sound defs (In defs vars) (on_in defs p calls vars) (In defs ((x, a) ∷ vars)) (In defs inner) x a ev items (ready_more vars x a h.part) h.sound hs.sound;
    grows = λ names n.
        let m = (co.run names n).next in
        let g = h.grows names n in
        let gs = hs.grows (record { name = x; emitted = named m x; ty = a } ∷ names) (m + 1) in omega (arith, g, gs);
    named = λ names n nm.
        let m = (co.run names n).next in
        hs.named (record { name = x; emitted = named m x; ty = a } ∷ names) (m + 1) (record { name = refl; ty = refl }, nm);
    sim = λ env names n now s small here.
        let o = co.run names n in
        let m = o.next in
        let y : List ℕ = named m x in
        let d : CVar = record { ty = ctype a; name = y } in
        let names1 : KnownVars = record { name = x; emitted = y; ty = a } ∷ names in
        let os = code.items cos names1 (m + 1) in
        let g = h.grows names n in
        let gs = hs.grows names1 (m + 1) in
        let small_m : m < 2 ^ 64 = omega (arith, gs, small) in
        let Q = GoodItems n now os.names os.next in
        rw (bind_bind (ev env s) (λ y s. Goes (with_vars ((x, y) ∷ []) env) s) (λ env s. src.steps items env s), append_assoc o.code (st.Decl d o.value ∷ []) os.code)
        (part_then defs p calls vars a ev co h env names n now s (omega (arith, small_m)) here Q (st.Decl d o.value ∷ os.code) (λ z s1. src.steps items (with_vars ((x, z) ∷ []) env) s1)
        (λ z late s1 k.
        let u : CValue = image_at defs z a in
        let is : number_of y ≡ m = number-named m x small_m in
        let le : m ≤ number_of y = omega (arith, is) in
        let holds = (k.good.holds nu).later (tgt.blank_local d ∷ late) (keeps_new m (tgt.blank_local d) late le) in
        let l = made defs p calls d u in
        rw (decl_then defs p calls d o.value u os.code late s1 h.part.known holds (image_typed defs built s1.memory z a k.fine.shape h.part.built nu))
        (sim_so (the_image defs) (GoodItems (m + 1) (l ∷ late) os.names os.next) Q (src.steps items (with_vars ((x, z) ∷ []) env) s1) (exec defs p calls os.code (l ∷ late) (state_image defs s1))
        (hs.sim (with_vars ((x, z) ∷ []) env) names1 (m + 1) (l ∷ late) s1 small (stands_more vars names m late env s1 x a z small_m h.part k.fine.shape k.stands))
        (λ env2 now2 h2. record {
          keeps = keeps_then n (m + 1) now (l ∷ late) now2 (omega (arith, g)) (keeps_then n m now late (l ∷ late) g k.good.keeps (keeps_new m l late le)) h2.keeps;
          below = h2.below;
          scoped = h2.scoped;
        }))));
  }

  -- an expression that gives nothing
  pub ran_fits : (vars inner : Vars) (a : Ty) (ev : Sem) (co : Comp) (items : List src.Step) (cos : List ItemComp) → Fits defs p calls vars a ev co
      → FitItems vars inner items (code.items cos) → FitItems vars inner (src.ran ev ∷ items) (code.items (code.done co ∷ cos))
  ran_fits vars inner a ev co items cos h hs = record {
    sound = ran_sound defs (In defs vars) (on_in defs p calls vars) (In defs vars) (In defs inner) a ev items (λ m env r. r) h.sound hs.sound;
    grows = λ names n. let g = h.grows names n in let gs = hs.grows names (co.run names n).next in omega (arith, g, gs);
    named = λ names n nm. hs.named names (co.run names n).next nm;
    sim = λ env names n now s small here.
        let o = co.run names n in
        let m = o.next in
        let os = code.items cos names m in
        let g = h.grows names n in
        let gs = hs.grows names m in
        let Q = GoodItems n now os.names os.next in
        rw (bind_bind (ev env s) (λ u s. Goes env s) (λ env s. src.steps items env s))
        (part_then defs p calls vars a ev co h env names n now s (omega (arith, gs, small)) here Q os.code (λ z s1. src.steps items env s1) (λ z late s1 k.
        sim_so (the_image defs) (GoodItems m late os.names os.next) Q (src.steps items env s1) (exec defs p calls os.code late (state_image defs s1))
        (hs.sim env names m late s1 small k.stands)
        (λ env2 now2 h2. record { keeps = keeps_then n m now late now2 g k.good.keeps h2.keeps; below = h2.below; scoped = h2.scoped })));
  }

  -- (do ITEM.. a)
  pub block_fits : (vars inner : Vars) (a : Ty) (items : List src.Step) (cos : List ItemComp) (ev : Sem) (co : Comp) → FitItems vars inner items (code.items cos)
      → Fits defs p calls inner a ev co → Fits defs p calls vars a (src.block items ev) (code.block cos co)
  block_fits vars inner a items cos ev co hs h = record {
    sound = block_sound defs (In defs vars) (on_in defs p calls vars) (In defs inner) a items ev hs.sound h.sound;
    part = h.part;
    unit = h.unit;
    grows = λ names n. let oi = code.items cos names n in let gs = hs.grows names n in let g = h.grows oi.names oi.next in omega (arith, g, gs);
    typed = λ names n nm. let oi = code.items cos names n in h.typed oi.names oi.next (hs.named names n nm);
    sim = λ env names n now s small here.
        let oi = code.items cos names n in
        let o = co.run oi.names oi.next in
        let gs = hs.grows names n in
        let g = h.grows oi.names oi.next in
        let Q = Good defs p calls n now o.value o.next a in
        in_turn defs p calls (FineEnv defs (In defs inner) s.memory) (GoodItems n now oi.names oi.next) Q oi.code o.code now (state_image defs s) (src.steps items env s) (λ env s. ev env s)
        (hs.sound.run env s here.ready here.memory) (hs.sim env names n now s (omega (arith, g, small)) here) (λ env1 late s1 f1 h1.
        sim_so (the_image defs) (Good defs p calls oi.next late o.value o.next a) Q (ev env1 s1) (exec defs p calls o.code late (state_image defs s1))
        (h.sim env1 oi.names oi.next late s1 small
        (record { ready = f1.ready; memory = f1.memory; named = hs.named names n here.named; scoped = h1.scoped; below = h1.below }))
        (λ x now2 h2. record { keeps = keeps_then n oi.next now late now2 gs h1.keeps h2.keeps; below = h2.below; holds = h2.holds }));
  }
