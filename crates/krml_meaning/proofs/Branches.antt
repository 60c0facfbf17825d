-- Constructors, matches, cases and blocks: a run of one whose parts are sound is sound.
use Rattle.std.proofs.Common.{◌≡◌, ℕ, suc, ◌==◌, ◌&&◌, Bool, true, false, if◌then◌else◌, List, [], ◌∷◌, Option, Some, None, option_map, option_and_then, slice_get, map, length, refl, sym, ap, ◌∙◌, subst}
use Rattle.std.specs.List.{AllByRecursion}
use Rattle.std.proofs.lemmas.Bool.Decides.{Decides-eqb}
use Rattle.std.proofs.lemmas.Option.{slice_get-map}
use Rattle.krml_trace.specs.declared.outcome.Cause.TheVariants as cause
use Rattle.krml_trace.specs.declared.why.Why.TheVariants.{Undefined}
use Rattle.krml_trace.specs.Run.{leave}
use Rattle.krml_syntax.specs.declared.tree.Ty.{Ty}
use Rattle.krml_syntax.specs.declared.tree.Ty.TheVariants as t
use Rattle.krml_syntax.specs.declared.tree.Con.{Con}
use Rattle.krml_syntax.specs.declared.tree.Def.{Def}
use Rattle.krml_ast.specs.declared.event.SourceEvent.TheVariants as event
use Rattle.krml_ast.specs.Names.{Sum, Constructor, type_named}
use Rattle.krml_ast.specs.IsType.{AreArguments}
use Rattle.krml_ast.specs.Typing.{at}
use Rattle.krml_meaning.specs.declared.value.Value.{Value}
use Rattle.krml_meaning.specs.State.{Block, Variables, SourceState, SourceRan, Env, Sem, with_vars}
use Rattle.krml_meaning.specs.Meaning as src
use Rattle.krml_meaning.specs.Shape.{HasShape, AllHaveShape, MemoryTyped, Extends}
use Rattle.krml_trace.specs.After.{After}
use Rattle.krml_meaning.specs.Sound.{Fine}
use Rattle.krml_meaning.proofs.Lists.{same_some, no_some, same_answer}
use Rattle.krml_trace.proofs.After.{after_bind, after_so, after_some, after_found, after_if}
use Rattle.krml_meaning.proofs.Facts.{InSum, same_sum}
use Rattle.krml_meaning.proofs.Shapes.{extends_same, extends_then, extends_none, ConShape, shape_on, shape_at, after_truth, after_con}
use Rattle.krml_meaning.proofs.Forms.{Sound, SoundAll, FineAll, FineEnv, fine_then}

module _ (defs : List Def) where
  -- the arguments of a value of a constructor, where it is this one
  pub con_args : (c : Constructor) (x : List ℕ) (args : List Ty) (i : InSum defs x c) (m : List Block) (k : ℕ) (xs : List Value) → ConShape defs m k xs c.sum args → k ≡ i.k
      → AllHaveShape defs m xs (map (at c.vars args) c.args)
  con_args c x args i m k xs h e =
      let same = same_sum h.vars c.vars h.cons i.cons (same_answer (type_named defs c.sum) (Sum h.vars h.cons) (Sum c.vars i.cons) h.is i.is) in
      let there : slice_get i.cons i.k ≡ Some h.c = ap (slice_get i.cons) (sym e) ∙ ap (λ cs. slice_get cs k) (sym same.1) ∙ h.there in
      let con : h.c ≡ i.con = same_answer (slice_get i.cons i.k) h.c i.con there i.there in
      subst (λ vs. AllHaveShape defs m xs (map (at vs args) c.args)) same.0
      (subst (λ types. AllHaveShape defs m xs (map (at h.vars args) types)) (ap (λ (z : Con). z.args) con ∙ i.args) h.all)

  pub con_count : (c : Constructor) (x : List ℕ) (args : List Ty) (i : InSum defs x c) (m : List Block) (k : ℕ) (xs : List Value) → ConShape defs m k xs c.sum args
      → length args ≡ length c.vars
  con_count c x args i m k xs h =
      let same = same_sum h.vars c.vars h.cons i.cons (same_answer (type_named defs c.sum) (Sum h.vars h.cons) (Sum c.vars i.cons) h.is i.is) in
      h.count ∙ ap (λ z. length z) same.0

  -- the zero value of an argument of a constructor, at type arguments
  pub record ZeroAt (vars : List (List ℕ)) (args : List Ty) (b : Ty) : Type 0 where
    pub zero : Value
    pub is : src.zero_value defs b ≡ Some zero
    pub shape : HasShape defs [] zero (at vars args b)

  -- all are of type bool
  abbrev pub AreBools : List Ty → Type 0
  AreBools types = AllByRecursion (λ a. a ≡ t.Bool) types

  all_true_after : (Q : Value → SourceState → Type 0) (m : List Block) (types : List Ty) (xs : List Value) (s : SourceState) (next : Bool → SourceRan Value)
      → AllHaveShape defs m xs types → AreBools types → ((b : Bool) → After Q (next b)) → After Q (src.all_true xs s next)
  all_true_after Q m types xs s next AllHaveShape.none bs k = k true
  all_true_after Q m types xs s next (AllHaveShape.one {x = y} {a = a} {xs = ys} {types = more} h all) bs k =
      after_truth defs Q m s y _ (subst (HasShape defs m y) bs.0 h) (λ b. all_true_after Q m more ys s (λ c. next (b && c)) all bs.1 (λ c. k (b && c)))

  -- ---- what follows in a block

  pub record SoundSteps (I J : List Block → Env → Type 0) (items : List src.Step) : Type 0 where
    pub run : (env : Env) (s : SourceState) → I s.memory env → MemoryTyped defs s.memory → After (FineEnv defs J s.memory) (src.steps items env s)

  -- branches of a match on a value of a type
  pub record SoundBranches (I : List Block → Env → Type 0) (a r : Ty) (branches : List src.Branch) : Type 0 where
    pub run : (env : Env) (s : SourceState) (x : Value) (k : ℕ) (f : ℕ × Variables × Sem) → I s.memory env → MemoryTyped defs s.memory → HasShape defs s.memory x a
        → src.first_branch k branches x ≡ Some f → After (Fine defs s.memory r) (f.2 (with_vars f.1 env) s)

  pub no_steps_sound : (I J : List Block → Env → Type 0) → ((m : List Block) (env : Env) → I m env → J m env) → SoundSteps I J []
  no_steps_sound I J f = record { run = λ env s r hm. record { extends = extends_same s.memory; ready = f s.memory env r; memory = hm } }

  pub no_branches_sound : (I : List Block → Env → Type 0) (a r : Ty) → SoundBranches I a r []
  no_branches_sound I a r = record { run = λ env s x k f ready hm h e. absurd (no_some f e) }

  pub more_branches_sound : (I J : List Block → Env → Type 0) (a r : Ty) (b : src.Branch) (more : List src.Branch)
      → ((m : List Block) (env : Env) (x : Value) (vars : Variables) → I m env → HasShape defs m x a → b.takes x ≡ Some vars → J m (with_vars vars env))
      → Sound defs J r b.body → SoundBranches I a r more → SoundBranches I a r (b ∷ more)
  more_branches_sound I J a r b more takes h hs = record {
    run = λ env s x k f ready hm shape e. pick env s x k f ready hm shape (b.takes x) refl e;
  }
    where
      pick : (env : Env) (s : SourceState) (x : Value) (k : ℕ) (f : ℕ × Variables × Sem) → I s.memory env → MemoryTyped defs s.memory → HasShape defs s.memory x a
          → (o : Option Variables) → b.takes x ≡ o → src.branch_or (option_map (λ vars. (k, vars, b.body)) o) (src.first_branch (suc k) more x) ≡ Some f
          → After (Fine defs s.memory r) (f.2 (with_vars f.1 env) s)
      pick env s x k f ready hm shape (Some vars) q e =
          subst (λ (z : ℕ × Variables × Sem). After (Fine defs s.memory r) (z.2 (with_vars z.1 env) s)) (same_some (k, vars, b.body) f e)
          (h.run (with_vars vars env) s (takes s.memory env x vars ready shape q) hm)
      pick env s x k f ready hm shape None q e = hs.run env s x (suc k) f ready hm shape e

  pub no_cases_sound : (I : List Block → Env → Type 0) (k : ℕ) (r : Ty) → Sound defs I r (src.cases k [])
  no_cases_sound I k r = record { run = λ env s ready hm. tt }

  module _ (I : List Block → Env → Type 0) (on : (m now : List Block) (env : Env) → Extends m now → I m env → I now env) where
    pub bound_sound : (K J : List Block → Env → Type 0) (x : List ℕ) (a : Ty) (ev : Sem) (more : List src.Step)
        → ((m : List Block) (env : Env) (y : Value) → I m env → HasShape defs m y a → K m (with_vars ((x, y) ∷ []) env)) → Sound defs I a ev → SoundSteps K J more
        → SoundSteps I J (src.bound x ev ∷ more)
    bound_sound K J x a ev more f h hs = record {
      run = λ env s r hm.
          let Q = FineEnv defs J s.memory in
          after_bind (FineEnv defs K s.memory) Q (src.bound x ev env s) _
          (after_bind (Fine defs s.memory a) (FineEnv defs K s.memory) (ev env s) _ (h.run env s r hm) (λ y s1 h1.
          record { extends = h1.extends; ready = f s1.memory env y (on s.memory s1.memory env h1.extends r) h1.shape; memory = h1.memory }))
          (λ env1 s1 h1. after_so (FineEnv defs J s1.memory) Q _ (hs.run env1 s1 h1.ready h1.memory) (λ env2 s2 h2.
          record { extends = extends_then s.memory s1.memory s2.memory h1.extends h2.extends; ready = h2.ready; memory = h2.memory }));
    }

    pub ran_sound : (K J : List Block → Env → Type 0) (a : Ty) (ev : Sem) (more : List src.Step) → ((m : List Block) (env : Env) → I m env → K m env) → Sound defs I a ev
        → SoundSteps K J more → SoundSteps I J (src.ran ev ∷ more)
    ran_sound K J a ev more f h hs = record {
      run = λ env s r hm.
          let Q = FineEnv defs J s.memory in
          after_bind (FineEnv defs K s.memory) Q (src.ran ev env s) _
          (after_bind (Fine defs s.memory a) (FineEnv defs K s.memory) (ev env s) _ (h.run env s r hm) (λ y s1 h1.
          record { extends = h1.extends; ready = f s1.memory env (on s.memory s1.memory env h1.extends r); memory = h1.memory }))
          (λ env1 s1 h1. after_so (FineEnv defs J s1.memory) Q _ (hs.run env1 s1 h1.ready h1.memory) (λ env2 s2 h2.
          record { extends = extends_then s.memory s1.memory s2.memory h1.extends h2.extends; ready = h2.ready; memory = h2.memory }));
    }

    pub block_sound : (J : List Block → Env → Type 0) (a : Ty) (items : List src.Step) (ev : Sem) → SoundSteps I J items → Sound defs J a ev → Sound defs I a (src.block items ev)
    block_sound J a items ev hs h = record {
      run = λ env s r hm.
          let Q = Fine defs s.memory a in
          after_bind (FineEnv defs J s.memory) Q (src.steps items env s) _ (hs.run env s r hm) (λ env1 s1 h1.
          after_so (Fine defs s1.memory a) Q _ (h.run env1 s1 h1.ready h1.memory) (λ y s2 h2. fine_then defs s.memory s1.memory a y s2 h1.extends h2));
    }

    pub match_sound : (a r : Ty) (ev : Sem) (branches : List src.Branch) → Sound defs I a ev → SoundBranches I a r branches → Sound defs I r (src.match ev branches)
    match_sound a r ev branches h hs = record {
      run = λ env s ready hm.
          let Q = Fine defs s.memory r in
          after_bind (Fine defs s.memory a) Q (ev env s) _ (h.run env s ready hm) (λ x s1 h1.
          after_found Q cause.Match (src.first_branch 0 branches x) s1 _ (λ f e.
          after_so (Fine defs s1.memory r) Q _
          (hs.run env (leave (event.Pick f.0) s1) x 0 f (on s.memory s1.memory env h1.extends ready) h1.memory h1.shape e)
          (λ y s2 h2. fine_then defs s.memory s1.memory r y s2 h1.extends h2)));
    }

    pub more_cases_sound : (k : ℕ) (r : Ty) (types : List Ty) (c : src.Tested) (more : List src.Tested) → AreBools types → SoundAll defs I types c.tests → Sound defs I r c.body
        → Sound defs I r (src.cases (suc k) more) → Sound defs I r (src.cases k (c ∷ more))
    more_cases_sound k r types c more bs ht h hs = record {
      run = λ env s ready hm.
          let Q = Fine defs s.memory r in
          after_bind (FineAll defs s.memory types) Q (src.values c.tests env s) _ (ht.run env s ready hm) (λ xs s1 h1.
          let r1 = on s.memory s1.memory env h1.extends ready in
          all_true_after Q s1.memory types xs s1 _ h1.shapes bs (λ b. after_if Q b _ _
          (λ e. after_so (Fine defs s1.memory r) Q _ (h.run env (leave (event.Pick k) s1) r1 h1.memory) (λ y s2 h2. fine_then defs s.memory s1.memory r y s2 h1.extends h2))
          (λ e. after_so (Fine defs s1.memory r) Q _ (hs.run env s1 r1 h1.memory) (λ y s2 h2. fine_then defs s.memory s1.memory r y s2 h1.extends h2))));
    }

    -- ---- constructors

    pub con_sound : (x : List ℕ) (c : Constructor) (args : List Ty) (evs : List Sem) → InSum defs x c → length args ≡ length c.vars → AreArguments defs [] args
        → SoundAll defs I (map (at c.vars args) c.args) evs → Sound defs I (t.Named c.sum args) (src.con defs x evs)
    con_sound x c args evs i n oks hs = record {
      run = λ env s r hm.
          let Q = Fine defs s.memory (t.Named c.sum args) in
          after_bind (FineAll defs s.memory (map (at c.vars args) c.args)) Q (src.values evs env s) _ (hs.run env s r hm) (λ xs s1 h1.
          after_some Q Undefined (src.con_place defs x) (i.k, c.args) s1 _ i.place (record {
            extends = h1.extends;
            shape = HasShape.con i.is n oks i.there (subst (λ types. AllHaveShape defs s1.memory xs (map (at c.vars args) types)) (sym i.args) h1.shapes);
            memory = h1.memory;
          }));
    }

    pub tag_is_sound : (x : List ℕ) (c : Constructor) (args : List Ty) (ev : Sem) → InSum defs x c → Sound defs I (t.Named c.sum args) ev → Sound defs I t.Bool (src.tag_is defs x ev)
    tag_is_sound x c args ev i h = record {
      run = λ env s r hm.
          let Q = Fine defs s.memory t.Bool in
          after_bind (Fine defs s.memory (t.Named c.sum args)) Q (ev env s) _ (h.run env s r hm) (λ y s1 h1.
          after_con defs Q s1.memory s1 c.sum args c.vars i.cons i.is y _ h1.shape (λ k xs shape.
          after_some Q Undefined (src.con_place defs x) (i.k, c.args) s1 _ i.place (record { extends = h1.extends; shape = HasShape.bool; memory = h1.memory })));
    }

    pub part_sound : (x : List ℕ) (c : Constructor) (j : ℕ) (args : List Ty) (b r : Ty) (ev : Sem) → InSum defs x c → slice_get c.args j ≡ Some b → ZeroAt c.vars args b
        → (length args ≡ length c.vars → at c.vars args b ≡ r) → Sound defs I (t.Named c.sum args) ev → Sound defs I r (src.part defs x j ev)
    part_sound x c j args b r ev i b_is z same h = record {
      run = λ env s ready hm.
          let Q = Fine defs s.memory r in
          after_bind (Fine defs s.memory (t.Named c.sum args)) Q (ev env s) _ (h.run env s ready hm) (λ y s1 h1.
          after_con defs Q s1.memory s1 c.sum args c.vars i.cons i.is y _ h1.shape (λ k xs shape.
          after_some Q Undefined (src.con_place defs x) (i.k, c.args) s1 _ i.place
          (let f = chosen s1.memory k xs shape (k == i.k) refl in
          after_some Q Undefined _ f.0 s1 _ f.1 (record {
            extends = h1.extends;
            shape = subst (HasShape defs s1.memory f.0) (same (con_count c x args i s1.memory k xs shape)) f.2;
            memory = h1.memory;
          }))));
    }
      where
        chosen : (m : List Block) (k : ℕ) (xs : List Value) → ConShape defs m k xs c.sum args → (same : Bool) → (k == i.k) ≡ same
            → (y : Value) × ((if same then slice_get xs j else option_and_then (src.zero_value defs) (slice_get c.args j)) ≡ Some y) × HasShape defs m y (at c.vars args b)
        chosen m k xs shape true e =
            shape_at defs m xs (map (at c.vars args) c.args) j (at c.vars args b) (con_args c x args i m k xs shape ((Decides-eqb k i.k).0 e))
            (slice_get-map (at c.vars args) c.args j ∙ ap (option_map (at c.vars args)) b_is)
        chosen m k xs shape false e = (z.zero, ap (option_and_then (src.zero_value defs)) b_is ∙ z.is, shape_on defs [] m z.zero (at c.vars args b) (extends_none m) z.shape)
