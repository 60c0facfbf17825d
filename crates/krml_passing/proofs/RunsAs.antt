-- Files whose runs are the images of others' runs: runs that are alike, calls by levels, and one pass after another.
use Rattle.std.proofs.Common.{◌≡◌, ℕ, zero, suc, true, false, List, [], ◌∷◌, ◌++◌, map, reverse, take, length, Option, Some, None, IsSome, option_map, refl, sym, ap, ◌∙◌, subst}
use Rattle.std.proofs.lemmas.List.{map-append, length-map, reverse-append}
use Rattle.krml_trace.specs.declared.argument.Arg.{Arg}
use Rattle.krml_trace.specs.declared.bound.Bound.{Bound}
use Rattle.krml_trace.specs.declared.why.Why.{Why}
use Rattle.krml_trace.specs.declared.why.Why.TheVariants.{Deep}
use Rattle.krml_trace.specs.Run.{Goes, Ends}
use Rattle.krml_trace.specs.Follows.{WhereKept}
use Rattle.krml_trace.specs.Host as host
use Rattle.krml_trace.proofs.Levels.{within_both}
use Rattle.krml_trace.proofs.Lists.{map_twice}
use Rattle.krml_syntax.specs.declared.tree.Def.{Def}
use Rattle.krml_syntax.specs.declared.tree.SourceFile.{SourceFile}
use Rattle.krml_ast.specs.declared.event.SourceEvent.{SourceEvent}
use Rattle.krml_meaning.specs.declared.value.Value.{Value, out-Value}
use Rattle.krml_meaning.specs.declared.value.Value.TheOpen.{Value-F}
use Rattle.krml_meaning.specs.State.{Block, SourceState, SourceRan}
use Rattle.krml_meaning.specs.Meaning as src
use Rattle.krml_passing.specs.Images.{Images, value_under, vars_image, block_image, memory_image, event_image, events_image, state_image}
use Rattle.krml_passing.specs.Alike.{Alike, IsImage}
use Rattle.krml_passing.specs.RunsAs.{run_image, RunsAs, FitsAs}
use Rattle.krml_passing.proofs.Alike.{alike_ends}

-- one pass after another
pub runs_then : (entry entry' : List ℕ → List ℕ) (event event' : SourceEvent → SourceEvent) (file middle to : SourceFile)
    → RunsAs entry event file middle → RunsAs entry' event' middle to
    → RunsAs (λ x. entry' (entry x)) (λ e. event' (event e)) file to
runs_then entry entry' event event' file middle to h k x args bound = k (entry x) args bound ∙ ap (run_image event') (h x args bound)
    ∙ ap (λ es. record { outcome = (src.source_run file x args bound).outcome; events = es })
    (map_twice event event' (src.source_run file x args bound).events)

-- ---- what runs begin with

module _ (im : Images) where
  abbrev pub passed_image : src.Passed → src.Passed
  passed_image p = record { given = vars_image im p.given; memory = memory_image im p.memory; events = events_image im p.events }

  -- what a run of the second file begins with
  abbrev pub start_image : (src.Function → src.Function) → src.Start → src.Start
  start_image fun b = record { function = fun b.function; passed = passed_image b.passed }

module _ (im : Images) (all : (w : Why) → im.keeps w ≡ true) where
  -- ---- results

  scalar_image : (x : Value) → src.scalar_in (out-Value (im.value x)) ≡ src.scalar_in (out-Value x)
  scalar_image x = ap src.scalar_in (im.out x) ∙ go (out-Value x)
    where
      go : (o : Value-F Value) → src.scalar_in (value_under im.value im.field o) ≡ src.scalar_in o
      go (Value-F.Bool true) = refl
      go (Value-F.Bool false) = refl
      go _ = refl

  scalars_image : (xs : List Value) → map (λ x. src.scalar_in (out-Value x)) (map im.value xs) ≡ map (λ x. src.scalar_in (out-Value x)) xs
  scalars_image [] = refl
  scalars_image (x ∷ xs) = rw (scalar_image x, scalars_image xs) refl

  buffers_image : (n : ℕ) (m : List Block) → map (host.contents src.seen) (take n (memory_image im m))
      ≡ map (host.contents src.seen) (take n m)
  buffers_image zero m = refl
  buffers_image (suc n) [] = refl
  buffers_image (suc n) (b ∷ m) = rw (scalars_image b.items, buffers_image n m) refl

  events_reversed : (es : List SourceEvent) → reverse (events_image im es) ≡ events_image im (reverse es)
  events_reversed [] = refl
  events_reversed (e ∷ es) = reverse-append (event_image im e ∷ []) (events_image im es)
      ∙ ap (λ z. z ++ event_image im e ∷ []) (events_reversed es)
      ∙ sym (map-append (event_image im) (reverse es) (e ∷ [])) ∙ ap (events_image im) (sym (reverse-append (e ∷ []) es))

  kept_end : {A : Type 0} (w : Why) → WhereKept (im.keeps w) A → A
  kept_end {A = A} w h = subst (λ b. WhereKept b A) (all w) h

  -- a run that is like another has its outcome, and the images of its events
  pub run_of_image : (buffers : ℕ) (r r' : SourceRan Value) → Alike im (IsImage im) r r' → host.run_of src.seen buffers r'
      ≡ run_image (event_image im) (host.run_of src.seen buffers r)
  run_of_image buffers (Goes x s) r' h = rw (h.is, h.holds.memory, h.holds.holds) (rw (
    scalar_image x,
    buffers_image buffers s.memory,
    events_reversed s.events,
  ) refl)
  run_of_image buffers (Ends w es) r' h = rw (kept_end w h) (rw (events_reversed es) refl)

  -- ---- calls

  -- Where something is called in the first file, and in the second what stands so to it, the calls do the same.
  abbrev pub CallsAlike : (R : src.Called → src.Called → List Block → Type 0) → src.Calls → src.Calls → Type 0
  CallsAlike R calls calls' = (c c' : src.Called) (s : SourceState) → R c c' s.memory
      → Alike im (IsImage im) (calls c s) (calls' c' (state_image im s))

  -- with as many levels left, where the bodies do the same
  pub enter_alike : (R : src.Called → src.Called → List Block → Type 0) (defs defs' : List Def)
      → ((calls calls' : src.Calls) → CallsAlike R calls calls' → CallsAlike R (src.body_of defs calls) (src.body_of defs' calls'))
      → (levels : ℕ) → CallsAlike R (src.enter defs levels) (src.enter defs' levels)
  enter_alike R defs defs' body = within_both (CallsAlike R) (src.body_of defs) (src.body_of defs')
      (λ c c' s h. alike_ends im (IsImage im) Deep s) body

  -- ---- files

  -- The two files begin their runs alike, and from there the second does what the first does.
  module _ (file to : SourceFile) (entry_image : List ℕ → List ℕ) (fun : src.Function → src.Function)
      (begins : (entry : List ℕ) (args : List Arg) → src.start to (entry_image entry) args
      ≡ option_map (start_image im fun) (src.start file entry args)) where
    pub runs_as : ((entry : List ℕ) (args : List Arg) (bound : Bound) (b : src.Start) → src.start file entry args ≡ Some b
        → Alike im (IsImage im) (host.run_from (src.called_by_host file) bound b) (host.run_from (src.called_by_host to) bound
        (start_image im fun b)))
        → RunsAs entry_image (event_image im) file to
    runs_as goes entry args bound = ap (host.run_started src.seen (src.called_by_host to) bound) (begins entry args.items)
        ∙ go (src.start file entry args.items) (goes entry args.items bound)
      where
        go : (o : Option src.Start)
            → ((b : src.Start) → o ≡ Some b → Alike im (IsImage im) (host.run_from (src.called_by_host file) bound b)
            (host.run_from (src.called_by_host to) bound (start_image im fun b)))
            → host.run_started src.seen (src.called_by_host to) bound (option_map (start_image im fun) o)
            ≡ run_image (event_image im) (host.run_started src.seen (src.called_by_host file) bound o)
        go None k = refl
        go (Some b) k = rw (length-map b.passed.memory (block_image im)) (run_of_image (length b.passed.memory)
            (host.run_from (src.called_by_host file) bound b) _ (k b refl))

    pub fits_as : FitsAs entry_image file to
    fits_as entry args h = subst IsSome (sym (begins entry args.items)) (go (src.start file entry args.items) h)
      where
        go : (o : Option src.Start) → IsSome o → IsSome (option_map (start_image im fun) o)
        go (Some b) f = f
        go None f = f
