-- Runs of a program do what those of the file do that it came from.
use Rattle.std.proofs.Common.{◌≡◌, ℕ, suc, Bool, true, false, ◌&&◌, if◌then◌else◌, List, [], ◌∷◌, length, reverse, flat_map, Option, Some, None, option_and_then, refl, sym, ap, ◌∙◌, subst}
use Rattle.std.specs.Option.{option_or}
use Rattle.std.specs.Str.{bytes_eq}
use Rattle.std.proofs.lemmas.List.{reverse-reverse}
use Rattle.std.proofs.lemmas.Slice.Eq.{bytes_eq-Decides}
use Rattle.krml_trace.specs.declared.width.Width.{Width}
use Rattle.krml_trace.specs.declared.width.Width.TheVariants.{W8, W32, W64}
use Rattle.krml_trace.specs.declared.arguments.Arguments.{Arguments}
use Rattle.krml_trace.specs.declared.bound.Bound.{Bound}
use Rattle.krml_trace.specs.declared.outcome.Outcome.TheVariants as outcome
use Rattle.krml_trace.specs.declared.why.Why.TheVariants.{Spent, Deep, Stuck, Undefined, Trapped}
use Rattle.krml_trace.specs.Run.{Goes, Ends, outcome_of, events_of, NotStuck}
use Rattle.krml_trace.specs.After.{After}
use Rattle.krml_trace.specs.Host as host
use Rattle.krml_trace.specs.Host.{done, run_started}
use Rattle.krml_syntax.specs.declared.tree.IntTy.{IntTy}
use Rattle.krml_syntax.specs.declared.tree.Ty.{Ty}
use Rattle.krml_syntax.specs.declared.tree.Ty.TheVariants as t
use Rattle.krml_syntax.specs.declared.tree.Ty.TheOpen.{Ty-F}
use Rattle.krml_syntax.specs.declared.tree.Def.{Def}
use Rattle.krml_syntax.specs.declared.tree.Def.TheVariants as d
use Rattle.krml_syntax.specs.declared.tree.SourceFile.{SourceFile}
use Rattle.krml_ast.specs.Names.{Signature, fun_named}
use Rattle.krml_syntax.specs.Types.{public, erased, int_ty}
use Rattle.krml_ast.specs.IsType.{AreArguments}
use Rattle.krml_ast.specs.Typing.{fields_at}
use Rattle.krml_ast.specs.Typing as typing
use Rattle.krml_ast.specs.WellTyped.{IsAnswer, AreWellTyped}
use Rattle.krml_meaning.specs.declared.value.Value.{Value, out-Value}
use Rattle.krml_meaning.specs.declared.value.Value.TheOpen.{Value-F}
use Rattle.krml_meaning.specs.State.{Block, SourceState, SourceRan}
use Rattle.krml_meaning.specs.Meaning as src
use Rattle.krml_meaning.specs.Shape.{HasShape, AllHaveShape}
use Rattle.krml_meaning.specs.Sound.{Fine}
use Rattle.krml_meaning.proofs.Lists.{same_some, no_some, same_answer}
use Rattle.krml_syntax.proofs.Types.{erased_bool, erased_unit, erased_int}
use Rattle.krml_meaning.proofs.Shapes.{ShapeIn}
use Rattle.krml_meaning.proofs.Files.{facts, each_def}
use Rattle.krml_meaning.proofs.Entries.{EntryTyped, EntryFits, entry_fits, entry_there, Started, shape_as, started, some_there}
use Rattle.krml_ctree.specs.declared.value.CValue.{CValue}
use Rattle.krml_ctree.specs.declared.value.CValue.TheVariants as cv
use Rattle.krml_ctree.specs.declared.tree.CType.TheVariants as ct
use Rattle.krml_ctree.specs.declared.run.CRun.{CRun}
use Rattle.krml_ctree.specs.declared.tree.CFun.{CFun}
use Rattle.krml_ctree.specs.declared.tree.CProgram.{CProgram}
use Rattle.krml_ctree.specs.Text.{width_type}
use Rattle.krml_ctree.specs.Parts.{CRan}
use Rattle.krml_ctree.specs.Meaning as tgt
use Rattle.krml_cstar.specs.Built.{AreBuilt}
use Rattle.krml_cstar.specs.Image.{image_c}
use Rattle.krml_cstar.specs.Types.{ctype, is_unit}
use Rattle.krml_cstar.specs.Translation.{fun_code, funs_of, program_of}
use Rattle.krml_cstar.specs.Count.{HaveFewVariables}
use Rattle.krml_cstar.specs.Theorem.{DoesTheSame}
use Rattle.krml_cstar.proofs.Images.{image_at, images_at, state_image, Sim}
use Rattle.krml_cstar.proofs.Part.{erased_built, at_built, fields_at_built, fields_erased_built, FunctionBuilt, function_built}
use Rattle.krml_cstar.proofs.Typed.{arguments_fit}
use Rattle.krml_cstar.proofs.TypesInC.{ctype_bool, ctype_int}
use Rattle.krml_cstar.proofs.Fits.{param_types, Gave}
use Rattle.krml_cstar.proofs.Forms.{image_number, image_truth}
use Rattle.krml_cstar.proofs.Events.{events_in_order}
use Rattle.krml_cstar.proofs.Found.{lookups}
use Rattle.krml_cstar.proofs.Levels.{BodiesFit, calls_sound, enter_fits}
use Rattle.krml_cstar.proofs.Simulation.{bodies_fit}
use Rattle.krml_cstar.proofs.Arguments.{AllPassed, all_passed, passed_is}

-- ---- results

module _ (defs : List Def) (m : List Block) (x : Value) where
  scalar_number : (w : Width) (n : ℕ) → tgt.scalar_of (cv.Num w n) ≡ Some n
  scalar_number w n = rw (cv.outs-Num w n) refl

  unit_scalar : (w : Value-F Value) → ShapeIn defs m w Ty-F.Unit → src.scalar_in w ≡ None
  unit_scalar Value-F.Unit h = refl
  unit_scalar (Value-F.Bool b) h = absurd h
  unit_scalar (Value-F.Num w n) h = absurd h
  unit_scalar (Value-F.Struct names xs) h = absurd h
  unit_scalar (Value-F.Con k xs) h = absurd h
  unit_scalar (Value-F.Buf n off len) h = absurd h

  bool_scalar : (a : Ty) (w : Value-F Value) → out-Value x ≡ w → ShapeIn defs m w Ty-F.Bool → tgt.scalar_of (image_at defs x a) ≡ src.scalar_in w
  bool_scalar a (Value-F.Bool true) e h = ap tgt.scalar_of (image_truth defs true x a e) ∙ scalar_number W8 1
  bool_scalar a (Value-F.Bool false) e h = ap tgt.scalar_of (image_truth defs false x a e) ∙ scalar_number W8 0
  bool_scalar a Value-F.Unit e h = absurd h
  bool_scalar a (Value-F.Num w n) e h = absurd h
  bool_scalar a (Value-F.Struct names xs) e h = absurd h
  bool_scalar a (Value-F.Con k xs) e h = absurd h
  bool_scalar a (Value-F.Buf n off len) e h = absurd h

  int_scalar : (i : IntTy) (a : Ty) (w : Value-F Value) → out-Value x ≡ w → ShapeIn defs m w (Ty-F.Int i) → tgt.scalar_of (image_at defs x a) ≡ src.scalar_in w
  int_scalar i a (Value-F.Num w n) e h = ap tgt.scalar_of (image_number defs w n x a e) ∙ scalar_number w n
  int_scalar i a Value-F.Unit e h = absurd h
  int_scalar i a (Value-F.Bool b) e h = absurd h
  int_scalar i a (Value-F.Struct names xs) e h = absurd h
  int_scalar i a (Value-F.Con k xs) e h = absurd h
  int_scalar i a (Value-F.Buf n off len) e h = absurd h

  -- what an entry gives is the same number, or none
  same_scalar : (r : Ty) (o : Option CValue) → IsAnswer r → HasShape defs m x (erased r) → Gave defs r x o → option_and_then tgt.scalar_of o ≡ src.scalar_in (out-Value x)
  same_scalar r o IsAnswer.unit h g =
      let none : o ≡ None = g ∙ rw t.outs-Unit refl in
      ap (option_and_then tgt.scalar_of) none ∙ sym (unit_scalar (out-Value x) (shape_as defs [] m x (erased t.Unit) t.Unit Ty-F.Unit erased_unit t.outs-Unit h))
  same_scalar r o IsAnswer.bool h g =
      let some : o ≡ Some (image_at defs x (erased t.Bool)) = g ∙ rw t.outs-Bool refl in
      ap (option_and_then tgt.scalar_of) some ∙ bool_scalar (erased t.Bool) (out-Value x) refl (shape_as defs [] m x (erased t.Bool) t.Bool Ty-F.Bool erased_bool t.outs-Bool h)
  same_scalar r o (IsAnswer.int i) h g =
      let some : o ≡ Some (image_at defs x (erased (t.Int i))) = g ∙ rw (t.outs-Int i) refl in
      ap (option_and_then tgt.scalar_of) some ∙ int_scalar (public i) (erased (t.Int i)) (out-Value x) refl
      (shape_as defs [] m x (erased (t.Int i)) (int_ty i) (Ty-F.Int (public i)) (erased_int i) (t.outs-Int (public i)) h)

-- a run of C that does what a run of the source does ends as that does, with its events
same_run : (defs : List Def) (m : List Block) (a : Ty) (r : SourceRan Value) (r' : CRan (Option CValue)) → IsAnswer a → After (Fine defs m (erased a)) r → Sim defs (Gave defs a) r r'
    → NotStuck (outcome_of (done src.seen 0) r) → (outcome_of (done tgt.seen 0) r' ≡ outcome_of (done src.seen 0) r) × (events_of r' ≡ image_c defs (events_of r))
same_run defs m a (Goes x s) r' ans f h not =
    rw h.is (ap (λ z. outcome.Done z []) (same_scalar defs s.memory x a h.to ans f.shape h.holds.value), events_in_order defs s.events)
same_run defs m a (Ends Spent es) r' ans f h not = rw h (refl, events_in_order defs es)
same_run defs m a (Ends Deep es) r' ans f h not = rw h (refl, events_in_order defs es)
same_run defs m a (Ends (Stuck c) es) r' ans f h not = absurd not
same_run defs m a (Ends Undefined es) r' ans f h not = absurd not
same_run defs m a (Ends Trapped es) r' ans f h not = absurd not

-- ---- the function that a run is of

gives_width : (w : Width) → tgt.gives_scalar (Some (width_type w)) ≡ true
gives_width W8 = rw ct.outs-U8 refl
gives_width W32 = rw ct.outs-U32 refl
gives_width W64 = rw ct.outs-U64 refl

gives_answer : (r : Ty) → IsAnswer r → tgt.gives_scalar (if is_unit r then None else Some (ctype r)) ≡ true
gives_answer r IsAnswer.unit = rw t.outs-Unit refl
gives_answer r IsAnswer.bool = rw (t.outs-Bool, ctype_bool) (gives_width W8)
gives_answer r (IsAnswer.int i) = rw (t.outs-Int i, ctype_int i) (gives_width i.width)

first_is : (defs : List Def) (x : List ℕ) (ds : List Def) (f : Signature) (fun : src.Function) → fun_named ds x ≡ Some f → src.function_named ds x ≡ Some fun → IsAnswer f.result
    → tgt.first_named (flat_map (funs_of defs) ds) x ≡ Some (fun_code defs x f.params f.result fun.body)
first_is defs x [] f fun e q ans = absurd (no_some f e)
first_is defs x (d.Fun name vars params result body ∷ ds) f fun e q ans = go (bytes_eq name x) refl e q (λ e' q'. first_is defs x ds f fun e' q' ans)
  where
    go : (b : Bool) → bytes_eq name x ≡ b → option_or (if b then Some (record { vars = vars; params = params; result = result }) else None) (fun_named ds x) ≡ Some f
        → option_or (if b then Some (record { tvars = vars; params = params; body = body }) else None) (src.function_named ds x) ≡ Some fun
        → (fun_named ds x ≡ Some f → src.function_named ds x ≡ Some fun → tgt.first_named (flat_map (funs_of defs) ds) x ≡ Some (fun_code defs x f.params f.result fun.body))
        → option_or (if b && tgt.gives_scalar (if is_unit result then None else Some (ctype result)) then Some (fun_code defs name params result body) else None) (tgt.first_named (flat_map (funs_of defs) ds) x)
        ≡ Some (fun_code defs x f.params f.result fun.body)
    go true is e' q' later =
        let same : record { vars = vars; params = params; result = result } ≡ f = same_some (record { vars = vars; params = params; result = result }) f e' in
        let alike : record { tvars = vars; params = params; body = body } ≡ fun = same_some (record { tvars = vars; params = params; body = body }) fun q' in
        let mine : IsAnswer result = subst (λ (z : Signature). IsAnswer z.result) (sym same) ans in
        rw (gives_answer result mine) (ap (λ z. Some (fun_code defs z params result body)) ((bytes_eq-Decides name x).0 is)
        ∙ ap (λ (z : Signature). Some (fun_code defs x z.params z.result body)) same ∙ ap (λ (z : src.Function). Some (fun_code defs x f.params f.result z.body)) alike)
    go false is e' q' later = later e' q'
first_is defs x (d.Struct name vars fields ∷ ds) f fun e q ans = first_is defs x ds f fun e q ans
first_is defs x (d.Sum name vars cons ∷ ds) f fun e q ans = first_is defs x ds f fun e q ans
first_is defs x (d.Table name i nums ∷ ds) f fun e q ans = first_is defs x ds f fun e q ans
first_is defs x (d.Entry name ∷ ds) f fun e q ans = first_is defs x ds f fun e q ans

-- ---- runs

-- the run of a start, as a call of its function
source_is : (file : SourceFile) (entry : List ℕ) (bound : Bound) (b : src.Start) (xs : List Value) → src.function_named file.defs entry ≡ Some b.function
    → src.params_over b.function.params xs [] ≡ Some b.passed.given → b.passed.memory ≡ [] → b.passed.events ≡ []
    → host.run_from (src.called_by_host file) bound b
    ≡ src.enter file.defs (suc bound.depth) (record { name = entry; types = []; values = xs }) (record { ticks = bound.ticks; memory = []; events = [] })
source_is file entry bound b xs e q m es = rw (e, q, m, es) refl

target_is : (p : CProgram) (entry : List ℕ) (args : Arguments) (bound : Bound) (g : CFun) (us : List CValue) → tgt.first_named p.funs entry ≡ Some g
    → tgt.passed args.items ≡ record { given = reverse us; memory = []; events = [] } → tgt.fit [] g.params us ≡ true
    → tgt.c_run p entry args bound ≡ record {
      outcome = outcome_of (done tgt.seen 0) (tgt.enter p (suc bound.depth) (record { fun = g; values = us }) (record { ticks = bound.ticks; memory = []; events = [] }));
      events = events_of (tgt.enter p (suc bound.depth) (record { fun = g; values = us }) (record { ticks = bound.ticks; memory = []; events = [] }));
    }
target_is p entry args bound g us e q f = rw (e, q, reverse-reverse us, f) (rw (reverse-reverse us) refl)

module _ (file : SourceFile) (typed : AreWellTyped file.defs) (built : AreBuilt file.defs) (few : HaveFewVariables file.defs) (fits : BodiesFit file.defs (program_of file)) where
  -- both ends of a run of a start
  module _ (entry : List ℕ) (args : Arguments) (bound : Bound) (b : src.Start) (st : Started file.defs entry args.items b) (k : EntryTyped file.defs entry) where
    abbrev Same : Option src.Start → CRun → Type 0
    Same o q = NotStuck (run_started src.seen (src.called_by_host file) bound o).outcome
        → (q.outcome ≡ (run_started src.seen (src.called_by_host file) bound o).outcome) × (q.events ≡ image_c file.defs (run_started src.seen (src.called_by_host file) bound o).events)

    started_same : Same (Some b) (tgt.c_run (program_of file) entry args bound)
    started_same =
        let defs = file.defs in
        let p = program_of file in
        let f = k.function in
        let fun = b.function in
        let fn = (facts defs typed).function entry f k.is in
        let fb : FunctionBuilt f fun.body = function_built defs typed built entry f fun k.is st.function in
        let same : fn.body ≡ fun = same_answer (src.function_named defs entry) fn.body fun fn.is st.function in
        let params : fun.params ≡ f.params = ap (λ (z : src.Function). z.params) (sym same) ∙ fn.params in
        let passes : src.passings f.params args.items ≡ Some st.args = ap (λ ps. src.passings ps args.items) (sym params) ∙ st.passing in
        let all = subst (AllPassed defs f.params args.items host.nothing) st.passed (all_passed defs f.params args.items host.nothing st.args args.fit fb.types passes) in
        let vars : src.params_over fun.params all.values [] ≡ Some b.passed.given = ap (λ ps. src.params_over ps all.values []) params ∙ all.given in
        let us : List CValue = images_at defs all.values (param_types f.params) in
        let s : SourceState = record { ticks = bound.ticks; memory = []; events = [] } in
        let r = src.enter defs (suc bound.depth) (record { name = entry; types = []; values = all.values }) s in
        let g : CFun = fun_code defs entry f.params f.result fun.body in
        let r' = tgt.enter p (suc bound.depth) (record { fun = g; values = us }) (state_image defs s) in
        let sim : Sim defs (Gave defs f.result) r r' = enter_fits defs typed built p (lookups file typed) few fits (suc bound.depth) entry f fun all.values s k.is st.function all.shapes tt in
        let types : param_types f.params ≡ fields_at f.vars [] f.params = fields_erased_built f.params fb.types ∙ sym (fields_at_built f.vars [] f.params fb.types) in
        let result : typing.at f.vars [] f.result ≡ erased f.result = at_built f.vars [] f.result fb.result ∙ sym (erased_built f.result fb.result) in
        let sound : After (Fine defs [] (erased f.result)) r = subst (λ z. After (Fine defs [] z) r) result
        (calls_sound defs typed built p (lookups file typed) few fits (suc bound.depth) entry f [] all.values s k.is (ap (λ z. length z) (sym k.vars)) AreArguments.none
        (subst (AllHaveShape defs [] all.values) types all.shapes) tt) in
        let source : host.run_from (src.called_by_host file) bound b ≡ r = source_is file entry bound b all.values st.function vars all.memory all.events in
        let buffers : length b.passed.memory ≡ 0 = ap (λ z. length z) all.memory in
        let first : tgt.first_named p.funs entry ≡ Some g = first_is defs entry defs f fun k.is st.function k.answer in
        let begun = passed_is defs f.params args.items host.nothing b.passed all in
        let fit = arguments_fit defs built [] all.values 0 f.params all.shapes fb.types fb.values in
        let target : tgt.c_run p entry args bound ≡ record { outcome = outcome_of (done tgt.seen 0) r'; events = events_of r' } = target_is p entry args bound g us first begun fit in
        rw (source, buffers, target) (same_run defs [] f.result r r' k.answer sound sim)

  runs_alike : DoesTheSame file (program_of file)
  runs_alike entry args bound fit =
      let b = some_there (src.start file entry args.items) fit in
      let st = started file entry args.items b.0 b.1 in
      let k = entry_there file.defs file.defs entry (each_def file.defs typed (EntryFits file.defs) (entry_fits file.defs)) st.named in
      subst (λ o. Same entry args bound b.0 st k o (tgt.c_run (program_of file) entry args bound)) (sym b.1) (started_same entry args bound b.0 st k)

-- ---- the theorem

pub does_the_same : (file : SourceFile) → AreWellTyped file.defs → AreBuilt file.defs → HaveFewVariables file.defs → DoesTheSame file (program_of file)
does_the_same file typed built few = runs_alike file typed built few (bodies_fit file.defs typed built (program_of file) (lookups file typed))
