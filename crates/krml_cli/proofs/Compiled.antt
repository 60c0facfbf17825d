-- How the clauses of the passes make what they give for a file, and those of the translation its C text.
use Rattle.std.proofs.Common.{◌≡◌, ℕ, true, if◌then◌else◌, List, [], ◌∷◌, map, flat_map, Some, None, Result, Ok, Err, true≢false, refl, sym, ap, ◌∙◌, subst}
use Rattle.std.specs.Result.{IfOk, IsErr, IsErrAnd}
use Rattle.std.specs.Str.{bytes_eq}
use Rattle.krml_trace.specs.Run.{NotStuck}
use Rattle.krml_syntax.specs.declared.tree.Def.{Def}
use Rattle.krml_syntax.specs.declared.tree.Def.TheVariants as d
use Rattle.krml_syntax.specs.declared.tree.SourceFile.{SourceFile}
use Rattle.krml_ast.specs.declared.file.Emitted.{Emitted}
use Rattle.krml_ast.specs.declared.run.SourceRun.{SourceRun}
use Rattle.krml_ast.specs.FileTypes.{EachRole, IsTypedFile, IsMono, IsPlain, IsBundled}
use Rattle.krml_meaning.specs.Meaning.{ArgumentsFit, source_run, has_entry}
use Rattle.krml_rename.specs.Pass.{def_with}
use Rattle.krml_passing.specs.Hoisted.{body_hoisted, file_hoisted}
use Rattle.krml_passing.specs.RunsAs.{RunsAs, FitsAs}
use Rattle.krml_passing.proofs.RunsAs.{runs_then}
use Rattle.krml_match.specs.declared.refusal.MatchRefusal.{MatchRefusal}
use Rattle.krml_match.specs.declared.refusal.MatchRefusal.TheVariants as m
use Rattle.krml_match.specs.Wide.{first_wide, IsRefusedRightly}
use Rattle.krml_match.proofs.Walk.{none_wide}
use Rattle.krml_hoist.specs.declared.refusal.HoistRefusal.{HoistRefusal}
use Rattle.krml_hoist.specs.declared.refusal.HoistRefusal.TheVariants as o
use Rattle.krml_hoist.specs.Large.{first_large}
use Rattle.krml_hoist.specs.Refusing.{Refuses as RefusesFrame}
use Rattle.krml_ctree.specs.declared.tree.CProgram.{CProgram}
use Rattle.krml_bundle.specs.Emitted.{emitted_fun}
use Rattle.krml_bundle.specs.Bundled.{bundled, names_of_def, names_of, event_bundled, run_bundled, RunsAsBundled, FitAsBundled, NamesEntries}
use Rattle.krml_cstar.specs.Built.{AreBuilt}
use Rattle.krml_cstar.specs.Image.{image_c}
use Rattle.krml_cstar.specs.Theorem.{IsOrdinary, DoesTheSame}
use Rattle.krml_cstar.specs.Translation.{program_of}
use Rattle.krml_cli.specs.declared.refusal.FileRefusal.{FileRefusal}
use Rattle.krml_cli.specs.Accept.{PassesAnswer}
use Rattle.krml_cli.specs.Refusal.{of_match, of_hoist}
use Rattle.krml_cli.specs.Theorem.{passed, IsPassed, IsEmitted, IsImplementedBy, IsCompiled}
use Rattle.krml_cli.proofs.built.Bundled.{built_bundled}
use Rattle.krml_cli.proofs.built.Hoisted.{ordinary_left}

-- ---- entries of a hoisted file

same_entries : (defs : List Def) (x : List ℕ) → has_entry (map (def_with body_hoisted) defs) x ≡ has_entry defs x
same_entries [] x = refl
same_entries (d.Struct name vars fields ∷ defs) x = same_entries defs x
same_entries (d.Sum name vars cons ∷ defs) x = same_entries defs x
same_entries (d.Table name i nums ∷ defs) x = same_entries defs x
same_entries (d.Fun name vars params result body ∷ defs) x = same_entries defs x
same_entries (d.Entry name ∷ defs) x = ap (λ z. if bytes_eq name x then true else z) (same_entries defs x)

same_names_here : (def : Def) → names_of_def (def_with body_hoisted def) ≡ names_of_def def
same_names_here (d.Struct name vars fields) = refl
same_names_here (d.Sum name vars cons) = refl
same_names_here (d.Table name i nums) = refl
same_names_here (d.Fun name vars params result body) = refl
same_names_here (d.Entry name) = refl

same_names : (defs : List Def) → flat_map names_of_def (map (def_with body_hoisted) defs) ≡ flat_map names_of_def defs
same_names [] = refl
same_names (def ∷ defs) = rw (same_names_here def, same_names defs) refl

names_left : (file : SourceFile) (names : List Emitted) → NamesEntries (file_hoisted file) names → NamesEntries file names
names_left file names h x = h x ∙ ap (λ b. if b then Some (emitted_fun x) else None) (same_entries file.defs x)

-- ---- the passes before the translation

abbrev Answer : Type 0
Answer = Result (SourceFile × List Emitted) FileRefusal

refuses_by : (file : SourceFile) (why : FileRefusal) (r : Answer) → IsErr r → IsErrAnd r (λ e. e ≡ why) → PassesAnswer file (Err why) → PassesAnswer file r
refuses_by file why (Ok out) is e h = absurd (true≢false (sym is))
refuses_by file why (Err w) is e h = subst (λ v. PassesAnswer file (Err v)) (sym e) h

-- a file with a type that is too wide
pub wide_by : (A : Type 0) (file : SourceFile) (why : MatchRefusal) (r : Answer) → IsErr r → IsErrAnd r (λ e. e ≡ of_match why) → IsRefusedRightly {A = A} file.defs (Err why) → PassesAnswer file r
wide_by A file why r is e h = refuses_by file (of_match why) r is e (at why h)
  where
    at : (why : MatchRefusal) → IsRefusedRightly {A = A} file.defs (Err why) → PassesAnswer file (Err (of_match why))
    at (m.Wide x n) h = h
    at m.NoMemory h = tt

-- one with a frame that is too large
pub large_by : (file plain : SourceFile) (why : HoistRefusal) (r : Answer) → IsErr r → IsErrAnd r (λ e. e ≡ of_hoist why) → plain ≡ file → first_wide file.defs ≡ None
    → RefusesFrame (first_large (file_hoisted plain).defs) why → PassesAnswer file r
large_by file plain why r is e same none h = refuses_by file (of_hoist why) r is e (at why (subst (λ (f : SourceFile). RefusesFrame (first_large (file_hoisted f).defs) why) same h))
  where
    at : (why : HoistRefusal) → RefusesFrame (first_large (file_hoisted file).defs) why → PassesAnswer file (Err (of_hoist why))
    at (o.FrameTooLarge x n) h = (none_wide file.defs none, h)
    at o.NoMemory h = tt

-- the form of a plain file, from that of the file whose types were checked
pub form_by : (file mono : SourceFile) (r : Result SourceFile MatchRefusal) → mono ≡ file → (IsTypedFile file → IsMono file)
    → IfOk r (λ p. IsMono mono → IsPlain p) → IfOk r (λ p. IsTypedFile file → IsPlain p)
form_by file mono (Ok p) same is h = λ typed. h (subst IsMono (sym same) (is typed))
form_by file mono (Err why) same is h = tt

-- what the passes said of a file of which nothing is left to hoist
pub passed_by : (file plain hoisted : SourceFile) (out : SourceFile × List Emitted) → AreBuilt file.defs → EachRole IsOrdinary file.defs → plain ≡ file
    → first_wide file.defs ≡ None → hoisted ≡ file_hoisted plain → first_large hoisted.defs ≡ None → RunsAs (λ x. x) (λ e. e) plain hoisted → FitsAs (λ x. x) plain hoisted
    → out ≡ (bundled hoisted, names_of hoisted) → (IsTypedFile file → IsBundled out.0 out.1) → NamesEntries hoisted out.1
    → FitAsBundled hoisted out.0 → RunsAsBundled hoisted out.0 → IsPassed file out
passed_by file plain hoisted out built ordinary same none is small runs fits bundle form names fits' runs' =
    let of_file : hoisted ≡ file_hoisted file = is ∙ ap file_hoisted same in
    record {
      is = ap (λ r. r.0) bundle ∙ ap bundled of_file;
      form = form;
      built = subst (λ (f : SourceFile). AreBuilt f.defs) (sym (ap (λ r. r.0) bundle ∙ ap bundled (of_file ∙ ordinary_left file ordinary))) (built_bundled file.defs built);
      listed = ap (λ r. r.1) bundle ∙ ap names_of of_file ∙ same_names file.defs;
      names = names_left file out.1 (subst (λ f. NamesEntries f out.1) of_file names);
      fits = λ entry args fit. fits' entry args (fits entry args (subst (λ (f : SourceFile). ArgumentsFit f entry args) (sym same) fit));
      runs = subst (λ f. RunsAsBundled f out.0) same (runs_then (λ x. x) emitted_fun (λ e. e) event_bundled plain hoisted out.0 runs runs');
      narrow = none_wide file.defs none;
      small = subst (λ (f : SourceFile). first_large f.defs ≡ None) of_file small;
    }

-- ---- the translation

-- a program that does what a bundled file does, does what the file does that was bundled
implemented_by : (file to : SourceFile) (program : CProgram) → to ≡ passed file → RunsAsBundled file to → FitAsBundled file to → DoesTheSame to program → IsImplementedBy file program
implemented_by file to program is runs fits same = λ entry args bound fit going.
    let e : source_run to (emitted_fun entry) args bound ≡ run_bundled (source_run file entry args bound) = runs entry args bound in
    let h = same (emitted_fun entry) args bound (fits entry args fit) (subst (λ (z : SourceRun). NotStuck z.outcome) (sym e) going) in
    record {
      outcome = h.0 ∙ ap (λ (z : SourceRun). z.outcome) e;
      events = h.1 ∙ ap (λ (z : SourceRun). image_c to.defs z.events) e ∙ ap (λ (f : SourceFile). image_c f.defs (map event_bundled (source_run file entry args bound).events)) is;
    }

-- what is emitted for what the passes gave is the C text of the file
pub compiled_by : (file : SourceFile) (out : SourceFile × List Emitted) (text : List ℕ) → IsTypedFile file → IsPassed file out
    → (IsBundled out.0 out.1 → IsEmitted out.0 text) → IsCompiled file text
compiled_by file out text typed p emitted =
    let e = emitted (p.form typed) in
    record {
      program = e.program;
      translated = e.translated ∙ ap program_of p.is;
      is = e.is;
      well_formed = e.well_formed;
      alone = e.alone;
      named = subst (NamesEntries file) (p.listed) p.names;
      implemented = implemented_by file out.0 e.program p.is p.runs p.fits e.does;
    }
