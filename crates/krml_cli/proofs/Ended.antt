-- How the steps of a call make its end.
use Rattle.std.proofs.Common.{◌≡◌, ℕ, List, Option, Some, None, Result, Ok, Err, subst, sym, ap, ◌∙◌, true≢false}
use Rattle.std.specs.Result.{IsErr, IsErrAnd}
use Rattle.std.specs.Io.KnownBytes.{Appends}
use Rattle.krml_trace.specs.declared.outside.SinkFault.TheVariants as fault
use Rattle.krml_syntax.specs.declared.tree.SourceFile.{SourceFile}
use Rattle.krml_syntax.specs.File.{SpellsFile}
use Rattle.krml_ast.specs.declared.file.Emitted.{Emitted}
use Rattle.krml_ast.specs.FileTypes.{IsTypedFile, IsBundled}
use Rattle.krml_ast.specs.WellTyped.{AreWellTyped}
use Rattle.krml_meaning.specs.Sound.{CheckedFilesRun}
use Rattle.krml_reader.specs.declared.refusal.ReadRefusal.{ReadRefusal}
use Rattle.krml_reader.specs.declared.refusal.ReadRefusal.TheVariants as read
use Rattle.krml_reader.specs.Read.{IsRefused}
use Rattle.krml_types.specs.declared.refusal.TypeRefusal.{TypeRefusal}
use Rattle.krml_types.specs.declared.refusal.TypeRefusal.TheVariants as types
use Rattle.krml_types.specs.Check.{IsRightAnswer}
use Rattle.krml_match.specs.declared.refusal.MatchRefusal.TheVariants as m
use Rattle.krml_hoist.specs.declared.refusal.HoistRefusal.TheVariants as o
use Rattle.krml_cstar.specs.Built.{AreBuilt, first_unbuilt, IsFirstUnbuilt}
use Rattle.krml_command.specs.declared.request.Command.{Command}
use Rattle.krml_command.specs.declared.request.Command.TheVariants.{C, Check}
use Rattle.krml_cli.specs.declared.output.Output.{Output}
use Rattle.krml_cli.specs.declared.refusal.FileRefusal.{FileRefusal}
use Rattle.krml_cli.specs.declared.refusal.FileRefusal.TheVariants as refusal
use Rattle.krml_cli.specs.declared.stop.Stop.{Stop}
use Rattle.krml_cli.specs.declared.stop.Stop.TheVariants as stop
use Rattle.krml_cli.specs.Accept.{AcceptsAs, IsAnswered, IsNotBuiltAt, PassesAnswer}
use Rattle.krml_cli.specs.Ends.{CompilesTo, IsAccepted, Makes, AppendsPrefix, WritesAll, Call, Unwritten, Stops, Ends, line_of, status_of}
use Rattle.krml_cli.specs.Refusal.{Accepts, Refuses, of_read, of_type}
use Rattle.krml_cli.specs.Steps.{MakesOf, Runs, Notes, Reports}
use Rattle.krml_cli.specs.Theorem.{IsEmitted, EachRunsWell}
use Rattle.krml_cli.proofs.Compiled.{compiled_by}
use Rattle.krml_cli.proofs.Refusals.{asks_is_no_usage}
use Rattle.krml_cli.proofs.built.Unbuilt.{all_built}

-- ---- accepting an input

abbrev Answer : Type 0
Answer = Result (SourceFile × List Emitted) FileRefusal

refuses_by : (text : List ℕ) (why : FileRefusal) (r : Answer) → IsErr r → IsErrAnd r (λ e. e ≡ why) → IsAnswered text (Err why) → IsAnswered text r
refuses_by text why (Ok out) is e h = absurd (true≢false (sym is))
refuses_by text why (Err w) is e h = subst (λ v. IsAnswered text (Err v)) (sym e) h

-- a text that was not read
pub unread_by : (text : List ℕ) (why : ReadRefusal) (r : Answer) → IsErr r → IsErrAnd r (λ e. e ≡ of_read why) → IsRefused text (Err why) → IsAnswered text r
unread_by text why r is e h = refuses_by text (of_read why) r is e (at why h)
  where
    at : (why : ReadRefusal) → IsRefused text (Err why) → IsAnswered text (Err (of_read why))
    at read.TooLarge h = λ command. Refuses.unread h
    at (read.Syntax n) h = λ command. Refuses.unread h
    at (read.Nesting n) h = λ command. Refuses.unread h
    at (read.Shape n) h = λ command. Refuses.unread h
    at (read.Limit kind n) h = λ command. Refuses.unread h
    at read.NoMemory h = tt

-- one that spells a file with a definition that is not well typed
pub ill_typed_by : (A : Type 0) (text : List ℕ) (file : SourceFile) (why : TypeRefusal) (r : Answer) → IsErr r → IsErrAnd r (λ e. e ≡ of_type why) → SpellsFile text file
    → IsRightAnswer {A = A} file.defs (Err why) → IsAnswered text r
ill_typed_by A text file why r is e s h = refuses_by text (of_type why) r is e (at why h)
  where
    at : (why : TypeRefusal) → IsRightAnswer {A = A} file.defs (Err why) → IsAnswered text (Err (of_type why))
    at (types.Fault def) h = λ command. Refuses.ill_typed s h
    at types.NoMemory h = tt

-- or with one that is not built
pub unbuilt_by : (text : List ℕ) (file typed seen : SourceFile) (why : FileRefusal) (k : ℕ) → SpellsFile text file → typed ≡ file → AreWellTyped file.defs → seen ≡ typed
    → first_unbuilt seen.defs ≡ Some k → IsNotBuiltAt k why → IsAnswered text (Err why)
unbuilt_by text file typed seen why k s e t f u h = at why h (subst (λ (z : SourceFile). IsFirstUnbuilt z.defs k) (f ∙ e) u)
  where
    at : (why : FileRefusal) → IsNotBuiltAt k why → IsFirstUnbuilt file.defs k → IsAnswered text (Err why)
    at (refusal.NotBuilt def) h u = λ command. Refuses.not_built s t (u ∙ ap Some (sym h))
    at refusal.NoMemory h u = tt
    at (refusal.Read why) h u = absurd h
    at (refusal.«Type» def) h u = absurd h
    at (refusal.Wide why) h u = absurd h
    at (refusal.Frame why) h u = absurd h

-- what has no definition that is not built is built
pub built_by : (typed seen : SourceFile) → seen ≡ typed → first_unbuilt seen.defs ≡ None → AreBuilt typed.defs
built_by typed seen f n = subst (λ (z : SourceFile). AreBuilt z.defs) f (all_built seen.defs n)

-- one whose definitions are all well typed and built, where the passes answer
pub passed_by : (text : List ℕ) (file typed seen : SourceFile) (r : Answer) → SpellsFile text file → typed ≡ file → AreWellTyped file.defs → seen ≡ typed
    → first_unbuilt seen.defs ≡ None → PassesAnswer typed r → IsAnswered text r
passed_by text file typed seen r s e t f n h = at r h
  where
    spelled : SpellsFile text typed
    spelled = subst (SpellsFile text) (sym e) s

    well : AreWellTyped typed.defs
    well = subst (λ (z : SourceFile). AreWellTyped z.defs) (sym e) t

    built : AreBuilt typed.defs
    built = built_by typed seen f n

    at : (r : Answer) → PassesAnswer typed r → IsAnswered text r
    at (Ok out) h = record {
      file = typed;
      accepts = record { spelled = spelled; typed = well; built = built; narrow = h.narrow; small = h.small };
      passed = h;
    }
    at (Err (refusal.Wide (m.Wide x k))) h = λ command. Refuses.wide spelled well built h
    at (Err (refusal.Wide m.NoMemory)) h = absurd h
    at (Err (refusal.Frame (o.FrameTooLarge x k))) h = λ command. Refuses.large spelled well built h.0 h.1
    at (Err (refusal.Frame o.NoMemory)) h = absurd h
    at (Err refusal.NoMemory) h = tt
    at (Err (refusal.Read why)) h = absurd h
    at (Err (refusal.«Type» def)) h = absurd h
    at (Err (refusal.NotBuilt def)) h = absurd h

-- ---- the answer of a command

-- the file of an input that is accepted is a typed one
pub typed_by : (input : List ℕ) (file : SourceFile) → Accepts input file → IsTypedFile file
typed_by input file a = record { spelled = record { text = input; spells = a.spelled }; typed = a.typed }

-- its runs end as they should
runs_well : CheckedFilesRun → (input : List ℕ) (file : SourceFile) → Accepts input file → EachRunsWell file
runs_well law input file a = λ entry args bound fit. law file entry args bound (typed_by input file a) fit

-- an input that is accepted
is_accepted : CheckedFilesRun → (input : List ℕ) (file : SourceFile) → Accepts input file → IsAccepted input
is_accepted law input file a = record { file = file; accepted = a; sound = runs_well law input file a }

-- what was emitted for the file of one
compiles_by : CheckedFilesRun → (input text : List ℕ) (out : SourceFile × List Emitted) → AcceptsAs input out → (IsBundled out.0 out.1 → IsEmitted out.0 text) → CompilesTo input text
compiles_by law input text out a h = record {
  file = a.file;
  accepted = a.accepts;
  compiled = compiled_by a.file out text (typed_by input a.file a.accepts) a.passed h;
  sound = runs_well law input a.file a.accepts;
}

-- what a command made of what the passes gave for one
pub makes_by : CheckedFilesRun → (command : Command) (input text : List ℕ) (status : ℕ) (out : SourceFile × List Emitted) → AcceptsAs input out → MakesOf command out text status
    → Makes command input text status
makes_by law C input text status out a h = (compiles_by law input text out a h.0, h.1)
makes_by law Check input text status out a h = (is_accepted law input a.file a.accepts, h.0, h.1)

-- a call that stops before anything is written
pub stops_by : (c : Call) (why : Stop) → Runs c.words c.left c.left' c.read_faults c.read_faults' (Err why) → Unwritten c → Stops c why
stops_by c stop.Usage h u = Stops.usage h.0 h.1 h.2 u
stops_by c stop.ReadFault h u = Stops.read_fault h.0.1 h.1 h.2 u
stops_by c (stop.Refused why) h u = let r = h.0 in Stops.refused r.asked r.taken r.refused h.1 u
stops_by c stop.WriteFault h u = absurd h
stops_by c stop.NoMemory h u = Stops.no_memory h.0 h.1 u

-- what was written is the line that was made
pub same_line : {noted noted' : Option (List ℕ)} {faults faults' own status : ℕ} (line other : List ℕ) → line ≡ other → Notes noted noted' faults faults' line own status → Notes noted noted' faults faults' other own status
same_line {noted = noted} {noted' = noted'} {faults = faults} {faults' = faults'} {own = own} {status = status} line other e h = subst (λ l. Notes noted noted' faults faults' l own status) e h

-- a call that stops and notes why
noted_by : (c : Call) (why : Stop) (status : ℕ) → Stops c why → Notes c.noted c.noted' c.note_faults c.note_faults' (line_of why) (status_of why) status → Ends c status
noted_by c why _ s (Notes.whole a q) = Ends.noted s a q
noted_by c why _ s (Notes.failed a l r) = Ends.note_failed s a l r
noted_by c why _ s (Notes.lacked_memory a q) = Ends.note_lacked_memory s a q

-- where a call was refused it may lack memory
lacks : (c : Call) (why : FileRefusal) → Stops c (stop.Refused why) → Stops c stop.NoMemory
lacks c why (Stops.refused {command = command} w t r q u) = Stops.no_memory (λ h. absurd (asks_is_no_usage c.words command w h)) q u

-- a call that stops and reports why
pub ends_by : (c : Call) (why : Stop) (status : ℕ) → Stops c why → Reports c.noted c.noted' c.note_faults c.note_faults' status why → Ends c status
ends_by c why status s (Reports.made n) = noted_by c why status s n
ends_by c _ status s (Reports.unmade {why = why} n) = noted_by c stop.NoMemory status (lacks c why s) n

-- a call whose whole output was written
pub done_by : (c : Call) (out : Output) (piece : List ℕ) → piece ≡ out.text.items → Runs c.words c.left c.left' c.read_faults c.read_faults' (Ok out) → Appends c.written c.written' piece × (c.write_faults' ≡ c.write_faults)
    → c.noted' ≡ c.noted → c.note_faults' ≡ c.note_faults → Ends c out.status
done_by c out piece e r w n m = Ends.done r.0 r.1 (subst (Appends c.written c.written') e w.0) w.1 n m

-- a call whose output failed
pub failed_by : (c : Call) (out : Output) (piece : List ℕ) → piece ≡ out.text.items → Runs c.words c.left c.left' c.read_faults c.read_faults' (Ok out) → WritesAll c.written c.written' c.write_faults c.write_faults' piece (Err fault.Failed)
    → Stops c stop.WriteFault
failed_by c out piece e r w = Stops.write_fault r.0 r.1 (subst (AppendsPrefix c.written c.written') e w.0) w.1 w.2

-- a call whose output lacked memory
pub lacked_by : (c : Call) (out : Output) (piece : List ℕ) → piece ≡ out.text.items → Runs c.words c.left c.left' c.read_faults c.read_faults' (Ok out) → WritesAll c.written c.written' c.write_faults c.write_faults' piece (Err fault.NoMemory)
    → Stops c stop.NoMemory
lacked_by c out piece e r w = Stops.no_memory_to_write r.0 r.1 (subst (AppendsPrefix c.written c.written') e w.0) w.1
