-- What it means that a text is the C text of a file, and that a program of C does what a file of the source does.
use Rattle.std.specs.Prelude.{◌≡◌, ℕ, List, None, map}
use Rattle.krml_trace.specs.declared.arguments.Arguments.{Arguments}
use Rattle.krml_trace.specs.declared.bound.Bound.{Bound}
use Rattle.krml_trace.specs.Run.{NotStuck}
use Rattle.krml_syntax.specs.declared.tree.SourceFile.{SourceFile}
use Rattle.krml_ast.specs.declared.event.SourceEvent.{SourceEvent}
use Rattle.krml_ast.specs.declared.run.SourceRun.{SourceRun}
use Rattle.krml_ast.specs.declared.file.Emitted.{Emitted}
use Rattle.krml_ast.specs.FileTypes.{IsTypedFile, IsBundled}
use Rattle.krml_ast.specs.Leaves.{AreNarrow}
use Rattle.krml_meaning.specs.Meaning.{ArgumentsFit, source_run}
use Rattle.krml_meaning.specs.Sound.{RunsWell}
use Rattle.krml_ctree.specs.declared.event.CEvent.{CEvent}
use Rattle.krml_ctree.specs.declared.run.CRun.{CRun}
use Rattle.krml_ctree.specs.declared.tree.CProgram.{CProgram}
use Rattle.krml_ctree.specs.Meaning.{c_run}
use Rattle.krml_ctree.specs.Spelling.{SpelledAlone}
use Rattle.krml_ctree.specs.Text.{text_of}
use Rattle.krml_ctree.specs.WellFormed.{WellFormed}
use Rattle.krml_passing.specs.Hoisted.{file_hoisted}
use Rattle.krml_hoist.specs.Large.{first_large}
use Rattle.krml_bundle.specs.Emitted.{emitted_fun}
use Rattle.krml_bundle.specs.Bundled.{bundled, names_of, event_bundled, RunsAsBundled, FitAsBundled, NamesEntries}
use Rattle.krml_cstar.specs.Built.{AreBuilt}
use Rattle.krml_cstar.specs.Image.{image_c}
use Rattle.krml_cstar.specs.Theorem.{DoesTheSame}
use Rattle.krml_cstar.specs.Translation.{program_of}

-- ---- the passes before the translation

-- what they make of a file: its frames list their slots, and its definitions have the names that C has
abbrev pub passed : SourceFile → SourceFile
passed file = bundled (file_hoisted file)

-- The program of a file between passes: the steps that are still to be done make it. So a pass that gives exactly what its step
-- makes of a file keeps the program. Files without matches are left as they are.
abbrev pub program_of_hoisted : SourceFile → CProgram
program_of_hoisted file = program_of (bundled file)

abbrev pub program_of_plain : SourceFile → CProgram
program_of_plain file = program_of_hoisted (file_hoisted file)

abbrev pub program_of_checked : SourceFile → CProgram
program_of_checked file = program_of_plain file

-- What they gave for a file is that, with the name of each entry, and it keeps what runs of the file do. No type of the file has
-- more leaves than it may have, and no frame takes more bytes.
pub record IsPassed (file : SourceFile) (out : SourceFile × List Emitted) : Type 0 where
  pub is : out.0 ≡ passed file
  pub form : IsTypedFile file → IsBundled out.0 out.1
  pub built : AreBuilt out.0.defs
  pub listed : out.1 ≡ names_of file
  pub names : NamesEntries file out.1
  pub fits : FitAsBundled file out.0
  pub runs : RunsAsBundled file out.0
  pub narrow : AreNarrow file.defs
  pub small : first_large (file_hoisted file).defs ≡ None

-- ---- the translation and its text

-- What is emitted for a bundled file is the text of its program, which is well formed and does what the file does; the text
-- spells that program alone.
pub record IsEmitted (file : SourceFile) (text : List ℕ) : Type 0 where
  pub program : CProgram
  pub translated : program ≡ program_of file
  pub is : text ≡ text_of program
  pub well_formed : WellFormed program
  pub alone : SpelledAlone text program
  pub does : DoesTheSame file program

-- ---- all of it

-- The events of C that stand for those of a run of a file: they have the names that C has for the file's.
abbrev pub events_in_c : SourceFile → List SourceEvent → List CEvent
events_in_c file es = image_c (passed file).defs (map event_bundled es)

-- A run of C does what a run of a file does: the outcomes are the same, and the events are the image of the source's.
pub record RunsAlike (file : SourceFile) (source : SourceRun) (c : CRun) : Type 0 where
  pub outcome : c.outcome ≡ source.outcome
  pub events : c.events ≡ events_in_c file source.events

-- A program does what a file does: for each entry of the file, all arguments that fit it and each bound, where the run of
-- the source is not stuck, the function that the entry became does the same on these arguments under this bound.
abbrev pub IsImplementedBy : SourceFile → CProgram → Type 0
IsImplementedBy file program = (entry : List ℕ) (args : Arguments) (bound : Bound) → ArgumentsFit file entry args
    → NotStuck (source_run file entry args bound).outcome
    → RunsAlike file (source_run file entry args bound) (c_run program (emitted_fun entry) args bound)

-- A text is the C text of a file: that of the program which all steps make of the file. The program is well formed, the
-- text spells it alone, and it does what the file does. What `name_of` gives for an entry is the name of the function that is run.
pub record IsCompiled (file : SourceFile) (text : List ℕ) : Type 0 where
  pub program : CProgram
  pub translated : program ≡ program_of_checked file
  pub is : text ≡ text_of program
  pub well_formed : WellFormed program
  pub alone : SpelledAlone text program
  pub named : NamesEntries file (names_of file)
  pub implemented : IsImplementedBy file program

-- Each run of an entry on arguments that fit it ends as one of its function: it is done, with a result exactly where the
-- function has one, or it wants for ticks or levels, or is stuck.
abbrev pub EachRunsWell : SourceFile → Type 0
EachRunsWell file = (entry : List ℕ) (args : Arguments) (bound : Bound) → ArgumentsFit file entry args → RunsWell file entry args bound
