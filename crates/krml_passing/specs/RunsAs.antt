-- What a pass keeps of a file: each run of an entry, with the same outcome, and with events that are the images of its own.
use Rattle.std.specs.Prelude.{◌≡◌, ℕ, List, map}
use Rattle.krml_trace.specs.declared.arguments.Arguments.{Arguments}
use Rattle.krml_trace.specs.declared.bound.Bound.{Bound}
use Rattle.krml_syntax.specs.declared.tree.SourceFile.{SourceFile}
use Rattle.krml_ast.specs.declared.event.SourceEvent.{SourceEvent}
use Rattle.krml_ast.specs.declared.run.SourceRun.{SourceRun}
use Rattle.krml_meaning.specs.Meaning.{ArgumentsFit, source_run}

abbrev pub run_image : (SourceEvent → SourceEvent) → SourceRun → SourceRun
run_image event r = record { outcome = r.outcome; events = map event r.events }

-- Each run of an entry of the first file is one of the second: of that entry's image, on the same arguments, under the same
-- bound. The outcome is the same, whatever it is, and the events are the images of the first run's.
abbrev pub RunsAs : (List ℕ → List ℕ) → (SourceEvent → SourceEvent) → SourceFile → SourceFile → Type 0
RunsAs entry_image event file to = (entry : List ℕ) (args : Arguments) (bound : Bound)
    → source_run to (entry_image entry) args bound ≡ run_image event (source_run file entry args bound)

-- Arguments that fit an entry of the first file fit its image in the second.
abbrev pub FitsAs : (List ℕ → List ℕ) → SourceFile → SourceFile → Type 0
FitsAs entry_image file to = (entry : List ℕ) (args : Arguments) → ArgumentsFit file entry args → ArgumentsFit to (entry_image entry) args
