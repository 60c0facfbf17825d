-- What the steps of the command do.
use Rattle.std.specs.Prelude.{◌≡◌, ℕ, ◌≤◌, List, Option, Result, Ok, Err}
use Rattle.std.specs.Io.KnownBytes.{Appends}
use Rattle.krml_trace.specs.Outside.{Rose}
use Rattle.krml_command.specs.declared.refusal.WordsRefusal.{WordsRefusal}
use Rattle.krml_command.specs.declared.refusal.WordsRefusal.TheVariants as words
use Rattle.krml_syntax.specs.declared.tree.SourceFile.{SourceFile}
use Rattle.krml_ast.specs.declared.file.Emitted.{Emitted}
use Rattle.krml_ast.specs.FileTypes.{IsBundled}
use Rattle.krml_command.specs.declared.request.Command.{Command}
use Rattle.krml_command.specs.declared.request.Command.TheVariants.{C, Check}
use Rattle.krml_cli.specs.declared.output.Output.{Output}
use Rattle.krml_cli.specs.declared.refusal.FileRefusal.{FileRefusal}
use Rattle.krml_cli.specs.declared.refusal.FileRefusal.TheVariants as refusal
use Rattle.krml_cli.specs.declared.stop.Stop.{Stop}
use Rattle.krml_cli.specs.declared.stop.Stop.TheVariants as stop
use Rattle.krml_cli.specs.Ends.{Asks, IsUsage, Taken, Makes, IsOutput, AppendsPrefix, accepted_line, status_of, line_of}
use Rattle.krml_cli.specs.Refusal.{Refuses}
use Rattle.krml_cli.specs.Theorem.{IsEmitted}

-- What a command answers to an input.
abbrev pub Answers : Command → List ℕ → Result Output FileRefusal → Type 0
Answers command input (Ok out) = Makes command input out.text.items out.status
Answers command input (Err refusal.NoMemory) = Unit {0}
Answers command input (Err why) = Refuses input command why

-- What a command makes of what the passes gave: the text of C for it, or what `check` writes; and its status.
abbrev pub MakesOf : Command → SourceFile × List Emitted → List ℕ → ℕ → Type 0
MakesOf C out text status = (IsBundled out.0 out.1 → IsEmitted out.0 text) × (status ≡ 0)
MakesOf Check out text status = (text ≡ accepted_line) × (status ≡ 0)

-- a refusal for want of memory is want of memory
abbrev pub of_refusal : FileRefusal → Stop
of_refusal refusal.NoMemory = stop.NoMemory
of_refusal why = stop.Refused why

abbrev pub of_words : WordsRefusal → Stop
of_words words.Usage = stop.Usage
of_words words.NoMemory = stop.NoMemory

-- The words ask for a command, the input was taken, and the command refuses it.
pub record IsRefused (words : List (List ℕ)) (left left' : Option (List ℕ)) (why : FileRefusal) : Type 0 where
  pub command : Command
  pub input : List ℕ
  pub asked : Asks words command
  pub taken : Taken command left left' input
  pub refused : Refuses input command why

-- What a command makes of the words and the source.
abbrev pub Runs : List (List ℕ) → (left left' : Option (List ℕ)) (faults faults' : ℕ) → Result Output Stop → Type 0
Runs words left left' faults faults' (Ok out) = IsOutput words left left' out.text.items out.status × (faults' ≡ faults)
Runs words left left' faults faults' (Err stop.Usage) = IsUsage words × (left' ≡ left) × (faults' ≡ faults)
Runs words left left' faults faults' (Err stop.ReadFault) = ((command : Command) × Asks words command) × (faults ≤ faults') × Rose faults faults'
Runs words left left' faults faults' (Err (stop.Refused why)) = IsRefused words left left' why × (faults' ≡ faults)
Runs words left left' faults faults' (Err stop.WriteFault) = ⊥
Runs words left left' faults faults' (Err stop.NoMemory) = (IsUsage words → left' ≡ left) × (faults' ≡ faults)

-- The status behind a line that was written to the notes, where the whole line has a status of its own.
pub data Notes (noted noted' : Option (List ℕ)) (faults faults' : ℕ) (line : List ℕ) (own : ℕ) : ℕ → Type 0 where
  whole : Appends noted noted' line → faults' ≡ faults → Notes noted noted' faults faults' line own own
  failed : AppendsPrefix noted noted' line → faults ≤ faults' → Rose faults faults' → Notes noted noted' faults faults' line own 4
  lacked_memory : AppendsPrefix noted noted' line → faults' ≡ faults → Notes noted noted' faults faults' line own 5

-- The status behind the line of what stopped a command, or, where there was no memory to make that of a refusal, behind
-- the line of that.
pub data Reports (noted noted' : Option (List ℕ)) (faults faults' : ℕ) (status : ℕ) : Stop → Type 0 where
  made : {why : Stop} → Notes noted noted' faults faults' (line_of why) (status_of why) status → Reports noted noted' faults faults' status why
  unmade : {why : FileRefusal} → Notes noted noted' faults faults' (line_of stop.NoMemory) (status_of stop.NoMemory) status → Reports noted noted' faults faults' status (stop.Refused why)
