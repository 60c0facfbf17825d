-- What a call of the program does at its three ends: the source, the output, the notes.
use Rattle.std.specs.Prelude.{◌≡◌, ℕ, ◌+◌, ◌≤◌, ◌⊎◌, List, [], ◌++◌, length, codes, Option, Some, None, Result, Ok, Err, Vec}
use Rattle.std.specs.declared.alloc.Global.{Global}
use Rattle.std.specs.Io.KnownBytes.{Consumes, Appends, IsAtEnd}
use Rattle.krml_trace.specs.Outside.{Rose}
use Rattle.krml_trace.specs.declared.outside.SinkFault.{SinkFault}
use Rattle.krml_trace.specs.declared.outside.SinkFault.TheVariants as fault
use Rattle.krml_syntax.specs.declared.tree.SourceFile.{SourceFile}
use Rattle.krml_command.specs.declared.request.Command.{Command}
use Rattle.krml_command.specs.declared.request.Command.TheVariants.{C, Check}
use Rattle.krml_command.specs.declared.request.Request.{Request}
use Rattle.krml_command.specs.Request.{request_of}
use Rattle.krml_trace.specs.Limits.{max_text}
use Rattle.krml_cli.specs.declared.stop.Stop.{Stop}
use Rattle.krml_cli.specs.declared.stop.Stop.TheVariants as stop
use Rattle.krml_cli.specs.declared.refusal.FileRefusal.{FileRefusal}
use Rattle.krml_cli.specs.Refusal.{Accepts, Refuses, IsCause, refusal_line}
use Rattle.krml_cli.specs.Theorem.{IsCompiled, EachRunsWell}

-- the bytes of a command's input at the most
abbrev pub limit_of : Command → ℕ
limit_of C = max_text
limit_of Check = max_text

-- The input of a command was taken to its end, or to one byte past its limit.
pub record Taken (command : Command) (left left' : Option (List ℕ)) (input : List ℕ) : Type 0 where
  pub consumed : Consumes left left' input
  pub short : length input ≤ limit_of command + 1
  pub whole : length input ≤ limit_of command → IsAtEnd left'

-- A prefix of a piece was appended.
pub record AppendsPrefix (written written' : Option (List ℕ)) (piece : List ℕ) : Type 0 where
  pub prefix : List ℕ
  pub rest : List ℕ
  pub is : piece ≡ prefix ++ rest
  pub appended : Appends written written' prefix

-- What writing a piece until none is left did.
abbrev pub WritesAll : (written written' : Option (List ℕ)) (faults faults' : ℕ) (piece : List ℕ) → Result (Unit {0}) SinkFault → Type 0
WritesAll written written' faults faults' piece (Ok u) = Appends written written' piece × (faults' ≡ faults)
WritesAll written written' faults faults' piece (Err fault.Failed) = AppendsPrefix written written' piece × (faults ≤ faults') × Rose faults faults'
WritesAll written written' faults faults' piece (Err fault.NoMemory) = AppendsPrefix written written' piece × (faults' ≡ faults)

-- What reading the input of a command did.
abbrev pub TakesInput : Command → (left left' : Option (List ℕ)) (faults faults' : ℕ) → Result (Vec ℕ Global) Stop → Type 0
TakesInput command left left' faults faults' (Ok input) = Taken command left left' input.items × (faults' ≡ faults)
TakesInput command left left' faults faults' (Err stop.ReadFault) = (faults ≤ faults') × Rose faults faults'
TakesInput command left left' faults faults' (Err stop.NoMemory) = faults' ≡ faults
TakesInput command left left' faults faults' (Err _) = ⊥

-- The words ask for a command. No pass is stored.
pub record Asks (words : List (List ℕ)) (command : Command) : Type 0 where
  pub request : Request
  pub is : request_of [] words ≡ Some request
  pub asked : request.command ≡ command

-- The words ask for none.
abbrev pub IsUsage : List (List ℕ) → Type 0
IsUsage words = request_of [] words ≡ None

-- An input compiles to a text: it is accepted, the text is the C text of its file, and the file's runs end as they should.
pub record CompilesTo (input text : List ℕ) : Type 0 where
  pub file : SourceFile
  pub accepted : Accepts input file
  pub compiled : IsCompiled file text
  pub sound : EachRunsWell file

-- An input is accepted, as some file, whose runs end as they should.
pub record IsAccepted (input : List ℕ) : Type 0 where
  pub file : SourceFile
  pub accepted : Accepts input file
  pub sound : EachRunsWell file

-- what `check` writes
abbrev pub accepted_line : List ℕ
accepted_line = codes "accepted\n"

-- A command makes a text of an input, and ends with a status once that is written.
abbrev pub Makes : Command → (input text : List ℕ) → (status : ℕ) → Type 0
Makes C input text status = CompilesTo input text × (status ≡ 0)
Makes Check input text status = IsAccepted input × (text ≡ accepted_line) × (status ≡ 0)

-- No file is accepted.
abbrev pub AcceptsNone : List ℕ → Type 0
AcceptsNone input = (file : SourceFile) → Accepts input file → ⊥

-- The words ask for a command, the input was taken, and the command makes this text of it, with this status.
pub record IsOutput (words : List (List ℕ)) (left left' : Option (List ℕ)) (text : List ℕ) (status : ℕ) : Type 0 where
  pub command : Command
  pub input : List ℕ
  pub asked : Asks words command
  pub taken : Taken command left left' input
  pub made : Makes command input text status

abbrev pub status_of : Stop → ℕ
status_of (stop.Refused why) = 1
status_of stop.Usage = 2
status_of stop.ReadFault = 3
status_of stop.WriteFault = 4
status_of stop.NoMemory = 5

abbrev pub line_of : Stop → List ℕ
line_of (stop.Refused why) = refusal_line why
line_of stop.Usage = codes "krml: usage\n"
line_of stop.ReadFault = codes "krml: read fault\n"
line_of stop.WriteFault = codes "krml: write fault\n"
line_of stop.NoMemory = codes "krml: out of memory\n"

-- What the words are, what each end tells before and after a call, and its count of faults before and after.
pub record Call : Type 0 where
  pub words : List (List ℕ)
  pub left : Option (List ℕ)
  pub left' : Option (List ℕ)
  pub read_faults : ℕ
  pub read_faults' : ℕ
  pub written : Option (List ℕ)
  pub written' : Option (List ℕ)
  pub write_faults : ℕ
  pub write_faults' : ℕ
  pub noted : Option (List ℕ)
  pub noted' : Option (List ℕ)
  pub note_faults : ℕ
  pub note_faults' : ℕ

-- Nothing was written to the output.
pub record Unwritten (c : Call) : Type 0 where
  pub same : c.written' ≡ c.written
  pub quiet : c.write_faults' ≡ c.write_faults

-- What was read and written where a call stops.
pub data Stops (c : Call) : Stop → Type 0 where
  usage : IsUsage c.words → c.left' ≡ c.left → c.read_faults' ≡ c.read_faults → Unwritten c → Stops c stop.Usage
  read_fault : {command : Command} → Asks c.words command → c.read_faults ≤ c.read_faults' → Rose c.read_faults c.read_faults' → Unwritten c → Stops c stop.ReadFault
  refused : {command : Command} {input : List ℕ} {why : FileRefusal} → Asks c.words command → Taken command c.left c.left' input → Refuses input command why
      → c.read_faults' ≡ c.read_faults → Unwritten c → Stops c (stop.Refused why)
  write_fault : {text : List ℕ} {status : ℕ} → IsOutput c.words c.left c.left' text status → c.read_faults' ≡ c.read_faults
      → AppendsPrefix c.written c.written' text → c.write_faults ≤ c.write_faults' → Rose c.write_faults c.write_faults' → Stops c stop.WriteFault
  no_memory : (IsUsage c.words → c.left' ≡ c.left) → c.read_faults' ≡ c.read_faults → Unwritten c → Stops c stop.NoMemory
  no_memory_to_write : {text : List ℕ} {status : ℕ} → IsOutput c.words c.left c.left' text status → c.read_faults' ≡ c.read_faults
      → AppendsPrefix c.written c.written' text → c.write_faults' ≡ c.write_faults → Stops c stop.NoMemory

-- How a call ends.
pub data Ends (c : Call) : ℕ → Type 0 where
  -- with its output, and the status that its command gives that
  done : {text : List ℕ} {status : ℕ} → IsOutput c.words c.left c.left' text status → c.read_faults' ≡ c.read_faults → Appends c.written c.written' text → c.write_faults' ≡ c.write_faults
      → c.noted' ≡ c.noted → c.note_faults' ≡ c.note_faults → Ends c status
  -- with the line of what stopped it
  noted : {why : Stop} → Stops c why → Appends c.noted c.noted' (line_of why) → c.note_faults' ≡ c.note_faults → Ends c (status_of why)
  -- with a prefix of that line, where the notes failed, or lacked memory
  note_failed : {why : Stop} → Stops c why → AppendsPrefix c.noted c.noted' (line_of why) → c.note_faults ≤ c.note_faults' → Rose c.note_faults c.note_faults' → Ends c 4
  note_lacked_memory : {why : Stop} → Stops c why → AppendsPrefix c.noted c.noted' (line_of why) → c.note_faults' ≡ c.note_faults → Ends c 5

-- A count rose where the notes were written.
abbrev pub FailedNotes : (status faults faults' : ℕ) → Type 0
FailedNotes status faults faults' = (status ≡ 4) × Rose faults faults'

-- Nothing was written to the output, or a prefix of the text that was to come.
abbrev pub PrefixOnly : (words : List (List ℕ)) (left left' written written' : Option (List ℕ)) → Type 0
PrefixOnly words left left' written written' = (written' ≡ written) ⊎ ((text : List ℕ) × (status : ℕ) × IsOutput words left left' text status × AppendsPrefix written written' text)

-- What stops a call has a line of its own: a refusal, where want of memory is none.
abbrev pub HasLine : Stop → Type 0
HasLine (stop.Refused why) = IsCause why
HasLine stop.Usage = Unit {0}
HasLine stop.ReadFault = Unit {0}
HasLine stop.WriteFault = Unit {0}
HasLine stop.NoMemory = Unit {0}

-- A line of the notes: that of a refusal of the input, or of another stop.
abbrev pub IsLine : List ℕ → Type 0
IsLine line = (why : Stop) × HasLine why × (line ≡ line_of why)

-- a status that comes before anything is written
abbrev pub IsNoted : ℕ → Type 0
IsNoted status = (status ≡ 1) ⊎ (status ≡ 2) ⊎ (status ≡ 3)

-- one of these whose line is always the same
abbrev pub IsPlain : ℕ → Type 0
IsPlain status = (status ≡ 2) ⊎ (status ≡ 3)

-- a status that may come in the midst of writing
abbrev pub IsCut : ℕ → Type 0
IsCut status = (status ≡ 4) ⊎ (status ≡ 5)

-- The input was taken, and the text that it compiles to was appended.
pub record Compiled (left left' written written' : Option (List ℕ)) : Type 0 where
  pub input : List ℕ
  pub text : List ℕ
  pub taken : Taken C left left' input
  pub compiled : CompilesTo input text
  pub appended : Appends written written' text

-- The input was taken, it is accepted, and that was said.
pub record Accepted (left left' written written' : Option (List ℕ)) : Type 0 where
  pub input : List ℕ
  pub file : SourceFile
  pub taken : Taken Check left left' input
  pub accepted : Accepts input file
  pub sound : EachRunsWell file
  pub appended : Appends written written' accepted_line

-- The input was taken, it is not accepted, and the line of the one refusal that it meets was noted.
pub record Refused (words : List (List ℕ)) (left left' noted noted' : Option (List ℕ)) : Type 0 where
  pub command : Command
  pub input : List ℕ
  pub why : FileRefusal
  pub asked : Asks words command
  pub taken : Taken command left left' input
  pub refused : Refuses input command why
  pub none : AcceptsNone input
  pub line : Appends noted noted' (line_of (stop.Refused why))

-- A call was refused for this, and its line was noted.
pub record RefusedFor (why : FileRefusal) (status : ℕ) (noted noted' : Option (List ℕ)) : Type 0 where
  pub is : status ≡ 1
  pub line : Appends noted noted' (line_of (stop.Refused why))
