-- Which inputs are accepted, why an input is refused, and the words for it.
use Rattle.std.specs.Prelude.{◌≡◌, ℕ, List, ◌++◌, codes, Some, None, Err}
use Rattle.std.specs.Fmt.{decimal}
use Rattle.krml_syntax.specs.declared.tree.SourceFile.{SourceFile}
use Rattle.krml_syntax.specs.File.{SpellsFile}
use Rattle.krml_ast.specs.WellTyped.{AreWellTyped}
use Rattle.krml_ast.specs.Leaves.{AreNarrow}
use Rattle.krml_reader.specs.declared.refusal.ReadRefusal.{ReadRefusal}
use Rattle.krml_reader.specs.declared.refusal.ReadRefusal.TheVariants as r
use Rattle.krml_reader.specs.Read.{Reads}
use Rattle.krml_reader.specs.Refusal.{kind_word}
use Rattle.krml_types.specs.declared.refusal.TypeRefusal.{TypeRefusal}
use Rattle.krml_types.specs.declared.refusal.TypeRefusal.TheVariants as y
use Rattle.krml_types.specs.Check.{IsFirstFault}
use Rattle.krml_match.specs.declared.refusal.MatchRefusal.{MatchRefusal}
use Rattle.krml_match.specs.declared.refusal.MatchRefusal.TheVariants as m
use Rattle.krml_match.specs.Wide.{first_wide}
use Rattle.krml_passing.specs.Hoisted.{file_hoisted}
use Rattle.krml_hoist.specs.declared.refusal.HoistRefusal.{HoistRefusal}
use Rattle.krml_hoist.specs.declared.refusal.HoistRefusal.TheVariants as h
use Rattle.krml_hoist.specs.Large.{first_large}
use Rattle.krml_command.specs.declared.request.Command.{Command}
use Rattle.krml_cstar.specs.Built.{AreBuilt, IsFirstUnbuilt}
use Rattle.krml_cli.specs.declared.refusal.FileRefusal.{FileRefusal}
use Rattle.krml_cli.specs.declared.refusal.FileRefusal.TheVariants.{Read, «Type» as IllTyped, NotBuilt, Wide, Frame, NoMemory}

-- An input is accepted: it spells a file within the limits, each definition is well typed and built, and no type has more leaves
-- and no frame takes more bytes than it may.
pub record Accepts (input : List ℕ) (file : SourceFile) : Type 0 where
  pub spelled : SpellsFile input file
  pub typed : AreWellTyped file.defs
  pub built : AreBuilt file.defs
  pub narrow : AreNarrow file.defs
  pub small : first_large (file_hoisted file).defs ≡ None

-- A command refuses an input: it is not read; or the first definition of what it spells that is not well typed, or else not
-- built, is this one; or else the first type with too many leaves is this one; or else the first frame that takes too many bytes.
pub data Refuses (input : List ℕ) : Command → FileRefusal → Type 0 where
  unread : {command : Command} {why : ReadRefusal} → Reads input (Err why) → Refuses input command (Read why)
  ill_typed : {command : Command} {file : SourceFile} {def : ℕ} → SpellsFile input file → IsFirstFault file.defs def → Refuses input command (IllTyped def)
  not_built : {command : Command} {file : SourceFile} {def : ℕ} → SpellsFile input file → AreWellTyped file.defs → IsFirstUnbuilt file.defs def
      → Refuses input command (NotBuilt def)
  wide : {command : Command} {file : SourceFile} {x : List ℕ} {n : ℕ} → SpellsFile input file → AreWellTyped file.defs → AreBuilt file.defs
      → first_wide file.defs ≡ Some (x, n) → Refuses input command (Wide (m.Wide x n))
  large : {command : Command} {file : SourceFile} {x : List ℕ} {n : ℕ} → SpellsFile input file → AreWellTyped file.defs → AreBuilt file.defs
      → AreNarrow file.defs → first_large (file_hoisted file).defs ≡ Some (x, n) → Refuses input command (Frame (h.FrameTooLarge x n))

-- want of memory while reading, while checking types, or in a pass, is want of memory
abbrev pub of_read : ReadRefusal → FileRefusal
of_read r.NoMemory = NoMemory
of_read why = Read why

abbrev pub of_type : TypeRefusal → FileRefusal
of_type (y.Fault def) = IllTyped def
of_type y.NoMemory = NoMemory

abbrev pub of_match : MatchRefusal → FileRefusal
of_match m.NoMemory = NoMemory
of_match why = Wide why

abbrev pub of_hoist : HoistRefusal → FileRefusal
of_hoist h.NoMemory = NoMemory
of_hoist why = Frame why

-- A refusal of the input. Want of memory is none.
abbrev pub IsCause : FileRefusal → Type 0
IsCause (Read r.TooLarge) = Unit {0}
IsCause (Read (r.Syntax at)) = Unit {0}
IsCause (Read (r.Nesting at)) = Unit {0}
IsCause (Read (r.Shape form)) = Unit {0}
IsCause (Read (r.Limit which count)) = Unit {0}
IsCause (Read r.NoMemory) = ⊥
IsCause (IllTyped def) = Unit {0}
IsCause (NotBuilt def) = Unit {0}
IsCause (Wide (m.Wide x n)) = Unit {0}
IsCause (Wide m.NoMemory) = ⊥
IsCause (Frame (h.FrameTooLarge x n)) = Unit {0}
IsCause (Frame h.NoMemory) = ⊥
IsCause NoMemory = ⊥

abbrev pub read_refusal_words : ReadRefusal → List ℕ
read_refusal_words r.TooLarge = codes "too large"
read_refusal_words (r.Syntax at) = codes "syntax at " ++ decimal at
read_refusal_words (r.Nesting at) = codes "nesting at " ++ decimal at
read_refusal_words (r.Shape form) = codes "shape of form " ++ decimal form
read_refusal_words (r.Limit which count) = codes "limit " ++ kind_word which ++ codes " " ++ decimal count
read_refusal_words r.NoMemory = codes "out of memory"

abbrev pub match_refusal_words : MatchRefusal → List ℕ
match_refusal_words (m.Wide x n) = codes "wide " ++ x ++ codes " " ++ decimal n
match_refusal_words m.NoMemory = codes "out of memory"

abbrev pub hoist_refusal_words : HoistRefusal → List ℕ
hoist_refusal_words (h.FrameTooLarge x n) = codes "frame of " ++ x ++ codes " " ++ decimal n ++ codes " bytes"
hoist_refusal_words h.NoMemory = codes "out of memory"

abbrev pub refusal_words : FileRefusal → List ℕ
refusal_words (Read why) = read_refusal_words why
refusal_words (IllTyped def) = codes "type fault in definition " ++ decimal def
refusal_words (NotBuilt def) = codes "not built " ++ decimal def
refusal_words (Wide why) = match_refusal_words why
refusal_words (Frame why) = hoist_refusal_words why
refusal_words NoMemory = codes "out of memory"

abbrev pub refusal_line : FileRefusal → List ℕ
refusal_line why = codes "krml: refused: " ++ refusal_words why ++ codes "\n"
