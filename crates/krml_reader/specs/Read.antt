-- What reading a text comes to.
use Rattle.std.specs.Prelude.{◌≡◌, ℕ, ◌<◌, ◌≤◌, if◌then◌else◌, nat_lt, List, ◌∷◌, ◌++◌, length, Some, Result, Ok, Err}
use Rattle.krml_trace.specs.Limits.{max_text, max_levels}
use Rattle.krml_forms.specs.declared.form.Form.{Form}
use Rattle.krml_forms.specs.Text.{HasForms}
use Rattle.krml_forms.specs.Levels.{AllWithin}
use Rattle.krml_forms.specs.Faults.{IsFaultAt, IsDeepAt, HasNone, IsFirst}
use Rattle.krml_syntax.specs.declared.limit.LimitKind.{LimitKind}
use Rattle.krml_syntax.specs.declared.tree.Def.{Def}
use Rattle.krml_syntax.specs.declared.tree.SourceFile.{SourceFile}
use Rattle.krml_syntax.specs.Spelling.{SpellsDef, SpellsDefs}
use Rattle.krml_syntax.specs.Limits.{first_excess}
use Rattle.krml_syntax.specs.File.{SpellsFile}
use Rattle.krml_writer.specs.Written.{text_of}
use Rattle.krml_reader.specs.declared.refusal.ReadRefusal.{ReadRefusal}
use Rattle.krml_reader.specs.declared.refusal.ReadRefusal.TheVariants.{TooLarge, Syntax, Nesting, Shape, Limit, NoMemory}

abbrev pub IsShort : List ℕ → Type 0
IsShort text = length text ≤ max_text

-- A short text of forms that have 64 levels at most.
abbrev pub IsFormed : List ℕ → List Form → Type 0
IsFormed text forms = IsShort text × HasForms text forms × AllWithin max_levels forms

-- The file that a text spells, or the first cause, in this order, why it spells none.
pub data Reads (text : List ℕ) : Result SourceFile ReadRefusal → Type 0 where
  -- more than 1,048,576 bytes
  too_large : max_text < length text → Reads text (Err TooLarge)
  -- the first fault by place
  syntax : {at : ℕ} → IsShort text → IsFirst (IsFaultAt text) at → Reads text (Err (Syntax at))
  -- no fault, and the first `(` of a 65th level
  nesting : {at : ℕ} → IsShort text → HasNone (IsFaultAt text) → IsFirst (IsDeepAt text) at → Reads text (Err (Nesting at))
  -- each form before one spells a definition, and that one spells none
  shape : (before : List Form) (f : Form) (after : List Form) {defs : List Def} → IsFormed text (before ++ f ∷ after) → SpellsDefs before defs
      → ((def : Def) → SpellsDef f def → ⊥) → Reads text (Err (Shape (length before)))
  -- the forms spell definitions, and a limit is exceeded
  limit : {forms : List Form} {defs : List Def} {which : LimitKind} {count : ℕ} → IsFormed text forms → SpellsDefs forms defs
      → first_excess forms defs ≡ Some (which, count) → Reads text (Err (Limit which count))
  -- a file within the limits
  file : {read : SourceFile} → SpellsFile text read → Reads text (Ok read)

-- What a call answered is what reading the text comes to, unless memory ran out.
abbrev pub IsRead : List ℕ → Result SourceFile ReadRefusal → Type 0
IsRead text (Err NoMemory) = Unit {0}
IsRead text answer = Reads text answer

-- The same of what it refused.
abbrev pub IsRefused : List ℕ → Result SourceFile ReadRefusal → Type 0
IsRefused text (Ok read) = Unit {0}
IsRefused text (Err NoMemory) = Unit {0}
IsRefused text (Err refusal) = Reads text (Err refusal)

-- What reading the written text of a file comes to, where a text within the limits spells the file.
abbrev pub read_back : SourceFile → Result SourceFile ReadRefusal
read_back read = if nat_lt max_text (length (text_of read)) then Err TooLarge else Ok read
