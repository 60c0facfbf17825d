-- What forms are read as: a file, or the refusal.
use Rattle.std.specs.Prelude.{◌≡◌, ℕ, List, [], ◌∷◌, ◌++◌, length, Option, Some, None, Result, Ok, Err}
use Rattle.krml_forms.specs.declared.form.Form.{Form}
use Rattle.krml_syntax.specs.declared.limit.LimitKind.{LimitKind}
use Rattle.krml_syntax.specs.declared.tree.Def.{Def}
use Rattle.krml_syntax.specs.declared.tree.SourceFile.{SourceFile}
use Rattle.krml_syntax.specs.Limits.{first_excess}
use Rattle.krml_reader.specs.declared.refusal.ReadRefusal.{ReadRefusal}
use Rattle.krml_reader.specs.declared.refusal.ReadRefusal.TheVariants.{Shape, Limit, NoMemory}
use Rattle.krml_reader.specs.Definition.{def_at}

-- What a call answered is the answer, unless memory ran out.
abbrev pub Answers : {X : Type 0} → Result X ReadRefusal → Result X ReadRefusal → Type 0
Answers (Err NoMemory) answer = Unit {0}
Answers result answer = result ≡ answer

-- The refusal of a form that spells no definition, unless memory ran out.
abbrev pub Misshapen : ℕ → ReadRefusal → Type 0
Misshapen index NoMemory = Unit {0}
Misshapen index refusal = refusal ≡ Shape index

-- what comes behind a form, and its index
abbrev pub behind_def : (Def → Result (List Def) ReadRefusal) → ℕ → Option Def → Result (List Def) ReadRefusal
behind_def more index (Some def) = more def
behind_def more index None = Err (Shape index)

-- the definitions of forms behind those of the forms before them
unfoldable pub defs_after : List Def → List Form → Result (List Def) ReadRefusal
defs_after done [] = Ok done
defs_after done (f ∷ fs) = behind_def (λ def. defs_after (done ++ def ∷ []) fs) (length done) (def_at f)

abbrev pub defs_of : List Form → Result (List Def) ReadRefusal
defs_of fs = defs_after [] fs

-- What a call that was given the next form answered, and left.
abbrev pub AddsDef : List Def → Form → Result (Unit {0}) ReadRefusal → List Def → Type 0
AddsDef old f (Ok u) new = (fs : List Form) → defs_after old (f ∷ fs) ≡ defs_after new fs
AddsDef old f (Err refusal) new = (fs : List Form) → Answers (Err refusal) (defs_after old (f ∷ fs))

abbrev pub limited_by : Option (LimitKind × ℕ) → List Def → Result SourceFile ReadRefusal
limited_by (Some excess) defs = Err (Limit excess.0 excess.1)
limited_by None defs = Ok (record { defs = defs })

abbrev pub limited : List Form → List Def → Result SourceFile ReadRefusal
limited fs defs = limited_by (first_excess fs defs) defs

abbrev pub file_after : List Form → Result (List Def) ReadRefusal → Result SourceFile ReadRefusal
file_after fs (Ok defs) = limited fs defs
file_after fs (Err refusal) = Err refusal

abbrev pub file_of : List Form → Result SourceFile ReadRefusal
file_of fs = file_after fs (defs_of fs)
