-- A file with the names that C has. All its definitions are kept, in their order.
use Rattle.std.specs.Prelude.{◌≡◌, ℕ, if◌then◌else◌, List, [], ◌∷◌, Some, None}
use Rattle.std.specs.List.{flat_map}
use Rattle.krml_syntax.specs.declared.tree.Ty.{Ty}
use Rattle.krml_syntax.specs.declared.tree.Pat.{Pat}
use Rattle.krml_syntax.specs.declared.tree.Field.{Field}
use Rattle.krml_syntax.specs.declared.tree.Con.{Con}
use Rattle.krml_syntax.specs.declared.tree.Expr.{Expr}
use Rattle.krml_syntax.specs.declared.tree.Def.{Def}
use Rattle.krml_syntax.specs.declared.tree.Def.TheVariants as d
use Rattle.krml_syntax.specs.declared.tree.SourceFile.{SourceFile}
use Rattle.krml_rename.specs.Renaming.{Renaming}
use Rattle.krml_ast.specs.declared.file.Emitted.{Emitted}
use Rattle.krml_ast.specs.declared.event.SourceEvent.{SourceEvent}
use Rattle.krml_ast.specs.declared.run.SourceRun.{SourceRun}
use Rattle.krml_ast.specs.FileTypes.{emitted_name}
use Rattle.krml_meaning.specs.Meaning.{has_entry}
use Rattle.krml_passing.specs.Images.{event_under}
use Rattle.krml_passing.specs.Naming.{Naming, naming, renaming_of, field_under, param_under, con_under, expr_under, def_renamed, file_renamed}
use Rattle.krml_passing.specs.RunsAs.{run_image, RunsAs, FitsAs}
use Rattle.krml_bundle.specs.Emitted.{emitted_fun, emitted_type, emitted_table, emitted_field}

-- ---- the file

-- The names that C has. Constructors keep theirs: C has none.
abbrev pub c_names : Naming
c_names = naming emitted_type (λ x. x) emitted_fun emitted_table emitted_field

abbrev pub emitted_renaming : Renaming
emitted_renaming = renaming_of c_names

abbrev pub ty_bundled : Ty → Ty
ty_bundled = c_names.ty

abbrev pub pat_bundled : Pat → Pat
pat_bundled = c_names.pat

abbrev pub field_bundled : Field → Field
field_bundled = field_under c_names

abbrev pub param_bundled : Field → Field
param_bundled = param_under c_names

abbrev pub con_bundled : Con → Con
con_bundled = con_under c_names

abbrev pub expr_bundled : Expr → Expr
expr_bundled = expr_under c_names

abbrev pub def_bundled : Def → Def
def_bundled = def_renamed c_names

abbrev pub bundled : SourceFile → SourceFile
bundled = file_renamed c_names

-- the emitted name of an entry
abbrev pub names_of_def : Def → List Emitted
names_of_def (d.Entry x) = record { entry = x; name = emitted_fun x } ∷ []
names_of_def def = []

-- of each entry, in the order of the file
abbrev pub names_of : SourceFile → List Emitted
names_of file = flat_map names_of_def file.defs

-- ---- runs

-- the place of a table among the definitions: all of them are kept, in their order
abbrev pub place_bundled : ℕ → ℕ
place_bundled k = k

-- an event under the new names
abbrev pub event_bundled : SourceEvent → SourceEvent
event_bundled = event_under ty_bundled place_bundled

abbrev pub run_bundled : SourceRun → SourceRun
run_bundled = run_image event_bundled

-- Each run of the second file, at the new name of an entry, is that of the first under the new names.
abbrev pub RunsAsBundled : SourceFile → SourceFile → Type 0
RunsAsBundled = RunsAs emitted_fun event_bundled

-- Arguments that fit an entry of the first file fit it in the second one, under its new name.
abbrev pub FitAsBundled : SourceFile → SourceFile → Type 0
FitAsBundled = FitsAs emitted_fun

-- The emitted name of an entry of the file is the new name of its function, and nothing else has one.
abbrev pub NamesEntries : SourceFile → List Emitted → Type 0
NamesEntries file names = (x : List ℕ) → emitted_name names x ≡ (if has_entry file.defs x then Some (emitted_fun x) else None)
