-- What passes keep of files.
use Rattle.std.specs.Prelude.{◌≡◌, List}
use Rattle.krml_syntax.specs.declared.tree.Expr.{Expr, roll-Expr}
use Rattle.krml_syntax.specs.declared.tree.Def.{Def}
use Rattle.krml_syntax.specs.declared.tree.SourceFile.{SourceFile}
use Rattle.krml_ast.specs.FileTypes.{HasNoAlloc, EachRole, IsPlain, IsHoisted}
use Rattle.krml_meaning.specs.Meaning.{Calls, meaning}
use Rattle.krml_passing.specs.Hoisted.{file_hoisted}
use Rattle.krml_passing.specs.Images.{event_image}
use Rattle.krml_passing.specs.Naming.{Naming, TellsNamesApart, images_of, file_renamed}
use Rattle.krml_rename.specs.Pass.{Layer, passed, changing, file_with}
use Rattle.krml_passing.specs.RunsAs.{RunsAs, FitsAs}

-- A file under new names that tell names apart runs as the file does, with the new names in its events.
abbrev pub RenamedFilesRun : Type 0
RenamedFilesRun = (n : Naming) (ok : TellsNamesApart n) (file : SourceFile)
    → RunsAs n.fun (event_image (images_of n ok)) file (file_renamed n file)

-- Arguments that fit an entry fit it under its new name.
abbrev pub RenamedFilesFit : Type 0
RenamedFilesFit = (n : Naming) → TellsNamesApart n → (file : SourceFile) → FitsAs n.fun file (file_renamed n file)

-- A layer and what is put in its place mean the same, whatever the file, and whatever calls mean.
abbrev pub MeansTheSame : (Layer → Expr) → Type 0
MeansTheSame change = (defs : List Def) (calls : Calls) (y : Layer) → meaning defs calls (change y) ≡ meaning defs calls (roll-Expr y)

-- A file in whose bodies layers are replaced by what means the same runs as before.
abbrev pub RewrittenFilesRun : Type 0
RewrittenFilesRun = (change : Layer → Expr) → MeansTheSame change → (file : SourceFile)
    → RunsAs (λ x. x) (λ e. e) file (file_with (passed (changing change)) file)

-- A file whose frames list the slots of the `alloc` forms inside them runs as before.
abbrev pub HoistedFilesRun : Type 0
HoistedFilesRun = (file : SourceFile) → RunsAs (λ x. x) (λ e. e) file (file_hoisted file)

-- Arguments that fit an entry fit it in the hoisted file.
abbrev pub HoistedFilesFit : Type 0
HoistedFilesFit = (file : SourceFile) → FitsAs (λ x. x) file (file_hoisted file)

-- No `alloc` form stands in a hoisted file.
abbrev pub HoistedFilesHaveNoAlloc : Type 0
HoistedFilesHaveNoAlloc = (file : SourceFile) → EachRole HasNoAlloc (file_hoisted file).defs

-- A plain file becomes a hoisted one.
abbrev pub HoistedFilesAreHoisted : Type 0
HoistedFilesAreHoisted = (file : SourceFile) → IsPlain file → IsHoisted (file_hoisted file)
