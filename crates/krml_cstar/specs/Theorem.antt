-- What is said of the translation: a program does what the file does that it came from, and which files need no pass before.
use Rattle.std.specs.Prelude.{◌≡◌, ℕ, Bool, List}
use Rattle.krml_trace.specs.declared.arguments.Arguments.{Arguments}
use Rattle.krml_trace.specs.declared.bound.Bound.{Bound}
use Rattle.krml_trace.specs.Run.{NotStuck}
use Rattle.krml_syntax.specs.declared.tree.SourceFile.{SourceFile}
use Rattle.krml_syntax.specs.Shape.{Role}
use Rattle.krml_ast.specs.FileTypes.{EachRole, HasNoMatch, IsTypedFile, IsChecked, IsMono}
use Rattle.krml_meaning.specs.Meaning.{ArgumentsFit, source_run}
use Rattle.krml_ctree.specs.declared.tree.CProgram.{CProgram}
use Rattle.krml_ctree.specs.Meaning.{c_run}
use Rattle.krml_cstar.specs.Built.{AreBuilt, AreWithin}
use Rattle.krml_cstar.specs.Image.{image_c}

-- On arguments that fit, and under any bound, a run of the program ends as the run of the file does, and leaves the events
-- that stand for those of the file, unless that run is stuck.
abbrev pub DoesTheSame : SourceFile → CProgram → Type 0
DoesTheSame file p = (entry : List ℕ) (args : Arguments) (bound : Bound) → ArgumentsFit file entry args → NotStuck (source_run file entry args bound).outcome
    → ((c_run p entry args bound).outcome ≡ (source_run file entry args bound).outcome)
    × ((c_run p entry args bound).events ≡ image_c file.defs (source_run file entry args bound).events)

-- a form that every pass leaves
abbrev pub IsOrdinary : Role → Type 0
IsOrdinary r = r ≡ Role.ordinary

-- A file whose definitions are built, with buffers or without, has the forms that the checks of labels and the making of instances
-- give, once it has the form before: these passes have nothing to do. It has no match, and without buffers no form of it is one that
-- a pass takes away or brings.
pub record BuiltFilesKeepForms : Type 0 where
  pub checked : (file : SourceFile) → IsTypedFile file → IsChecked file
  pub mono : (buffers : Bool) (file : SourceFile) → IsChecked file → AreWithin buffers file.defs → IsMono file
  pub matches : (buffers : Bool) (file : SourceFile) → AreWithin buffers file.defs → EachRole HasNoMatch file.defs
  pub ordinary : (file : SourceFile) → AreBuilt file.defs → EachRole IsOrdinary file.defs
