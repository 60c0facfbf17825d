-- What a run of a typed expression comes to.
use Rattle.std.specs.Prelude.{◌≡◌, ℕ, ◌↔◌, List, [], Some, IsSome}
use Rattle.std.specs.List.{AllByRecursion, flat_map}
use Rattle.krml_trace.specs.declared.arguments.Arguments.{Arguments}
use Rattle.krml_trace.specs.declared.bound.Bound.{Bound}
use Rattle.krml_trace.specs.declared.outcome.Outcome.{Outcome}
use Rattle.krml_trace.specs.declared.outcome.Outcome.TheVariants as outcome
use Rattle.krml_syntax.specs.declared.tree.Ty.{Ty}
use Rattle.krml_syntax.specs.declared.tree.Def.{Def}
use Rattle.krml_syntax.specs.declared.tree.SourceFile.{SourceFile}
use Rattle.krml_syntax.specs.Shape.{Role}
use Rattle.krml_ast.specs.Names.{Signature, fun_named}
use Rattle.krml_ast.specs.IsType.{IsValue}
use Rattle.krml_ast.specs.FileTypes.{EachRole, HasSize, IsSlot, IsTypedFile, listed_vars}
use Rattle.krml_ast.specs.WellTyped.{AreWellTyped}
use Rattle.krml_meaning.specs.declared.value.Value.{Value}
use Rattle.krml_meaning.specs.State.{Block, SourceState}
use Rattle.krml_meaning.specs.Meaning.{ArgumentsFit, source_run}
use Rattle.krml_meaning.specs.Shape.{HasShape, MemoryTyped, Extends}

-- The value has the type, in a typed memory that extends the one before.
pub record Fine (defs : List Def) (m : List Block) (a : Ty) (x : Value) (s : SourceState) : Type 0 where
  pub extends : Extends m s.memory
  pub shape : HasShape defs s.memory x a
  pub memory : MemoryTyped defs s.memory

-- What a run takes of a form that no text spells, beyond its types: the slots that a frame lists are slots of the file, and
-- arguments of constructors are asked for only where there are no type variables, and no sum without constructors.
abbrev pub CanRun : List Def → Role → Type 0
CanRun defs (Role.frame slots) = AllByRecursion (IsSlot defs) slots
CanRun defs Role.part = (flat_map listed_vars defs ≡ []) × AllByRecursion HasSize defs
CanRun defs _ = Unit {0}

-- A run that ended so is one of a function with such a result: it is done, with a result exactly where that is a value, or
-- it wants for ticks or levels, or is stuck.
abbrev pub EndsWith : Ty → Outcome → Type 0
EndsWith a (outcome.Done result buffers) = IsSome result ↔ IsValue a
EndsWith a outcome.Spent = Unit {0}
EndsWith a outcome.Deep = Unit {0}
EndsWith a (outcome.Stuck cause) = Unit {0}
EndsWith a outcome.Undefined = ⊥
EndsWith a outcome.Trapped = ⊥

-- The run of an entry on arguments ends as one of its function.
pub record RunsWell (file : SourceFile) (entry : List ℕ) (args : Arguments) (bound : Bound) : Type 0 where
  pub function : Signature
  pub is : fun_named file.defs entry ≡ Some function
  pub ends : EndsWith function.result (source_run file entry args bound).outcome

-- Runs of well typed files are sound: on arguments that fit, no run is Undefined, and none is Trapped.
abbrev pub TypedFilesRun : Type 0
TypedFilesRun = (file : SourceFile) (entry : List ℕ) (args : Arguments) (bound : Bound) → AreWellTyped file.defs → EachRole (CanRun file.defs) file.defs
    → ArgumentsFit file entry args → RunsWell file entry args bound

-- So are those of a file that a text spells, once its types are checked.
abbrev pub CheckedFilesRun : Type 0
CheckedFilesRun = (file : SourceFile) (entry : List ℕ) (args : Arguments) (bound : Bound) → IsTypedFile file → ArgumentsFit file entry args → RunsWell file entry args bound
