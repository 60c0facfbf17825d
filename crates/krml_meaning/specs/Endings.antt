-- What numbers the result and the final contents of a run that is done may be.
use Rattle.std.specs.Prelude.{◌≡◌, ℕ, ◌<◌, ◌^◌, List, [], ◌∷◌, length, Option, Some, None}
use Rattle.std.specs.List.{AllByRecursion}
use Rattle.krml_trace.specs.declared.width.Width.{Width}
use Rattle.krml_trace.specs.Width.{bits}
use Rattle.krml_trace.specs.declared.argument.Arg.{Arg}
use Rattle.krml_trace.specs.declared.argument.Arg.TheVariants as arg
use Rattle.krml_trace.specs.declared.arguments.Arguments.{Arguments}
use Rattle.krml_trace.specs.declared.bound.Bound.{Bound}
use Rattle.krml_trace.specs.declared.outcome.Outcome.{Outcome}
use Rattle.krml_trace.specs.declared.outcome.Outcome.TheVariants as outcome
use Rattle.krml_syntax.specs.declared.tree.Ty.{Ty, out-Ty}
use Rattle.krml_syntax.specs.declared.tree.Ty.TheOpen.{Ty-F}
use Rattle.krml_syntax.specs.declared.tree.SourceFile.{SourceFile}
use Rattle.krml_ast.specs.Names.{Signature, fun_named}
use Rattle.krml_ast.specs.FileTypes.{EachRole, IsTypedFile}
use Rattle.krml_ast.specs.WellTyped.{AreWellTyped}
use Rattle.krml_meaning.specs.Meaning.{ArgumentsFit, source_run}
use Rattle.krml_meaning.specs.Sound.{CanRun}

-- a number of a type: 0 or 1 of `bool`, one below 2^w of an integer type of width w
abbrev pub IsNumberOf : Ty-F Ty → ℕ → Type 0
IsNumberOf Ty-F.Bool n = n < 2
IsNumberOf (Ty-F.Int i) n = n < 2 ^ bits i.width
IsNumberOf _ n = ⊥

-- a result, where there is one, is a number of its type
abbrev pub IsResultOf : Ty → Option ℕ → Type 0
IsResultOf a (Some n) = IsNumberOf (out-Ty a) n
IsResultOf a None = Unit {0}

-- a buffer as long as before, of numbers of its width
pub record IsBufferOf (w : Width) (before now : List ℕ) : Type 0 where
  pub long : length now ≡ length before
  pub small : AllByRecursion (λ n. n < 2 ^ bits w) now

-- The final buffers are those of the arguments, one by one.
abbrev pub AreBuffersOf : List Arg → List (List ℕ) → Type 0
AreBuffersOf [] [] = Unit {0}
AreBuffersOf [] (now ∷ buffers) = ⊥
AreBuffersOf (arg.Buf w nums ∷ args) [] = ⊥
AreBuffersOf (arg.Buf w nums ∷ args) (now ∷ buffers) = IsBufferOf w nums now × AreBuffersOf args buffers
AreBuffersOf (arg.Bool b ∷ args) buffers = AreBuffersOf args buffers
AreBuffersOf (arg.Num w n ∷ args) buffers = AreBuffersOf args buffers

-- A run of a function with such a result on such arguments that is done.
abbrev pub LeavesNumbers : Ty → List Arg → Outcome → Type 0
LeavesNumbers a args (outcome.Done result buffers) = IsResultOf a result × AreBuffersOf args buffers
LeavesNumbers a args _ = Unit {0}

-- The run of an entry leaves numbers of its function's result and of its arguments.
pub record EndsInRange (file : SourceFile) (entry : List ℕ) (args : Arguments) (bound : Bound) : Type 0 where
  pub function : Signature
  pub is : fun_named file.defs entry ≡ Some function
  pub leaves : LeavesNumbers function.result args.items (source_run file entry args bound).outcome

-- Runs of well typed files leave numbers that fit.
abbrev pub TypedFilesEnd : Type 0
TypedFilesEnd = (file : SourceFile) (entry : List ℕ) (args : Arguments) (bound : Bound) → AreWellTyped file.defs → EachRole (CanRun file.defs) file.defs
    → ArgumentsFit file entry args → EndsInRange file entry args bound

-- So do those of a file that a text spells, once its types are checked.
abbrev pub CheckedFilesEnd : Type 0
CheckedFilesEnd = (file : SourceFile) (entry : List ℕ) (args : Arguments) (bound : Bound) → IsTypedFile file → ArgumentsFit file entry args → EndsInRange file entry args bound
