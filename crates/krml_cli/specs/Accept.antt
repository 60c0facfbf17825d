-- What accepting an input answers.
use Rattle.std.specs.Prelude.{◌≡◌, ℕ, List, Some, Result, Ok, Err}
use Rattle.krml_syntax.specs.declared.tree.SourceFile.{SourceFile}
use Rattle.krml_ast.specs.declared.file.Emitted.{Emitted}
use Rattle.krml_ast.specs.Leaves.{AreNarrow}
use Rattle.krml_match.specs.declared.refusal.MatchRefusal.TheVariants as m
use Rattle.krml_match.specs.Wide.{first_wide}
use Rattle.krml_passing.specs.Hoisted.{file_hoisted}
use Rattle.krml_hoist.specs.declared.refusal.HoistRefusal.TheVariants as h
use Rattle.krml_hoist.specs.Large.{first_large}
use Rattle.krml_command.specs.declared.request.Command.{Command}
use Rattle.krml_cli.specs.declared.refusal.FileRefusal.{FileRefusal}
use Rattle.krml_cli.specs.declared.refusal.FileRefusal.TheVariants.{Read, «Type» as IllTyped, NotBuilt, Wide, Frame, NoMemory}
use Rattle.krml_cli.specs.Refusal.{Accepts, Refuses}
use Rattle.krml_cli.specs.Theorem.{IsPassed}

-- An input is accepted, and this is what the passes made of its file.
pub record AcceptsAs (input : List ℕ) (out : SourceFile × List Emitted) : Type 0 where
  pub file : SourceFile
  pub accepts : Accepts input file
  pub passed : IsPassed file out

-- What the passes made of the file that is accepted, or why each command refuses the input; it may be want of memory.
abbrev pub IsAnswered : List ℕ → Result (SourceFile × List Emitted) FileRefusal → Type 0
IsAnswered input (Ok out) = AcceptsAs input out
IsAnswered input (Err NoMemory) = Unit {0}
IsAnswered input (Err why) = (command : Command) → Refuses input command why

-- The refusal for the definition of a place, or want of memory.
abbrev pub IsNotBuiltAt : ℕ → FileRefusal → Type 0
IsNotBuiltAt k (NotBuilt def) = def ≡ k
IsNotBuiltAt k NoMemory = Unit {0}
IsNotBuiltAt k (Read why) = ⊥
IsNotBuiltAt k (IllTyped def) = ⊥
IsNotBuiltAt k (Wide why) = ⊥
IsNotBuiltAt k (Frame why) = ⊥

-- What the passes answer to a file with its types, whose definitions are built: what they make of it, its first type with too
-- many leaves, or else its first frame that takes too many bytes; it may be want of memory.
abbrev pub PassesAnswer : SourceFile → Result (SourceFile × List Emitted) FileRefusal → Type 0
PassesAnswer file (Ok out) = IsPassed file out
PassesAnswer file (Err (Wide (m.Wide x n))) = first_wide file.defs ≡ Some (x, n)
PassesAnswer file (Err (Wide m.NoMemory)) = ⊥
PassesAnswer file (Err (Frame (h.FrameTooLarge x n))) = AreNarrow file.defs × (first_large (file_hoisted file).defs ≡ Some (x, n))
PassesAnswer file (Err (Frame h.NoMemory)) = ⊥
PassesAnswer file (Err NoMemory) = Unit {0}
PassesAnswer file (Err (Read why)) = ⊥
PassesAnswer file (Err (IllTyped def)) = ⊥
PassesAnswer file (Err (NotBuilt def)) = ⊥
