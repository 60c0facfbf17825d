-- The first definition of a file that is not well typed.
use Rattle.std.specs.Prelude.{ℕ, ◌+◌, ◌<◌, if◌then◌else◌, List, [], ◌∷◌, take, Option, Some, None, Result, Ok, Err}
use Rattle.krml_syntax.specs.declared.tree.Def.{Def}
use Rattle.krml_ast.specs.WellTyped.{IsWellTyped, AreWellTyped}
use Rattle.krml_types.specs.declared.refusal.TypeRefusal.{TypeRefusal}
use Rattle.krml_types.specs.declared.refusal.TypeRefusal.TheVariants.{Fault, NoMemory}
use Rattle.krml_types.specs.Definitions.{well_typed}

-- the definitions from a place on
abbrev pub fault_from : List Def → ℕ → List Def → Option ℕ
fault_from defs k [] = None
fault_from defs k (def ∷ rest) = if well_typed defs (take k defs) def then fault_from defs (k + 1) rest else Some k

unfoldable pub first_fault : List Def → Option ℕ
first_fault defs = fault_from defs 0 defs

-- The definition of a number is not well typed, and each before it is.
abbrev pub IsFirstFault : List Def → ℕ → Type 0
IsFirstFault defs k = ((j : ℕ) → j < k → IsWellTyped defs j) × (IsWellTyped defs k → ⊥)

-- The answer is one where all definitions are well typed, else the first that is not; it may be want of memory.
abbrev pub IsRightAnswer : {A : Type 0} → List Def → Result A TypeRefusal → Type 0
IsRightAnswer defs (Ok typed) = AreWellTyped defs
IsRightAnswer defs (Err (Fault k)) = IsFirstFault defs k
IsRightAnswer defs (Err NoMemory) = Unit {0}
