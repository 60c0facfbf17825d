-- Types with more leaves than a type may have.
use Rattle.std.specs.Prelude.{◌≡◌, ℕ, nat_lt, if◌then◌else◌, List, Option, Some, None, Result, Ok, Err}
use Rattle.krml_trace.specs.First.{first}
use Rattle.krml_syntax.specs.declared.tree.Def.{Def}
use Rattle.krml_syntax.specs.declared.tree.Def.TheVariants as d
use Rattle.krml_ast.specs.Instances.{source_name}
use Rattle.krml_ast.specs.Leaves.{max_leaves, leaves_of_def}
use Rattle.krml_match.specs.declared.refusal.MatchRefusal.{MatchRefusal}
use Rattle.krml_match.specs.declared.refusal.MatchRefusal.TheVariants.{Wide, NoMemory}

abbrev pub if_wide : List ℕ → ℕ → Option (List ℕ × ℕ)
if_wide x n = if nat_lt max_leaves n then Some (source_name x, n) else None

-- a struct or a sum with more leaves than it may have: its name in the source, and its leaves
abbrev pub wide_def : List Def → Def → Option (List ℕ × ℕ)
wide_def defs (d.Struct x vars fields) = if_wide x (leaves_of_def defs (d.Struct x vars fields))
wide_def defs (d.Sum x vars cons) = if_wide x (leaves_of_def defs (d.Sum x vars cons))
wide_def defs _ = None

-- the first of a file
abbrev pub first_wide : List Def → Option (List ℕ × ℕ)
first_wide defs = first (wide_def defs) defs

-- A type is refused where it is the first that is wide; want of memory says nothing.
abbrev pub IsRefusedRightly : {A : Type 0} → List Def → Result A MatchRefusal → Type 0
IsRefusedRightly defs (Ok file) = Unit {0}
IsRefusedRightly defs (Err (Wide x n)) = first_wide defs ≡ Some (x, n)
IsRefusedRightly defs (Err NoMemory) = Unit {0}
