-- What a refusal says.
use Rattle.std.specs.Prelude.{◌≡◌, ℕ, List, Option, Some, option_map}
use Rattle.krml_ast.specs.Instances.{source_name}
use Rattle.krml_hoist.specs.declared.refusal.HoistRefusal.{HoistRefusal}
use Rattle.krml_hoist.specs.declared.refusal.HoistRefusal.TheVariants.{FrameTooLarge, NoMemory}

-- A refusal tells the function and the bytes of the first frame that takes too many. Want of memory says nothing.
abbrev pub Refuses : Option (List ℕ × ℕ) → HoistRefusal → Type 0
Refuses large (FrameTooLarge fun bytes) = large ≡ Some (fun, bytes)
Refuses large NoMemory = Unit {0}

-- a function of a name, with the bytes of a frame
abbrev pub large_fun : List ℕ → Option ℕ → Option (List ℕ × ℕ)
large_fun x large = option_map (λ n. (source_name x, n)) large
