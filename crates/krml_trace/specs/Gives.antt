-- What a function that may find nothing gives: exactly what its definition does, or no answer for want of memory.
use Rattle.std.specs.Prelude.{◌≡◌, Option, Some, None, Result, Ok, Err}
use Rattle.krml_trace.specs.declared.missing.Missing.{Missing}
use Rattle.krml_trace.specs.declared.missing.Missing.TheVariants.{Absent, NoMemory}

abbrev pub Gives : {A : Type 0} → Result A Missing → Option A → Type 0
Gives (Ok a) found = found ≡ Some a
Gives (Err Absent) found = found ≡ None
Gives (Err NoMemory) found = Unit {0}
