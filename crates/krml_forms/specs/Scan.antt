-- What one byte does to the number of lists that are open.
use Rattle.std.specs.Prelude.{◌≡◌, ℕ, ◌+◌, ◌-◌, ◌<◌, ◌≤◌, ◌==◌, if◌then◌else◌, List, Option, Some, None, Result, Ok, Err}
use Rattle.std.specs.declared.alloc.AllocError.{AllocError}
use Rattle.krml_forms.specs.declared.form.Form.{Form}
use Rattle.krml_forms.specs.declared.nest.Step.{Step}
use Rattle.krml_forms.specs.declared.nest.Step.TheVariants.{On, Fault, Deep}
use Rattle.krml_forms.specs.Faults.{is_alphabet}

-- how many are open behind a byte, where so many were before it
abbrev pub depth_after : ℕ → ℕ → Option ℕ
depth_after depth b =
    if b == 40 then Some (depth + 1) else (if b == 41 then (if depth == 0 then None else Some (depth - 1)) else (if is_alphabet b then Some depth else None))

-- What a call that was given a byte answered, and how many are open then.
abbrev pub Moves : ℕ → ℕ → Result Step AllocError → ℕ → Type 0
Moves before b (Ok On) behind = (depth_after before b ≡ Some behind) × (b ≡ 40 → before < 64)
Moves before b (Ok Fault) behind = depth_after before b ≡ None
Moves before b (Ok Deep) behind = (b ≡ 40) × (64 ≤ before)
Moves before b (Err e) behind = Unit {0}

-- Forms where no list is open at the end.
abbrev pub Closes : Option (List Form) → ℕ → Type 0
Closes (Some forms) depth = depth ≡ 0
Closes None depth = 0 < depth
