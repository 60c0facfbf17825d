-- What one read or write does at a source or a sink that tells its bytes, or tells none.
use Rattle.std.specs.Prelude.{◌≡◌, ℕ, ◌+◌, ◌-◌, ◌≤◌, ◌<◌, ◌^◌, min, List, take, length, Option, Result, Ok, Err}
use Rattle.std.specs.Io.KnownBytes.{Consumes, Appends, Keeps, IsAtEnd}
use Rattle.krml_trace.specs.declared.outside.Failed.{Failed}
use Rattle.krml_trace.specs.declared.outside.SinkFault.{SinkFault}
use Rattle.krml_trace.specs.declared.outside.SinkFault.TheVariants as fault

-- the last value of a count
abbrev pub last : ℕ
last = 2 ^ 64 - 1

-- one more, up to the last value
abbrev pub counted : ℕ → ℕ
counted n = min (n + 1) last

-- A count rose: it is greater than before, or stands at its last value.
abbrev pub Rose : ℕ → ℕ → Type 0
Rose before now = counted before ≤ now

-- n bytes of what was left went into the front of the buffer. None of a buffer with room is the end.
pub record Moves (left left' : Option (List ℕ)) (faults faults' : ℕ) (buf buf' : List ℕ) (n : ℕ) : Type 0 where
  pub within : n ≤ length buf
  pub moved : Consumes left left' (take n buf')
  pub end : n ≡ 0 → 0 < length buf → IsAtEnd left'
  pub quiet : faults' ≡ faults

-- A read failed, and its source counted that.
pub record FailsToRead (left left' : Option (List ℕ)) (faults faults' : ℕ) : Type 0 where
  pub kept : Keeps left left'
  pub never_falls : faults ≤ faults'
  pub rose : Rose faults faults'

abbrev pub Reads : (left left' : Option (List ℕ)) (faults faults' : ℕ) (buf buf' : List ℕ) → Result ℕ Failed → Type 0
Reads left left' faults faults' buf buf' (Ok n) = Moves left left' faults faults' buf buf' n
Reads left left' faults faults' buf buf' (Err e) = FailsToRead left left' faults faults'

-- The first n bytes of a piece were appended, at least one where there are any.
pub record Takes (written written' : Option (List ℕ)) (faults faults' : ℕ) (piece : List ℕ) (n : ℕ) : Type 0 where
  pub within : n ≤ length piece
  pub some : 0 < length piece → 0 < n
  pub appended : Appends written written' (take n piece)
  pub quiet : faults' ≡ faults

-- A write failed, and its sink counted that.
pub record FailsToWrite (written written' : Option (List ℕ)) (faults faults' : ℕ) : Type 0 where
  pub kept : Keeps written written'
  pub never_falls : faults ≤ faults'
  pub rose : Rose faults faults'

-- Memory ran out before anything was written.
pub record LacksMemory (written written' : Option (List ℕ)) (faults faults' : ℕ) : Type 0 where
  pub kept : Keeps written written'
  pub quiet : faults' ≡ faults

abbrev pub Writes : (written written' : Option (List ℕ)) (faults faults' : ℕ) (piece : List ℕ) → Result ℕ SinkFault → Type 0
Writes written written' faults faults' piece (Ok n) = Takes written written' faults faults' piece n
Writes written written' faults faults' piece (Err fault.Failed) = FailsToWrite written written' faults faults'
Writes written written' faults faults' piece (Err fault.NoMemory) = LacksMemory written written' faults faults'
