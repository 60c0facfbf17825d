-- Sources and sinks over memory.
use Rattle.std.specs.Prelude.{ℕ, min, List, length}

-- What a source has left, the numbers of the calls that fail, the most bytes that a call gives, how many calls there were
-- and how many failed.
pub record Reading : Type 0 where
  pub left : List ℕ
  pub fails : List ℕ
  pub chunk : ℕ
  pub calls : ℕ
  pub faults : ℕ

-- how many bytes a call gives that does not fail
abbrev pub given : Reading → List ℕ → ℕ
given s buf = min s.chunk (min (length buf) (length s.left))

-- The same of a sink, with what was written to it.
pub record Writing : Type 0 where
  pub written : List ℕ
  pub fails : List ℕ
  pub chunk : ℕ
  pub calls : ℕ
  pub faults : ℕ

-- how many bytes a call takes that does not fail
abbrev pub taken : Writing → List ℕ → ℕ
taken s piece = min s.chunk (length piece)
