-- Limits of a text that more than one language has.
use Rattle.std.specs.Prelude.{ℕ}

-- the bytes of a source text
abbrev pub max_text : ℕ
max_text = 1048576

-- the levels of lists in a source text
abbrev pub max_levels : ℕ
max_levels = 64

-- the numbers of a table, and the elements of an array
abbrev pub max_elements : ℕ
max_elements = 65536
