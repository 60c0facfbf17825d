-- How large the types of a file are, where none has more leaves than it may have.
use Rattle.std.specs.Prelude.{ℕ}

-- the bytes of a leaf, at most
abbrev pub max_align : ℕ
max_align = 8

-- the bytes of a type, at most: those of 24 leaves
abbrev pub max_bytes : ℕ
max_bytes = 192
