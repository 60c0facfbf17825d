-- Widths of integer types.
use Rattle.std.specs.Prelude.{ℕ, Bool, true, false}
use Rattle.krml_trace.specs.declared.width.Width.{Width}
use Rattle.krml_trace.specs.declared.width.Width.TheVariants.{W8, W32, W64}

-- the bits of a width
abbrev pub bits : Width → ℕ
bits W8 = 8
bits W32 = 32
bits W64 = 64

-- whether two widths are the same
abbrev pub same_width : Width → Width → Bool
same_width W8 W8 = true
same_width W8 W32 = false
same_width W8 W64 = false
same_width W32 W8 = false
same_width W32 W32 = true
same_width W32 W64 = false
same_width W64 W8 = false
same_width W64 W32 = false
same_width W64 W64 = true
