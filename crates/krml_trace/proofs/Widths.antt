-- What holds of every width.
use Rattle.std.proofs.Common.{ℕ, ◌<◌, ◌^◌, arith}
use Rattle.krml_trace.specs.declared.width.Width.{Width}
use Rattle.krml_trace.specs.declared.width.Width.TheVariants.{W8, W32, W64}
use Rattle.krml_trace.specs.Width.{bits}

pub below_all_widths : (w : Width) (n : ℕ) → n < 2 ^ bits w → n < 2 ^ 64
below_all_widths W8 n l = omega arith
below_all_widths W32 n l = omega arith
below_all_widths W64 n l = l
