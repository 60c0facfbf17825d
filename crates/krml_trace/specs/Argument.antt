-- Arguments whose numbers fit their widths.
use Rattle.std.specs.Prelude.{ℕ, ◌^◌, Bool, true, nat_lt}
use Rattle.std.specs.List.{list_all}
use Rattle.krml_trace.specs.declared.argument.Arg.{Arg}
use Rattle.krml_trace.specs.declared.argument.Arg.TheVariants.{Bool as Truth, Num, Buf}
use Rattle.krml_trace.specs.declared.width.Width.{Width}
use Rattle.krml_trace.specs.Width.{bits}

abbrev pub fits_width : Width → ℕ → Bool
fits_width w n = nat_lt n (2 ^ bits w)

abbrev pub fits : Arg → Bool
fits (Truth b) = true
fits (Num w n) = fits_width w n
fits (Buf w ns) = list_all (fits_width w) ns
