-- How many definitions a look-up can still come to.
use Rattle.std.proofs.Common.{ℕ, length}
use Rattle.krml_layout.specs.declared.known.Known.{Known}
use Rattle.krml_layout.specs.declared.known.Known.TheVariants.{Map, Among}

abbrev pub left_in : Known → ℕ
left_in (Map m) = 0
left_in (Among defs) = length defs.now
