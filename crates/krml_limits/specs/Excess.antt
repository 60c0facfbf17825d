-- An excess as a pair.
use Rattle.std.specs.Prelude.{ℕ}
use Rattle.krml_syntax.specs.declared.limit.LimitKind.{LimitKind}
use Rattle.krml_limits.specs.declared.excess.Excess.{Excess}

abbrev pub pair : Excess → LimitKind × ℕ
pair e = (e.which, e.count)
