use Rattle.std.proofs.Common.{◌≡◌, Ok, map}
use Rattle.krml_writer.proofs.part.row.Given as goal

abbrev pub invariant-loop-part : goal.invariant-loop-part
invariant-loop-part g l = l.yielded ≡ map Ok l.forms
