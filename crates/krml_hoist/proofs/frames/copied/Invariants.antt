use Rattle.std.proofs.Common.{◌≡◌, take}
use Rattle.krml_hoist.proofs.frames.copied.Given as goal

abbrev pub invariant-loop-each : goal.invariant-loop-each
invariant-loop-each l = l.all ≡ take l.each-index l.slots
