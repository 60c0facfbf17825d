use Rattle.std.proofs.Common.{◌≡◌, take}
use Rattle.krml_layout.specs.Layout.{frame_bytes}
use Rattle.krml_layout.proofs.frame.frame_bytes.Given as goal

abbrev pub invariant-loop-slot : goal.invariant-loop-slot
invariant-loop-slot l = l.bytes ≡ frame_bytes l.defs (take l.slot-index l.slots)
