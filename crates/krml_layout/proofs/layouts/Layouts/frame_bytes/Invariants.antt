use Rattle.std.proofs.Common.{◌≡◌, ◌<◌, ◌^◌, take}
use Rattle.krml_layout.specs.Layout.{frame_bytes}
use Rattle.krml_layout.proofs.layouts.Layouts.frame_bytes.Given as goal

abbrev pub invariant-loop-slot : goal.invariant-loop-slot
invariant-loop-slot l = (l.bytes ≡ frame_bytes l.self (take l.slot-index l.slots)) × (l.bytes < 2 ^ 64)
