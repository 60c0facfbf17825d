use Rattle.std.proofs.Common.{rules, ◌≡◌, ◌≤◌, length, ap, ◌∙◌, arith}
use Rattle.std.proofs.lemmas.List.{take_all}
use Rattle.krml_layout.specs.Layout.{frame_bytes}
use Rattle.krml_layout.proofs.layouts.Layouts.frame_bytes.Goals as goal

pub returns : goal.returns
returns c =
    let end : length c.args.slots.now ≤ c.loop-slot.slot-index = search rules in
    let all : c.loop-slot.bytes ≡ frame_bytes c.args.self.now c.args.slots.now =
    c.loop-slot.invariant.0 ∙ ap (frame_bytes c.args.self.now) (take_all c.loop-slot.slot-index c.args.slots.now end) in
    (omega (arith, all, c.loop-slot.invariant.1), all)
