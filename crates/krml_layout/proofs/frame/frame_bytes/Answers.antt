use Rattle.std.proofs.Common.{rules, ◌≡◌, sym, subst, arith}
use Rattle.krml_layout.specs.Ordered.{AreInOrder}
use Rattle.krml_layout.proofs.InOrder.{plain_in_order, are_small}
use Rattle.krml_layout.proofs.Frames.{frame_so_far, frame_fits}
use Rattle.krml_layout.proofs.frame.frame_bytes.Goals as goal

pub slot_bytes-bytes-requires : goal.slot_bytes-bytes-requires
slot_bytes-bytes-requires c =
    let is : c.as_slice-defs.result.now ≡ c.args.file.now.defs = search rules in
    subst AreInOrder (sym is) (plain_in_order c.args.file.now c.file.ensures.form)

pub overflow_add-bytes : goal.overflow_add-bytes
overflow_add-bytes c =
    let is : c.as_slice-defs.result.now ≡ c.args.file.now.defs = search rules in
    let order : AreInOrder c.as_slice-defs.result.now = subst AreInOrder (sym is) (plain_in_order c.args.file.now c.file.ensures.form) in
    let so_far =
    frame_so_far c.as_slice-defs.result.now c.args.slots.now c.loop-slot.slot-index c.slot-item.result (search rules) (search rules) in
    let fits =
    frame_fits c.as_slice-defs.result.now c.args.slots.now
    (are_small c.as_slice-defs.result.now order) c.requires.lengths c.requires.count in
    omega (arith, so_far, fits, c.loop-slot.invariant, c.slot_bytes-bytes.ensures)
