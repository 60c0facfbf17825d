use Rattle.std.proofs.Common.{◌≤◌, ◌<◌, sym, subst}
use Rattle.krml_layout.specs.declared.layout.TypeLayout.{TypeLayout}
use Rattle.krml_layout.proofs.InOrder.{are_small}
use Rattle.krml_layout.proofs.Frames.{type_aligned, type_align_small}
use Rattle.krml_layout.proofs.frame.slot_bytes.Goals as goal

pub slot_bytes-requires-clause-aligned : goal.slot_bytes-requires-clause-aligned
slot_bytes-requires-clause-aligned c =
    subst (λ (z : TypeLayout). 0 < z.align) (sym c.type_layout.ensures) (type_aligned c.args.defs.now c.args.slot.now.ty)

pub slot_bytes-requires-clause-small : goal.slot_bytes-requires-clause-small
slot_bytes-requires-clause-small c =
    subst (λ (z : TypeLayout). z.align ≤ 8) (sym c.type_layout.ensures) (type_align_small c.args.defs.now c.args.slot.now.ty)

pub slot_bytes-requires-clause-fits : goal.slot_bytes-requires-clause-fits
slot_bytes-requires-clause-fits c =
    subst (λ (z : TypeLayout). z.size ≤ 192) (sym c.type_layout.ensures) (are_small c.args.defs.now c.requires c.args.slot.now.ty)
