use Rattle.std.proofs.Common.{rules, ◌≡◌, sym, subst}
use Rattle.krml_layout.specs.Ordered.{AreInOrder}
use Rattle.krml_layout.proofs.InOrder.{plain_in_order, are_small}
use Rattle.krml_layout.proofs.layouts.Layouts.new.Goals as goal

pub layouts_of-requires : goal.layouts_of-requires
layouts_of-requires c =
    let is : c.as_slice-defs.result.now ≡ c.args.file.now.defs = search rules in
    subst AreInOrder (sym is) (plain_in_order c.args.file.now c.file.ensures.form)

pub invariant_of-result : goal.invariant_of-result
invariant_of-result c =
    let is : c.as_slice-defs.result.now ≡ c.args.file.now.defs = search rules in (
      c.in_ok-layouts.ensures,
      (are_small c.as_slice-defs.result.now (subst AreInOrder (sym is) (plain_in_order c.args.file.now c.file.ensures.form)), tt),
    )
