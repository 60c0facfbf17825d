use Rattle.std.proofs.Common.{◌≡◌, map, drop, length, flat_map, ◌+◌, ◌*◌}
use Rattle.krml_layout.specs.Layout.{scalar, empty}
use Rattle.krml_layout.specs.Found.{with_members}
use Rattle.krml_layout.proofs.Left.{left_in}
use Rattle.krml_layout.proofs.known.+known.Given as goal

-- What is looked up stands before what asks for it; else a caller ranks above what it calls.

abbrev pub decreases-among : goal.decreases-among
decreases-among l = 6 * length l.defs.now

abbrev pub decreases-named : goal.decreases-named
decreases-named l = 6 * left_in l.known.now + 1

abbrev pub decreases-type_layout : goal.decreases-type_layout
decreases-type_layout l = 6 * left_in l.known.now + 2

abbrev pub decreases-with_args : goal.decreases-with_args
decreases-with_args l = 6 * left_in l.known.now + 3

abbrev pub decreases-of_fields : goal.decreases-of_fields
decreases-of_fields l = 6 * left_in l.known.now + 3

abbrev pub decreases-of_cons : goal.decreases-of_cons
decreases-of_cons l = 6 * left_in l.known.now + 4

abbrev pub decreases-def_layout : goal.decreases-def_layout
decreases-def_layout l = 6 * left_in l.known.now + 5

abbrev pub invariant-of_fields-loop-field : goal.invariant-of_fields-loop-field
invariant-of_fields-loop-field l =
    with_members l.known l.layout (map (λ f. f.ty) (drop l.field-index l.fields)) ≡ with_members l.known empty (map (λ f. f.ty) l.fields)

abbrev pub invariant-of_cons-loop-con : goal.invariant-of_cons-loop-con
invariant-of_cons-loop-con l =
    with_members l.known l.layout (flat_map (λ c. c.args) (drop l.con-index l.cons)) ≡ with_members l.known (scalar 1)
    (flat_map (λ c. c.args) l.cons)

abbrev pub invariant-with_args-loop-a : goal.invariant-with_args-loop-a
invariant-with_args-loop-a l = with_members l.known l.layout (drop l.a-index l.args) ≡ with_members l.known l.fn.before l.args
