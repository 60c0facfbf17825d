use Rattle.std.proofs.Common.{rules, ◌≡◌, ◌-◌, ◌<◌, true, [], length, map, sym, ap, ◌∙◌}
use Rattle.krml_types.specs.Holds.{parts_in, any_part, set_more, round, rounds, same_table, swept}
use Rattle.krml_types.proofs.Holders.{stays, table_is, one_less, round_is, rounds_swept}
use Rattle.krml_types.proofs.holds.settled.Goals as goal

pub loop-left-init : goal.loop-left-init
loop-left-init c =
    let l : length c.defs-left.result.now ≡ length c.args.names.now = search rules in
    let t : c.in_ok-table.table ≡ swept c.in_ok-all.all [] = search rules in
    let a : c.in_ok-all.all ≡ map (parts_in c.args.names.now) c.args.names.now = search rules in
    ap (λ n. rounds n c.args.names.now c.in_ok-table.table) l ∙ ap (rounds (length c.args.names.now) c.args.names.now) (t ∙ ap (λ z. swept z []) a)
    ∙ rounds_swept c.args.names.now

pub returns-then-same_table : goal.returns-then-same_table
returns-then-same_table c =
    let r : c.in_ok-next.next ≡ set_more (any_part c.loop-left.table) c.in_ok-all.all c.loop-left.table = search rules in
    let a : c.in_ok-all.all ≡ map (parts_in c.args.names.now) c.args.names.now = search rules in
    let e : c.in_ok-next.next ≡ round c.args.names.now c.loop-left.table =
    r ∙ ap (λ z. set_more (any_part c.loop-left.table) z c.loop-left.table) a ∙ round_is c.args.names.now c.loop-left.table in
    let s : same_table c.in_ok-next.next c.loop-left.table ≡ true = search rules in
    sym (stays c.loop-left.left c.args.names.now c.loop-left.table (sym e ∙ table_is c.in_ok-next.next c.loop-left.table s)) ∙ c.loop-left.invariant

pub loop-left-preserved : goal.loop-left-preserved
loop-left-preserved c =
    let r : c.in_ok-next.next ≡ set_more (any_part c.loop-left.table) c.in_ok-all.all c.loop-left.table = search rules in
    let a : c.in_ok-all.all ≡ map (parts_in c.args.names.now) c.args.names.now = search rules in
    let e : c.in_ok-next.next ≡ round c.args.names.now c.loop-left.table =
    r ∙ ap (λ z. set_more (any_part c.loop-left.table) z c.loop-left.table) a ∙ round_is c.args.names.now c.loop-left.table in
    let l : 0 < c.loop-left.left = search rules in
    ap (rounds (c.loop-left.left - 1) c.args.names.now) e ∙ sym (one_less c.loop-left.left c.args.names.now c.loop-left.table l) ∙ c.loop-left.invariant
