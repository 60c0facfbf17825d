use Rattle.std.proofs.Common.{rules, ◌≡◌, length, Some, None, ◌∙◌}
use Rattle.std.specs.BTreeMap.{Updates}
use Rattle.krml_intern.specs.Keys.{key_of}
use Rattle.krml_intern.specs.Exact.{key_cmp, node_place}
use Rattle.krml_intern.proofs.Lasts.{cut_off}
use Rattle.krml_intern.proofs.Tables.{puts_found, puts_added, nodes_more, nodes_same}
use Rattle.krml_intern.proofs.nodes.Nodes.put.Goals as goal

pub returns-in-Some-clause-ok : goal.returns-in-Some-clause-ok
returns-in-Some-clause-ok c = puts_found c.self.inside.items.items c.args.self.now (node_place c.self.inside.places) c.self.invariant c.self.view_is c.args.node c.in-Some.n (search rules)

pub invariant_of-self-in-Err : goal.invariant_of-self-in-Err
invariant_of-self-in-Err c =
    let long : c.len-n.result ≡ length c.self.inside.items.items = search rules in
    let same : c.truncate.new.self.items ≡ c.self.inside.items.items
    = cut_off c.self.inside.items.items c.push.new.self.items c.truncate.new.self.items c.args.node c.len-n.result long c.in_ok-push.ensures.items c.truncate.ensures.items in
    nodes_same c.self.inside.items.items c.truncate.new.self.items c.self.inside.places c.insert.new.self c.self.invariant same c.in-Err.ensures.err

pub invariant_of-self-in-Ok : goal.invariant_of-self-in-Ok
invariant_of-self-in-Ok c =
    let long : c.len-n.result ≡ length c.self.inside.items.items = search rules in
    let absent : node_place c.self.inside.places c.args.node ≡ None = search rules in
    let put : Updates key_cmp c.self.inside.places c.insert.new.self (key_of c.args.node) (Some (length c.self.inside.items.items))
    = rw (c.key-key.ensures, long) at c.in-Ok.ensures.updates in
    rw c.in_ok-push.ensures.items (nodes_more c.self.inside.items.items c.args.node c.self.inside.places c.insert.new.self c.self.invariant absent put)

pub returns-in-Err-clause-err : goal.returns-in-Err-clause-err
returns-in-Err-clause-err c =
    let long : c.len-n.result ≡ length c.self.inside.items.items = search rules in
    cut_off c.self.inside.items.items c.push.new.self.items c.truncate.new.self.items c.args.node c.len-n.result long c.in_ok-push.ensures.items c.truncate.ensures.items ∙ c.self.view_is

pub returns-in-Ok-clause-ok : goal.returns-in-Ok-clause-ok
returns-in-Ok-clause-ok c =
    let long : c.len-n.result ≡ length c.self.inside.items.items = search rules in
    let absent : node_place c.self.inside.places c.args.node ≡ None = search rules in
    puts_added c.self.inside.items.items c.args.self.now c.push.new.self.items (node_place c.self.inside.places) c.self.invariant c.self.view_is c.args.node c.len-n.result absent long c.in_ok-push.ensures.items
