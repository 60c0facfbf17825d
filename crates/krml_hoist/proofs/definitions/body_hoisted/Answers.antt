use Rattle.std.proofs.Common.{rules, ◌≡◌, OnOk, refl}
use Rattle.krml_hoist.specs.declared.hoister.Hoister.{Hoister}
use Rattle.krml_hoist.specs.Walk.{after}
use Rattle.krml_hoist.proofs.Bodies.{body_small, body_refused}
use Rattle.krml_hoist.proofs.definitions.body_hoisted.Goals as goal

pub returns-clause-small : goal.returns-clause-small
returns-clause-small c =
    let m : Hoister = c.new-hoister.result in
    let k : Hoister = c.expr-part.new.self in
    let walked : OnOk c.expr-part.result (k ≡ after c.args.body.now m) = search rules in
    body_small c.args.body.now m _ k c.expr-part.result c.new-hoister.ensures refl refl walked c.judged.result c.judged.ensures.value c.judged.ensures.small

pub returns-clause-refused : goal.returns-clause-refused
returns-clause-refused c =
    let m : Hoister = c.new-hoister.result in
    let k : Hoister = c.expr-part.new.self in
    let walked : OnOk c.expr-part.result (k ≡ after c.args.body.now m) = search rules in
    body_refused c.args.body.now m _ k c.expr-part.result c.new-hoister.ensures refl refl walked c.args.name.now c.judged.result c.judged.ensures.refused
