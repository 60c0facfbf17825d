use Rattle.std.proofs.Common.{rules, ◌≡◌, Some, None, sym, ap, ◌∙◌, slice_get}
use Rattle.krml_ast.specs.Places.{place_of}
use Rattle.krml_ast.proofs.Firsts.{first_at, no_first, got}
use Rattle.krml_ast.proofs.names.Names.first.Goals as goal

pub returns-in_err-k : goal.returns-in_err-k
returns-in_err-k c =
    let none : place_of c.args.kind c.args.self.now c.args.x.now ≡ None = search rules in
    rw (no_first c.args.kind c.args.self.now c.args.x.now none) (search rules)

pub returns : goal.returns
returns c =
    let some : place_of c.args.kind c.args.self.now c.args.x.now ≡ Some c.in_ok-k.k = search rules in
    got c.get.result c.self.inside.defs.now c.in_ok-k.k c.get.ensures.lookup.0 c.get.ensures.lookup.1
    ∙ ap (λ defs. slice_get defs c.in_ok-k.k) c.self.view_is ∙ sym (first_at c.args.kind c.args.self.now c.args.x.now c.in_ok-k.k some)
