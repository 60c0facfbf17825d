use Rattle.std.proofs.Common.{rules, ◌≡◌, Some, None, sym, ap, ◌∙◌}
use Rattle.krml_ast.specs.Places.{place_of}
use Rattle.krml_types.proofs.Before.{is_before, given_before}
use Rattle.krml_types.proofs.names.is_given.Goals as goal

pub returns-in-Some : goal.returns-in-Some
returns-in-Some c =
    let some : place_of c.args.kind c.args.index.now c.args.x.now ≡ Some c.in-Some.j = search rules in
    sym (given_before c.args.kind c.args.index.now c.args.k c.args.x.now ∙ ap (λ o. is_before o c.args.k) some)

pub returns-in-None : goal.returns-in-None
returns-in-None c =
    let none : place_of c.args.kind c.args.index.now c.args.x.now ≡ None = search rules in
    sym (given_before c.args.kind c.args.index.now c.args.k c.args.x.now ∙ ap (λ o. is_before o c.args.k) none)
