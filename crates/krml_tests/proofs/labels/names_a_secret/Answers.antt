use Rattle.std.proofs.Common.{rules, ◌≡◌, [], ◌∷◌}
use Rattle.krml_syntax.specs.declared.tree.Expr.TheVariants as e
use Rattle.krml_tests.proofs.Typed.{int_field, last_typed}
use Rattle.krml_tests.proofs.labels.names_a_secret.Goals as goal

pub is_secret-requires : goal.is_secret-requires
is_secret-requires c =
    let scope_is : c.as_slice.result.now ≡ int_field c.args.x.now c.args.i ∷ int_field c.args.x.now c.args.j ∷ [] = search rules in
    let e_is : c.get.result.now ≡ e.Var c.args.x.now = search rules in
    rw (scope_is, e_is) (last_typed [] c.args.x.now c.args.i c.args.j)
