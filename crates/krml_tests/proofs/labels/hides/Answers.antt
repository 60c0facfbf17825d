use Rattle.std.proofs.Common.{rules, ◌≡◌, [], ◌∷◌}
use Rattle.krml_syntax.specs.declared.tree.Expr.TheVariants as e
use Rattle.krml_tests.proofs.Typed.{int_field, hidden_typed}
use Rattle.krml_tests.proofs.labels.hides.Goals as goal

pub is_secret-requires : goal.is_secret-requires
is_secret-requires c =
    let scope_is : c.as_slice.result.now ≡ int_field c.args.x.now c.args.i ∷ [] = search rules in
    let e_is : c.get.result.now ≡ e.Hide c.args.i (e.Var c.args.x.now) = search rules in
    rw (scope_is, e_is) (hidden_typed [] c.args.x.now c.args.i)
