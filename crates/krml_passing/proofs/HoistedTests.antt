-- Tests of cases have no `alloc` form: hoisting leaves each as it is.
use Rattle.std.proofs.Common.{◌≡◌, ap, ◌∙◌}
use Rattle.krml_syntax.specs.declared.tree.CmpOp.TheVariants.{Eq}
use Rattle.krml_syntax.specs.declared.tree.Expr.{Expr}
use Rattle.krml_syntax.specs.declared.tree.Expr.TheVariants as e
use Rattle.krml_ast.specs.FileTypes.{IsPlace, IsTest}
use Rattle.krml_meaning.specs.Numbered.{none, one, two}
use Rattle.krml_passing.specs.Hoisted.{hoisted}
use Rattle.krml_passing.proofs.HoistedForms.{var_is, num_is, cmp_is, not_is, get_is, tag_is_is, part_is}

pub place_hoisted : (x : Expr) → IsPlace x → hoisted x ≡ none x
place_hoisted x (IsPlace.var y) = var_is y
place_hoisted x (IsPlace.get y a h) = get_is y a ∙ ap (one (e.Get y)) (place_hoisted a h)
place_hoisted x (IsPlace.part y j a h) = part_is y j a ∙ ap (one (e.Part y j)) (place_hoisted a h)

pub test_hoisted : (x : Expr) → IsTest x → hoisted x ≡ none x
test_hoisted x (IsTest.tag y a h) = tag_is_is y a ∙ ap (one (e.TagIs y)) (place_hoisted a h)
test_hoisted x (IsTest.literal i n a h) = cmp_is Eq i a (e.Num i n)
    ∙ ap (λ z. two (e.Cmp Eq i) z (hoisted (e.Num i n))) (place_hoisted a h) ∙ ap (two (e.Cmp Eq i) (none a)) (num_is i n)
test_hoisted x (IsTest.place a h) = place_hoisted a h
test_hoisted x (IsTest.opposite a h) = not_is a ∙ ap (one e.Not) (place_hoisted a h)
