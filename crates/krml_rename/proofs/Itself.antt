-- An expression whose names all stay is that expression.
use Rattle.std.proofs.Common.{◌≡◌, refl, ap, ◌∙◌, subst}
use Rattle.std.proofs.lemmas.List.{map-id}
use Rattle.krml_syntax.specs.declared.tree.Arm.{Arm, roll-Arm}
use Rattle.krml_syntax.specs.declared.tree.Case.{Case, roll-Case}
use Rattle.krml_syntax.specs.declared.tree.Item.{Item, roll-Item}
use Rattle.krml_syntax.specs.declared.tree.Expr.{Expr, roll-Expr}
use Rattle.krml_syntax.specs.declared.tree.Expr.TheOpen.{Expr-F, Item-F, Arm-F, Case-F}
use Rattle.krml_syntax.specs.declared.tree.Expr.TheFolds.{fold-roll-Expr, fold-roll-Item, fold-roll-Arm, fold-roll-Case, ind-Expr}
use Rattle.krml_syntax.specs.Shape.{map_layer, map_item, map_arm, map_case}
use Rattle.krml_syntax.proofs.Shape.{layer_twice, item_twice, case_twice, of_parts}
use Rattle.krml_rename.specs.Pass.{Pass, item_passed, arm_passed, case_passed}
use Rattle.krml_rename.specs.Renaming.{itself, renamed, item_renamed, renaming, expr_renamed}

-- ---- one layer

layer_itself : (y : Expr-F Expr Item Arm Case) → renamed itself y ≡ y
layer_itself (Expr-F.Frame slots a) = ap (λ z. Expr-F.Frame z a) (map-id slots)
layer_itself _ = refl

item_itself : (y : Item-F Expr Item Arm Case) → item_renamed itself y ≡ y
item_itself (Item-F.Let x b a) = refl
item_itself (Item-F.Run a) = refl

-- ---- the whole

abbrev p : Pass
p = renaming itself

abbrev IsItself : Expr → Type 0
IsItself x = expr_renamed itself x ≡ x

abbrev ItemIsItself : Item → Type 0
ItemIsItself x = item_passed p x ≡ x

abbrev ArmIsItself : Arm → Type 0
ArmIsItself x = arm_passed p x ≡ x

abbrev CaseIsItself : Case → Type 0
CaseIsItself x = case_passed p x ≡ x

module _ {X X' X'' X''' : Type 0} (v : X → Expr) (v' : X' → Item) (v'' : X'' → Arm) (v''' : X''' → Case)
    (h : (x : X) → IsItself (v x)) (h' : (x : X') → ItemIsItself (v' x)) (h'' : (x : X'') → ArmIsItself (v'' x)) (h''' : (x : X''') → CaseIsItself (v''' x)) where
  step : (y : Expr-F X X' X'' X''') → IsItself (roll-Expr (map_layer v v' v'' v''' y))
  step y = fold-roll-Expr _ _ _ _ p.expr p.item p.arm p.case_ (map_layer v v' v'' v''' y)
      ∙ ap roll-Expr (layer_itself _
      ∙ layer_twice v v' v'' v''' (expr_renamed itself) (item_passed p) (arm_passed p) (case_passed p) y
      ∙ of_parts (λ f f' f'' f'''. map_layer f f' f'' f''' y) h h' h'' h''')

  item_step : (y : Item-F X X' X'' X''') → ItemIsItself (roll-Item (map_item v v' v'' v''' y))
  item_step y = fold-roll-Item _ _ _ _ p.expr p.item p.arm p.case_ (map_item v v' v'' v''' y)
      ∙ ap roll-Item (item_itself _
      ∙ item_twice v v' v'' v''' (expr_renamed itself) (item_passed p) (arm_passed p) (case_passed p) y
      ∙ of_parts (λ f f' f'' f'''. map_item f f' f'' f''' y) h h' h'' h''')

  arm_step : (y : Arm-F X X' X'' X''') → ArmIsItself (roll-Arm (map_arm v v' v'' v''' y))
  arm_step y = fold-roll-Arm _ _ _ _ p.expr p.item p.arm p.case_ (map_arm v v' v'' v''' y)
      ∙ ap (λ z. roll-Arm (record { pat = y.pat; body = z })) (h y.body)

  case_step : (y : Case-F X X' X'' X''') → CaseIsItself (roll-Case (map_case v v' v'' v''' y))
  case_step y = fold-roll-Case _ _ _ _ p.expr p.item p.arm p.case_ (map_case v v' v'' v''' y)
      ∙ ap roll-Case (case_twice v v' v'' v''' (expr_renamed itself) (item_passed p) (arm_passed p) (case_passed p) y
      ∙ of_parts (λ f f' f'' f'''. map_case f f' f'' f''' y) h h' h'' h''')

-- an expression under its own names is that expression
pub expr_itself : (x : Expr) → expr_renamed itself x ≡ x
expr_itself = ind-Expr IsItself ItemIsItself ArmIsItself CaseIsItself
    (λ x y eq. subst (λ z. IsItself (roll-Expr z)) eq (step (λ p. p.0) (λ p. p.0) (λ p. p.0) (λ p. p.0) (λ p. p.1) (λ p. p.1) (λ p. p.1) (λ p. p.1) y))
    (λ x y eq. subst (λ z. ItemIsItself (roll-Item z)) eq (item_step (λ p. p.0) (λ p. p.0) (λ p. p.0) (λ p. p.0) (λ p. p.1) (λ p. p.1) (λ p. p.1) (λ p. p.1) y))
    (λ x y eq. subst (λ z. ArmIsItself (roll-Arm z)) eq (arm_step (λ p. p.0) (λ p. p.0) (λ p. p.0) (λ p. p.0) (λ p. p.1) (λ p. p.1) (λ p. p.1) (λ p. p.1) y))
    (λ x y eq. subst (λ z. CaseIsItself (roll-Case z)) eq (case_step (λ p. p.0) (λ p. p.0) (λ p. p.0) (λ p. p.0) (λ p. p.1) (λ p. p.1) (λ p. p.1) (λ p. p.1) y))
