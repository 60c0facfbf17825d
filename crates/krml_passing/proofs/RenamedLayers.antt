-- What an expression and a pattern are made of under new names.
use Rattle.std.proofs.Common.{◌≡◌, ℕ, Bool, List, map, refl, sym, ap, ◌∙◌}
use Rattle.krml_syntax.specs.declared.tree.IntTy.{IntTy}
use Rattle.krml_syntax.specs.declared.tree.Pat.{Pat, out-Pat, roll-Pat}
use Rattle.krml_syntax.specs.declared.tree.Pat.TheVariants as p
use Rattle.krml_syntax.specs.declared.tree.Pat.TheViews.{roll-out-Pat}
use Rattle.krml_syntax.specs.declared.tree.Item.{Item}
use Rattle.krml_syntax.specs.declared.tree.Arm.{Arm}
use Rattle.krml_syntax.specs.declared.tree.Case.{Case}
use Rattle.krml_syntax.specs.declared.tree.Expr.{Expr, out-Expr}
use Rattle.krml_syntax.specs.declared.tree.Expr.TheOpen.{Expr-F}
use Rattle.krml_syntax.specs.declared.tree.Expr.TheViews.{out-roll-Expr}
use Rattle.krml_syntax.specs.declared.tree.Expr.TheFolds.{fold_out-Expr}
use Rattle.krml_syntax.specs.Shape.{map_layer, parts_of}
use Rattle.krml_rename.specs.Pass.{Layer, Pass}
use Rattle.krml_rename.specs.Renaming.{renamed, renaming}
use Rattle.krml_passing.specs.Naming.{Naming, TellsNamesApart, pat_under, renaming_of, expr_under, item_under, arm_under, case_under}

module _ (n : Naming) where
  -- a form under the new names, and its parts
  abbrev pub form_under : Layer → Layer
  form_under o = renamed (renaming_of n) (map_layer (expr_under n) (item_under n) (arm_under n) (case_under n) o)

  abbrev p_ : Pass
  p_ = renaming (renaming_of n)

  pub out_under : (x : Expr) → out-Expr (expr_under n x) ≡ form_under (out-Expr x)
  out_under x = ap out-Expr (fold_out-Expr Expr Item Arm Case p_.expr p_.item p_.arm p_.case_ x) ∙ out-roll-Expr (form_under (out-Expr x))

  -- new names leave the parts of a form
  pub same_parts : {E I A C : Type 0} (y : Expr-F E I A C) → parts_of (renamed (renaming_of n) y) ≡ parts_of y
  same_parts (Expr-F.Var x) = refl
  same_parts _ = refl

-- ---- patterns

module _ (n : Naming) (ok : TellsNamesApart n) where
  pat_is : (q : Pat) → n.pat q ≡ roll-Pat (pat_under n.pat n.con n.named (out-Pat q))
  pat_is q = sym (roll-out-Pat (n.pat q)) ∙ ap roll-Pat (ok.out_pat q)

  pub any_pat : n.pat p.Any ≡ p.Any
  any_pat = pat_is p.Any ∙ ap (λ o. roll-Pat (pat_under n.pat n.con n.named o)) p.outs-Any ∙ p.rolls-Any

  pub bind_pat : (x : List ℕ) → n.pat (p.Bind x) ≡ p.Bind x
  bind_pat x = pat_is (p.Bind x) ∙ ap (λ o. roll-Pat (pat_under n.pat n.con n.named o)) (p.outs-Bind x) ∙ p.rolls-Bind x

  pub bool_pat : (b : Bool) → n.pat (p.Bool b) ≡ p.Bool b
  bool_pat b = pat_is (p.Bool b) ∙ ap (λ o. roll-Pat (pat_under n.pat n.con n.named o)) (p.outs-Bool b) ∙ p.rolls-Bool b

  pub num_pat : (i : IntTy) (k : ℕ) → n.pat (p.Num i k) ≡ p.Num i k
  num_pat i k = pat_is (p.Num i k) ∙ ap (λ o. roll-Pat (pat_under n.pat n.con n.named o)) (p.outs-Num i k) ∙ p.rolls-Num i k

  pub con_pat : (x : List ℕ) (qs : List Pat) → n.pat (p.Con x qs) ≡ p.Con (n.con x) (map n.pat qs)
  con_pat x qs = pat_is (p.Con x qs) ∙ ap (λ o. roll-Pat (pat_under n.pat n.con n.named o)) (p.outs-Con x qs) ∙ p.rolls-Con (n.con x) (map n.pat qs)

  pub make_pat : (x : List ℕ) (qs : List Pat) → n.pat (p.Make x qs) ≡ p.Make (n.named x) (map n.pat qs)
  make_pat x qs = pat_is (p.Make x qs) ∙ ap (λ o. roll-Pat (pat_under n.pat n.con n.named o)) (p.outs-Make x qs) ∙ p.rolls-Make (n.named x) (map n.pat qs)
