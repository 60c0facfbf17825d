-- A hoisted expression has no slots of its own, and means what the expression means.
use Rattle.std.proofs.Common.{◌≡◌, List, sym, ap, ◌∙◌}
use mathlib.Core.Path.{fun_ext}
use Rattle.krml_syntax.specs.declared.tree.Arm.{Arm, roll-Arm}
use Rattle.krml_syntax.specs.declared.tree.Case.{Case, roll-Case}
use Rattle.krml_syntax.specs.declared.tree.Item.{Item, roll-Item}
use Rattle.krml_syntax.specs.declared.tree.Expr.{Expr, roll-Expr}
use Rattle.krml_syntax.specs.declared.tree.Expr.TheOpen.{Expr-F, Item-F, Arm-F, Case-F}
use Rattle.krml_syntax.specs.declared.tree.Expr.TheFolds.{fold-roll-Expr, fold-roll-Item, fold-roll-Arm, fold-roll-Case}
use Rattle.krml_syntax.specs.declared.tree.Def.{Def}
use Rattle.krml_syntax.specs.Shape.{map_layer, map_item, map_arm, map_case, parts_of, parts_of_item, parts_of_arm, parts_of_case, OfParts}
use Rattle.krml_syntax.proofs.Shape.{layer_twice, case_twice, of_parts}
use Rattle.krml_syntax.proofs.Attached.{case_attached, same_layer, by_parts}
use Rattle.krml_meaning.specs.State.{Sem}
use Rattle.krml_meaning.specs.Numbered.{Numbered, none, one}
use Rattle.krml_meaning.specs.Meaning as src
use Rattle.krml_meaning.proofs.Evals as old
use Rattle.krml_passing.specs.Hoisted.{layer_numbered, item_numbered, arm_numbered, case_numbered, hoist_layer, hoist_item, hoist_arm, hoist_case, hoisted, item_hoisted, arm_hoisted, case_hoisted, body_hoisted}
use Rattle.krml_passing.proofs.HoistedLayers.{layer_mapped, case_mapped, layer_means, case_means}

-- From a layer to what it is a layer of: that means what it meant once it is hoisted, where the layer does once its slots are numbered.
rolled : {X L M : Type 0} (roll : L → X) (hoist : X → Numbered X) (mean : X → Numbered M) (layer_mean : L → Numbered M) (o : L)
    (n : Numbered L) → hoist (roll o) ≡ one roll n → ((y : L) → mean (roll y) ≡ layer_mean y) → one layer_mean n ≡ one none (layer_mean o)
    → one mean (hoist (roll o)) ≡ one none (mean (roll o))
rolled roll hoist mean layer_mean o n is_hoisted means h =
    ap (one mean) is_hoisted ∙ ap (λ g. one g n) (fun_ext means) ∙ h ∙ ap (one none) (sym (means o))

-- functions that agree on the parts of a case make the same case of it
pub same_case : {E I A C E' I' A' C' : Type 0} (f g : E → E') (f' g' : I → I') (f'' g'' : A → A') (f''' g''' : C → C') (o : Case-F E I A C)
    → OfParts (λ x. f x ≡ g x) (λ x. f' x ≡ g' x) (λ x. f'' x ≡ g'' x) (λ x. f''' x ≡ g''' x) (parts_of_case o)
    → map_case f f' f'' f''' o ≡ map_case g g' g'' g''' o
same_case f g f' g' f'' g'' f''' g''' o h =
    let w = case_attached (λ x. f x ≡ g x) (λ x. f' x ≡ g' x) (λ x. f'' x ≡ g'' x) (λ x. f''' x ≡ g''' x) o h in
    ap (map_case f f' f'' f''') (sym w.1)
    ∙ case_twice (λ q. q.0) (λ q. q.0) (λ q. q.0) (λ q. q.0) f f' f'' f''' w.0
    ∙ of_parts (λ k k' k'' k'''. map_case k k' k'' k''' w.0) (λ q. q.1) (λ q. q.1) (λ q. q.1) (λ q. q.1)
    ∙ sym (case_twice (λ q. q.0) (λ q. q.0) (λ q. q.0) (λ q. q.0) g g' g'' g''' w.0)
    ∙ ap (map_case g g' g'' g''') w.1

module _ (defs : List Def) (calls : src.Calls) where
  abbrev m : Expr → Numbered Sem
  m = old.means defs calls

  abbrev m' : Item → Numbered src.Step
  m' = old.item_means defs calls

  abbrev m'' : Arm → Numbered src.Branch
  m'' = old.arm_means defs calls

  abbrev m''' : Case → Numbered src.Tested
  m''' = old.case_means defs calls

  -- it has the slots that it had, and means what it meant, wherever they are numbered from; it has none then
  abbrev pub MeansHoisted : Expr → Type 0
  MeansHoisted x = one m (hoisted x) ≡ one none (m x)

  abbrev ItemMeansHoisted : Item → Type 0
  ItemMeansHoisted x = one m' (item_hoisted x) ≡ one none (m' x)

  abbrev ArmMeansHoisted : Arm → Type 0
  ArmMeansHoisted x = one m'' (arm_hoisted x) ≡ one none (m'' x)

  abbrev CaseMeansHoisted : Case → Type 0
  CaseMeansHoisted x = one m''' (case_hoisted x) ≡ one none (m''' x)

  -- the same of a layer, of what stands in a `do`, of a branch and of a case
  expr_step : (o : Expr-F Expr Item Arm Case) → OfParts MeansHoisted ItemMeansHoisted ArmMeansHoisted CaseMeansHoisted (parts_of o)
      → MeansHoisted (roll-Expr o)
  expr_step o h = rolled roll-Expr hoisted m (λ y. src.form_meaning defs calls (map_layer m m' m'' m''' y)) o
      (layer_numbered (map_layer hoisted item_hoisted arm_hoisted case_hoisted o))
      (fold-roll-Expr _ _ _ _ hoist_layer hoist_item hoist_arm hoist_case o)
      (fold-roll-Expr _ _ _ _ (src.form_meaning defs calls) src.item_meaning (src.arm_meaning defs) src.case_meaning)
      (ap (one (src.form_meaning defs calls)) (sym (layer_mapped m m' m'' m''' (map_layer hoisted item_hoisted arm_hoisted case_hoisted o))
      ∙ ap layer_numbered (layer_twice hoisted item_hoisted arm_hoisted case_hoisted (one m) (one m') (one m'') (one m''') o
      ∙ same_layer _ _ _ _ _ _ _ _ o h
      ∙ sym (layer_twice m m' m'' m''' (one none) (one none) (one none) (one none) o))
      ∙ layer_mapped none none none none (map_layer m m' m'' m''' o))
      ∙ layer_means defs calls (map_layer m m' m'' m''' o))

  item_layer : (o : Item-F Expr Item Arm Case) → OfParts MeansHoisted ItemMeansHoisted ArmMeansHoisted CaseMeansHoisted (parts_of_item o)
      → one (λ y. src.item_meaning (map_item m m' m'' m''' y)) (item_numbered (map_item hoisted item_hoisted arm_hoisted case_hoisted o))
      ≡ one none (src.item_meaning (map_item m m' m'' m''' o))
  item_layer (Item-F.Let x b a) h = ap (one (one (src.bound x))) h.0
  item_layer (Item-F.Run a) h = ap (one (one src.ran)) h.0

  item_step : (o : Item-F Expr Item Arm Case) → OfParts MeansHoisted ItemMeansHoisted ArmMeansHoisted CaseMeansHoisted (parts_of_item o)
      → ItemMeansHoisted (roll-Item o)
  item_step o h = rolled roll-Item item_hoisted m' (λ y. src.item_meaning (map_item m m' m'' m''' y)) o
      (item_numbered (map_item hoisted item_hoisted arm_hoisted case_hoisted o))
      (fold-roll-Item _ _ _ _ hoist_layer hoist_item hoist_arm hoist_case o)
      (fold-roll-Item _ _ _ _ (src.form_meaning defs calls) src.item_meaning (src.arm_meaning defs) src.case_meaning)
      (item_layer o h)

  arm_step : (o : Arm-F Expr Item Arm Case) → OfParts MeansHoisted ItemMeansHoisted ArmMeansHoisted CaseMeansHoisted (parts_of_arm o)
      → ArmMeansHoisted (roll-Arm o)
  arm_step o h = rolled roll-Arm arm_hoisted m'' (λ y. src.arm_meaning defs (map_arm m m' m'' m''' y)) o
      (arm_numbered (map_arm hoisted item_hoisted arm_hoisted case_hoisted o))
      (fold-roll-Arm _ _ _ _ hoist_layer hoist_item hoist_arm hoist_case o)
      (fold-roll-Arm _ _ _ _ (src.form_meaning defs calls) src.item_meaning (src.arm_meaning defs) src.case_meaning)
      (ap (one (one (λ body. record { takes = src.takes defs o.pat; body = body }))) h.0)

  case_step : (o : Case-F Expr Item Arm Case) → OfParts MeansHoisted ItemMeansHoisted ArmMeansHoisted CaseMeansHoisted (parts_of_case o)
      → CaseMeansHoisted (roll-Case o)
  case_step o h = rolled roll-Case case_hoisted m''' (λ y. src.case_meaning (map_case m m' m'' m''' y)) o
      (case_numbered (map_case hoisted item_hoisted arm_hoisted case_hoisted o))
      (fold-roll-Case _ _ _ _ hoist_layer hoist_item hoist_arm hoist_case o)
      (fold-roll-Case _ _ _ _ (src.form_meaning defs calls) src.item_meaning (src.arm_meaning defs) src.case_meaning)
      (ap (one src.case_meaning) (sym (case_mapped m m' m'' m''' (map_case hoisted item_hoisted arm_hoisted case_hoisted o))
      ∙ ap case_numbered (case_twice hoisted item_hoisted arm_hoisted case_hoisted (one m) (one m') (one m'') (one m''') o
      ∙ same_case _ _ _ _ _ _ _ _ o h
      ∙ sym (case_twice m m' m'' m''' (one none) (one none) (one none) (one none) o))
      ∙ case_mapped none none none none (map_case m m' m'' m''' o))
      ∙ case_means defs calls (map_case m m' m'' m''' o))

  pub means_hoisted : (x : Expr) → MeansHoisted x
  means_hoisted = by_parts MeansHoisted ItemMeansHoisted ArmMeansHoisted CaseMeansHoisted expr_step item_step arm_step case_step

  -- a body means the same once it is hoisted
  pub body_means : (x : Expr) → src.eval defs calls (body_hoisted x) ≡ src.eval defs calls x
  body_means x = ap (λ n. (n.from 0).from 0) (means_hoisted x)
