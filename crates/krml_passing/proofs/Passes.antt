-- Passes that go layer by layer: an expression does the same after the pass, where each layer does whose parts do.
use Rattle.std.proofs.Common.{List, ap, ◌∙◌, subst}
use Rattle.krml_syntax.specs.declared.tree.Slot.{Slot}
use Rattle.krml_syntax.specs.declared.tree.Arm.{Arm, roll-Arm}
use Rattle.krml_syntax.specs.declared.tree.Case.{Case, roll-Case}
use Rattle.krml_syntax.specs.declared.tree.Item.{Item, roll-Item}
use Rattle.krml_syntax.specs.declared.tree.Expr.{Expr, roll-Expr}
use Rattle.krml_syntax.specs.declared.tree.Expr.TheOpen.{Item-F, Arm-F, Case-F}
use Rattle.krml_syntax.specs.declared.tree.Expr.TheFolds.{fold-roll-Expr, fold-roll-Item, fold-roll-Arm, fold-roll-Case, ind-Expr, every-Expr, every-Item, every-Arm, every-Case, every_here-Expr, every_here-Item, every_here-Arm, every_here-Case, every_held-Expr, every_held-Item, every_held-Arm, every_held-Case}
use Rattle.krml_syntax.specs.declared.tree.Expr.TheViews.{out-roll-Expr, out-roll-Item, out-roll-Arm, out-roll-Case}
use Rattle.krml_syntax.specs.declared.tree.Def.{Def}
use Rattle.krml_syntax.specs.Shape.{map_layer, map_item, map_arm, map_case, Part, parts_of, parts_of_item, parts_of_arm, parts_of_case, OfParts}
use Rattle.krml_syntax.proofs.Attached.{With, ItemWith, ArmWith, CaseWith, of_attached, of_item_attached, of_arm_attached, of_case_attached, both, both_item, both_arm, both_case, by_parts}
use Rattle.krml_meaning.specs.State.{Sem}
use Rattle.krml_meaning.specs.Numbered.{Numbered}
use Rattle.krml_meaning.specs.Meaning as src
use Rattle.krml_meaning.proofs.Evals as old
use Rattle.krml_passing.specs.Alike.{SameOf}
use Rattle.krml_rename.specs.Pass.{Layer, Pass, passed, item_passed, arm_passed, case_passed, parts_passed}
use Rattle.krml_passing.proofs.Numbered.{moved}

-- what a layer means
abbrev pub layer_means : List Def → src.Calls → Layer → Numbered Sem
layer_means defs calls y = src.form_meaning defs calls (map_layer (old.means defs calls) (old.item_means defs calls)
    (old.arm_means defs calls) (old.case_means defs calls) y)

-- What a pass keeps of expressions is W, and W', W'' and W''' of what stands in a `do`, of branches and of cases.
module _ (slot : Slot → Slot) (W : Sem → Sem → Type 0) (W' : src.Step → src.Step → Type 0) (W'' : src.Branch → src.Branch → Type 0)
    (W''' : src.Tested → src.Tested → Type 0) (defs defs' : List Def) (calls calls' : src.Calls) (p : Pass) where
  -- ---- what is shown of each part

  abbrev pub Passes : Expr → Type 0
  Passes x = SameOf slot W (old.means defs calls x) (old.means defs' calls' (passed p x))

  abbrev pub ItemPasses : Item → Type 0
  ItemPasses x = SameOf slot W' (old.item_means defs calls x) (old.item_means defs' calls' (item_passed p x))

  abbrev pub ArmPasses : Arm → Type 0
  ArmPasses x = SameOf slot W'' (old.arm_means defs calls x) (old.arm_means defs' calls' (arm_passed p x))

  abbrev pub CasePasses : Case → Type 0
  CasePasses x = SameOf slot W''' (old.case_means defs calls x) (old.case_means defs' calls' (case_passed p x))

  -- the parts of a layer do the same after the pass
  abbrev pub PartsPass : List (Part Expr Item Arm Case) → Type 0
  PartsPass parts = OfParts Passes ItemPasses ArmPasses CasePasses parts

  -- ---- what is shown of each layer

  abbrev pub LayerPasses : Layer → Type 0
  LayerPasses y = PartsPass (parts_of y)
      → SameOf slot W (layer_means defs calls y)
      (old.means defs' calls' (p.expr (parts_passed p y)))

  abbrev pub ItemLayerPasses : Item-F Expr Item Arm Case → Type 0
  ItemLayerPasses y = PartsPass (parts_of_item y)
      → SameOf slot W' (src.item_meaning (map_item (old.means defs calls) (old.item_means defs calls) (old.arm_means defs calls)
      (old.case_means defs calls) y))
      (old.item_means defs' calls' (p.item (map_item (passed p) (item_passed p) (arm_passed p) (case_passed p) y)))

  abbrev pub ArmLayerPasses : Arm-F Expr Item Arm Case → Type 0
  ArmLayerPasses y = PartsPass (parts_of_arm y)
      → SameOf slot W'' (src.arm_meaning defs (map_arm (old.means defs calls) (old.item_means defs calls) (old.arm_means defs calls)
      (old.case_means defs calls) y))
      (old.arm_means defs' calls' (p.arm (map_arm (passed p) (item_passed p) (arm_passed p) (case_passed p) y)))

  abbrev pub CaseLayerPasses : Case-F Expr Item Arm Case → Type 0
  CaseLayerPasses y = PartsPass (parts_of_case y)
      → SameOf slot W''' (src.case_meaning (map_case (old.means defs calls) (old.item_means defs calls) (old.arm_means defs calls)
      (old.case_means defs calls) y))
      (old.case_means defs' calls' (p.case_ (map_case (passed p) (item_passed p) (arm_passed p) (case_passed p) y)))

  -- ---- from a layer to what it is a layer of

  expr_passes : (y : Layer) → LayerPasses y → PartsPass (parts_of y) → Passes (roll-Expr y)
  expr_passes y h parts = moved slot W (fold-roll-Expr _ _ _ _ (src.form_meaning defs calls) src.item_meaning
      (src.arm_meaning defs) src.case_meaning y)
      (ap (old.means defs' calls') (fold-roll-Expr _ _ _ _ p.expr p.item p.arm p.case_ y)) (h parts)

  item_passes : (y : Item-F Expr Item Arm Case) → ItemLayerPasses y → PartsPass (parts_of_item y) → ItemPasses (roll-Item y)
  item_passes y h parts = moved slot W' (fold-roll-Item _ _ _ _ (src.form_meaning defs calls) src.item_meaning
      (src.arm_meaning defs) src.case_meaning y)
      (ap (old.item_means defs' calls') (fold-roll-Item _ _ _ _ p.expr p.item p.arm p.case_ y)) (h parts)

  arm_passes : (y : Arm-F Expr Item Arm Case) → ArmLayerPasses y → PartsPass (parts_of_arm y) → ArmPasses (roll-Arm y)
  arm_passes y h parts = moved slot W'' (fold-roll-Arm _ _ _ _ (src.form_meaning defs calls) src.item_meaning
      (src.arm_meaning defs) src.case_meaning y)
      (ap (old.arm_means defs' calls') (fold-roll-Arm _ _ _ _ p.expr p.item p.arm p.case_ y)) (h parts)

  case_passes : (y : Case-F Expr Item Arm Case) → CaseLayerPasses y → PartsPass (parts_of_case y) → CasePasses (roll-Case y)
  case_passes y h parts = moved slot W''' (fold-roll-Case _ _ _ _ (src.form_meaning defs calls) src.item_meaning
      (src.arm_meaning defs) src.case_meaning y)
      (ap (old.case_means defs' calls') (fold-roll-Case _ _ _ _ p.expr p.item p.arm p.case_ y)) (h parts)

  -- ---- whole expressions, where every layer does the same

  module _ (exprs : (y : Layer) → LayerPasses y) (items : (y : Item-F Expr Item Arm Case) → ItemLayerPasses y)
      (arms : (y : Arm-F Expr Item Arm Case) → ArmLayerPasses y) (cases : (y : Case-F Expr Item Arm Case) → CaseLayerPasses y) where
    pub all_pass : (x : Expr) → Passes x
    all_pass = by_parts Passes ItemPasses ArmPasses CasePasses (λ y parts. expr_passes y (exprs y) parts)
        (λ y parts. item_passes y (items y) parts)
        (λ y parts. arm_passes y (arms y) parts) (λ y parts. case_passes y (cases y) parts)

  -- ---- whole expressions, where those layers do the same of which something holds

  module _ (K : Layer → Type 0) (K' : Item-F Expr Item Arm Case → Type 0) (K'' : Arm-F Expr Item Arm Case
      → Type 0) (K''' : Case-F Expr Item Arm Case → Type 0)
      (exprs : (y : Layer) → K y → LayerPasses y) (items : (y : Item-F Expr Item Arm Case) → K' y → ItemLayerPasses y)
      (arms : (y : Arm-F Expr Item Arm Case) → K'' y → ArmLayerPasses y) (cases : (y : Case-F Expr Item Arm Case) → K''' y
      → CaseLayerPasses y) where
    abbrev Holds : Expr → Type 0
    Holds x = every-Expr K K' K'' K''' x

    abbrev ItemHolds : Item → Type 0
    ItemHolds x = every-Item K K' K'' K''' x

    abbrev ArmHolds : Arm → Type 0
    ArmHolds x = every-Arm K K' K'' K''' x

    abbrev CaseHolds : Case → Type 0
    CaseHolds x = every-Case K K' K'' K''' x

    abbrev L : Expr → Type 0
    L x = Holds x → Passes x

    abbrev L' : Item → Type 0
    L' x = ItemHolds x → ItemPasses x

    abbrev L'' : Arm → Type 0
    L'' x = ArmHolds x → ArmPasses x

    abbrev L''' : Case → Type 0
    L''' x = CaseHolds x → CasePasses x

    expr_listed : (y : Layer) → With L L' L'' L''' y → L (roll-Expr y)
    expr_listed y w e =
        let held = every_held-Expr K K' K'' K''' (roll-Expr y) e in
        expr_passes y (exprs y (subst K (out-roll-Expr y) (every_here-Expr K K' K'' K''' (roll-Expr y) e)))
        (of_attached Passes ItemPasses ArmPasses CasePasses y
        (both L Holds Passes L' ItemHolds ItemPasses L'' ArmHolds ArmPasses L''' CaseHolds CasePasses
        (λ x l h. l h) (λ x l h. l h) (λ x l h. l h) (λ x l h. l h) y w (held.0, held.1 ∙ out-roll-Expr y)))

    item_listed : (y : Item-F Expr Item Arm Case) → ItemWith L L' L'' L''' y → L' (roll-Item y)
    item_listed y w e =
        let held = every_held-Item K K' K'' K''' (roll-Item y) e in
        item_passes y (items y (subst K' (out-roll-Item y) (every_here-Item K K' K'' K''' (roll-Item y) e)))
        (of_item_attached Passes ItemPasses ArmPasses CasePasses y
        (both_item L Holds Passes L' ItemHolds ItemPasses L'' ArmHolds ArmPasses L''' CaseHolds CasePasses
        (λ x l h. l h) (λ x l h. l h) (λ x l h. l h) (λ x l h. l h) y w (held.0, held.1 ∙ out-roll-Item y)))

    arm_listed : (y : Arm-F Expr Item Arm Case) → ArmWith L L' L'' L''' y → L'' (roll-Arm y)
    arm_listed y w e =
        let held = every_held-Arm K K' K'' K''' (roll-Arm y) e in
        arm_passes y (arms y (subst K'' (out-roll-Arm y) (every_here-Arm K K' K'' K''' (roll-Arm y) e)))
        (of_arm_attached Passes ItemPasses ArmPasses CasePasses y
        (both_arm L Holds Passes L' ItemHolds ItemPasses L'' ArmHolds ArmPasses L''' CaseHolds CasePasses
        (λ x l h. l h) (λ x l h. l h) (λ x l h. l h) (λ x l h. l h) y w (held.0, held.1 ∙ out-roll-Arm y)))

    case_listed : (y : Case-F Expr Item Arm Case) → CaseWith L L' L'' L''' y → L''' (roll-Case y)
    case_listed y w e =
        let held = every_held-Case K K' K'' K''' (roll-Case y) e in
        case_passes y (cases y (subst K''' (out-roll-Case y) (every_here-Case K K' K'' K''' (roll-Case y) e)))
        (of_case_attached Passes ItemPasses ArmPasses CasePasses y
        (both_case L Holds Passes L' ItemHolds ItemPasses L'' ArmHolds ArmPasses L''' CaseHolds CasePasses
        (λ x l h. l h) (λ x l h. l h) (λ x l h. l h) (λ x l h. l h) y w (held.0, held.1 ∙ out-roll-Case y)))

    pub listed_pass : (x : Expr) → every-Expr K K' K'' K''' x → Passes x
    listed_pass = ind-Expr L L' L'' L''' (λ y w eq. expr_listed y (w, eq)) (λ y w eq. item_listed y (w, eq)) (λ y w eq. arm_listed y (
      w,
      eq,
    ))
        (λ y w eq. case_listed y (w, eq))
