-- What holds of each piece of a well typed file holds of each piece of the hoisted one, where hoisting a layer keeps it.
use Rattle.std.proofs.Common.{◌≡◌, ℕ, ◌+◌, List, [], ◌∷◌, ◌++◌, map, length, flat_map, refl, sym, ap, ◌∙◌, subst}
use Rattle.std.specs.List.{AllByRecursion}
use Rattle.krml_trace.proofs.Lists.{each_append, each_left, each_right, each_so}
use Rattle.krml_syntax.specs.declared.tree.Ty.TheVariants as t
use Rattle.krml_syntax.specs.declared.tree.Field.{Field}
use Rattle.krml_syntax.specs.declared.tree.Con.{Con}
use Rattle.krml_syntax.specs.declared.tree.Arm.{Arm, roll-Arm}
use Rattle.krml_syntax.specs.declared.tree.Case.{Case, roll-Case}
use Rattle.krml_syntax.specs.declared.tree.Item.{Item, roll-Item}
use Rattle.krml_syntax.specs.declared.tree.Item.TheVariants as item
use Rattle.krml_syntax.specs.declared.tree.Expr.{Expr, roll-Expr}
use Rattle.krml_syntax.specs.declared.tree.Expr.TheOpen.{Item-F, Arm-F, Case-F}
use Rattle.krml_syntax.specs.declared.tree.Expr.TheFolds.{fold-roll-Expr}
use Rattle.krml_syntax.specs.declared.tree.Expr.TheViews.{out-roll-Expr, out-roll-Item, out-roll-Arm, out-roll-Case}
use Rattle.krml_syntax.specs.declared.tree.Def.{Def}
use Rattle.krml_syntax.specs.declared.tree.Def.TheVariants as d
use Rattle.krml_syntax.specs.Shape.{Part, parts_of, parts_of_item, parts_of_arm, parts_of_case, OfPart, OfParts}
use Rattle.krml_syntax.proofs.Attached.{both_parts, by_parts}
use Rattle.krml_ast.specs.Pieces.{Piece, Value, Test, Bound, pieces_of, pieces_of_ty, pieces_of_pat, pieces_of_def, pieces_in, field_types, own_pieces}
use Rattle.krml_ast.proofs.Pieces.{inside, inside_item, inside_arm, inside_case, in_tests, Parts, HoldsIn, parts_hold, own_hold, inside_hold, let_inside, run_inside, arm_inside, case_inside}
use Rattle.krml_meaning.specs.Numbered.{Numbered, none, each_from}
use Rattle.krml_rename.specs.Pass.{Layer, def_with}
use Rattle.krml_passing.specs.Hoisted.{hoist_layer, hoist_item, hoist_arm, hoist_case, hoisted, item_hoisted, arm_hoisted, case_hoisted, body_hoisted}
use Rattle.krml_passing.proofs.HoistedForms as is
use Rattle.krml_passing.proofs.HoistedRoles.{FromEach, parts_numbered, layer_hoisted}
use Rattle.krml_passing.proofs.TypedParts.{IsTyped, IsTypedItem, IsTypedArm, IsTypedCase, HoldsTyped, AreTyped, BodyTyped, layer_typed}

module _ (defs : List Def) (tvars : List (List ℕ)) (P Q : Piece → Type 0) where
  -- Q holds of a form, and of what it writes by itself, once it is hoisted, where P did before.
  abbrev pub LayersKept : Type 0
  LayersKept = (o : Layer) (k : ℕ) → IsTyped defs tvars (roll-Expr o) → P (Value (roll-Expr o)) → AllByRecursion P (own_pieces o)
      → Q (Value (roll-Expr ((layer_hoisted o).from k))) × AllByRecursion Q (own_pieces ((layer_hoisted o).from k))

  -- Q holds of what is left as it is, as tests are.
  module _ (so : (x : Piece) → P x → Q x) (tests : (x : Expr) → P (Test x) → hoisted x ≡ none x) (layers : LayersKept) where
    abbrev Kept : Expr → Type 0
    Kept x = FromEach (λ z. AllByRecursion Q (pieces_of z)) (hoisted x)

    abbrev ItemKept : Item → Type 0
    ItemKept x = FromEach (λ z. AllByRecursion Q (inside_item z)) (item_hoisted x)

    abbrev ArmKept : Arm → Type 0
    ArmKept x = FromEach (λ z. AllByRecursion Q (inside_arm z)) (arm_hoisted x)

    abbrev CaseKept : Case → Type 0
    CaseKept x = FromEach (λ z. AllByRecursion Q (inside_case z)) (case_hoisted x)

    abbrev Keeps : Expr → Type 0
    Keeps x = IsTyped defs tvars x → AllByRecursion P (pieces_of x) → Kept x

    abbrev ItemKeeps : Item → Type 0
    ItemKeeps x = IsTypedItem defs tvars x → AllByRecursion P (inside_item x) → ItemKept x

    abbrev ArmKeeps : Arm → Type 0
    ArmKeeps x = IsTypedArm defs tvars x → AllByRecursion P (inside_arm x) → ArmKept x

    abbrev CaseKeeps : Case → Type 0
    CaseKeeps x = IsTypedCase defs tvars x → AllByRecursion P (inside_case x) → CaseKept x

    -- what is left, and what stands behind it
    behind : (left xs ys : List Piece) → (AllByRecursion P xs → AllByRecursion Q ys)
        → AllByRecursion P (left ++ xs) → AllByRecursion Q (left ++ ys)
    behind left xs ys f h = each_append Q left ys (each_so P Q left so (each_left P left xs h)) (f (each_right P left xs h))

    parts_kept : (parts : Parts) → OfParts Keeps ItemKeeps ArmKeeps CaseKeeps parts
        → AreTyped defs tvars parts → HoldsIn P parts → OfParts Kept ItemKept ArmKept CaseKept parts
    parts_kept parts h t all = both_parts _ _ Kept _ _ ItemKept _ _ ArmKept _ _ CaseKept
        (λ x f q. f q) (λ x f q. f q) (λ x f q. f q) (λ x f q. f q) parts
        (both_parts Keeps _ (λ x. AllByRecursion P (pieces_of x) → Kept x) ItemKeeps _ (λ x. AllByRecursion P (inside_item x) → ItemKept x)
        ArmKeeps _ (λ x. AllByRecursion P (inside_arm x) → ArmKept x) CaseKeeps _ (λ x. AllByRecursion P (inside_case x) → CaseKept x)
        (λ x f q. f q) (λ x f q. f q) (λ x f q. f q) (λ x f q. f q) parts h t) all

    expr_step : (o : Layer) → OfParts Keeps ItemKeeps ArmKeeps CaseKeeps (parts_of o) → Keeps (roll-Expr o)
    expr_step o h t all k =
        let x = roll-Expr o in
        let z : Layer = (layer_hoisted o).from k in
        let kept = layers o k t all.0 (own_hold P x o (out-roll-Expr o) all.1) in
        let parts = parts_kept (parts_of o) h (layer_typed defs tvars o t) (parts_hold P x o (out-roll-Expr o) all.1) in
        subst (λ (n : Numbered Expr). AllByRecursion Q (pieces_of (n.from k)))
        (sym (fold-roll-Expr _ _ _ _ hoist_layer hoist_item hoist_arm hoist_case o)) (
          kept.0,
          inside_hold Q (roll-Expr z) z (out-roll-Expr z) kept.1
              (parts_numbered _ _ _ _ hoisted item_hoisted arm_hoisted case_hoisted o parts k),
        )

    item_step : (o : Item-F Expr Item Arm Case) → OfParts Keeps ItemKeeps ArmKeeps CaseKeeps (parts_of_item o) → ItemKeeps (roll-Item o)
    item_step (Item-F.Let x b a) h t all k =
        let typed : IsTyped defs tvars a = subst (HoldsTyped defs tvars) (out-roll-Item (Item-F.Let x b a)) t in
        let whole = subst (AllByRecursion P) (ap inside_item (item.rolls-Let x b a) ∙ let_inside x b a) all in
        let front = each_left P (pieces_of_ty b ++ pieces_of a) (Bound x ∷ []) whole in
        let last = each_right P (pieces_of_ty b ++ pieces_of a) (Bound x ∷ []) whole in
        rw item.rolls-Let (rw is.let_is (rw let_inside
        (each_append Q (pieces_of_ty b ++ pieces_of ((hoisted a).from k)) (Bound x ∷ [])
        (behind (pieces_of_ty b) (pieces_of a) (pieces_of ((hoisted a).from k)) (λ q. h.0 typed q k) front) (so (Bound x) last.0, tt))))
    item_step (Item-F.Run a) h t all k =
        let typed : IsTyped defs tvars a = subst (HoldsTyped defs tvars) (out-roll-Item (Item-F.Run a)) t in
        rw item.rolls-Run (rw is.run_is (rw run_inside
        (h.0 typed (subst (AllByRecursion P) (ap inside_item (item.rolls-Run a) ∙ run_inside a) all) k)))

    arm_step : (o : Arm-F Expr Item Arm Case) → OfParts Keeps ItemKeeps ArmKeeps CaseKeeps (parts_of_arm o) → ArmKeeps (roll-Arm o)
    arm_step o h t all k =
        let typed : IsTyped defs tvars o.body = subst (λ (z : Arm-F Expr Item Arm Case). IsTyped defs tvars z.body) (out-roll-Arm o) t in
        rw (is.arm_is o.pat o.body) (rw arm_inside
        (behind (pieces_of_pat o.pat) (pieces_of o.body) (pieces_of ((hoisted o.body).from k)) (λ q. h.0 typed q k)
        (subst (AllByRecursion P) (arm_inside o.pat o.body) all)))

    tests_left : (es : List Expr) (k : ℕ) → AllByRecursion P (in_tests es) → each_from (map hoisted es) k ≡ es
    tests_left [] k h = refl
    tests_left (x ∷ es) k h = ap (λ (n : Numbered Expr). n.from k ∷ each_from (map hoisted es) (k + length (hoisted x).slots)) (tests x h.0)
        ∙ ap (λ z. x ∷ z) (tests_left es (k + length (hoisted x).slots) (each_right P (Test x ∷ inside x) (in_tests es) h))

    last_of : (es : List Expr) (a : Expr) → OfParts Keeps ItemKeeps ArmKeeps CaseKeeps (map Part.expr es ++ Part.expr a ∷ []) → Keeps a
    last_of es a h =
        let k : OfParts Keeps ItemKeeps ArmKeeps CaseKeeps (Part.expr a ∷ []) =
        each_right (OfPart Keeps ItemKeeps ArmKeeps CaseKeeps) (map Part.expr es) (Part.expr a ∷ []) h in
        k.0

    case_step : (o : Case-F Expr Item Arm Case) → OfParts Keeps ItemKeeps ArmKeeps CaseKeeps (parts_of_case o) → CaseKeeps (roll-Case o)
    case_step o h t all k =
        let typed : IsTyped defs tvars o.body = subst (λ (z : Case-F Expr Item Arm Case). IsTyped defs tvars z.body) (out-roll-Case o) t in
        let whole = subst (AllByRecursion P) (case_inside o.tests o.body) all in
        let j : ℕ = k + length (flat_map (λ (n : Numbered Expr). n.slots) (map hoisted o.tests)) in
        rw (is.case_is o.tests o.body) (rw (tests_left o.tests k (each_left P (in_tests o.tests) (pieces_of o.body) whole)) (rw case_inside
        (behind (in_tests o.tests) (pieces_of o.body) (pieces_of ((hoisted o.body).from j))
        (λ q. last_of o.tests o.body h typed q j) whole)))

    expr_keeps : (x : Expr) → Keeps x
    expr_keeps = by_parts Keeps ItemKeeps ArmKeeps CaseKeeps expr_step item_step arm_step case_step

    -- ---- definitions

    def_kept : (def : Def) → BodyTyped defs tvars def → AllByRecursion P (pieces_of_def def)
        → AllByRecursion Q (pieces_of_def (def_with body_hoisted def))
    def_kept (d.Fun x vars params result body) w h =
        behind (field_types params ++ map (λ (p : Field). Bound p.name) params ++ pieces_of_ty result)
        (pieces_of body) (pieces_of (body_hoisted body)) (λ q. expr_keeps body w q 0) h
    def_kept (d.Struct x vars fields) w h = each_so P Q (field_types fields) so h
    def_kept (d.Sum x vars cons) w h = each_so P Q (flat_map (λ (c : Con). flat_map pieces_of_ty c.args) cons) so h
    def_kept (d.Table x i nums) w h = each_so P Q (pieces_of_ty (t.Int i)) so h
    def_kept (d.Entry x) w h = tt

    pub pieces_hoisted : (some : List Def) → AllByRecursion (BodyTyped defs tvars) some → AllByRecursion P (pieces_in some)
        → AllByRecursion Q (pieces_in (map (def_with body_hoisted) some))
    pieces_hoisted [] w h = tt
    pieces_hoisted (def ∷ some) w h =
        each_append Q (pieces_of_def (def_with body_hoisted def)) (pieces_in (map (def_with body_hoisted) some))
        (def_kept def w.0 (each_left P (pieces_of_def def) (pieces_in some) h))
        (pieces_hoisted some w.1 (each_right P (pieces_of_def def) (pieces_in some) h))
