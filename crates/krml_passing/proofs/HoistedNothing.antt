-- Where neither a frame nor an `alloc` form stands, hoisting leaves everything as it is.
use Rattle.std.proofs.Common.{◌≡◌, List, [], ◌∷◌, ◌++◌, map, refl, ap, ◌∙◌, subst}
use Rattle.std.specs.List.{AllByRecursion}
use Rattle.krml_syntax.specs.declared.tree.Field.{Field}
use Rattle.krml_syntax.specs.declared.tree.Arm.{Arm, roll-Arm}
use Rattle.krml_syntax.specs.declared.tree.Case.{Case, roll-Case}
use Rattle.krml_syntax.specs.declared.tree.Item.{Item, roll-Item}
use Rattle.krml_syntax.specs.declared.tree.Expr.{Expr, roll-Expr}
use Rattle.krml_syntax.specs.declared.tree.Expr.TheOpen.{Expr-F, Item-F, Arm-F, Case-F}
use Rattle.krml_syntax.specs.declared.tree.Expr.TheFolds.{map-Item, fold-roll-Expr, fold-roll-Item, fold-roll-Arm, fold-roll-Case}
use Rattle.krml_syntax.specs.declared.tree.Expr.TheViews.{out-roll-Expr}
use Rattle.krml_syntax.specs.declared.tree.Def.{Def}
use Rattle.krml_syntax.specs.declared.tree.Def.TheVariants as d
use Rattle.krml_syntax.specs.declared.tree.SourceFile.{SourceFile}
use Rattle.krml_syntax.specs.Shape.{map_layer, role, Role, parts_of, parts_of_item, parts_of_arm, parts_of_case, OfParts}
use Rattle.krml_syntax.proofs.Attached.{same_layer, both_parts, by_parts}
use Rattle.krml_ast.specs.Pieces.{Piece, Bound, pieces_of, pieces_of_ty, pieces_of_def, field_types, pieces_in}
use Rattle.krml_ast.specs.FileTypes.{RoleIn, EachRole}
use Rattle.krml_ast.proofs.Pieces.{inside_item, inside_arm, inside_case, Parts, HoldsIn, parts_hold}
use Rattle.krml_meaning.specs.Numbered.{Numbered, none, one, two}
use Rattle.krml_meaning.proofs.Lists.{each_left, each_right}
use Rattle.krml_rename.specs.Pass.{Layer, def_with}
use Rattle.krml_passing.specs.Hoisted.{layer_numbered, hoist_layer, hoist_item, hoist_arm, hoist_case, hoisted, item_hoisted, arm_hoisted, case_hoisted, body_hoisted, file_hoisted}
use Rattle.krml_passing.proofs.Hoisted.{same_case}
use Rattle.krml_passing.proofs.HoistedLayers.{many_none}
use Rattle.krml_passing.proofs.RoleParts.{item_parts, arm_parts, case_parts}

-- no frame, and no new buffer
abbrev pub HasNoBuffers : Role → Type 0
HasNoBuffers (Role.frame slots) = ⊥
HasNoBuffers Role.alloc = ⊥
HasNoBuffers _ = Unit {0}

-- a layer whose parts have no slots has none
layer_left : (o : Layer) → HasNoBuffers (role o) → layer_numbered (map_layer none none none none o) ≡ none o
layer_left (Expr-F.Make x args es) h = ap (one (λ es. Expr-F.Make x args es)) (many_none es)
layer_left (Expr-F.Con x args es) h = ap (one (λ es. Expr-F.Con x args es)) (many_none es)
layer_left (Expr-F.Match a arms) h = ap (two (λ a arms. Expr-F.Match a arms) (none a)) (many_none arms)
layer_left (Expr-F.Do items a) h = ap (λ z. two (λ items a. Expr-F.Do items a) z (none a)) (many_none items)
layer_left (Expr-F.Call x args es) h = ap (one (λ es. Expr-F.Call x args es)) (many_none es)
layer_left (Expr-F.Cases cases) h = ap (one (λ cases. Expr-F.Cases cases)) (many_none cases)
layer_left (Expr-F.Frame slots a) h = absurd h
layer_left (Expr-F.Alloc b n a) h = absurd h
layer_left _ h = refl

abbrev All : List Piece → Type 0
All pieces = AllByRecursion (RoleIn HasNoBuffers) pieces

abbrev Leaves : Expr → Type 0
Leaves x = All (pieces_of x) → hoisted x ≡ none x

abbrev ItemLeaves : Item → Type 0
ItemLeaves x = All (inside_item x) → item_hoisted x ≡ none x

abbrev ArmLeaves : Arm → Type 0
ArmLeaves x = All (inside_arm x) → arm_hoisted x ≡ none x

abbrev CaseLeaves : Case → Type 0
CaseLeaves x = All (inside_case x) → case_hoisted x ≡ none x

parts_left : (parts : Parts) → OfParts Leaves ItemLeaves ArmLeaves CaseLeaves parts → HoldsIn (RoleIn HasNoBuffers) parts
    → OfParts (λ x. hoisted x ≡ none x) (λ x. item_hoisted x ≡ none x) (λ x. arm_hoisted x ≡ none x) (λ x. case_hoisted x ≡ none x) parts
parts_left = both_parts Leaves _ _ ItemLeaves _ _ ArmLeaves _ _ CaseLeaves _ _
    (λ x f h. f h) (λ x f h. f h) (λ x f h. f h) (λ x f h. f h)

expr_step : (o : Layer) → OfParts Leaves ItemLeaves ArmLeaves CaseLeaves (parts_of o) → Leaves (roll-Expr o)
expr_step o h all =
    let parts = parts_left (parts_of o) h (parts_hold (RoleIn HasNoBuffers) (roll-Expr o) o (out-roll-Expr o) all.1) in
    fold-roll-Expr _ _ _ _ hoist_layer hoist_item hoist_arm hoist_case o
    ∙ ap (one roll-Expr) (ap layer_numbered (same_layer _ _ _ _ _ _ _ _ o parts)
    ∙ layer_left o (subst (λ y. HasNoBuffers (role y)) (out-roll-Expr o) all.0))

item_step : (o : Item-F Expr Item Arm Case) → OfParts Leaves ItemLeaves ArmLeaves CaseLeaves (parts_of_item o) → ItemLeaves (roll-Item o)
item_step o h all = fold-roll-Item _ _ _ _ hoist_layer hoist_item hoist_arm hoist_case o
    ∙ go o (parts_left (parts_of_item o) h (item_parts HasNoBuffers o all))
  where
    go : (o : Item-F Expr Item Arm Case)
        → OfParts (λ x. hoisted x ≡ none x) (λ x. item_hoisted x ≡ none x) (λ x. arm_hoisted x ≡ none x) (λ x. case_hoisted x ≡ none x) (parts_of_item o)
        → hoist_item (map-Item Expr Item Arm Case (Numbered Expr) (Numbered Item) (Numbered Arm) (Numbered Case) hoisted item_hoisted arm_hoisted case_hoisted o) ≡ none (roll-Item o)
    go (Item-F.Let x b a) h = ap (one (λ a. roll-Item (Item-F.Let x b a))) h.0
    go (Item-F.Run a) h = ap (one (λ a. roll-Item (Item-F.Run a))) h.0

arm_step : (o : Arm-F Expr Item Arm Case) → OfParts Leaves ItemLeaves ArmLeaves CaseLeaves (parts_of_arm o) → ArmLeaves (roll-Arm o)
arm_step o h all = fold-roll-Arm _ _ _ _ hoist_layer hoist_item hoist_arm hoist_case o
    ∙ ap (one (λ a. roll-Arm (record { pat = o.pat; body = a }))) (parts_left (parts_of_arm o) h (arm_parts HasNoBuffers o all)).0

case_step : (o : Case-F Expr Item Arm Case) → OfParts Leaves ItemLeaves ArmLeaves CaseLeaves (parts_of_case o) → CaseLeaves (roll-Case o)
case_step o h all = fold-roll-Case _ _ _ _ hoist_layer hoist_item hoist_arm hoist_case o
    ∙ ap hoist_case (same_case _ _ _ _ _ _ _ _ o (parts_left (parts_of_case o) h (case_parts HasNoBuffers o all)))
    ∙ ap (λ z. one roll-Case (two (λ tests body. record { tests = tests; body = body }) z (none o.body))) (many_none o.tests)

-- an expression, as it is
pub expr_left : (x : Expr) → All (pieces_of x) → hoisted x ≡ none x
expr_left = by_parts Leaves ItemLeaves ArmLeaves CaseLeaves expr_step item_step arm_step case_step

def_left : (def : Def) → All (pieces_of_def def) → def_with body_hoisted def ≡ def
def_left (d.Struct x vars fields) h = refl
def_left (d.Sum x vars cons) h = refl
def_left (d.Table x i nums) h = refl
def_left (d.Fun x vars params result body) h =
    let before : List Piece = field_types params ++ map (λ (p : Field). Bound p.name) params ++ pieces_of_ty result in
    ap (λ n. d.Fun x vars params result (n.from 0)) (expr_left body (each_right (RoleIn HasNoBuffers) before (pieces_of body) h))
def_left (d.Entry x) h = refl

defs_left : (defs : List Def) → All (pieces_in defs) → map (def_with body_hoisted) defs ≡ defs
defs_left [] h = refl
defs_left (def ∷ defs) h = ap (λ z. z ∷ map (def_with body_hoisted) defs) (def_left def (each_left (RoleIn HasNoBuffers) (pieces_of_def def) (pieces_in defs) h))
    ∙ ap (λ z. def ∷ z) (defs_left defs (each_right (RoleIn HasNoBuffers) (pieces_of_def def) (pieces_in defs) h))

-- a file, as it is
pub file_left : (file : SourceFile) → EachRole HasNoBuffers file.defs → file_hoisted file ≡ file
file_left file h = ap (λ z. record { defs = z }) (defs_left file.defs h)
