-- Where no cases stand, no tests of cases stand.
use Rattle.std.proofs.Common.{List, [], ◌∷◌, ◌++◌, map, flat_map, sym, ap, ◌∙◌, subst}
use Rattle.std.specs.List.{AllByRecursion}
use Rattle.krml_trace.proofs.Lists.{each_append, each_left, each_right, each_so}
use Rattle.krml_syntax.specs.declared.tree.Ty.TheVariants as t
use Rattle.krml_syntax.specs.declared.tree.Field.{Field}
use Rattle.krml_syntax.specs.declared.tree.Con.{Con}
use Rattle.krml_syntax.specs.declared.tree.Arm.{Arm, roll-Arm}
use Rattle.krml_syntax.specs.declared.tree.Case.{Case}
use Rattle.krml_syntax.specs.declared.tree.Item.{Item, roll-Item}
use Rattle.krml_syntax.specs.declared.tree.Item.TheVariants as item
use Rattle.krml_syntax.specs.declared.tree.Expr.{Expr, roll-Expr, out-roll-Expr}
use Rattle.krml_syntax.specs.declared.tree.Expr.TheOpen.{Expr-F, Item-F, Arm-F}
use Rattle.krml_syntax.specs.declared.tree.Def.{Def}
use Rattle.krml_syntax.specs.declared.tree.Def.TheVariants as d
use Rattle.krml_syntax.specs.Shape.{Part, Role, role, parts_of, parts_of_item, parts_of_arm, OfParts}
use Rattle.krml_syntax.proofs.Attached.{by_parts}
use Rattle.krml_ast.specs.Pieces.{Piece, Value, Test, Pattern, Written, Bound, pieces_of, pieces_of_ty, pieces_of_pat, pieces_of_def, pieces_in, field_types, own_pieces}
use Rattle.krml_ast.specs.FileTypes.{RoleIn, EachRole, HasNoCases}
use Rattle.krml_ast.proofs.Pieces.{inside_item, inside_arm, Parts, HoldsIn, parts_hold, inside_hold, let_inside, run_inside, arm_inside}
use Rattle.krml_passing.proofs.RoleParts.{ty_holds, pat_holds, fields_hold, cons_hold, params_hold, own_holds, item_parts, arm_parts}

abbrev pub IsNoTest : Piece → Type 0
IsNoTest (Test x) = ⊥
IsNoTest _ = Unit {0}

-- nothing has a role
abbrev None_ : Role → Type 0
None_ r = ⊥

abbrev Uncased : List Piece → Type 0
Uncased pieces = AllByRecursion (RoleIn HasNoCases) pieces

abbrev Untested : List Piece → Type 0
Untested pieces = AllByRecursion IsNoTest pieces

-- what has no role is no test
no_role : (x : Piece) → RoleIn None_ x → IsNoTest x
no_role (Test x) h = h
no_role (Value x) h = tt
no_role (Pattern q) h = tt
no_role (Written a) h = tt
no_role (Bound x) h = tt

no_roles : (pieces : List Piece) → AllByRecursion (RoleIn None_) pieces → Untested pieces
no_roles pieces h = each_so (RoleIn None_) IsNoTest pieces no_role h

both : (xs ys : List Piece) → Untested xs → Untested ys → Untested (xs ++ ys)
both xs ys h k = each_append IsNoTest xs ys h k

-- ---- the parts of a form

abbrev NoCase : Parts → Type 0
NoCase parts = OfParts (λ x. Unit {0}) (λ x. Unit {0}) (λ x. Unit {0}) (λ x. ⊥) parts

exprs_no_case : (es : List Expr) → NoCase (map Part.expr es)
exprs_no_case [] = tt
exprs_no_case (x ∷ es) = (tt, exprs_no_case es)

arms_no_case : (arms : List Arm) → NoCase (map Part.arm arms)
arms_no_case [] = tt
arms_no_case (x ∷ arms) = (tt, arms_no_case arms)

items_no_case : (items : List Item) (a : Expr) → NoCase (map Part.item items ++ Part.expr a ∷ [])
items_no_case [] a = (tt, tt)
items_no_case (x ∷ items) a = (tt, items_no_case items a)

-- cases are parts of one form alone
no_case : (o : Expr-F Expr Item Arm Case) → HasNoCases (role o) → NoCase (parts_of o)
no_case (Expr-F.Var x) h = tt
no_case Expr-F.Unit h = tt
no_case (Expr-F.Bool b) h = tt
no_case (Expr-F.Num i n) h = tt
no_case (Expr-F.Bin o i a b) h = (tt, (tt, tt))
no_case (Expr-F.Shift left i a n) h = (tt, (tt, tt))
no_case (Expr-F.Cmp o i a b) h = (tt, (tt, tt))
no_case (Expr-F.Not a) h = (tt, tt)
no_case (Expr-F.Cast i j a) h = (tt, tt)
no_case (Expr-F.Hide i a) h = (tt, tt)
no_case (Expr-F.Make x args es) h = exprs_no_case es
no_case (Expr-F.Get y a) h = (tt, tt)
no_case (Expr-F.Con x args es) h = exprs_no_case es
no_case (Expr-F.Read a i) h = (tt, (tt, tt))
no_case (Expr-F.Write a i v) h = (tt, (tt, (tt, tt)))
no_case (Expr-F.Slice a i n) h = (tt, (tt, (tt, tt)))
no_case (Expr-F.Tab x a) h = (tt, tt)
no_case (Expr-F.If c a b) h = (tt, (tt, (tt, tt)))
no_case (Expr-F.Match a arms) h = (tt, arms_no_case arms)
no_case (Expr-F.Do items a) h = items_no_case items a
no_case (Expr-F.Frame slots a) h = (tt, tt)
no_case (Expr-F.Alloc b n a) h = (tt, tt)
no_case (Expr-F.While c a) h = (tt, (tt, tt))
no_case (Expr-F.For x a b c) h = (tt, (tt, (tt, tt)))
no_case (Expr-F.Call x args es) h = exprs_no_case es
no_case (Expr-F.Cases cases) h = absurd h
no_case (Expr-F.TagIs x a) h = (tt, tt)
no_case (Expr-F.Part x j a) h = (tt, tt)
no_case (Expr-F.Fill k a) h = (tt, tt)

-- ---- expressions

abbrev InExpr : Expr → Type 0
InExpr x = Uncased (pieces_of x) → Untested (pieces_of x)

abbrev InItem : Item → Type 0
InItem x = Uncased (inside_item x) → Untested (inside_item x)

abbrev InArm : Arm → Type 0
InArm x = Uncased (inside_arm x) → Untested (inside_arm x)

abbrev InCase : Case → Type 0
InCase x = Unit {0}

each_part : (parts : Parts) → NoCase parts → OfParts InExpr InItem InArm InCase parts → HoldsIn (RoleIn HasNoCases) parts
    → HoldsIn IsNoTest parts
each_part [] none so h = tt
each_part (Part.expr a ∷ parts) none so h = (so.0 h.0, each_part parts none.1 so.1 h.1)
each_part (Part.item x ∷ parts) none so h = (so.0 h.0, each_part parts none.1 so.1 h.1)
each_part (Part.arm x ∷ parts) none so h = (so.0 h.0, each_part parts none.1 so.1 h.1)
each_part (Part.case_ x ∷ parts) none so h = absurd none.0

expr_step : (o : Expr-F Expr Item Arm Case) → OfParts InExpr InItem InArm InCase (parts_of o) → InExpr (roll-Expr o)
expr_step o so h =
    let none = no_case o (subst (λ z. HasNoCases (role z)) (out-roll-Expr o) h.0) in (
      tt,
      inside_hold IsNoTest (roll-Expr o) o (out-roll-Expr o) (no_roles (own_pieces o) (own_holds None_ o))
          (each_part (parts_of o) none so (parts_hold (RoleIn HasNoCases) (roll-Expr o) o (out-roll-Expr o) h.1)),
    )

item_step : (o : Item-F Expr Item Arm Case) → OfParts InExpr InItem InArm InCase (parts_of_item o) → InItem (roll-Item o)
item_step (Item-F.Let x b a) so h = subst Untested (sym (ap inside_item (item.rolls-Let x b a) ∙ let_inside x b a))
    (both (pieces_of_ty b ++ pieces_of a) (Bound x ∷ [])
    (both (pieces_of_ty b) (pieces_of a) (no_roles (pieces_of_ty b) (ty_holds None_ b))
    (so.0 (item_parts HasNoCases (Item-F.Let x b a) h).0)) (tt, tt))
item_step (Item-F.Run a) so h = subst Untested (sym (ap inside_item (item.rolls-Run a) ∙ run_inside a))
    (so.0 (item_parts HasNoCases (Item-F.Run a) h).0)

arm_step : (o : Arm-F Expr Item Arm Case) → OfParts InExpr InItem InArm InCase (parts_of_arm o) → InArm (roll-Arm o)
arm_step o so h = subst Untested (sym (arm_inside o.pat o.body))
    (both (pieces_of_pat o.pat) (pieces_of o.body) (no_roles (pieces_of_pat o.pat) (pat_holds None_ o.pat))
    (so.0 (arm_parts HasNoCases o h).0))

no_tests_in : (x : Expr) → InExpr x
no_tests_in = by_parts InExpr InItem InArm InCase expr_step item_step arm_step (λ o so. tt)

-- ---- definitions

no_tests_of : (def : Def) → Uncased (pieces_of_def def) → Untested (pieces_of_def def)
no_tests_of (d.Struct x vars fields) h = no_roles (field_types fields) (fields_hold None_ fields)
no_tests_of (d.Sum x vars cons) h = no_roles (flat_map (λ (c : Con). flat_map pieces_of_ty c.args) cons) (cons_hold None_ cons)
no_tests_of (d.Table x i nums) h = no_roles (pieces_of_ty (t.Int i)) (ty_holds None_ (t.Int i))
no_tests_of (d.Fun x vars params result body) h =
    let names : List Piece = map (λ (p : Field). Bound p.name) params in
    let head : AllByRecursion (RoleIn None_) (field_types params ++ names ++ pieces_of_ty result) =
    each_append (RoleIn None_) (field_types params ++ names) (pieces_of_ty result)
    (each_append (RoleIn None_) (field_types params) names (fields_hold None_ params) (params_hold None_ params)) (ty_holds None_ result) in
    both (field_types params ++ names ++ pieces_of_ty result) (pieces_of body)
    (no_roles (field_types params ++ names ++ pieces_of_ty result) head)
    (no_tests_in body
    (each_right (RoleIn HasNoCases) (field_types params ++ names ++ pieces_of_ty result) (pieces_of body) h))
no_tests_of (d.Entry x) h = tt

pub no_tests : (defs : List Def) → EachRole HasNoCases defs → AllByRecursion IsNoTest (pieces_in defs)
no_tests [] h = tt
no_tests (def ∷ defs) h = both (pieces_of_def def) (pieces_in defs)
    (no_tests_of def (each_left (RoleIn HasNoCases) (pieces_of_def def) (pieces_in defs) h))
    (no_tests defs (each_right (RoleIn HasNoCases) (pieces_of_def def) (pieces_in defs) h))
