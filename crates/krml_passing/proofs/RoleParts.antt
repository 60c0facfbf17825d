-- What holds of the role of each form in an expression, part by part: types, patterns and variables have no role.
use Rattle.std.proofs.Common.{ℕ, List, [], ◌∷◌, ◌++◌, map, flat_map, sym, ap, ◌∙◌, subst}
use Rattle.std.specs.List.{AllByRecursion}
use Rattle.krml_trace.proofs.Lists.{each_append, each_left, each_right}
use Rattle.krml_syntax.specs.declared.tree.Ty.{Ty, roll-Ty, map-Ty}
use Rattle.krml_syntax.specs.declared.tree.Ty.TheVariants as t
use Rattle.krml_syntax.specs.declared.tree.Ty.TheOpen.{Ty-F}
use Rattle.krml_syntax.specs.declared.tree.Ty.TheFolds.{ind-Ty, para-Ty, para-roll-Ty}
use Rattle.krml_syntax.specs.declared.tree.Pat.{Pat, roll-Pat, map-Pat}
use Rattle.krml_syntax.specs.declared.tree.Pat.TheOpen.{Pat-F}
use Rattle.krml_syntax.specs.declared.tree.Pat.TheFolds.{ind-Pat, para-Pat, para-roll-Pat}
use Rattle.krml_syntax.specs.declared.tree.Field.{Field}
use Rattle.krml_syntax.specs.declared.tree.Con.{Con}
use Rattle.krml_syntax.specs.declared.tree.Arm.{Arm, roll-Arm}
use Rattle.krml_syntax.specs.declared.tree.Case.{Case, roll-Case}
use Rattle.krml_syntax.specs.declared.tree.Item.{Item, roll-Item}
use Rattle.krml_syntax.specs.declared.tree.Item.TheVariants as item
use Rattle.krml_syntax.specs.declared.tree.Expr.{Expr}
use Rattle.krml_syntax.specs.declared.tree.Expr.TheOpen.{Expr-F, Item-F, Arm-F, Case-F}
use Rattle.krml_syntax.specs.declared.tree.Def.{Def}
use Rattle.krml_syntax.specs.declared.tree.Def.TheVariants as d
use Rattle.krml_syntax.specs.Shape.{Part, Role, parts_of_item, parts_of_arm, parts_of_case}
use Rattle.krml_ast.specs.Pieces.{Piece, Test, Bound, pieces_of, pieces_of_ty, pieces_of_pat, pieces_of_def, pieces_in, inside_level_ty, inside_level_pat, field_types, written_types, bound_variables, own_pieces}
use Rattle.krml_ast.specs.FileTypes.{RoleIn, EachRole}
use Rattle.krml_ast.proofs.Pieces.{inside_item, inside_arm, inside_case, in_tests, inside, Parts, HoldsIn, last_holds, hold_last, let_inside, run_inside, arm_inside, case_inside}
use Rattle.krml_rename.specs.Pass.{def_with}

-- ---- types and patterns have no role

module _ (R : Role → Type 0) where
  abbrev All : List Piece → Type 0
  All pieces = AllByRecursion (RoleIn R) pieces

  both : (xs ys : List Piece) → All xs → All ys → All (xs ++ ys)
  both xs ys h k = each_append (RoleIn R) xs ys h k

  abbrev in_ty : Ty → List Piece
  in_ty a = para-Ty (List Piece) inside_level_ty a

  abbrev in_pat : Pat → List Piece
  in_pat q = para-Pat (List Piece) inside_level_pat q

  module _ (X : Type 0) (w : X → Ty) (h : (x : X) → All (in_ty (w x))) where
    all_types : (xs : List X) → All (inside_level_ty (Ty-F.Named [] (map (λ a. (a, in_ty a)) (map w xs))))
    all_types [] = tt
    all_types (x ∷ xs) =
        (tt, both (in_ty (w x)) (inside_level_ty (Ty-F.Named [] (map (λ a. (a, in_ty a)) (map w xs)))) (h x) (all_types xs))

    ty_level : (y : Ty-F X) → All (inside_level_ty (map-Ty Ty (Ty × List Piece) (λ a. (a, in_ty a)) (map-Ty X Ty w y)))
    ty_level (Ty-F.Buf x) = (tt, h x)
    ty_level (Ty-F.Named x xs) = all_types xs
    ty_level _ = tt

    ty_step : (y : Ty-F X) → All (in_ty (roll-Ty (map-Ty X Ty w y)))
    ty_step y = subst All (sym (para-roll-Ty (List Piece) inside_level_ty (map-Ty X Ty w y))) (ty_level y)

  pub ty_holds : (a : Ty) → All (pieces_of_ty a)
  ty_holds a =
      (tt, ind-Ty (λ a. All (in_ty a)) (λ x y eq. subst (λ z. All (in_ty (roll-Ty z))) eq (ty_step _ (λ q. q.0) (λ q. q.1) y)) a)

  pub types_hold : (types : List Ty) → All (flat_map pieces_of_ty types)
  types_hold [] = tt
  types_hold (a ∷ types) = both (pieces_of_ty a) (flat_map pieces_of_ty types) (ty_holds a) (types_hold types)

  module _ (X : Type 0) (w : X → Pat) (h : (x : X) → All (in_pat (w x))) where
    all_pats : (xs : List X) → All (inside_level_pat (Pat-F.Con [] (map (λ q. (q, in_pat q)) (map w xs))))
    all_pats [] = tt
    all_pats (x ∷ xs) =
        (tt, both (in_pat (w x)) (inside_level_pat (Pat-F.Con [] (map (λ q. (q, in_pat q)) (map w xs)))) (h x) (all_pats xs))

    pat_level : (y : Pat-F X) → All (inside_level_pat (map-Pat Pat (Pat × List Piece) (λ q. (q, in_pat q)) (map-Pat X Pat w y)))
    pat_level (Pat-F.Bind x) = (tt, tt)
    pat_level (Pat-F.Con x xs) = all_pats xs
    pat_level (Pat-F.Make x xs) = all_pats xs
    pat_level _ = tt

    pat_step : (y : Pat-F X) → All (in_pat (roll-Pat (map-Pat X Pat w y)))
    pat_step y = subst All (sym (para-roll-Pat (List Piece) inside_level_pat (map-Pat X Pat w y))) (pat_level y)

  pub pat_holds : (q : Pat) → All (pieces_of_pat q)
  pat_holds q =
      (tt, ind-Pat (λ q. All (in_pat q)) (λ x y eq. subst (λ z. All (in_pat (roll-Pat z))) eq (pat_step _ (λ q. q.0) (λ q. q.1) y)) q)

  bounds_hold : (xs : List (List ℕ)) → All (map Bound xs)
  bounds_hold [] = tt
  bounds_hold (x ∷ xs) = (tt, bounds_hold xs)

  pub own_holds : {E I A C : Type 0} (o : Expr-F E I A C) → All (own_pieces o)
  own_holds o = both (flat_map pieces_of_ty (written_types o)) (map Bound (bound_variables o)) (types_hold (written_types o))
      (bounds_hold (bound_variables o))

  -- ---- what holds in the parts, and in the whole

  abbrev AllIn : Parts → Type 0
  AllIn parts = HoldsIn (RoleIn R) parts

  pub item_parts : (o : Item-F Expr Item Arm Case) → All (inside_item (roll-Item o)) → AllIn (parts_of_item o)
  item_parts (Item-F.Let x b a) h = (
    each_right (RoleIn R) (pieces_of_ty b) (pieces_of a) (each_left (RoleIn R)
        (pieces_of_ty b ++ pieces_of a) (Bound x ∷ []) (subst All (ap inside_item (item.rolls-Let x b a) ∙ let_inside x b a) h)),
    tt,
  )
  item_parts (Item-F.Run a) h = (subst All (ap inside_item (item.rolls-Run a) ∙ run_inside a) h, tt)

  pub item_whole : (o : Item-F Expr Item Arm Case) → AllIn (parts_of_item o) → All (inside_item (roll-Item o))
  item_whole (Item-F.Let x b a) h = subst All (sym (ap inside_item (item.rolls-Let x b a) ∙ let_inside x b a))
      (both (pieces_of_ty b ++ pieces_of a) (Bound x ∷ []) (both (pieces_of_ty b) (pieces_of a) (ty_holds b) h.0) (tt, tt))
  item_whole (Item-F.Run a) h = subst All (sym (ap inside_item (item.rolls-Run a) ∙ run_inside a)) h.0

  pub arm_parts : (o : Arm-F Expr Item Arm Case) → All (inside_arm (roll-Arm o)) → AllIn (parts_of_arm o)
  arm_parts o h = (each_right (RoleIn R) (pieces_of_pat o.pat) (pieces_of o.body) (subst All (arm_inside o.pat o.body) h), tt)

  pub arm_whole : (o : Arm-F Expr Item Arm Case) → AllIn (parts_of_arm o) → All (inside_arm (roll-Arm o))
  arm_whole o h = subst All (sym (arm_inside o.pat o.body)) (both (pieces_of_pat o.pat) (pieces_of o.body) (pat_holds o.pat) h.0)

  tests_parts : (tests : List Expr) → All (in_tests tests) → AllIn (map Part.expr tests)
  tests_parts [] h = tt
  tests_parts (a ∷ tests) h = (
    each_left (RoleIn R) (pieces_of a) (in_tests tests) h,
    tests_parts tests (each_right (RoleIn R) (pieces_of a) (in_tests tests) h),
  )

  tests_whole : (tests : List Expr) → AllIn (map Part.expr tests) → All (in_tests tests)
  tests_whole [] h = tt
  tests_whole (a ∷ tests) h = both (Test a ∷ inside a) (in_tests tests) h.0 (tests_whole tests h.1)

  pub case_parts : (o : Case-F Expr Item Arm Case) → All (inside_case (roll-Case o)) → AllIn (parts_of_case o)
  case_parts o h =
      let pieces = subst All (case_inside o.tests o.body) h in
      hold_last (RoleIn R) (map Part.expr o.tests) o.body
      (tests_parts o.tests (each_left (RoleIn R) (in_tests o.tests) (pieces_of o.body) pieces))
      (each_right (RoleIn R) (in_tests o.tests) (pieces_of o.body) pieces)

  pub case_whole : (o : Case-F Expr Item Arm Case) → AllIn (parts_of_case o) → All (inside_case (roll-Case o))
  case_whole o h =
      let held = last_holds (RoleIn R) (map Part.expr o.tests) o.body h in
      subst All (sym (case_inside o.tests o.body)) (both (in_tests o.tests) (pieces_of o.body) (tests_whole o.tests held.0) held.1)

  -- ---- definitions

  pub fields_hold : (fields : List Field) → All (field_types fields)
  fields_hold [] = tt
  fields_hold (f ∷ fields) = both (pieces_of_ty f.ty) (field_types fields) (ty_holds f.ty) (fields_hold fields)

  pub cons_hold : (cons : List Con) → All (flat_map (λ (c : Con). flat_map pieces_of_ty c.args) cons)
  cons_hold [] = tt
  cons_hold (c ∷ cons) = both (flat_map pieces_of_ty c.args) (flat_map (λ (z : Con). flat_map pieces_of_ty z.args) cons)
      (types_hold c.args) (cons_hold cons)

  pub params_hold : (params : List Field) → All (map (λ (p : Field). Bound p.name) params)
  params_hold [] = tt
  params_hold (p ∷ params) = (tt, params_hold params)

  -- what holds of each body
  abbrev BodyHolds : Def → Type 0
  BodyHolds (d.Fun x vars params result body) = All (pieces_of body)
  BodyHolds _ = Unit {0}

  body_holds : (def : Def) → All (pieces_of_def def) → BodyHolds def
  body_holds (d.Fun x vars params result body) h = each_right (RoleIn R)
      (field_types params ++ map (λ (p : Field). Bound p.name) params ++ pieces_of_ty result) (pieces_of body) h
  body_holds _ h = tt

  def_holds : (def : Def) → BodyHolds def → All (pieces_of_def def)
  def_holds (d.Struct x vars fields) h = fields_hold fields
  def_holds (d.Sum x vars cons) h = cons_hold cons
  def_holds (d.Table x i nums) h = ty_holds (t.Int i)
  def_holds (d.Fun x vars params result body) h =
      let names : List Piece = map (λ (p : Field). Bound p.name) params in
      both (field_types params ++ names ++ pieces_of_ty result) (pieces_of body)
      (both (field_types params ++ names) (pieces_of_ty result) (both (field_types params) names (fields_hold params) (params_hold params))
      (ty_holds result)) h
  def_holds (d.Entry x) h = tt

-- What holds of the roles in other bodies holds of those in the file with these bodies.
module _ (R R' : Role → Type 0) (body : Expr → Expr)
    (kept : (x : Expr) → AllByRecursion (RoleIn R) (pieces_of x) → AllByRecursion (RoleIn R') (pieces_of (body x))) where
  def_kept : (def : Def) → BodyHolds R def → BodyHolds R' (def_with body def)
  def_kept (d.Fun x vars params result e) h = kept e h
  def_kept (d.Struct x vars fields) h = tt
  def_kept (d.Sum x vars cons) h = tt
  def_kept (d.Table x i nums) h = tt
  def_kept (d.Entry x) h = tt

  pub roles_with : (defs : List Def) → EachRole R defs → EachRole R' (map (def_with body) defs)
  roles_with [] h = tt
  roles_with (def ∷ defs) h = each_append (RoleIn R') (pieces_of_def (def_with body def)) (pieces_in (map (def_with body) defs))
      (def_holds R' (def_with body def) (def_kept def (body_holds R def (each_left (RoleIn R) (pieces_of_def def) (pieces_in defs) h))))
      (roles_with defs (each_right (RoleIn R) (pieces_of_def def) (pieces_in defs) h))
