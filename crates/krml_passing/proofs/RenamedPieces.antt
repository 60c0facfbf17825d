-- What stands in a file under the new names: each piece under its new names, in the same order.
use Rattle.std.proofs.Common.{◌≡◌, ℕ, Bool, List, [], ◌∷◌, ◌++◌, map, flat_map, refl, sym, ap, ◌∙◌, subst}
use Rattle.std.proofs.lemmas.List.{map-append}
use Rattle.krml_syntax.specs.declared.tree.IntTy.{IntTy}
use Rattle.krml_syntax.specs.declared.tree.Ty.{Ty, roll-Ty, map-Ty}
use Rattle.krml_syntax.specs.declared.tree.Ty.TheVariants as t
use Rattle.krml_syntax.specs.declared.tree.Ty.TheOpen.{Ty-F}
use Rattle.krml_syntax.specs.declared.tree.Ty.TheFolds.{ind-Ty, para-Ty, para-roll-Ty}
use Rattle.krml_syntax.specs.declared.tree.Field.{Field}
use Rattle.krml_syntax.specs.declared.tree.Con.{Con}
use Rattle.krml_syntax.specs.declared.tree.Slot.{Slot}
use Rattle.krml_syntax.specs.declared.tree.Pat.{Pat, roll-Pat, map-Pat}
use Rattle.krml_syntax.specs.declared.tree.Pat.TheVariants as p
use Rattle.krml_syntax.specs.declared.tree.Pat.TheOpen.{Pat-F}
use Rattle.krml_syntax.specs.declared.tree.Pat.TheFolds.{ind-Pat, para-Pat, para-roll-Pat}
use Rattle.krml_syntax.specs.declared.tree.Arm.{Arm, roll-Arm}
use Rattle.krml_syntax.specs.declared.tree.Case.{Case, roll-Case}
use Rattle.krml_syntax.specs.declared.tree.Item.{Item, roll-Item}
use Rattle.krml_syntax.specs.declared.tree.Item.TheVariants as item
use Rattle.krml_syntax.specs.declared.tree.Expr.{Expr, roll-Expr}
use Rattle.krml_syntax.specs.declared.tree.Expr.TheOpen.{Expr-F, Item-F, Arm-F, Case-F}
use Rattle.krml_syntax.specs.declared.tree.Expr.TheViews.{out-roll-Expr}
use Rattle.krml_syntax.specs.declared.tree.Def.{Def}
use Rattle.krml_syntax.specs.declared.tree.Def.TheVariants as d
use Rattle.krml_ast.specs.Pieces.{Piece, Value, Test, Pattern, Written, Bound, inside_level_ty, inside_level_pat, pieces_of, pieces_of_ty, pieces_of_pat, pieces_of_def, pieces_in, field_types, own_pieces}
use Rattle.krml_syntax.specs.Shape.{map_layer, Part, map_part, parts_of, parts_of_item, parts_of_arm, parts_of_case, OfParts}
use Rattle.krml_syntax.proofs.Shape.{parts_mapped}
use Rattle.krml_syntax.proofs.Attached.{by_parts}
use Rattle.krml_ast.proofs.Pieces.{Parts, inside, inside_item, inside_arm, inside_case, in_tests, pieces_of_parts, own_mapped, inside_roll, inside_of, let_inside, run_inside, arm_inside, case_inside}
use Rattle.krml_passing.specs.Naming.{field_under, param_under, con_under, slot_under, expr_under, item_under, arm_under, case_under, def_renamed, renaming_of, Naming, TellsNamesApart}
use Rattle.krml_passing.proofs.Lookups.{bool_under, unit_under, int_under, buf_under, var_under, named_under}
use Rattle.krml_rename.specs.Renaming.{Renaming, renamed}
use Rattle.krml_passing.proofs.RenamedLayers.{form_under, out_under, same_parts}
use Rattle.krml_rename.proofs.Equations as eq
use Rattle.krml_passing.proofs.RenamedLayers as pat

module _ (nm : Naming) (apart : TellsNamesApart nm) where
  abbrev rn : Renaming
  rn = renaming_of nm

  -- a piece under the new names
  abbrev pub piece_under : Piece → Piece
  piece_under (Value x) = Value (expr_under nm x)
  piece_under (Test x) = Test (expr_under nm x)
  piece_under (Pattern q) = Pattern (nm.pat q)
  piece_under (Written a) = Written (nm.ty a)
  piece_under (Bound x) = Bound x

  abbrev all_under : List Piece → List Piece
  all_under xs = map piece_under xs

  both : (xs ys xs' ys' : List Piece) → xs' ≡ all_under xs → ys' ≡ all_under ys → xs' ++ ys' ≡ all_under (xs ++ ys)
  both xs ys xs' ys' h k = ap (λ z. z ++ ys') h ∙ ap (λ z. all_under xs ++ z) k ∙ sym (map-append piece_under xs ys)

  -- ---- types

  abbrev in_ty : Ty → List Piece
  in_ty a = para-Ty (List Piece) inside_level_ty a

  abbrev in_types : List Ty → List Piece
  in_types types = inside_level_ty (Ty-F.Named [] (map (λ a. (a, in_ty a)) types))

  bool_inside : in_ty t.Bool ≡ []
  bool_inside = ap in_ty (sym t.rolls-Bool) ∙ para-roll-Ty (List Piece) inside_level_ty Ty-F.Bool

  unit_inside : in_ty t.Unit ≡ []
  unit_inside = ap in_ty (sym t.rolls-Unit) ∙ para-roll-Ty (List Piece) inside_level_ty Ty-F.Unit

  int_inside : (i : IntTy) → in_ty (t.Int i) ≡ []
  int_inside i = ap in_ty (sym (t.rolls-Int i)) ∙ para-roll-Ty (List Piece) inside_level_ty (Ty-F.Int i)

  buf_inside : (a : Ty) → in_ty (t.Buf a) ≡ pieces_of_ty a
  buf_inside a = ap in_ty (sym (t.rolls-Buf a)) ∙ para-roll-Ty (List Piece) inside_level_ty (Ty-F.Buf a)

  var_inside : (x : List ℕ) → in_ty (t.Var x) ≡ []
  var_inside x = ap in_ty (sym (t.rolls-Var x)) ∙ para-roll-Ty (List Piece) inside_level_ty (Ty-F.Var x)

  named_inside : (x : List ℕ) (args : List Ty) → in_ty (t.Named x args) ≡ in_types args
  named_inside x args = ap in_ty (sym (t.rolls-Named x args)) ∙ para-roll-Ty (List Piece) inside_level_ty (Ty-F.Named x args)

  abbrev InTy : Ty → Type 0
  InTy a = in_ty (nm.ty a) ≡ all_under (in_ty a)

  module _ (X : Type 0) (w : X → Ty) (h : (x : X) → InTy (w x)) where
    step_types : (xs : List X) → in_types (map nm.ty (map w xs)) ≡ all_under (in_types (map w xs))
    step_types [] = refl
    step_types (x ∷ xs) = ap (λ z. Written (nm.ty (w x)) ∷ z) (both (in_ty (w x)) (in_types (map w xs)) (in_ty (nm.ty (w x))) (in_types (map nm.ty (map w xs))) (h x) (step_types xs))

    step_ty : (y : Ty-F X) → InTy (roll-Ty (map-Ty X Ty w y))
    step_ty Ty-F.Bool = rw t.rolls-Bool (rw (bool_under nm apart, bool_inside) refl)
    step_ty Ty-F.Unit = rw t.rolls-Unit (rw (unit_under nm apart, unit_inside) refl)
    step_ty (Ty-F.Int i) = rw (t.rolls-Int i) (rw (int_under nm apart i, int_inside i) refl)
    step_ty (Ty-F.Buf x) = rw (t.rolls-Buf (w x)) (rw (buf_under nm apart (w x), buf_inside (nm.ty (w x)), buf_inside (w x)) (ap (λ z. Written (nm.ty (w x)) ∷ z) (h x)))
    step_ty (Ty-F.Var x) = rw (t.rolls-Var x) (rw (var_under nm apart x, var_inside x) refl)
    step_ty (Ty-F.Named x xs) = rw (t.rolls-Named x (map w xs)) (rw (
      (named_under nm apart) x (map w xs),
      named_inside (nm.named x) (map nm.ty (map w xs)),
      named_inside x (map w xs),
    ) (step_types xs))

  ty_inside : (a : Ty) → InTy a
  ty_inside = ind-Ty InTy (λ x y eq. subst (λ z. InTy (roll-Ty z)) eq (step_ty _ (λ q. q.0) (λ q. q.1) y))

  pub ty_pieces : (a : Ty) → pieces_of_ty (nm.ty a) ≡ map piece_under (pieces_of_ty a)
  ty_pieces a = ap (λ z. Written (nm.ty a) ∷ z) (ty_inside a)

  types_pieces : (types : List Ty) → flat_map pieces_of_ty (map nm.ty types) ≡ all_under (flat_map pieces_of_ty types)
  types_pieces [] = refl
  types_pieces (a ∷ types) = both (pieces_of_ty a) (flat_map pieces_of_ty types) (pieces_of_ty (nm.ty a)) (flat_map pieces_of_ty (map nm.ty types)) (ty_pieces a) (types_pieces types)

  -- ---- patterns

  abbrev in_pat : Pat → List Piece
  in_pat q = para-Pat (List Piece) inside_level_pat q

  abbrev in_pats : List Pat → List Piece
  in_pats ps = inside_level_pat (Pat-F.Con [] (map (λ q. (q, in_pat q)) ps))

  any_inside : in_pat p.Any ≡ []
  any_inside = ap in_pat (sym p.rolls-Any) ∙ para-roll-Pat (List Piece) inside_level_pat Pat-F.Any

  bind_inside : (x : List ℕ) → in_pat (p.Bind x) ≡ Bound x ∷ []
  bind_inside x = ap in_pat (sym (p.rolls-Bind x)) ∙ para-roll-Pat (List Piece) inside_level_pat (Pat-F.Bind x)

  bool_pat_inside : (b : Bool) → in_pat (p.Bool b) ≡ []
  bool_pat_inside b = ap in_pat (sym (p.rolls-Bool b)) ∙ para-roll-Pat (List Piece) inside_level_pat (Pat-F.Bool b)

  num_pat_inside : (i : IntTy) (n : ℕ) → in_pat (p.Num i n) ≡ []
  num_pat_inside i n = ap in_pat (sym (p.rolls-Num i n)) ∙ para-roll-Pat (List Piece) inside_level_pat (Pat-F.Num i n)

  con_pat_inside : (x : List ℕ) (ps : List Pat) → in_pat (p.Con x ps) ≡ in_pats ps
  con_pat_inside x ps = ap in_pat (sym (p.rolls-Con x ps)) ∙ para-roll-Pat (List Piece) inside_level_pat (Pat-F.Con x ps)

  make_pat_inside : (x : List ℕ) (ps : List Pat) → in_pat (p.Make x ps) ≡ in_pats ps
  make_pat_inside x ps = ap in_pat (sym (p.rolls-Make x ps)) ∙ para-roll-Pat (List Piece) inside_level_pat (Pat-F.Make x ps)

  abbrev InPat : Pat → Type 0
  InPat q = in_pat (nm.pat q) ≡ all_under (in_pat q)

  module _ (X : Type 0) (w : X → Pat) (h : (x : X) → InPat (w x)) where
    step_pats : (xs : List X) → in_pats (map nm.pat (map w xs)) ≡ all_under (in_pats (map w xs))
    step_pats [] = refl
    step_pats (x ∷ xs) = ap (λ z. Pattern (nm.pat (w x)) ∷ z) (both (in_pat (w x)) (in_pats (map w xs)) (in_pat (nm.pat (w x))) (in_pats (map nm.pat (map w xs))) (h x) (step_pats xs))

    step_pat : (y : Pat-F X) → InPat (roll-Pat (map-Pat X Pat w y))
    step_pat Pat-F.Any = rw p.rolls-Any (rw (pat.any_pat nm apart, any_inside) refl)
    step_pat (Pat-F.Bind x) = rw (p.rolls-Bind x) (rw (pat.bind_pat nm apart x, bind_inside x) refl)
    step_pat (Pat-F.Bool b) = rw (p.rolls-Bool b) (rw (pat.bool_pat nm apart b, bool_pat_inside b) refl)
    step_pat (Pat-F.Num i n) = rw (p.rolls-Num i n) (rw (pat.num_pat nm apart i n, num_pat_inside i n) refl)
    step_pat (Pat-F.Con x xs) = rw (p.rolls-Con x (map w xs)) (rw (pat.con_pat nm apart x (map w xs), con_pat_inside (nm.con x) (map nm.pat (map w xs)), con_pat_inside x (map w xs)) (step_pats xs))
    step_pat (Pat-F.Make x xs) = rw (p.rolls-Make x (map w xs))
        (rw (pat.make_pat nm apart x (map w xs), make_pat_inside (nm.named x) (map nm.pat (map w xs)), make_pat_inside x (map w xs)) (step_pats xs))

  pat_inside : (q : Pat) → InPat q
  pat_inside = ind-Pat InPat (λ x y eq. subst (λ z. InPat (roll-Pat z)) eq (step_pat _ (λ q. q.0) (λ q. q.1) y))

  pub pat_pieces : (q : Pat) → pieces_of_pat (nm.pat q) ≡ map piece_under (pieces_of_pat q)
  pat_pieces q = ap (λ z. Pattern (nm.pat q) ∷ z) (pat_inside q)

  -- ---- expressions

  abbrev InExpr : Expr → Type 0
  InExpr x = inside (expr_under nm x) ≡ all_under (inside x)

  abbrev InItem : Item → Type 0
  InItem x = inside_item (item_under nm x) ≡ all_under (inside_item x)

  abbrev InArm : Arm → Type 0
  InArm x = inside_arm (arm_under nm x) ≡ all_under (inside_arm x)

  abbrev InCase : Case → Type 0
  InCase x = inside_case (case_under nm x) ≡ all_under (inside_case x)

  -- an expression with what stands inside it
  whole : (x : Expr) → InExpr x → pieces_of (expr_under nm x) ≡ all_under (pieces_of x)
  whole x h = ap (λ z. Value (expr_under nm x) ∷ z) h

  -- parts under the new names
  abbrev parts_under : Parts → Parts
  parts_under parts = map (map_part (expr_under nm) (item_under nm) (arm_under nm) (case_under nm)) parts

  in_parts : (parts : Parts) → OfParts InExpr InItem InArm InCase parts → pieces_of_parts (parts_under parts) ≡ all_under (pieces_of_parts parts)
  in_parts [] h = refl
  in_parts (Part.expr a ∷ parts) h = both (pieces_of a) (pieces_of_parts parts) _ _ (whole a h.0) (in_parts parts h.1)
  in_parts (Part.item x ∷ parts) h = both (inside_item x) (pieces_of_parts parts) _ _ h.0 (in_parts parts h.1)
  in_parts (Part.arm x ∷ parts) h = both (inside_arm x) (pieces_of_parts parts) _ _ h.0 (in_parts parts h.1)
  in_parts (Part.case_ x ∷ parts) h = both (inside_case x) (pieces_of_parts parts) _ _ h.0 (in_parts parts h.1)

  -- a form writes the same types under the new names, and binds the same variables
  int_own : (i : IntTy) → pieces_of_ty (t.Int i) ≡ all_under (pieces_of_ty (t.Int i))
  int_own i = ap pieces_of_ty (sym (int_under nm apart i)) ∙ ty_pieces (t.Int i)

  types_own : (types types' : List Ty) → types' ≡ map nm.ty types → flat_map pieces_of_ty types' ++ [] ≡ all_under (flat_map pieces_of_ty types ++ [])
  types_own types types' is = both (flat_map pieces_of_ty types) [] (flat_map pieces_of_ty types') [] (ap (flat_map pieces_of_ty) is ∙ types_pieces types) refl

  one_int : (i : IntTy) → t.Int i ∷ [] ≡ map nm.ty (t.Int i ∷ [])
  one_int i = ap (λ z. z ∷ []) (sym (int_under nm apart i))

  of_slots : (slots : List Slot) → map (λ (s : Slot). s.ty) (map (slot_under nm) slots) ≡ map nm.ty (map (λ (s : Slot). s.ty) slots)
  of_slots [] = refl
  of_slots (s ∷ slots) = ap (λ z. nm.ty s.ty ∷ z) (of_slots slots)

  own : (o : Expr-F Expr Item Arm Case) → own_pieces (renamed (renaming_of nm) o) ≡ all_under (own_pieces o)
  own (Expr-F.Num i n) = types_own (t.Int i ∷ []) (t.Int i ∷ []) (one_int i)
  own (Expr-F.Bin o i a b) = types_own (t.Int i ∷ []) (t.Int i ∷ []) (one_int i)
  own (Expr-F.Shift left i a n) = types_own (t.Int i ∷ []) (t.Int i ∷ []) (one_int i)
  own (Expr-F.Cmp o i a b) = types_own (t.Int i ∷ []) (t.Int i ∷ []) (one_int i)
  own (Expr-F.Cast i j a) = types_own (t.Int i ∷ t.Int j ∷ []) (t.Int i ∷ t.Int j ∷ [])
      (ap (λ z. z ∷ t.Int j ∷ []) (sym (int_under nm apart i)) ∙ ap (λ z. nm.ty (t.Int i) ∷ z) (one_int j))
  own (Expr-F.Hide i a) = types_own (t.Int i ∷ []) (t.Int i ∷ []) (one_int i)
  own (Expr-F.Make x args es) = types_own args (map nm.ty args) refl
  own (Expr-F.Con x args es) = types_own args (map nm.ty args) refl
  own (Expr-F.Frame slots a) = types_own (map (λ (s : Slot). s.ty) slots) (map (λ (s : Slot). s.ty) (map (slot_under nm) slots)) (of_slots slots)
  own (Expr-F.Alloc b n a) = types_own (b ∷ []) (nm.ty b ∷ []) refl
  own (Expr-F.Call x args es) = types_own args (map nm.ty args) refl
  own _ = refl

  expr_step : (o : Expr-F Expr Item Arm Case) → OfParts InExpr InItem InArm InCase (parts_of o) → InExpr (roll-Expr o)
  expr_step o h =
      let x = roll-Expr o in
      let layer = map_layer (expr_under nm) (item_under nm) (arm_under nm) (case_under nm) o in
      inside_of (expr_under nm x) (form_under nm o) (out_under nm x ∙ ap (form_under nm) (out-roll-Expr o))
      ∙ both (own_pieces o) (pieces_of_parts (parts_of o)) _ _
      (own layer ∙ ap all_under (own_mapped (expr_under nm) (item_under nm) (arm_under nm) (case_under nm) o))
      (ap pieces_of_parts (same_parts nm layer ∙ parts_mapped (expr_under nm) (item_under nm) (arm_under nm) (case_under nm) o) ∙ in_parts (parts_of o) h)
      ∙ ap all_under (sym (inside_roll o))

  item_step : (o : Item-F Expr Item Arm Case) → OfParts InExpr InItem InArm InCase (parts_of_item o) → InItem (roll-Item o)
  item_step (Item-F.Let x b a) h = rw (item.rolls-Let x b a) (rw (eq.let_is rn x b a, let_inside x (nm.ty b) (expr_under nm a), let_inside x b a)
      (both (pieces_of_ty b ++ pieces_of a) (Bound x ∷ []) _ _ (both (pieces_of_ty b) (pieces_of a) _ _ (ty_pieces b) (whole a h.0)) refl))
  item_step (Item-F.Run a) h = rw (item.rolls-Run a) (rw (eq.run_is rn a, run_inside (expr_under nm a), run_inside a) (whole a h.0))

  arm_step : (o : Arm-F Expr Item Arm Case) → OfParts InExpr InItem InArm InCase (parts_of_arm o) → InArm (roll-Arm o)
  arm_step o h = rw (eq.arm_is rn o.pat o.body, arm_inside (nm.pat o.pat) (expr_under nm o.body), arm_inside o.pat o.body)
      (both (pieces_of_pat o.pat) (pieces_of o.body) _ _ (pat_pieces o.pat) (whole o.body h.0))

  -- tests, and the body behind them
  case_parts : (tests : List Expr) (a : Expr) → OfParts InExpr InItem InArm InCase (map Part.expr tests ++ Part.expr a ∷ [])
      → (in_tests (map (expr_under nm) tests) ≡ all_under (in_tests tests)) × InExpr a
  case_parts [] a h = (refl, h.0)
  case_parts (x ∷ tests) a h =
      let k = case_parts tests a h.1 in
      (both (Test x ∷ inside x) (in_tests tests) _ _ (ap (λ z. Test (expr_under nm x) ∷ z) h.0) k.0, k.1)

  case_step : (o : Case-F Expr Item Arm Case) → OfParts InExpr InItem InArm InCase (parts_of_case o) → InCase (roll-Case o)
  case_step o h =
      let k = case_parts o.tests o.body h in
      rw (eq.case_parts_is rn o.tests o.body, case_inside (map (expr_under nm) o.tests) (expr_under nm o.body), case_inside o.tests o.body)
      (both (in_tests o.tests) (pieces_of o.body) _ _ k.0 (whole o.body k.1))

  pub expr_pieces : (x : Expr) → pieces_of (expr_under nm x) ≡ map piece_under (pieces_of x)
  expr_pieces x = whole x (by_parts InExpr InItem InArm InCase expr_step item_step arm_step case_step x)

  -- ---- definitions

  fields_pieces : (fields : List Field) → field_types (map (field_under nm) fields) ≡ all_under (field_types fields)
  fields_pieces [] = refl
  fields_pieces (g ∷ fields) = both (pieces_of_ty g.ty) (field_types fields) (pieces_of_ty (nm.ty g.ty)) (field_types (map (field_under nm) fields)) (ty_pieces g.ty) (fields_pieces fields)

  params_pieces : (params : List Field) → field_types (map (param_under nm) params) ≡ all_under (field_types params)
  params_pieces [] = refl
  params_pieces (g ∷ params) = both (pieces_of_ty g.ty) (field_types params) (pieces_of_ty (nm.ty g.ty)) (field_types (map (param_under nm) params)) (ty_pieces g.ty) (params_pieces params)

  abbrev bound_params : List Field → List Piece
  bound_params params = map (λ (g : Field). Bound g.name) params

  bound_pieces : (params : List Field) → bound_params (map (param_under nm) params) ≡ all_under (bound_params params)
  bound_pieces [] = refl
  bound_pieces (g ∷ params) = ap (λ z. Bound g.name ∷ z) (bound_pieces params)

  abbrev in_cons : List Con → List Piece
  in_cons cons = flat_map (λ (c : Con). flat_map pieces_of_ty c.args) cons

  cons_pieces : (cons : List Con) → in_cons (map (con_under nm) cons) ≡ all_under (in_cons cons)
  cons_pieces [] = refl
  cons_pieces (c ∷ cons) = both (flat_map pieces_of_ty c.args) (in_cons cons) (flat_map pieces_of_ty (map nm.ty c.args)) (in_cons (map (con_under nm) cons)) (types_pieces c.args) (cons_pieces cons)

  pub def_pieces : (def : Def) → pieces_of_def (def_renamed nm def) ≡ map piece_under (pieces_of_def def)
  def_pieces (d.Struct x vars fields) = fields_pieces fields
  def_pieces (d.Sum x vars cons) = cons_pieces cons
  def_pieces (d.Table x i nums) = int_own i
  def_pieces (d.Fun x vars params result body) =
      let types : List Piece = field_types params in
      let names : List Piece = bound_params params in
      let types' : List Piece = field_types (map (param_under nm) params) in
      let names' : List Piece = bound_params (map (param_under nm) params) in
      both (types ++ names ++ pieces_of_ty result) (pieces_of body) (types' ++ names' ++ pieces_of_ty (nm.ty result)) (pieces_of (expr_under nm body))
      (both (types ++ names) (pieces_of_ty result) (types' ++ names') (pieces_of_ty (nm.ty result))
      (both types names types' names' (params_pieces params) (bound_pieces params)) (ty_pieces result)) (expr_pieces body)
  def_pieces (d.Entry x) = refl

  pub file_pieces : (defs : List Def) → pieces_in (map (def_renamed nm) defs) ≡ map piece_under (pieces_in defs)
  file_pieces [] = refl
  file_pieces (def ∷ defs) = both (pieces_of_def def) (pieces_in defs) (pieces_of_def (def_renamed nm def)) (pieces_in (map (def_renamed nm) defs)) (def_pieces def) (file_pieces defs)
