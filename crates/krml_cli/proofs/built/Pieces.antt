-- The walk over the tree of a definition says whether each of its pieces is built, with buffers or without.
use Rattle.std.proofs.Common.{◌≡◌, ℕ, Bool, true, false, ◌==◌, ◌&&◌, List, [], ◌∷◌, ◌++◌, map, flat_map, refl, sym, ap, ◌∙◌, subst}
use Rattle.std.specs.List.{list_all}
use Rattle.std.proofs.lemmas.Bool.{and_parts}
use Rattle.std.proofs.lemmas.List.{length-map}
use Rattle.std.proofs.lemmas.List.Folds.{list_all-append, list_all-map}
use Rattle.krml_syntax.specs.declared.tree.IntTy.{IntTy}
use Rattle.krml_syntax.specs.declared.tree.Ty.{Ty, roll-Ty, map-Ty}
use Rattle.krml_syntax.specs.declared.tree.Ty.TheVariants as t
use Rattle.krml_syntax.specs.declared.tree.Ty.TheOpen.{Ty-F}
use Rattle.krml_syntax.specs.declared.tree.Ty.TheFolds.{fold-roll-Ty, ind-Ty, para-Ty, para-roll-Ty}
use Rattle.krml_syntax.specs.declared.tree.Ty.TheViews.{out-roll-Ty}
use Rattle.krml_syntax.specs.declared.tree.Field.{Field}
use Rattle.krml_syntax.specs.declared.tree.Arm.{Arm}
use Rattle.krml_syntax.specs.declared.tree.Case.{Case}
use Rattle.krml_syntax.specs.declared.tree.Item.{Item, roll-Item}
use Rattle.krml_syntax.specs.declared.tree.Item.TheVariants as item
use Rattle.krml_syntax.specs.declared.tree.Expr.{Expr, roll-Expr}
use Rattle.krml_syntax.specs.declared.tree.Expr.TheOpen.{Expr-F, Item-F}
use Rattle.krml_syntax.specs.declared.tree.Expr.TheViews.{out-roll-Expr}
use Rattle.krml_syntax.specs.declared.tree.Expr.TheFolds.{fold-roll-Expr, fold-roll-Item}
use Rattle.krml_syntax.specs.declared.tree.Def.{Def}
use Rattle.krml_syntax.specs.declared.tree.Def.TheVariants as d
use Rattle.krml_syntax.specs.Shape.{map_layer, Part, parts_of, parts_of_item, OfParts}
use Rattle.krml_syntax.proofs.Attached.{by_parts}
use Rattle.krml_ast.specs.Pieces.{Piece, Bound, inside_level_ty, pieces_of, pieces_of_ty, field_types, written_types, bound_variables, own_pieces}
use Rattle.krml_ast.proofs.Pieces.{Parts, inside, inside_item, inside_arm, inside_case, pieces_of_parts, inside_roll, let_inside, run_inside}
use Rattle.krml_cstar.specs.Built.{is_public, is_empty, level_ty_within, is_form_within, is_piece_within, is_within}
use Rattle.krml_cstar.proofs.Part.{nothing_listed}
use Rattle.krml_cli.specs.Unbuilt.{all, level_ty_built, is_ty_built, are_fields_built, level_built, level_item_built, level_arm_built, level_case_built, is_expr_built, is_item_built, is_def_built}

-- ---- truth values

and_true : (a : Bool) → a ≡ (a && true)
and_true true = refl
and_true false = refl

and_two : (a b : Bool) → (a && b) ≡ (a && (b && true))
and_two a b = ap (λ z. a && z) (and_true b)

and_three : (a b c : Bool) → (a && b && c) ≡ (a && (b && (c && true)))
and_three true b c = and_two b c
and_three false b c = refl

and_apart : (a b c d : Bool) → (a && b && c && d) ≡ (a && (b && (c && (d && true))))
and_apart true b c d = and_three b c d
and_apart false b c d = refl

and_four : (a b c e : Bool) → (a && b && c && e) ≡ (a && ((b && true && c) && e))
and_four true true c e = refl
and_four true false c e = refl
and_four false b c e = refl

-- two operands of an integer type
operands : (i a b : Bool) → (i && a && b) ≡ ((i && true) && (a && (b && true)))
operands true a b = and_two a b
operands false a b = refl

-- an operand of an integer type, which becomes one of another
converted : (i j a : Bool) → (i && j && a) ≡ ((i && (j && true)) && (a && true))
converted true true a = and_true a
converted true false a = refl
converted false j a = refl

-- what is asked of a list where there is none
none_listed : {A : Type 0} (b : Bool) (xs : List A) (x : Bool) (f : List A → Bool) → (b ≡ true → xs ≡ []) → x ≡ f [] → (b && x) ≡ (b && f xs)
none_listed true xs x f none is = is ∙ ap f (sym (none refl))
none_listed false xs x f none is = refl

module _ (buffers : Bool) where
  abbrev are_built : List Piece → Bool
  are_built pieces = list_all (is_piece_within buffers) pieces

  both : (xs ys : List Piece) → are_built (xs ++ ys) ≡ (are_built xs && are_built ys)
  both xs ys = list_all-append (is_piece_within buffers) xs ys

  pair : (xs ys : List Piece) (a b : Bool) → a ≡ are_built xs → b ≡ are_built ys → (a && b) ≡ are_built (xs ++ ys)
  pair xs ys a b h k = ap (λ z. z && b) h ∙ ap (λ z. are_built xs && z) k ∙ sym (both xs ys)

  -- ---- types

  abbrev in_ty : Ty → List Piece
  in_ty a = para-Ty (List Piece) inside_level_ty a

  abbrev TySame : Ty → Type 0
  TySame a = is_ty_built buffers a ≡ are_built (pieces_of_ty a)

  -- one layer of a type, and the types inside it
  abbrev LevelSame : Ty-F Ty → Type 0
  LevelSame o = level_ty_built buffers (map-Ty Ty Bool (is_ty_built buffers) o)
      ≡ (level_ty_within buffers o && are_built (inside_level_ty (map-Ty Ty (Ty × List Piece) (λ a. (a, in_ty a)) o)))

  rolled_same : (o : Ty-F Ty) → LevelSame o → TySame (roll-Ty o)
  rolled_same o h =
      fold-roll-Ty Bool (level_ty_built buffers) o ∙ h ∙ ap (λ z. level_ty_within buffers o && are_built z) (sym (para-roll-Ty (List Piece) inside_level_ty o))
      ∙ ap (λ z. level_ty_within buffers z && are_built (in_ty (roll-Ty o))) (sym (out-roll-Ty o))

  named_same : (x : List ℕ) (args : List Ty) → LevelSame (Ty-F.Named x args)
  named_same x args =
      ap (λ n. n == 0) (length-map args (is_ty_built buffers)) ∙ and_true (is_empty args)
      ∙ none_listed (is_empty args) args true (λ z. are_built (inside_level_ty (Ty-F.Named x (map (λ a. (a, in_ty a)) z)))) (nothing_listed args) refl

  module _ (X : Type 0) (w : X → Ty) (h : (x : X) → TySame (w x)) where
    level_same : (y : Ty-F X) → LevelSame (map-Ty X Ty w y)
    level_same (Ty-F.Int i) = and_true (is_public i)
    level_same (Ty-F.Buf x) = ap (λ z. buffers && z) (h x)
    level_same (Ty-F.Named x xs) = named_same x (map w xs)
    level_same _ = refl

  ty_same : (a : Ty) → TySame a
  ty_same = ind-Ty TySame
      (λ x y eq. subst (λ z. TySame (roll-Ty z)) eq (rolled_same (map-Ty _ Ty (λ q. q.0) y) (level_same _ (λ q. q.0) (λ q. q.1) y)))

  int_same : (i : IntTy) → is_ty_built buffers (t.Int i) ≡ is_public i
  int_same i = ap (is_ty_built buffers) (sym (t.rolls-Int i)) ∙ fold-roll-Ty Bool (level_ty_built buffers) (Ty-F.Int i)

  types_same : {A : Type 0} (f : A → Ty) (xs : List A) → list_all (λ x. is_ty_built buffers (f x)) xs
      ≡ are_built (flat_map (λ x. pieces_of_ty (f x)) xs)
  types_same f [] = refl
  types_same f (x ∷ xs) = pair (pieces_of_ty (f x)) (flat_map (λ y. pieces_of_ty (f y)) xs) _ _ (ty_same (f x)) (types_same f xs)

  fields_same : (fields : List Field) → are_fields_built buffers fields ≡ are_built (field_types fields)
  fields_same fields = types_same (λ (f : Field). f.ty) fields

  -- variables that are bound
  bound_built : {A : Type 0} (f : A → List ℕ) (xs : List A) → are_built (map (λ x. Bound (f x)) xs) ≡ true
  bound_built f [] = refl
  bound_built f (x ∷ xs) = bound_built f xs

  -- ---- forms

  -- no branch and no case is walked over
  abbrev is_part_built : Part Expr Item Arm Case → Bool
  is_part_built (Part.expr a) = is_expr_built buffers a
  is_part_built (Part.item x) = is_item_built buffers x
  is_part_built (Part.arm x) = are_built (inside_arm x)
  is_part_built (Part.case_ x) = are_built (inside_case x)

  abbrev are_parts_built : Parts → Bool
  are_parts_built parts = list_all is_part_built parts

  exprs_same : (es : List Expr) → all (map (is_expr_built buffers) es) ≡ are_parts_built (map Part.expr es)
  exprs_same es = list_all-map (λ b. b) (is_expr_built buffers) es ∙ sym (list_all-map is_part_built Part.expr es)

  items_same : (items : List Item) → all (map (is_item_built buffers) items) ≡ are_parts_built (map Part.item items)
  items_same items = list_all-map (λ b. b) (is_item_built buffers) items ∙ sym (list_all-map is_part_built Part.item items)

  -- a form without its parts, the types that it writes, and its parts
  abbrev is_layer_built : Expr-F Expr Item Arm Case → Bool
  is_layer_built o = is_form_within buffers o && (list_all (is_ty_built buffers) (written_types o) && are_parts_built (parts_of o))

  -- a form at type arguments
  listed_same : (args : List Ty) (es : List Expr)
      → (is_empty args && all (map (is_expr_built buffers) es)) ≡ (is_empty args && (list_all (is_ty_built buffers) args && are_parts_built (map Part.expr es)))
  listed_same args es =
      none_listed (is_empty args) args _ (λ z. list_all (is_ty_built buffers) z && are_parts_built (map Part.expr es)) (nothing_listed args) (exprs_same es)

  layer_same : (arm : Arm → Bool) (case_ : Case → Bool) (o : Expr-F Expr Item Arm Case)
      → level_built buffers (map_layer (is_expr_built buffers) (is_item_built buffers) arm case_ o) ≡ is_layer_built o
  layer_same arm case_ (Expr-F.Num i n) = rw (int_same i) (and_true (is_public i) ∙ and_true (is_public i && true))
  layer_same arm case_ (Expr-F.Bin o i a b) = rw (int_same i) (operands (is_public i) (is_expr_built buffers a) (is_expr_built buffers b))
  layer_same arm case_ (Expr-F.Shift left i a n) = rw (int_same i) (operands (is_public i) (is_expr_built buffers a) (is_expr_built buffers n))
  layer_same arm case_ (Expr-F.Cmp o i a b) = rw (int_same i) (operands (is_public i) (is_expr_built buffers a) (is_expr_built buffers b))
  layer_same arm case_ (Expr-F.Cast i j a) = rw (int_same i, int_same j) (converted (is_public i) (is_public j) (is_expr_built buffers a))
  layer_same arm case_ (Expr-F.Not a) = and_true (is_expr_built buffers a)
  layer_same arm case_ (Expr-F.Get y a) = and_true (is_expr_built buffers a)
  layer_same arm case_ (Expr-F.Tab x a) = and_true (is_expr_built buffers a)
  layer_same arm case_ (Expr-F.If c a b) = and_three (is_expr_built buffers c) (is_expr_built buffers a) (is_expr_built buffers b)
  layer_same arm case_ (Expr-F.While c a) = and_two (is_expr_built buffers c) (is_expr_built buffers a)
  layer_same arm case_ (Expr-F.For x a b c) = and_three (is_expr_built buffers a) (is_expr_built buffers b) (is_expr_built buffers c)
  layer_same arm case_ (Expr-F.Do items a) =
      rw (list_all-append is_part_built (map Part.item items) (Part.expr a ∷ []), items_same items) (and_two (are_parts_built (map Part.item items)) (is_expr_built buffers a))
  layer_same arm case_ (Expr-F.Read a i) = and_three buffers (is_expr_built buffers a) (is_expr_built buffers i)
  layer_same arm case_ (Expr-F.Write a i v) = and_apart buffers (is_expr_built buffers a) (is_expr_built buffers i) (is_expr_built buffers v)
  layer_same arm case_ (Expr-F.Slice a i n) = and_apart buffers (is_expr_built buffers a) (is_expr_built buffers i) (is_expr_built buffers n)
  layer_same arm case_ (Expr-F.Frame slots a) =
      none_listed (buffers && is_empty slots) slots _ (λ z. list_all (is_ty_built buffers) (map (λ s. s.ty) z) && (is_expr_built buffers a && true))
      (λ h. nothing_listed slots (and_parts buffers (is_empty slots) h).1) (and_true (is_expr_built buffers a))
  layer_same arm case_ (Expr-F.Alloc b n a) =
      and_three buffers (is_ty_built buffers b) (is_expr_built buffers a)
      ∙ ap (λ z. buffers && (z && (is_expr_built buffers a && true))) (and_true (is_ty_built buffers b))
  layer_same arm case_ (Expr-F.Make x args es) = listed_same args es
  layer_same arm case_ (Expr-F.Call x args es) = listed_same args es
  layer_same arm case_ _ = refl

  -- ---- expressions

  abbrev P : Expr → Type 0
  P x = is_expr_built buffers x ≡ are_built (pieces_of x)

  abbrev P' : Item → Type 0
  P' x = is_item_built buffers x ≡ are_built (inside_item x)

  own_same : (o : Expr-F Expr Item Arm Case) → list_all (is_ty_built buffers) (written_types o) ≡ are_built (own_pieces o)
  own_same o = rw (both (flat_map pieces_of_ty (written_types o)) (map Bound (bound_variables o)), bound_built (λ x. x) (bound_variables o))
      (types_same (λ (a : Ty). a) (written_types o) ∙ and_true (are_built (flat_map pieces_of_ty (written_types o))))

  parts_same : (parts : Parts) → OfParts P P' (λ x. Unit {0}) (λ x. Unit {0}) parts → are_parts_built parts ≡ are_built (pieces_of_parts parts)
  parts_same [] h = refl
  parts_same (Part.expr a ∷ parts) h = pair (pieces_of a) (pieces_of_parts parts) _ _ h.0 (parts_same parts h.1)
  parts_same (Part.item x ∷ parts) h = pair (inside_item x) (pieces_of_parts parts) _ _ h.0 (parts_same parts h.1)
  parts_same (Part.arm x ∷ parts) h = pair (inside_arm x) (pieces_of_parts parts) _ _ refl (parts_same parts h.1)
  parts_same (Part.case_ x ∷ parts) h = pair (inside_case x) (pieces_of_parts parts) _ _ refl (parts_same parts h.1)

  expr_step : (o : Expr-F Expr Item Arm Case) → OfParts P P' (λ x. Unit {0}) (λ x. Unit {0}) (parts_of o) → P (roll-Expr o)
  expr_step o h =
      fold-roll-Expr Bool Bool Bool Bool (level_built buffers) (level_item_built buffers) level_arm_built level_case_built o
      ∙ layer_same _ _ o
      ∙ ap (λ z. is_form_within buffers o && (z && are_parts_built (parts_of o))) (own_same o)
      ∙ ap (λ z. is_form_within buffers o && (are_built (own_pieces o) && z)) (parts_same (parts_of o) h)
      ∙ ap (λ z. is_form_within buffers o && z) (sym (both (own_pieces o) (pieces_of_parts (parts_of o))) ∙ ap are_built (sym (inside_roll o)))
      ∙ ap (λ z. is_form_within buffers z && are_built (inside (roll-Expr o))) (sym (out-roll-Expr o))

  item_step : (o : Item-F Expr Item Arm Case) → OfParts P P' (λ x. Unit {0}) (λ x. Unit {0}) (parts_of_item o) → P' (roll-Item o)
  item_step (Item-F.Let x b a) h =
      fold-roll-Item Bool Bool Bool Bool (level_built buffers) (level_item_built buffers) level_arm_built level_case_built (Item-F.Let x b a)
      ∙ and_true (is_ty_built buffers b && is_expr_built buffers a)
      ∙ pair (pieces_of_ty b ++ pieces_of a) (Bound x ∷ []) _ true (pair (pieces_of_ty b) (pieces_of a) _ _ (ty_same b) h.0) refl
      ∙ ap are_built (sym (ap inside_item (item.rolls-Let x b a) ∙ let_inside x b a))
  item_step (Item-F.Run a) h =
      fold-roll-Item Bool Bool Bool Bool (level_built buffers) (level_item_built buffers) level_arm_built level_case_built (Item-F.Run a) ∙ h.0
      ∙ ap are_built (sym (ap inside_item (item.rolls-Run a) ∙ run_inside a))

  expr_same : (x : Expr) → is_expr_built buffers x ≡ are_built (pieces_of x)
  expr_same = by_parts P P' (λ x. Unit {0}) (λ x. Unit {0}) expr_step item_step (λ o h. tt) (λ o h. tt)

  -- ---- definitions

  pub def_same : (def : Def) → is_def_built buffers def ≡ is_within buffers def
  def_same (d.Struct x vars fields) = ap (λ z. is_empty vars && z) (fields_same fields)
  def_same (d.Sum x vars cons) = refl
  def_same (d.Table x i nums) = sym (int_same i) ∙ ty_same (t.Int i)
  def_same (d.Fun x vars params result body) =
      let names : List Piece = map (λ (p : Field). Bound p.name) params in
      let types = pair (field_types params) names _ true (fields_same params) (sym (bound_built (λ (p : Field). p.name) params)) in
      let head = pair (field_types params ++ names) (pieces_of_ty result) _ _ types (ty_same result) in
      and_four (is_empty vars) (are_fields_built buffers params) (is_ty_built buffers result) (is_expr_built buffers body)
      ∙ ap (λ z. is_empty vars && z) (pair (field_types params ++ names ++ pieces_of_ty result) (pieces_of body) _ _ head (expr_same body))
  def_same (d.Entry x) = refl
