-- What stands in an expression: what stands in its form alone, and what stands in its parts.
use Rattle.std.proofs.Common.{◌≡◌, ℕ, List, [], ◌∷◌, ◌++◌, map, flat_map, refl, sym, ap, ◌∙◌, subst}
use Rattle.std.specs.List.{AllByRecursion}
use Rattle.krml_syntax.specs.declared.tree.Ty.{Ty}
use Rattle.krml_syntax.specs.declared.tree.Pat.{Pat}
use Rattle.krml_syntax.specs.declared.tree.Arm.{Arm, roll-Arm}
use Rattle.krml_syntax.specs.declared.tree.Case.{Case, roll-Case}
use Rattle.krml_syntax.specs.declared.tree.Item.{Item}
use Rattle.krml_syntax.specs.declared.tree.Item.TheVariants as item
use Rattle.krml_syntax.specs.declared.tree.Expr.{Expr, out-Expr, roll-Expr, roll-out-Expr}
use Rattle.krml_syntax.specs.declared.tree.Expr.TheOpen.{Expr-F, Item-F}
use Rattle.krml_syntax.specs.declared.tree.Expr.TheFolds.{para-Expr, para-Item, para-Arm, para-Case, para-roll-Expr, para-roll-Arm, para-roll-Case, para-roll-Item}
use Rattle.krml_syntax.specs.Shape.{map_layer, Part, map_part, parts_of, OfPart, OfParts}
use Rattle.krml_syntax.proofs.Shape.{parts_mapped}
use Rattle.krml_trace.proofs.Lists.{each_append, each_left, each_right}
use Rattle.krml_ast.specs.Pieces.{Piece, Bound, test, in_part, pieces_of, pieces_of_ty, pieces_of_pat, own_pieces, inside_level, inside_level_item, inside_level_arm, inside_level_case}

abbrev pub inside : Expr → List Piece
inside = para-Expr (List Piece) (List Piece) (List Piece) (List Piece) inside_level inside_level_item inside_level_arm inside_level_case

abbrev pub inside_item : Item → List Piece
inside_item = para-Item (List Piece) (List Piece) (List Piece) (List Piece) inside_level inside_level_item inside_level_arm inside_level_case

abbrev pub inside_arm : Arm → List Piece
inside_arm = para-Arm (List Piece) (List Piece) (List Piece) (List Piece) inside_level inside_level_item inside_level_arm inside_level_case

abbrev pub inside_case : Case → List Piece
inside_case = para-Case (List Piece) (List Piece) (List Piece) (List Piece) inside_level inside_level_item inside_level_arm inside_level_case

abbrev pub Parts : Type 0
Parts = List (Part Expr Item Arm Case)

-- what stands in a part
abbrev pub pieces_of_part : Part Expr Item Arm Case → List Piece
pieces_of_part (Part.expr a) = pieces_of a
pieces_of_part (Part.item x) = inside_item x
pieces_of_part (Part.arm x) = inside_arm x
pieces_of_part (Part.case_ x) = inside_case x

abbrev pub pieces_of_parts : Parts → List Piece
pieces_of_parts parts = flat_map pieces_of_part parts

abbrev pub in_tests : List Expr → List Piece
in_tests tests = flat_map test (map (λ a. (a, inside a)) tests)

-- ---- expressions

-- what the parts are, does not matter
pub own_mapped : {E I A C E' I' A' C' : Type 0} (f : E → E') (f' : I → I') (f'' : A → A') (f''' : C → C') (y : Expr-F E I A C)
    → own_pieces (map_layer f f' f'' f''' y) ≡ own_pieces y
own_mapped f f' f'' f''' (Expr-F.Var x) = refl
own_mapped f f' f'' f''' _ = refl

-- parts, each with what stands inside it
abbrev with_expr : Expr → Expr × List Piece
with_expr a = (a, inside a)

abbrev with_item : Item → Item × List Piece
with_item x = (x, inside_item x)

abbrev with_arm : Arm → Arm × List Piece
with_arm x = (x, inside_arm x)

abbrev with_case : Case → Case × List Piece
with_case x = (x, inside_case x)

parts_inside : (parts : Parts)
    → flat_map in_part (map (map_part with_expr with_item with_arm with_case) parts) ≡ pieces_of_parts parts
parts_inside [] = refl
parts_inside (Part.expr a ∷ parts) = ap (λ z. pieces_of a ++ z) (parts_inside parts)
parts_inside (Part.item x ∷ parts) = ap (λ z. inside_item x ++ z) (parts_inside parts)
parts_inside (Part.arm x ∷ parts) = ap (λ z. inside_arm x ++ z) (parts_inside parts)
parts_inside (Part.case_ x ∷ parts) = ap (λ z. inside_case x ++ z) (parts_inside parts)

-- what stands in an expression of a form
pub inside_roll : (o : Expr-F Expr Item Arm Case) → inside (roll-Expr o) ≡ own_pieces o ++ pieces_of_parts (parts_of o)
inside_roll o =
    para-roll-Expr (List Piece) (List Piece) (List Piece) (List Piece) inside_level inside_level_item inside_level_arm inside_level_case o
    ∙ ap (λ z. z ++ flat_map in_part (parts_of (map_layer with_expr with_item with_arm with_case o))) (own_mapped with_expr with_item with_arm with_case o)
    ∙ ap (λ z. own_pieces o ++ z) (ap (flat_map in_part) (parts_mapped with_expr with_item with_arm with_case o) ∙ parts_inside (parts_of o))

pub inside_of : (x : Expr) (o : Expr-F Expr Item Arm Case) → out-Expr x ≡ o → inside x ≡ own_pieces o ++ pieces_of_parts (parts_of o)
inside_of x o is = ap inside (sym (roll-out-Expr x) ∙ ap roll-Expr is) ∙ inside_roll o

-- ---- parts of blocks, matches and cases

pub let_inside : (x : List ℕ) (b : Ty) (a : Expr) → inside_item (item.Let x b a) ≡ pieces_of_ty b ++ pieces_of a ++ Bound x ∷ []
let_inside x b a = ap inside_item (sym (item.rolls-Let x b a))
    ∙ para-roll-Item (List Piece) (List Piece) (List Piece) (List Piece) inside_level inside_level_item inside_level_arm inside_level_case (Item-F.Let x b a)

pub run_inside : (a : Expr) → inside_item (item.Run a) ≡ pieces_of a
run_inside a = ap inside_item (sym (item.rolls-Run a))
    ∙ para-roll-Item (List Piece) (List Piece) (List Piece) (List Piece) inside_level inside_level_item inside_level_arm inside_level_case (Item-F.Run a)

pub arm_inside : (q : Pat) (a : Expr) → inside_arm (roll-Arm (record { pat = q; body = a })) ≡ pieces_of_pat q ++ pieces_of a
arm_inside q a = para-roll-Arm (List Piece) (List Piece) (List Piece) (List Piece) inside_level inside_level_item inside_level_arm inside_level_case (record { pat = q; body = a })

pub case_inside : (tests : List Expr) (a : Expr) → inside_case (roll-Case (record { tests = tests; body = a })) ≡ in_tests tests ++ pieces_of a
case_inside tests a = para-roll-Case (List Piece) (List Piece) (List Piece) (List Piece) inside_level inside_level_item inside_level_arm inside_level_case (record { tests = tests; body = a })

-- ---- what holds of each piece

module _ (P : Piece → Type 0) where
  abbrev All : List Piece → Type 0
  All pieces = AllByRecursion P pieces

  -- it holds of each piece in each part
  abbrev pub HoldsIn : Parts → Type 0
  HoldsIn parts = OfParts (λ a. AllByRecursion P (pieces_of a)) (λ x. AllByRecursion P (inside_item x)) (λ x. AllByRecursion P (inside_arm x)) (λ x. AllByRecursion P (inside_case x)) parts

  part_holds : (parts : Parts) → All (pieces_of_parts parts) → HoldsIn parts
  part_holds [] h = tt
  part_holds (Part.expr a ∷ parts) h = (each_left P (pieces_of a) (pieces_of_parts parts) h, part_holds parts (each_right P (pieces_of a) (pieces_of_parts parts) h))
  part_holds (Part.item x ∷ parts) h = (each_left P (inside_item x) (pieces_of_parts parts) h, part_holds parts (each_right P (inside_item x) (pieces_of_parts parts) h))
  part_holds (Part.arm x ∷ parts) h = (each_left P (inside_arm x) (pieces_of_parts parts) h, part_holds parts (each_right P (inside_arm x) (pieces_of_parts parts) h))
  part_holds (Part.case_ x ∷ parts) h = (each_left P (inside_case x) (pieces_of_parts parts) h, part_holds parts (each_right P (inside_case x) (pieces_of_parts parts) h))

  of_part_holds : (parts : Parts) → HoldsIn parts → All (pieces_of_parts parts)
  of_part_holds [] h = tt
  of_part_holds (Part.expr a ∷ parts) h = each_append P (pieces_of a) (pieces_of_parts parts) h.0 (of_part_holds parts h.1)
  of_part_holds (Part.item x ∷ parts) h = each_append P (inside_item x) (pieces_of_parts parts) h.0 (of_part_holds parts h.1)
  of_part_holds (Part.arm x ∷ parts) h = each_append P (inside_arm x) (pieces_of_parts parts) h.0 (of_part_holds parts h.1)
  of_part_holds (Part.case_ x ∷ parts) h = each_append P (inside_case x) (pieces_of_parts parts) h.0 (of_part_holds parts h.1)

  -- what holds of each piece of an expression of a form, holds of what its parts are made of
  pub parts_hold : (x : Expr) (o : Expr-F Expr Item Arm Case) → out-Expr x ≡ o → AllByRecursion P (inside x) → HoldsIn (parts_of o)
  parts_hold x o is h = part_holds (parts_of o) (each_right P (own_pieces o) (pieces_of_parts (parts_of o)) (subst All (inside_of x o is) h))

  -- and of what it writes and binds by itself
  pub own_hold : (x : Expr) (o : Expr-F Expr Item Arm Case) → out-Expr x ≡ o → AllByRecursion P (inside x) → AllByRecursion P (own_pieces o)
  own_hold x o is h = each_left P (own_pieces o) (pieces_of_parts (parts_of o)) (subst All (inside_of x o is) h)

  -- and the other way round
  pub inside_hold : (x : Expr) (o : Expr-F Expr Item Arm Case) → out-Expr x ≡ o → AllByRecursion P (own_pieces o) → HoldsIn (parts_of o) → AllByRecursion P (inside x)
  inside_hold x o is h k = subst All (sym (inside_of x o is)) (each_append P (own_pieces o) (pieces_of_parts (parts_of o)) h (of_part_holds (parts_of o) k))

  -- parts, and an expression behind them
  pub last_holds : (parts : Parts) (a : Expr) → HoldsIn (parts ++ Part.expr a ∷ []) → HoldsIn parts × AllByRecursion P (pieces_of a)
  last_holds parts a h =
      let k : HoldsIn (Part.expr a ∷ []) = each_right (OfPart (λ a. All (pieces_of a)) (λ x. All (inside_item x)) (λ x. All (inside_arm x)) (λ x. All (inside_case x))) parts (Part.expr a ∷ []) h in
      (each_left (OfPart (λ a. All (pieces_of a)) (λ x. All (inside_item x)) (λ x. All (inside_arm x)) (λ x. All (inside_case x))) parts (Part.expr a ∷ []) h, k.0)

  pub hold_last : (parts : Parts) (a : Expr) → HoldsIn parts → AllByRecursion P (pieces_of a) → HoldsIn (parts ++ Part.expr a ∷ [])
  hold_last parts a h k = each_append (OfPart (λ a. All (pieces_of a)) (λ x. All (inside_item x)) (λ x. All (inside_arm x)) (λ x. All (inside_case x))) parts (Part.expr a ∷ []) h (k, tt)
