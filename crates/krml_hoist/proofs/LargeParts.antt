-- The first frame that takes too many bytes: an expression is it, or it is in the first part that has one.
use Rattle.std.proofs.Common.{◌≡◌, ℕ, List, [], ◌∷◌, ◌++◌, Option, None, refl, sym, ap, ◌∙◌}
use Rattle.std.specs.Option.{option_or}
use Rattle.std.specs.List.{AllByRecursion}
use Rattle.krml_trace.specs.First.{first}
use Rattle.krml_trace.proofs.First.{first_more, or_none}
use Rattle.krml_syntax.specs.declared.tree.Ty.{Ty}
use Rattle.krml_syntax.specs.declared.tree.Arm.{Arm, out-Arm, roll-out-Arm}
use Rattle.krml_syntax.specs.declared.tree.Case.{Case, out-Case, roll-out-Case}
use Rattle.krml_syntax.specs.declared.tree.Item.{Item, roll-Item, out-Item, roll-out-Item}
use Rattle.krml_syntax.specs.declared.tree.Item.TheVariants as item
use Rattle.krml_syntax.specs.declared.tree.Expr.{Expr, out-Expr}
use Rattle.krml_syntax.specs.declared.tree.Expr.TheOpen.{Expr-F, Item-F}
use Rattle.krml_syntax.specs.declared.tree.Def.{Def}
use Rattle.krml_syntax.specs.Shape.{Part, role, parts_of}
use Rattle.krml_ast.specs.Pieces.{Piece, Value, Test, Pattern, Written, Bound, pieces_of, pieces_of_ty, pieces_of_pat, own_pieces}
use Rattle.krml_ast.specs.FileTypes.{RoleIn}
use Rattle.krml_ast.proofs.Pieces.{inside, inside_item, inside_arm, inside_case, in_tests, Parts, pieces_of_part, pieces_of_parts, inside_of, let_inside, run_inside, arm_inside, case_inside}
use Rattle.krml_passing.proofs.RoleParts.{own_holds, ty_holds, pat_holds}
use Rattle.krml_hoist.specs.Large.{large_role, large_piece}
use Rattle.krml_hoist.specs.Walk.{large_in, large_in_each, large_here, large_item, large_arm, large_case}

module _ (defs : List Def) where
  abbrev large : List Piece → Option ℕ
  large pieces = first (large_piece defs) pieces

  more : (before after : List Piece) → large (before ++ after) ≡ option_or (large before) (large after)
  more = first_more (large_piece defs)

  -- what has no role, has no frame
  none_in : (pieces : List Piece) → AllByRecursion (RoleIn (λ r. ⊥)) pieces → large pieces ≡ None
  none_in [] h = refl
  none_in (Value x ∷ pieces) h = absurd h.0
  none_in (Test x ∷ pieces) h = absurd h.0
  none_in (Pattern q ∷ pieces) h = none_in pieces h.1
  none_in (Written a ∷ pieces) h = none_in pieces h.1
  none_in (Bound x ∷ pieces) h = none_in pieces h.1

  later : (before after : List Piece) → large before ≡ None → large (before ++ after) ≡ large after
  later before after e = more before after ∙ ap (λ o. option_or o (large after)) e

  -- ---- parts of blocks, matches and cases

  let_large : (x : List ℕ) (b : Ty) (a : Expr) → large (inside_item (item.Let x b a)) ≡ large_in defs a
  let_large x b a = ap large (let_inside x b a) ∙ more (pieces_of_ty b ++ pieces_of a) (Bound x ∷ [])
      ∙ or_none (large (pieces_of_ty b ++ pieces_of a)) ∙ later (pieces_of_ty b) (pieces_of a) (none_in (pieces_of_ty b) (ty_holds (λ r. ⊥) b))

  item_large : (x : Item) → large (inside_item x) ≡ large_item defs x
  item_large x = ap (λ z. large (inside_item z)) (sym (roll-out-Item x)) ∙ go (out-Item x)
    where
      go : (o : Item-F Expr Item Arm Case) → large (inside_item (roll-Item o)) ≡ large_here defs o
      go (Item-F.Let y b a) = ap (λ z. large (inside_item z)) (item.rolls-Let y b a) ∙ let_large y b a
      go (Item-F.Run a) = ap (λ z. large (inside_item z)) (item.rolls-Run a) ∙ ap large (run_inside a)

  arm_large : (x : Arm) → large (inside_arm x) ≡ large_arm defs x
  arm_large x =
      let o = out-Arm x in
      ap (λ z. large (inside_arm z)) (sym (roll-out-Arm x)) ∙ ap large (arm_inside o.pat o.body)
      ∙ later (pieces_of_pat o.pat) (pieces_of o.body) (none_in (pieces_of_pat o.pat) (pat_holds (λ r. ⊥) o.pat))

  tests_large : (tests : List Expr) → large (in_tests tests) ≡ large_in_each defs tests
  tests_large [] = refl
  tests_large (x ∷ tests) = more (Test x ∷ inside x) (in_tests tests) ∙ ap (option_or (large_in defs x)) (tests_large tests)

  case_large : (x : Case) → large (inside_case x) ≡ large_case defs x
  case_large x =
      let o = out-Case x in
      ap (λ z. large (inside_case z)) (sym (roll-out-Case x)) ∙ ap large (case_inside o.tests o.body)
      ∙ more (in_tests o.tests) (pieces_of o.body) ∙ ap (λ z. option_or z (large_in defs o.body)) (tests_large o.tests)

  -- ---- parts

  abbrev pub large_part : Part Expr Item Arm Case → Option ℕ
  large_part (Part.expr a) = large_in defs a
  large_part (Part.item x) = large_item defs x
  large_part (Part.arm x) = large_arm defs x
  large_part (Part.case_ x) = large_case defs x

  part_large : (p : Part Expr Item Arm Case) → large (pieces_of_part p) ≡ large_part p
  part_large (Part.expr a) = refl
  part_large (Part.item x) = item_large x
  part_large (Part.arm x) = arm_large x
  part_large (Part.case_ x) = case_large x

  parts_large : (parts : Parts) → large (pieces_of_parts parts) ≡ first large_part parts
  parts_large [] = refl
  parts_large (p ∷ parts) = more (pieces_of_part p) (pieces_of_parts parts)
      ∙ ap (λ o. option_or o (large (pieces_of_parts parts))) (part_large p) ∙ ap (option_or (large_part p)) (parts_large parts)

  -- An expression of a form: it is the first frame itself, or the first one is in the first part that has one.
  pub large_of : (x : Expr) (o : Expr-F Expr Item Arm Case) → out-Expr x ≡ o
      → large_in defs x ≡ option_or (large_role defs (role o)) (first large_part (parts_of o))
  large_of x o is = ap (λ z. option_or (large_role defs (role z)) (large (inside x))) is
      ∙ ap (option_or (large_role defs (role o))) (ap large (inside_of x o is)
      ∙ later (own_pieces o) (pieces_of_parts (parts_of o)) (none_in (own_pieces o) (own_holds (λ r. ⊥) o)) ∙ parts_large (parts_of o))
