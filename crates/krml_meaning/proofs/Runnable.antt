-- The forms of files between the passes can run.
use Rattle.std.proofs.Common.{◌≡◌, ℕ, List, [], ◌∷◌, ◌++◌, map, flat_map, sym, subst}
use Rattle.std.specs.List.{AllByRecursion}
use Rattle.krml_syntax.specs.declared.tree.CmpOp.TheVariants.{Eq}
use Rattle.krml_syntax.specs.declared.tree.Ty.{Ty}
use Rattle.krml_syntax.specs.declared.tree.Pat.{Pat}
use Rattle.krml_syntax.specs.declared.tree.Arm.{Arm, roll-Arm}
use Rattle.krml_syntax.specs.declared.tree.Case.{Case, roll-Case}
use Rattle.krml_syntax.specs.declared.tree.Item.{Item}
use Rattle.krml_syntax.specs.declared.tree.Item.TheVariants as item
use Rattle.krml_syntax.specs.declared.tree.Expr.{Expr, out-Expr}
use Rattle.krml_syntax.specs.declared.tree.Expr.TheOpen.{Expr-F}
use Rattle.krml_syntax.specs.declared.tree.Expr.TheVariants as e
use Rattle.krml_syntax.specs.declared.tree.Def.{Def}
use Rattle.krml_syntax.specs.declared.tree.SourceFile.{SourceFile}
use Rattle.krml_syntax.specs.Shape.{Part, Role, parts_of}
use Rattle.krml_ast.specs.declared.file.Emitted.{Emitted}
use Rattle.krml_ast.specs.Pieces.{Piece, Value, Test, Pattern, Written, Bound, pieces_of, pieces_of_ty, pieces_of_pat, pieces_in}
use Rattle.krml_ast.specs.FileTypes.{RoleIn, EachRole, role_of, HasSize, IsSlot, HasSlots, SlotsIn, TestsIn, IsTest, IsPlace, HasNoSlots, HasNoCases, HasSlotsListed, IsMono, IsPlain, IsHoisted, IsBundled, listed_vars}
use Rattle.krml_ast.proofs.Pieces.{Parts, inside, inside_item, inside_arm, inside_case, in_tests, HoldsIn, parts_hold, let_inside, run_inside, arm_inside, case_inside}
use Rattle.krml_ast.proofs.Roles.{each_role_so, each_role_both}
use Rattle.krml_meaning.specs.Sound.{CanRun}
use Rattle.krml_trace.proofs.Lists.{each_left, each_right, each_both}

-- ---- expressions

module _ (defs : List Def) where
  -- each form among pieces can run
  abbrev pub AllRun : List Piece → Type 0
  AllRun pieces = AllByRecursion (RoleIn (CanRun defs)) pieces

  -- each form in parts
  abbrev pub PartsRun : Parts → Type 0
  PartsRun parts = HoldsIn (RoleIn (CanRun defs)) parts

  pub run_parts : (x : Expr) (o : Expr-F Expr Item Arm Case) → out-Expr x ≡ o → AllRun (pieces_of x) → PartsRun (parts_of o)
  run_parts x o is h = parts_hold (RoleIn (CanRun defs)) x o is h.1

  pub left_run : (xs ys : List Piece) → AllRun (xs ++ ys) → AllRun xs
  left_run xs ys h = each_left (RoleIn (CanRun defs)) xs ys h

  pub right_run : (xs ys : List Piece) → AllRun (xs ++ ys) → AllRun ys
  right_run xs ys h = each_right (RoleIn (CanRun defs)) xs ys h

  pub let_run : (x : List ℕ) (b : Ty) (a : Expr) → AllRun (inside_item (item.Let x b a)) → AllRun (pieces_of a)
  let_run x b a h = right_run (pieces_of_ty b) (pieces_of a) (left_run (pieces_of_ty b ++ pieces_of a) (Bound x ∷ []) (subst AllRun (let_inside x b a) h))

  pub run_run : (a : Expr) → AllRun (inside_item (item.Run a)) → AllRun (pieces_of a)
  run_run a h = subst AllRun (run_inside a) h

  pub arm_run : (q : Pat) (a : Expr) → AllRun (inside_arm (roll-Arm (record { pat = q; body = a }))) → AllRun (pieces_of a)
  arm_run q a h = right_run (pieces_of_pat q) (pieces_of a) (subst AllRun (arm_inside q a) h)

  tests_run : (tests : List Expr) → AllRun (in_tests tests) → PartsRun (map Part.expr tests)
  tests_run [] h = tt
  tests_run (a ∷ tests) h = ((h.0, left_run (inside a) (in_tests tests) h.1), tests_run tests (right_run (inside a) (in_tests tests) h.1))

  pub case_run : (tests : List Expr) (a : Expr) → AllRun (inside_case (roll-Case (record { tests = tests; body = a }))) → PartsRun (map Part.expr tests) × AllRun (pieces_of a)
  case_run tests a h =
      let k = subst AllRun (case_inside tests a) h in
      (tests_run tests (left_run (in_tests tests) (pieces_of a) k), right_run (in_tests tests) (pieces_of a) k)

-- ---- forms

module _ (defs : List Def) where
  -- without listed slots, and without cases
  source_role : (r : Role) → HasNoSlots r → HasNoCases r → CanRun defs r
  source_role (Role.frame slots) s c = subst (AllByRecursion (IsSlot defs)) (sym s) tt
  source_role Role.part s c = absurd c
  source_role _ s c = tt

  pub source_can_run : EachRole HasNoSlots defs → EachRole HasNoCases defs → EachRole (CanRun defs) defs
  source_can_run s c = each_role_both HasNoSlots HasNoCases (CanRun defs) defs source_role s c

  -- with cases, without type variables
  module _ (vars : flat_map listed_vars defs ≡ []) (sizes : AllByRecursion HasSize defs) where
    cases_role : (r : Role) → HasNoSlots r → CanRun defs r
    cases_role (Role.frame slots) s = subst (AllByRecursion (IsSlot defs)) (sym s) tt
    cases_role Role.part s = (vars, sizes)
    cases_role _ s = tt

    -- with listed slots
    slots_role : (r : Role) → HasSlots defs r → CanRun defs r
    slots_role (Role.frame slots) s = s
    slots_role Role.part s = (vars, sizes)
    slots_role _ s = tt

    test_role : (x : Expr) → IsTest x → CanRun defs (role_of x)
    test_role x (IsTest.tag y a at) = rw (e.outs-TagIs y a) tt
    test_role x (IsTest.literal i n a at) = rw (e.outs-Cmp Eq i a (e.Num i n)) tt
    test_role x (IsTest.opposite a at) = rw (e.outs-Not a) tt
    test_role x (IsTest.place a (IsPlace.var y)) = rw (e.outs-Var y) tt
    test_role x (IsTest.place a (IsPlace.get y b at)) = rw (e.outs-Get y b) tt
    test_role x (IsTest.place a (IsPlace.part y j b at)) = rw (e.outs-Part y j b) (vars, sizes)

    slots_piece : (x : Piece) → SlotsIn defs x → TestsIn x → RoleIn (CanRun defs) x
    slots_piece (Value x) s k = slots_role (role_of x) s
    slots_piece (Test x) s k = test_role x k
    slots_piece (Pattern q) s k = tt
    slots_piece (Written a) s k = tt
    slots_piece (Bound x) s k = tt

  pub slots_can_run : HasSlotsListed defs → EachRole (CanRun defs) defs
  slots_can_run h = each_both (SlotsIn defs) TestsIn (RoleIn (CanRun defs)) (pieces_in defs) (slots_piece h.monomorphic.vars h.regular.sizes) h.regular.slots h.tests

-- ---- the files

pub mono_can_run : (file : SourceFile) → IsMono file → EachRole (CanRun file.defs) file.defs
mono_can_run file f = source_can_run file.defs f.slots f.cases

pub plain_can_run : (file : SourceFile) → IsPlain file → EachRole (CanRun file.defs) file.defs
plain_can_run file f = each_role_so HasNoSlots (CanRun file.defs) file.defs (cases_role file.defs f.monomorphic.vars f.regular.sizes) f.slots

pub hoisted_can_run : (file : SourceFile) → IsHoisted file → EachRole (CanRun file.defs) file.defs
hoisted_can_run file f = slots_can_run file.defs f.listed

pub bundled_can_run : (file : SourceFile) (names : List Emitted) → IsBundled file names → EachRole (CanRun file.defs) file.defs
bundled_can_run file names f = slots_can_run file.defs f.listed
