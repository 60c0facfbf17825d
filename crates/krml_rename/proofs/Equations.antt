-- What each form is under other names.
use Rattle.std.proofs.Common.{◌≡◌, ℕ, Bool, List, map, refl}
use Rattle.krml_syntax.specs.declared.tree.IntTy.{IntTy}
use Rattle.krml_syntax.specs.declared.tree.BinOp.{BinOp}
use Rattle.krml_syntax.specs.declared.tree.CmpOp.{CmpOp}
use Rattle.krml_syntax.specs.declared.tree.Ty.{Ty}
use Rattle.krml_syntax.specs.declared.tree.Pat.{Pat}
use Rattle.krml_syntax.specs.declared.tree.Slot.{Slot}
use Rattle.krml_syntax.specs.declared.tree.Arm.{Arm, roll-Arm}
use Rattle.krml_syntax.specs.declared.tree.Case.{Case, roll-Case, out-Case}
use Rattle.krml_syntax.specs.declared.tree.Item.{Item}
use Rattle.krml_syntax.specs.declared.tree.Item.TheVariants as item
use Rattle.krml_syntax.specs.declared.tree.Expr.{Expr}
use Rattle.krml_syntax.specs.declared.tree.Expr.TheVariants as e
use Rattle.krml_syntax.specs.declared.tree.Expr.TheFolds.{fold_out-Expr, fold_out-Item, fold_out-Case, fold-roll-Arm, fold-roll-Case}
use Rattle.krml_rename.specs.Pass.{item_passed, arm_passed, case_passed}
use Rattle.krml_rename.specs.Renaming.{Renaming, slot_renamed, renaming, expr_renamed}

module _ (n : Renaming) where
  pub var_is : (x : List ℕ) → expr_renamed n (e.Var x) ≡ e.Var x
  var_is x = rw (fold_out-Expr, e.outs-Var, e.rolls-Var) refl

  pub unit_is : expr_renamed n e.Unit ≡ e.Unit
  unit_is = rw (fold_out-Expr, e.outs-Unit, e.rolls-Unit) refl

  pub bool_is : (b : Bool) → expr_renamed n (e.Bool b) ≡ e.Bool b
  bool_is b = rw (fold_out-Expr, e.outs-Bool, e.rolls-Bool) refl

  pub num_is : (i : IntTy) (k : ℕ) → expr_renamed n (e.Num i k) ≡ e.Num i k
  num_is i k = rw (fold_out-Expr, e.outs-Num, e.rolls-Num) refl

  pub bin_is : (o : BinOp) (i : IntTy) (a : Expr) (b : Expr) → expr_renamed n (e.Bin o i a b)
      ≡ e.Bin o i (expr_renamed n a) (expr_renamed n b)
  bin_is o i a b = rw (fold_out-Expr, e.outs-Bin, e.rolls-Bin) refl

  pub shift_is : (left : Bool) (i : IntTy) (a : Expr) (k : Expr) → expr_renamed n (e.Shift left i a k)
      ≡ e.Shift left i (expr_renamed n a) (expr_renamed n k)
  shift_is left i a k = rw (fold_out-Expr, e.outs-Shift, e.rolls-Shift) refl

  pub cmp_is : (o : CmpOp) (i : IntTy) (a : Expr) (b : Expr) → expr_renamed n (e.Cmp o i a b)
      ≡ e.Cmp o i (expr_renamed n a) (expr_renamed n b)
  cmp_is o i a b = rw (fold_out-Expr, e.outs-Cmp, e.rolls-Cmp) refl

  pub not_is : (a : Expr) → expr_renamed n (e.Not a) ≡ e.Not (expr_renamed n a)
  not_is a = rw (fold_out-Expr, e.outs-Not, e.rolls-Not) refl

  pub cast_is : (i : IntTy) (j : IntTy) (a : Expr) → expr_renamed n (e.Cast i j a) ≡ e.Cast i j (expr_renamed n a)
  cast_is i j a = rw (fold_out-Expr, e.outs-Cast, e.rolls-Cast) refl

  pub hide_is : (i : IntTy) (a : Expr) → expr_renamed n (e.Hide i a) ≡ e.Hide i (expr_renamed n a)
  hide_is i a = rw (fold_out-Expr, e.outs-Hide, e.rolls-Hide) refl

  pub make_is : (x : List ℕ) (args : List Ty) (es : List Expr) → expr_renamed n (e.Make x args es)
      ≡ e.Make (n.struct x args).0 (n.struct x args).1 (map (expr_renamed n) es)
  make_is x args es = rw (fold_out-Expr, e.outs-Make, e.rolls-Make) refl

  pub get_is : (y : List ℕ) (a : Expr) → expr_renamed n (e.Get y a) ≡ e.Get (n.field y) (expr_renamed n a)
  get_is y a = rw (fold_out-Expr, e.outs-Get, e.rolls-Get) refl

  pub con_is : (x : List ℕ) (args : List Ty) (es : List Expr) → expr_renamed n (e.Con x args es)
      ≡ e.Con (n.con x args).0 (n.con x args).1 (map (expr_renamed n) es)
  con_is x args es = rw (fold_out-Expr, e.outs-Con, e.rolls-Con) refl

  pub read_is : (a : Expr) (i : Expr) → expr_renamed n (e.Read a i) ≡ e.Read (expr_renamed n a) (expr_renamed n i)
  read_is a i = rw (fold_out-Expr, e.outs-Read, e.rolls-Read) refl

  pub write_is : (a : Expr) (i : Expr) (v : Expr) → expr_renamed n (e.Write a i v)
      ≡ e.Write (expr_renamed n a) (expr_renamed n i) (expr_renamed n v)
  write_is a i v = rw (fold_out-Expr, e.outs-Write, e.rolls-Write) refl

  pub slice_is : (a : Expr) (i : Expr) (k : Expr) → expr_renamed n (e.Slice a i k)
      ≡ e.Slice (expr_renamed n a) (expr_renamed n i) (expr_renamed n k)
  slice_is a i k = rw (fold_out-Expr, e.outs-Slice, e.rolls-Slice) refl

  pub tab_is : (x : List ℕ) (a : Expr) → expr_renamed n (e.Tab x a) ≡ e.Tab (n.table x) (expr_renamed n a)
  tab_is x a = rw (fold_out-Expr, e.outs-Tab, e.rolls-Tab) refl

  pub choice_is : (c : Expr) (a : Expr) (b : Expr) → expr_renamed n (e.If c a b)
      ≡ e.If (expr_renamed n c) (expr_renamed n a) (expr_renamed n b)
  choice_is c a b = rw (fold_out-Expr, e.outs-If, e.rolls-If) refl

  pub match_is : (a : Expr) (arms : List Arm) → expr_renamed n (e.Match a arms)
      ≡ e.Match (expr_renamed n a) (map (arm_passed (renaming n)) arms)
  match_is a arms = rw (fold_out-Expr, e.outs-Match, e.rolls-Match) refl

  pub do_is : (items : List Item) (a : Expr) → expr_renamed n (e.Do items a)
      ≡ e.Do (map (item_passed (renaming n)) items) (expr_renamed n a)
  do_is items a = rw (fold_out-Expr, e.outs-Do, e.rolls-Do) refl

  pub frame_is : (slots : List Slot) (a : Expr) → expr_renamed n (e.Frame slots a)
      ≡ e.Frame (map (slot_renamed n) slots) (expr_renamed n a)
  frame_is slots a = rw (fold_out-Expr, e.outs-Frame, e.rolls-Frame) refl

  pub alloc_is : (b : Ty) (k : ℕ) (a : Expr) → expr_renamed n (e.Alloc b k a) ≡ e.Alloc (n.ty b) k (expr_renamed n a)
  alloc_is b k a = rw (fold_out-Expr, e.outs-Alloc, e.rolls-Alloc) refl

  pub while_is : (c : Expr) (a : Expr) → expr_renamed n (e.While c a) ≡ e.While (expr_renamed n c) (expr_renamed n a)
  while_is c a = rw (fold_out-Expr, e.outs-While, e.rolls-While) refl

  pub for_is : (x : List ℕ) (a : Expr) (b : Expr) (c : Expr) → expr_renamed n (e.For x a b c)
      ≡ e.For x (expr_renamed n a) (expr_renamed n b) (expr_renamed n c)
  for_is x a b c = rw (fold_out-Expr, e.outs-For, e.rolls-For) refl

  pub call_is : (x : List ℕ) (args : List Ty) (es : List Expr) → expr_renamed n (e.Call x args es)
      ≡ e.Call (n.fun x args).0 (n.fun x args).1 (map (expr_renamed n) es)
  call_is x args es = rw (fold_out-Expr, e.outs-Call, e.rolls-Call) refl

  pub cases_is : (cases : List Case) → expr_renamed n (e.Cases cases) ≡ e.Cases (map (case_passed (renaming n)) cases)
  cases_is cases = rw (fold_out-Expr, e.outs-Cases, e.rolls-Cases) refl

  pub tag_is_is : (x : List ℕ) (a : Expr) → expr_renamed n (e.TagIs x a) ≡ e.TagIs (n.tag x) (expr_renamed n a)
  tag_is_is x a = rw (fold_out-Expr, e.outs-TagIs, e.rolls-TagIs) refl

  pub part_is : (x : List ℕ) (j : ℕ) (a : Expr) → expr_renamed n (e.Part x j a) ≡ e.Part (n.tag x) j (expr_renamed n a)
  part_is x j a = rw (fold_out-Expr, e.outs-Part, e.rolls-Part) refl

  pub fill_is : (k : ℕ) (a : Expr) → expr_renamed n (e.Fill k a) ≡ e.Fill k (expr_renamed n a)
  fill_is k a = rw (fold_out-Expr, e.outs-Fill, e.rolls-Fill) refl

  -- ---- what stands in a `do`, branches and cases

  pub let_is : (x : List ℕ) (b : Ty) (a : Expr) → item_passed (renaming n) (item.Let x b a) ≡ item.Let x (n.ty b) (expr_renamed n a)
  let_is x b a = rw (fold_out-Item, item.outs-Let, item.rolls-Let) refl

  pub run_is : (a : Expr) → item_passed (renaming n) (item.Run a) ≡ item.Run (expr_renamed n a)
  run_is a = rw (fold_out-Item, item.outs-Run, item.rolls-Run) refl

  pub arm_is : (q : Pat) (a : Expr) → arm_passed (renaming n) (roll-Arm (record { pat = q; body = a }))
      ≡ roll-Arm (record { pat = n.pat q; body = expr_renamed n a })
  arm_is q a = fold-roll-Arm _ _ _ _ (renaming n).expr (renaming n).item (renaming n).arm (renaming n).case_ (record { pat = q; body = a })

  pub case_parts_is : (tests : List Expr) (a : Expr) → case_passed (renaming n) (roll-Case (record { tests = tests; body = a }))
      ≡ roll-Case (record { tests = map (expr_renamed n) tests; body = expr_renamed n a })
  case_parts_is tests a =
      fold-roll-Case _ _ _ _ (renaming n).expr (renaming n).item (renaming n).arm (renaming n).case_ (record { tests = tests; body = a })

  pub case_is : (c : Case) → case_passed (renaming n) c ≡ roll-Case (record { tests = map (expr_renamed n) (out-Case c).tests; body = expr_renamed n (out-Case c).body })
  case_is c = rw (fold_out-Case) refl
