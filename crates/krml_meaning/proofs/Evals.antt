-- What each form of expression means: the equations of the meaning.
use Rattle.std.proofs.Common.{◌≡◌, ℕ, suc, ◌++◌, ◌∷◌, Bool, List, map, length, refl}
use Rattle.krml_syntax.specs.declared.tree.IntTy.{IntTy}
use Rattle.krml_syntax.specs.declared.tree.Ty.{Ty}
use Rattle.krml_syntax.specs.declared.tree.Slot.{Slot}
use Rattle.krml_syntax.specs.declared.tree.Pat.{Pat}
use Rattle.krml_syntax.specs.declared.tree.BinOp.{BinOp}
use Rattle.krml_syntax.specs.declared.tree.CmpOp.{CmpOp}
use Rattle.krml_syntax.specs.declared.tree.Arm.{Arm, roll-Arm}
use Rattle.krml_syntax.specs.declared.tree.Case.{Case, roll-Case}
use Rattle.krml_syntax.specs.declared.tree.Item.{Item}
use Rattle.krml_syntax.specs.declared.tree.Item.TheVariants as item
use Rattle.krml_syntax.specs.declared.tree.Expr.{Expr}
use Rattle.krml_syntax.specs.declared.tree.Expr.TheVariants as e
use Rattle.krml_syntax.specs.declared.tree.Expr.TheFolds.{fold-Item, fold-Arm, fold-Case, fold_out-Expr, fold_out-Item, fold-roll-Arm, fold-roll-Case}
use Rattle.krml_syntax.specs.declared.tree.Def.{Def}
use Rattle.krml_meaning.specs.declared.value.Value.TheVariants as v
use Rattle.krml_meaning.specs.State.{Sem}
use Rattle.krml_meaning.specs.Numbered.{Numbered, none, one, two, three, many}
use Rattle.krml_meaning.specs.Meaning as src

module _ (defs : List Def) (calls : src.Calls) where
  abbrev pub means : Expr → Numbered Sem
  means = src.meaning defs calls

  abbrev pub item_means : Item → Numbered src.Step
  item_means = fold-Item (Numbered Sem) (Numbered src.Step) (Numbered src.Branch) (Numbered src.Tested) (src.form_meaning defs calls) src.item_meaning (src.arm_meaning defs) src.case_meaning

  abbrev pub arm_means : Arm → Numbered src.Branch
  arm_means = fold-Arm (Numbered Sem) (Numbered src.Step) (Numbered src.Branch) (Numbered src.Tested) (src.form_meaning defs calls) src.item_meaning (src.arm_meaning defs) src.case_meaning

  abbrev pub case_means : Case → Numbered src.Tested
  case_means = fold-Case (Numbered Sem) (Numbered src.Step) (Numbered src.Branch) (Numbered src.Tested) (src.form_meaning defs calls) src.item_meaning (src.arm_meaning defs) src.case_meaning

  pub var_is : (x : List ℕ) → means (e.Var x) ≡ none (src.var x)
  var_is x = rw (fold_out-Expr, e.outs-Var) refl

  pub unit_is : means e.Unit ≡ none (src.just v.Unit)
  unit_is = rw (fold_out-Expr, e.outs-Unit) refl

  pub bool_is : (b : Bool) → means (e.Bool b) ≡ none (src.just (v.Bool b))
  bool_is b = rw (fold_out-Expr, e.outs-Bool) refl

  pub num_is : (i : IntTy) (n : ℕ) → means (e.Num i n) ≡ none (src.just (v.Num i.width n))
  num_is i n = rw (fold_out-Expr, e.outs-Num) refl

  pub bin_is : (o : BinOp) (i : IntTy) (a b : Expr) → means (e.Bin o i a b) ≡ two (src.binary o i) (means a) (means b)
  bin_is o i a b = rw (fold_out-Expr, e.outs-Bin) refl

  pub shift_is : (left : Bool) (i : IntTy) (a n : Expr) → means (e.Shift left i a n) ≡ two (src.shift left i) (means a) (means n)
  shift_is left i a n = rw (fold_out-Expr, e.outs-Shift) refl

  pub cmp_is : (o : CmpOp) (i : IntTy) (a b : Expr) → means (e.Cmp o i a b) ≡ two (src.compare o i) (means a) (means b)
  cmp_is o i a b = rw (fold_out-Expr, e.outs-Cmp) refl

  pub not_is : (a : Expr) → means (e.Not a) ≡ one src.opposite (means a)
  not_is a = rw (fold_out-Expr, e.outs-Not) refl

  pub cast_is : (i j : IntTy) (a : Expr) → means (e.Cast i j a) ≡ one (src.cast i j) (means a)
  cast_is i j a = rw (fold_out-Expr, e.outs-Cast) refl

  pub hide_is : (i : IntTy) (a : Expr) → means (e.Hide i a) ≡ one (src.hide i) (means a)
  hide_is i a = rw (fold_out-Expr, e.outs-Hide) refl

  pub make_is : (x : List ℕ) (args : List Ty) (es : List Expr) → means (e.Make x args es) ≡ many (src.make defs x) (map means es)
  make_is x args es = rw (fold_out-Expr, e.outs-Make) refl

  pub get_is : (y : List ℕ) (a : Expr) → means (e.Get y a) ≡ one (src.get y) (means a)
  get_is y a = rw (fold_out-Expr, e.outs-Get) refl

  pub con_is : (x : List ℕ) (args : List Ty) (es : List Expr) → means (e.Con x args es) ≡ many (src.con defs x) (map means es)
  con_is x args es = rw (fold_out-Expr, e.outs-Con) refl

  pub read_is : (a i : Expr) → means (e.Read a i) ≡ two src.read (means a) (means i)
  read_is a i = rw (fold_out-Expr, e.outs-Read) refl

  pub write_is : (a i x : Expr) → means (e.Write a i x) ≡ three src.write (means a) (means i) (means x)
  write_is a i x = rw (fold_out-Expr, e.outs-Write) refl

  pub slice_is : (a i n : Expr) → means (e.Slice a i n) ≡ three src.slice (means a) (means i) (means n)
  slice_is a i n = rw (fold_out-Expr, e.outs-Slice) refl

  pub tab_is : (x : List ℕ) (a : Expr) → means (e.Tab x a) ≡ one (src.tab defs x) (means a)
  tab_is x a = rw (fold_out-Expr, e.outs-Tab) refl

  pub choice_is : (c a b : Expr) → means (e.If c a b) ≡ three src.choose (means c) (means a) (means b)
  choice_is c a b = rw (fold_out-Expr, e.outs-If) refl

  pub match_is : (a : Expr) (arms : List Arm) → means (e.Match a arms) ≡ two src.match (means a) (many (λ branches. branches) (map arm_means arms))
  match_is a arms = rw (fold_out-Expr, e.outs-Match) refl

  pub block_is : (items : List Item) (a : Expr) → means (e.Do items a) ≡ two src.block (many (λ steps. steps) (map item_means items)) (means a)
  block_is items a = rw (fold_out-Expr, e.outs-Do) refl

  pub frame_is : (slots : List Slot) (a : Expr) → means (e.Frame slots a) ≡ none (src.frame (slots ++ (means a).slots) ((means a).from (length slots)))
  frame_is slots a = rw (fold_out-Expr, e.outs-Frame) refl

  abbrev pub alloc_meaning : Ty → ℕ → Numbered Sem → Numbered Sem
  alloc_meaning b n a = record { slots = record { ty = b; len = n } ∷ a.slots; from = λ k. src.fill k (a.from (suc k)) }

  pub alloc_is : (b : Ty) (n : ℕ) (a : Expr) → means (e.Alloc b n a) ≡ alloc_meaning b n (means a)
  alloc_is b n a = rw (fold_out-Expr, e.outs-Alloc) refl

  pub while_is : (c a : Expr) → means (e.While c a) ≡ two src.while (means c) (means a)
  while_is c a = rw (fold_out-Expr, e.outs-While) refl

  pub for_is : (x : List ℕ) (a b c : Expr) → means (e.For x a b c) ≡ three (src.for x) (means a) (means b) (means c)
  for_is x a b c = rw (fold_out-Expr, e.outs-For) refl

  pub call_is : (x : List ℕ) (args : List Ty) (es : List Expr) → means (e.Call x args es) ≡ many (src.call calls x args) (map means es)
  call_is x args es = rw (fold_out-Expr, e.outs-Call) refl

  pub cases_is : (cases : List Case) → means (e.Cases cases) ≡ many (src.cases 0) (map case_means cases)
  cases_is cases = rw (fold_out-Expr, e.outs-Cases) refl

  pub tag_is_is : (x : List ℕ) (a : Expr) → means (e.TagIs x a) ≡ one (src.tag_is defs x) (means a)
  tag_is_is x a = rw (fold_out-Expr, e.outs-TagIs) refl

  pub part_is : (x : List ℕ) (j : ℕ) (a : Expr) → means (e.Part x j a) ≡ one (src.part defs x j) (means a)
  part_is x j a = rw (fold_out-Expr, e.outs-Part) refl

  pub fill_is : (k : ℕ) (a : Expr) → means (e.Fill k a) ≡ one (src.fill k) (means a)
  fill_is k a = rw (fold_out-Expr, e.outs-Fill) refl

  pub bound_is : (x : List ℕ) (b : Ty) (a : Expr) → item_means (item.Let x b a) ≡ one (src.bound x) (means a)
  bound_is x b a = rw (fold_out-Item, item.outs-Let) refl

  pub ran_is : (a : Expr) → item_means (item.Run a) ≡ one src.ran (means a)
  ran_is a = rw (fold_out-Item, item.outs-Run) refl

  pub arm_is : (q : Pat) (a : Expr) → arm_means (roll-Arm (record { pat = q; body = a })) ≡ one (λ body. record { takes = src.takes defs q; body = body }) (means a)
  arm_is q a = rw fold-roll-Arm refl

  pub case_is : (tests : List Expr) (a : Expr)
      → case_means (roll-Case (record { tests = tests; body = a })) ≡ two (λ ts body. record { tests = ts; body = body }) (many (λ ts. ts) (map means tests)) (means a)
  case_is tests a = rw fold-roll-Case refl
