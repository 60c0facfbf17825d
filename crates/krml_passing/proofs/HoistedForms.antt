-- What each form becomes where it is hoisted, with the slots that it has: an equation a form.
use Rattle.std.proofs.Common.{◌≡◌, ℕ, suc, Bool, List, ◌∷◌, ◌++◌, map, length, refl, ◌∙◌}
use Rattle.krml_syntax.specs.declared.tree.IntTy.{IntTy}
use Rattle.krml_syntax.specs.declared.tree.BinOp.{BinOp}
use Rattle.krml_syntax.specs.declared.tree.CmpOp.{CmpOp}
use Rattle.krml_syntax.specs.declared.tree.Ty.{Ty}
use Rattle.krml_syntax.specs.declared.tree.Pat.{Pat}
use Rattle.krml_syntax.specs.declared.tree.Slot.{Slot}
use Rattle.krml_syntax.specs.declared.tree.Arm.{Arm, roll-Arm}
use Rattle.krml_syntax.specs.declared.tree.Case.{Case, roll-Case}
use Rattle.krml_syntax.specs.declared.tree.Item.{Item}
use Rattle.krml_syntax.specs.declared.tree.Item.TheVariants as item
use Rattle.krml_syntax.specs.declared.tree.Expr.{Expr, out-Expr}
use Rattle.krml_syntax.specs.declared.tree.Expr.TheOpen.{Expr-F}
use Rattle.krml_syntax.specs.declared.tree.Expr.TheVariants as e
use Rattle.krml_syntax.specs.declared.tree.Expr.TheFolds.{fold_out-Expr, fold_out-Item, fold-roll-Arm, fold-roll-Case}
use Rattle.krml_syntax.specs.Shape.{map_layer}
use Rattle.krml_meaning.specs.Numbered.{Numbered, none, one, two, three, many}
use Rattle.krml_passing.specs.Hoisted.{hoist_layer, hoisted, item_hoisted, arm_hoisted, case_hoisted}
use Rattle.krml_passing.proofs.HoistedLayers.{numbered_is}

-- by the layer that it is made of
pub of_layer : (x : Expr) (o : Expr-F Expr Item Arm Case) → out-Expr x ≡ o
    → hoisted x ≡ hoist_layer (map_layer hoisted item_hoisted arm_hoisted case_hoisted o)
of_layer x o is = rw (fold_out-Expr, is) refl

abbrev pub alloc_hoisted : Ty → ℕ → Numbered Expr → Numbered Expr
alloc_hoisted b n a = record { slots = record { ty = b; len = n } ∷ a.slots; from = λ k. e.Fill k (a.from (suc k)) }

pub var_is : (x : List ℕ) → hoisted (e.Var x) ≡ none (e.Var x)
var_is x = of_layer _ _ (e.outs-Var x) ∙ numbered_is _ _ refl (λ k. e.rolls-Var _)

pub unit_is : hoisted e.Unit ≡ none e.Unit
unit_is = of_layer _ _ e.outs-Unit ∙ numbered_is _ _ refl (λ k. e.rolls-Unit)

pub bool_is : (b : Bool) → hoisted (e.Bool b) ≡ none (e.Bool b)
bool_is b = of_layer _ _ (e.outs-Bool b) ∙ numbered_is _ _ refl (λ k. e.rolls-Bool _)

pub num_is : (i : IntTy) (n : ℕ) → hoisted (e.Num i n) ≡ none (e.Num i n)
num_is i n = of_layer _ _ (e.outs-Num i n) ∙ numbered_is _ _ refl (λ k. e.rolls-Num _ _)

pub bin_is : (o : BinOp) (i : IntTy) (a b : Expr) → hoisted (e.Bin o i a b) ≡ two (e.Bin o i) (hoisted a) (hoisted b)
bin_is o i a b = of_layer _ _ (e.outs-Bin o i a b) ∙ numbered_is _ _ refl (λ k. e.rolls-Bin _ _ _ _)

pub shift_is : (left : Bool) (i : IntTy) (a n : Expr) → hoisted (e.Shift left i a n) ≡ two (e.Shift left i) (hoisted a) (hoisted n)
shift_is left i a n = of_layer _ _ (e.outs-Shift left i a n) ∙ numbered_is _ _ refl (λ k. e.rolls-Shift _ _ _ _)

pub cmp_is : (o : CmpOp) (i : IntTy) (a b : Expr) → hoisted (e.Cmp o i a b) ≡ two (e.Cmp o i) (hoisted a) (hoisted b)
cmp_is o i a b = of_layer _ _ (e.outs-Cmp o i a b) ∙ numbered_is _ _ refl (λ k. e.rolls-Cmp _ _ _ _)

pub not_is : (a : Expr) → hoisted (e.Not a) ≡ one e.Not (hoisted a)
not_is a = of_layer _ _ (e.outs-Not a) ∙ numbered_is _ _ refl (λ k. e.rolls-Not _)

pub cast_is : (i j : IntTy) (a : Expr) → hoisted (e.Cast i j a) ≡ one (e.Cast i j) (hoisted a)
cast_is i j a = of_layer _ _ (e.outs-Cast i j a) ∙ numbered_is _ _ refl (λ k. e.rolls-Cast _ _ _)

pub hide_is : (i : IntTy) (a : Expr) → hoisted (e.Hide i a) ≡ one (e.Hide i) (hoisted a)
hide_is i a = of_layer _ _ (e.outs-Hide i a) ∙ numbered_is _ _ refl (λ k. e.rolls-Hide _ _)

pub make_is : (x : List ℕ) (args : List Ty) (es : List Expr) → hoisted (e.Make x args es) ≡ many (e.Make x args) (map hoisted es)
make_is x args es = of_layer _ _ (e.outs-Make x args es) ∙ numbered_is _ _ refl (λ k. e.rolls-Make _ _ _)

pub get_is : (y : List ℕ) (a : Expr) → hoisted (e.Get y a) ≡ one (e.Get y) (hoisted a)
get_is y a = of_layer _ _ (e.outs-Get y a) ∙ numbered_is _ _ refl (λ k. e.rolls-Get _ _)

pub con_is : (x : List ℕ) (args : List Ty) (es : List Expr) → hoisted (e.Con x args es) ≡ many (e.Con x args) (map hoisted es)
con_is x args es = of_layer _ _ (e.outs-Con x args es) ∙ numbered_is _ _ refl (λ k. e.rolls-Con _ _ _)

pub read_is : (a i : Expr) → hoisted (e.Read a i) ≡ two e.Read (hoisted a) (hoisted i)
read_is a i = of_layer _ _ (e.outs-Read a i) ∙ numbered_is _ _ refl (λ k. e.rolls-Read _ _)

pub write_is : (a i x : Expr) → hoisted (e.Write a i x) ≡ three e.Write (hoisted a) (hoisted i) (hoisted x)
write_is a i x = of_layer _ _ (e.outs-Write a i x) ∙ numbered_is _ _ refl (λ k. e.rolls-Write _ _ _)

pub slice_is : (a i n : Expr) → hoisted (e.Slice a i n) ≡ three e.Slice (hoisted a) (hoisted i) (hoisted n)
slice_is a i n = of_layer _ _ (e.outs-Slice a i n) ∙ numbered_is _ _ refl (λ k. e.rolls-Slice _ _ _)

pub tab_is : (x : List ℕ) (a : Expr) → hoisted (e.Tab x a) ≡ one (e.Tab x) (hoisted a)
tab_is x a = of_layer _ _ (e.outs-Tab x a) ∙ numbered_is _ _ refl (λ k. e.rolls-Tab _ _)

pub choice_is : (c a b : Expr) → hoisted (e.If c a b) ≡ three e.If (hoisted c) (hoisted a) (hoisted b)
choice_is c a b = of_layer _ _ (e.outs-If c a b) ∙ numbered_is _ _ refl (λ k. e.rolls-If _ _ _)

pub match_is : (a : Expr) (arms : List Arm) → hoisted (e.Match a arms)
    ≡ two e.Match (hoisted a) (many (λ arms. arms) (map arm_hoisted arms))
match_is a arms = of_layer _ _ (e.outs-Match a arms) ∙ numbered_is _ _ refl (λ k. e.rolls-Match _ _)

pub block_is : (items : List Item) (a : Expr) → hoisted (e.Do items a)
    ≡ two e.Do (many (λ items. items) (map item_hoisted items)) (hoisted a)
block_is items a = of_layer _ _ (e.outs-Do items a) ∙ numbered_is _ _ refl (λ k. e.rolls-Do _ _)

pub frame_is : (slots : List Slot) (a : Expr) → hoisted (e.Frame slots a)
    ≡ none (e.Frame (slots ++ (hoisted a).slots) ((hoisted a).from (length slots)))
frame_is slots a = of_layer _ _ (e.outs-Frame slots a) ∙ numbered_is _ _ refl (λ k. e.rolls-Frame _ _)

pub alloc_is : (b : Ty) (n : ℕ) (a : Expr) → hoisted (e.Alloc b n a) ≡ alloc_hoisted b n (hoisted a)
alloc_is b n a = of_layer _ _ (e.outs-Alloc b n a) ∙ numbered_is _ _ refl (λ k. e.rolls-Fill _ _)

pub while_is : (c a : Expr) → hoisted (e.While c a) ≡ two e.While (hoisted c) (hoisted a)
while_is c a = of_layer _ _ (e.outs-While c a) ∙ numbered_is _ _ refl (λ k. e.rolls-While _ _)

pub for_is : (x : List ℕ) (a b c : Expr) → hoisted (e.For x a b c) ≡ three (e.For x) (hoisted a) (hoisted b) (hoisted c)
for_is x a b c = of_layer _ _ (e.outs-For x a b c) ∙ numbered_is _ _ refl (λ k. e.rolls-For _ _ _ _)

pub call_is : (x : List ℕ) (args : List Ty) (es : List Expr) → hoisted (e.Call x args es) ≡ many (e.Call x args) (map hoisted es)
call_is x args es = of_layer _ _ (e.outs-Call x args es) ∙ numbered_is _ _ refl (λ k. e.rolls-Call _ _ _)

pub cases_is : (cases : List Case) → hoisted (e.Cases cases) ≡ many e.Cases (map case_hoisted cases)
cases_is cases = of_layer _ _ (e.outs-Cases cases) ∙ numbered_is _ _ refl (λ k. e.rolls-Cases _)

pub tag_is_is : (x : List ℕ) (a : Expr) → hoisted (e.TagIs x a) ≡ one (e.TagIs x) (hoisted a)
tag_is_is x a = of_layer _ _ (e.outs-TagIs x a) ∙ numbered_is _ _ refl (λ k. e.rolls-TagIs _ _)

pub part_is : (x : List ℕ) (j : ℕ) (a : Expr) → hoisted (e.Part x j a) ≡ one (e.Part x j) (hoisted a)
part_is x j a = of_layer _ _ (e.outs-Part x j a) ∙ numbered_is _ _ refl (λ k. e.rolls-Part _ _ _)

pub fill_is : (k : ℕ) (a : Expr) → hoisted (e.Fill k a) ≡ one (e.Fill k) (hoisted a)
fill_is k a = of_layer _ _ (e.outs-Fill k a) ∙ numbered_is _ _ refl (λ k. e.rolls-Fill _ _)

pub let_is : (x : List ℕ) (b : Ty) (a : Expr) → item_hoisted (item.Let x b a) ≡ one (item.Let x b) (hoisted a)
let_is x b a = rw (fold_out-Item, item.outs-Let) (numbered_is _ _ refl (λ k. item.rolls-Let _ _ _))

pub run_is : (a : Expr) → item_hoisted (item.Run a) ≡ one item.Run (hoisted a)
run_is a = rw (fold_out-Item, item.outs-Run) (numbered_is _ _ refl (λ k. item.rolls-Run _))

pub arm_is : (q : Pat) (a : Expr) → arm_hoisted (roll-Arm (record { pat = q; body = a }))
    ≡ one (λ body. roll-Arm (record { pat = q; body = body })) (hoisted a)
arm_is q a = rw fold-roll-Arm refl

pub case_is : (tests : List Expr) (a : Expr) → case_hoisted (roll-Case (record { tests = tests; body = a }))
    ≡ two (λ tests body. roll-Case (record { tests = tests; body = body })) (many (λ tests. tests) (map hoisted tests)) (hoisted a)
case_is tests a = rw fold-roll-Case refl
