-- The walk over each form: what it makes, and where it is behind it.
use Rattle.std.proofs.Common.{◌≡◌, ℕ, suc, Bool, List, [], ◌∷◌, ◌++◌, map, length, Option, None, refl, sym, ap, ◌∙◌, length-append, append_assoc, append-nil, arith}
use Rattle.std.proofs.lemmas.List.{map-append}
use Rattle.std.specs.Option.{option_or}
use Rattle.krml_trace.specs.First.{first}
use Rattle.krml_trace.proofs.First.{first_more, first_map, or_none}
use Rattle.krml_syntax.specs.declared.tree.IntTy.{IntTy}
use Rattle.krml_syntax.specs.declared.tree.BinOp.{BinOp}
use Rattle.krml_syntax.specs.declared.tree.CmpOp.{CmpOp}
use Rattle.krml_syntax.specs.declared.tree.Ty.{Ty}
use Rattle.krml_syntax.specs.declared.tree.Pat.{Pat}
use Rattle.krml_syntax.specs.declared.tree.Slot.{Slot}
use Rattle.krml_syntax.specs.declared.tree.Arm.{Arm, roll-Arm, out-Arm, roll-out-Arm}
use Rattle.krml_syntax.specs.declared.tree.Case.{Case, roll-Case, out-Case, roll-out-Case}
use Rattle.krml_syntax.specs.declared.tree.Item.{Item}
use Rattle.krml_syntax.specs.declared.tree.Item.TheVariants as i
use Rattle.krml_syntax.specs.declared.tree.Expr.{Expr}
use Rattle.krml_syntax.specs.declared.tree.Expr.TheVariants as e
use Rattle.krml_syntax.specs.declared.tree.Expr.TheOpen.{Arm-F, Case-F}
use Rattle.krml_syntax.specs.declared.tree.Expr.TheViews.{out-roll-Arm, out-roll-Case}
use Rattle.krml_syntax.specs.declared.tree.Def.{Def}
use Rattle.krml_syntax.specs.Shape.{Part}
use Rattle.krml_layout.specs.Layout.{frame_bytes}
use Rattle.krml_meaning.specs.Numbered.{Numbered, none, one, two, three}
use Rattle.krml_passing.specs.Hoisted.{hoisted, item_hoisted, arm_hoisted, case_hoisted}
use Rattle.krml_passing.proofs.HoistedForms as form
use Rattle.krml_hoist.specs.declared.hoister.Hoister.{Hoister}
use Rattle.krml_hoist.specs.Large.{if_large}
use Rattle.krml_hoist.specs.Walk.{large_in, large_in_each, large_item, large_items, large_arm, large_arms, large_case, large_cases, here, behind, all, made, after, made_all, after_all, made_item, after_item, made_items, after_items, made_arm, after_arm, made_arms, after_arms, made_case, after_case, made_cases, after_cases, listed, entered, put_aside, left}
use Rattle.krml_hoist.proofs.LargeParts.{large_of, large_part}
use Rattle.krml_hoist.proofs.Walks.{none_behind, one_behind, two_here, two_behind, three_here, three_behind, all_none, last_behind, last_here}

-- ---- by the number of parts

no_part : (x : Expr) (m : Hoister) → hoisted x ≡ none x → ((defs : List Def) → large_in defs x ≡ None) → after x m ≡ m
unfolding after
no_part x m is alone = ap (λ (n : Numbered Expr). behind large_in n m) is ∙ none_behind large_in x m (alone m.layouts.now)

-- an expression is made as it stands
itself : (x : Expr) (m : Hoister) → hoisted x ≡ none x → made x m ≡ x
unfolding made
itself x m is = ap (λ (n : Numbered Expr). here n m) is

module _ (x : Expr) (f : Expr → Expr) (a : Expr) (m : Hoister) (is : hoisted x ≡ one f (hoisted a)) where
  one_made : made x m ≡ f (made a m)
  unfolding made
  one_made = ap (λ (n : Numbered Expr). here n m) is

  one_after : ((defs : List Def) (a : Expr) → large_in defs (f a) ≡ option_or (large_in defs a) None) → after x m ≡ after a m
  unfolding after
  one_after alone = ap (λ (n : Numbered Expr). behind large_in n m) is
      ∙ one_behind large_in large_in f (hoisted a) m (λ defs z. alone defs z ∙ or_none (large_in defs z))

module _ (x : Expr) (f : Expr → Expr → Expr) (a b : Expr) (m : Hoister) (is : hoisted x ≡ two f (hoisted a) (hoisted b)) where
  two_made : made x m ≡ f (made a m) (made b (after a m))
  unfolding made after
  two_made = ap (λ (n : Numbered Expr). here n m) is ∙ two_here large_in large_in f (hoisted a) (hoisted b) m

  two_after : ((defs : List Def) (a b : Expr) → large_in defs (f a b) ≡ option_or (large_in defs a) (option_or (large_in defs b) None))
      → after x m ≡ after b (after a m)
  unfolding after
  two_after alone = ap (λ (n : Numbered Expr). behind large_in n m) is
      ∙ two_behind large_in large_in f (hoisted a) (hoisted b) m large_in
      (λ defs y z. alone defs y z ∙ ap (option_or (large_in defs y)) (or_none (large_in defs z)))

module _ (x : Expr) (f : Expr → Expr → Expr → Expr) (a b c : Expr) (m : Hoister)
    (is : hoisted x ≡ three f (hoisted a) (hoisted b) (hoisted c)) where
  three_made : made x m ≡ f (made a m) (made b (after a m)) (made c (after b (after a m)))
  unfolding made after
  three_made = ap (λ (n : Numbered Expr). here n m) is ∙ three_here large_in large_in large_in f (hoisted a) (hoisted b) (hoisted c) m

  three_after : ((defs : List Def) (a b c : Expr)
      → large_in defs (f a b c) ≡ option_or (large_in defs a) (option_or (large_in defs b) (option_or (large_in defs c) None)))
      → after x m ≡ after c (after b (after a m))
  unfolding after
  three_after alone = ap (λ (n : Numbered Expr). behind large_in n m) is
      ∙ three_behind large_in large_in large_in f (hoisted a) (hoisted b) (hoisted c) m large_in
      (λ defs y z w. alone defs y z w ∙ ap (λ o. option_or (large_in defs y) (option_or (large_in defs z) o)) (or_none (large_in defs w)))

module _ (x : Expr) (f : List Expr → Expr) (es : List Expr) (m : Hoister) (is : hoisted x ≡ one f (all (map hoisted es))) where
  many_made : made x m ≡ f (made_all es m)
  unfolding made made_all
  many_made = ap (λ (n : Numbered Expr). here n m) is

  many_after : ((defs : List Def) (es : List Expr) → large_in defs (f es) ≡ first (large_part defs) (map Part.expr es)) → after x m ≡ after_all es m
  unfolding after after_all
  many_after alone = ap (λ (n : Numbered Expr). behind large_in n m) is
      ∙ one_behind large_in_each large_in f (all (map hoisted es)) m
      (λ defs z. alone defs z ∙ first_map (large_part defs) Part.expr z)

-- ---- each form

pub var_made : (x : List ℕ) (m : Hoister) → made (e.Var x) m ≡ e.Var x
var_made x m = itself (e.Var x) m (form.var_is x)

pub var_after : (x : List ℕ) (m : Hoister) → after (e.Var x) m ≡ m
var_after x m = no_part (e.Var x) m (form.var_is x) (λ defs. large_of defs _ _ (e.outs-Var x))

pub unit_made : (m : Hoister) → made e.Unit m ≡ e.Unit
unit_made m = itself e.Unit m form.unit_is

pub unit_after : (m : Hoister) → after e.Unit m ≡ m
unit_after m = no_part e.Unit m form.unit_is (λ defs. large_of defs _ _ e.outs-Unit)

pub bool_made : (t : Bool) (m : Hoister) → made (e.Bool t) m ≡ e.Bool t
bool_made t m = itself (e.Bool t) m (form.bool_is t)

pub bool_after : (t : Bool) (m : Hoister) → after (e.Bool t) m ≡ m
bool_after t m = no_part (e.Bool t) m (form.bool_is t) (λ defs. large_of defs _ _ (e.outs-Bool t))

pub num_made : (j : IntTy) (n : ℕ) (m : Hoister) → made (e.Num j n) m ≡ e.Num j n
num_made j n m = itself (e.Num j n) m (form.num_is j n)

pub num_after : (j : IntTy) (n : ℕ) (m : Hoister) → after (e.Num j n) m ≡ m
num_after j n m = no_part (e.Num j n) m (form.num_is j n) (λ defs. large_of defs _ _ (e.outs-Num j n))

pub bin_made : (o : BinOp) (j : IntTy) (a b : Expr) (m : Hoister) → made (e.Bin o j a b) m ≡ e.Bin o j (made a m) (made b (after a m))
bin_made o j a b m = two_made (e.Bin o j a b) (e.Bin o j) a b m (form.bin_is o j a b)

pub bin_after : (o : BinOp) (j : IntTy) (a b : Expr) (m : Hoister) → after (e.Bin o j a b) m ≡ after b (after a m)
bin_after o j a b m = two_after (e.Bin o j a b) (e.Bin o j) a b m (form.bin_is o j a b) (λ defs z w. large_of defs _ _ (e.outs-Bin o j z w))

pub shift_made : (to : Bool) (j : IntTy) (a b : Expr) (m : Hoister) → made (e.Shift to j a b) m ≡ e.Shift to j (made a m) (made b (after a m))
shift_made to j a b m = two_made (e.Shift to j a b) (e.Shift to j) a b m (form.shift_is to j a b)

pub shift_after : (to : Bool) (j : IntTy) (a b : Expr) (m : Hoister) → after (e.Shift to j a b) m ≡ after b (after a m)
shift_after to j a b m = two_after (e.Shift to j a b) (e.Shift to j) a b m (form.shift_is to j a b) (λ defs z w. large_of defs _ _ (e.outs-Shift to j z w))

pub cmp_made : (o : CmpOp) (j : IntTy) (a b : Expr) (m : Hoister) → made (e.Cmp o j a b) m ≡ e.Cmp o j (made a m) (made b (after a m))
cmp_made o j a b m = two_made (e.Cmp o j a b) (e.Cmp o j) a b m (form.cmp_is o j a b)

pub cmp_after : (o : CmpOp) (j : IntTy) (a b : Expr) (m : Hoister) → after (e.Cmp o j a b) m ≡ after b (after a m)
cmp_after o j a b m = two_after (e.Cmp o j a b) (e.Cmp o j) a b m (form.cmp_is o j a b) (λ defs z w. large_of defs _ _ (e.outs-Cmp o j z w))

pub not_made : (a : Expr) (m : Hoister) → made (e.Not a) m ≡ e.Not (made a m)
not_made a m = one_made (e.Not a) e.Not a m (form.not_is a)

pub not_after : (a : Expr) (m : Hoister) → after (e.Not a) m ≡ after a m
not_after a m = one_after (e.Not a) e.Not a m (form.not_is a) (λ defs z. large_of defs _ _ (e.outs-Not z))

pub cast_made : (j k : IntTy) (a : Expr) (m : Hoister) → made (e.Cast j k a) m ≡ e.Cast j k (made a m)
cast_made j k a m = one_made (e.Cast j k a) (e.Cast j k) a m (form.cast_is j k a)

pub cast_after : (j k : IntTy) (a : Expr) (m : Hoister) → after (e.Cast j k a) m ≡ after a m
cast_after j k a m = one_after (e.Cast j k a) (e.Cast j k) a m (form.cast_is j k a) (λ defs z. large_of defs _ _ (e.outs-Cast j k z))

pub hide_made : (j : IntTy) (a : Expr) (m : Hoister) → made (e.Hide j a) m ≡ e.Hide j (made a m)
hide_made j a m = one_made (e.Hide j a) (e.Hide j) a m (form.hide_is j a)

pub hide_after : (j : IntTy) (a : Expr) (m : Hoister) → after (e.Hide j a) m ≡ after a m
hide_after j a m = one_after (e.Hide j a) (e.Hide j) a m (form.hide_is j a) (λ defs z. large_of defs _ _ (e.outs-Hide j z))

pub make_made : (x : List ℕ) (args : List Ty) (es : List Expr) (m : Hoister) → made (e.Make x args es) m ≡ e.Make x args (made_all es m)
make_made x args es m = many_made (e.Make x args es) (e.Make x args) es m (form.make_is x args es)

pub make_after : (x : List ℕ) (args : List Ty) (es : List Expr) (m : Hoister) → after (e.Make x args es) m ≡ after_all es m
make_after x args es m = many_after (e.Make x args es) (e.Make x args) es m (form.make_is x args es) (λ defs z. large_of defs _ _ (e.outs-Make x args z))

pub get_made : (y : List ℕ) (a : Expr) (m : Hoister) → made (e.Get y a) m ≡ e.Get y (made a m)
get_made y a m = one_made (e.Get y a) (e.Get y) a m (form.get_is y a)

pub get_after : (y : List ℕ) (a : Expr) (m : Hoister) → after (e.Get y a) m ≡ after a m
get_after y a m = one_after (e.Get y a) (e.Get y) a m (form.get_is y a) (λ defs z. large_of defs _ _ (e.outs-Get y z))

pub con_made : (x : List ℕ) (args : List Ty) (es : List Expr) (m : Hoister) → made (e.Con x args es) m ≡ e.Con x args (made_all es m)
con_made x args es m = many_made (e.Con x args es) (e.Con x args) es m (form.con_is x args es)

pub con_after : (x : List ℕ) (args : List Ty) (es : List Expr) (m : Hoister) → after (e.Con x args es) m ≡ after_all es m
con_after x args es m = many_after (e.Con x args es) (e.Con x args) es m (form.con_is x args es) (λ defs z. large_of defs _ _ (e.outs-Con x args z))

pub read_made : (a b : Expr) (m : Hoister) → made (e.Read a b) m ≡ e.Read (made a m) (made b (after a m))
read_made a b m = two_made (e.Read a b) e.Read a b m (form.read_is a b)

pub read_after : (a b : Expr) (m : Hoister) → after (e.Read a b) m ≡ after b (after a m)
read_after a b m = two_after (e.Read a b) e.Read a b m (form.read_is a b) (λ defs z w. large_of defs _ _ (e.outs-Read z w))

pub write_made : (a b c : Expr) (m : Hoister) → made (e.Write a b c) m ≡ e.Write (made a m) (made b (after a m)) (made c (after b (after a m)))
write_made a b c m = three_made (e.Write a b c) e.Write a b c m (form.write_is a b c)

pub write_after : (a b c : Expr) (m : Hoister) → after (e.Write a b c) m ≡ after c (after b (after a m))
write_after a b c m = three_after (e.Write a b c) e.Write a b c m (form.write_is a b c) (λ defs z w v. large_of defs _ _ (e.outs-Write z w v))

pub slice_made : (a b c : Expr) (m : Hoister) → made (e.Slice a b c) m ≡ e.Slice (made a m) (made b (after a m)) (made c (after b (after a m)))
slice_made a b c m = three_made (e.Slice a b c) e.Slice a b c m (form.slice_is a b c)

pub slice_after : (a b c : Expr) (m : Hoister) → after (e.Slice a b c) m ≡ after c (after b (after a m))
slice_after a b c m = three_after (e.Slice a b c) e.Slice a b c m (form.slice_is a b c) (λ defs z w v. large_of defs _ _ (e.outs-Slice z w v))

pub tab_made : (x : List ℕ) (a : Expr) (m : Hoister) → made (e.Tab x a) m ≡ e.Tab x (made a m)
tab_made x a m = one_made (e.Tab x a) (e.Tab x) a m (form.tab_is x a)

pub tab_after : (x : List ℕ) (a : Expr) (m : Hoister) → after (e.Tab x a) m ≡ after a m
tab_after x a m = one_after (e.Tab x a) (e.Tab x) a m (form.tab_is x a) (λ defs z. large_of defs _ _ (e.outs-Tab x z))

pub choice_made : (a b c : Expr) (m : Hoister) → made (e.If a b c) m ≡ e.If (made a m) (made b (after a m)) (made c (after b (after a m)))
choice_made a b c m = three_made (e.If a b c) e.If a b c m (form.choice_is a b c)

pub choice_after : (a b c : Expr) (m : Hoister) → after (e.If a b c) m ≡ after c (after b (after a m))
choice_after a b c m = three_after (e.If a b c) e.If a b c m (form.choice_is a b c) (λ defs z w v. large_of defs _ _ (e.outs-If z w v))

pub while_made : (a b : Expr) (m : Hoister) → made (e.While a b) m ≡ e.While (made a m) (made b (after a m))
while_made a b m = two_made (e.While a b) e.While a b m (form.while_is a b)

pub while_after : (a b : Expr) (m : Hoister) → after (e.While a b) m ≡ after b (after a m)
while_after a b m = two_after (e.While a b) e.While a b m (form.while_is a b) (λ defs z w. large_of defs _ _ (e.outs-While z w))

pub for_made : (x : List ℕ) (a b c : Expr) (m : Hoister) → made (e.For x a b c) m ≡ e.For x (made a m) (made b (after a m)) (made c (after b (after a m)))
for_made x a b c m = three_made (e.For x a b c) (e.For x) a b c m (form.for_is x a b c)

pub for_after : (x : List ℕ) (a b c : Expr) (m : Hoister) → after (e.For x a b c) m ≡ after c (after b (after a m))
for_after x a b c m = three_after (e.For x a b c) (e.For x) a b c m (form.for_is x a b c) (λ defs z w v. large_of defs _ _ (e.outs-For x z w v))

pub call_made : (x : List ℕ) (args : List Ty) (es : List Expr) (m : Hoister) → made (e.Call x args es) m ≡ e.Call x args (made_all es m)
call_made x args es m = many_made (e.Call x args es) (e.Call x args) es m (form.call_is x args es)

pub call_after : (x : List ℕ) (args : List Ty) (es : List Expr) (m : Hoister) → after (e.Call x args es) m ≡ after_all es m
call_after x args es m = many_after (e.Call x args es) (e.Call x args) es m (form.call_is x args es) (λ defs z. large_of defs _ _ (e.outs-Call x args z))

pub tag_is_made : (x : List ℕ) (a : Expr) (m : Hoister) → made (e.TagIs x a) m ≡ e.TagIs x (made a m)
tag_is_made x a m = one_made (e.TagIs x a) (e.TagIs x) a m (form.tag_is_is x a)

pub tag_is_after : (x : List ℕ) (a : Expr) (m : Hoister) → after (e.TagIs x a) m ≡ after a m
tag_is_after x a m = one_after (e.TagIs x a) (e.TagIs x) a m (form.tag_is_is x a) (λ defs z. large_of defs _ _ (e.outs-TagIs x z))

pub part_made : (x : List ℕ) (j : ℕ) (a : Expr) (m : Hoister) → made (e.Part x j a) m ≡ e.Part x j (made a m)
part_made x j a m = one_made (e.Part x j a) (e.Part x j) a m (form.part_is x j a)

pub part_after : (x : List ℕ) (j : ℕ) (a : Expr) (m : Hoister) → after (e.Part x j a) m ≡ after a m
part_after x j a m = one_after (e.Part x j a) (e.Part x j) a m (form.part_is x j a) (λ defs z. large_of defs _ _ (e.outs-Part x j z))

pub fill_made : (k : ℕ) (a : Expr) (m : Hoister) → made (e.Fill k a) m ≡ e.Fill k (made a m)
fill_made k a m = one_made (e.Fill k a) (e.Fill k) a m (form.fill_is k a)

pub fill_after : (k : ℕ) (a : Expr) (m : Hoister) → after (e.Fill k a) m ≡ after a m
fill_after k a m = one_after (e.Fill k a) (e.Fill k) a m (form.fill_is k a) (λ defs z. large_of defs _ _ (e.outs-Fill k z))

-- ---- forms with parts of other kinds

pub match_made : (a : Expr) (arms : List Arm) (m : Hoister) → made (e.Match a arms) m ≡ e.Match (made a m) (made_arms arms (after a m))
unfolding made after made_arms
match_made a arms m = ap (λ (n : Numbered Expr). here n m) (form.match_is a arms)
    ∙ two_here large_in large_arms e.Match (hoisted a) (all (map arm_hoisted arms)) m

pub match_after : (a : Expr) (arms : List Arm) (m : Hoister) → after (e.Match a arms) m ≡ after_arms arms (after a m)
unfolding after after_arms
match_after a arms m = ap (λ (n : Numbered Expr). behind large_in n m) (form.match_is a arms)
    ∙ two_behind large_in large_arms e.Match (hoisted a) (all (map arm_hoisted arms)) m large_in
    (λ defs y z. large_of defs _ _ (e.outs-Match y z) ∙ ap (option_or (large_in defs y)) (first_map (large_part defs) Part.arm z))

pub block_made : (items : List Item) (a : Expr) (m : Hoister) → made (e.Do items a) m ≡ e.Do (made_items items m) (made a (after_items items m))
unfolding made made_items after_items
block_made items a m = ap (λ (n : Numbered Expr). here n m) (form.block_is items a)
    ∙ two_here large_items large_in e.Do (all (map item_hoisted items)) (hoisted a) m

pub block_after : (items : List Item) (a : Expr) (m : Hoister) → after (e.Do items a) m ≡ after a (after_items items m)
unfolding after after_items
block_after items a m = ap (λ (n : Numbered Expr). behind large_in n m) (form.block_is items a)
    ∙ two_behind large_items large_in e.Do (all (map item_hoisted items)) (hoisted a) m large_in
    (λ defs y z. large_of defs _ _ (e.outs-Do y z) ∙ first_more (large_part defs) (map Part.item y) (Part.expr z ∷ [])
    ∙ ap (option_or (first (large_part defs) (map Part.item y))) (or_none (large_in defs z))
    ∙ ap (λ o. option_or o (large_in defs z)) (first_map (large_part defs) Part.item y))

pub cases_made : (cases : List Case) (m : Hoister) → made (e.Cases cases) m ≡ e.Cases (made_cases cases m)
unfolding made made_cases
cases_made cases m = ap (λ (n : Numbered Expr). here n m) (form.cases_is cases)

pub cases_after : (cases : List Case) (m : Hoister) → after (e.Cases cases) m ≡ after_cases cases m
unfolding after after_cases
cases_after cases m = ap (λ (n : Numbered Expr). behind large_in n m) (form.cases_is cases)
    ∙ one_behind large_cases large_in e.Cases (all (map case_hoisted cases)) m
    (λ defs z. large_of defs _ _ (e.outs-Cases z) ∙ first_map (large_part defs) Part.case_ z)

-- ---- slots

pub alloc_made : (b : Ty) (n : ℕ) (a : Expr) (m : Hoister) → made (e.Alloc b n a) m ≡ e.Fill (length m.slots) (made a (listed b n m))
unfolding made
alloc_made b n a m =
    let s : Slot = record { ty = b; len = n } in
    let more : suc (length m.slots) ≡ length (m.slots ++ s ∷ []) = omega (arith, length-append m.slots (s ∷ [])) in
    ap (λ (n : Numbered Expr). here n m) (form.alloc_is b n a) ∙ ap (λ k. e.Fill (length m.slots) ((hoisted a).from k)) more

pub alloc_after : (b : Ty) (n : ℕ) (a : Expr) (m : Hoister) → after (e.Alloc b n a) m ≡ after a (listed b n m)
unfolding after
alloc_after b n a m =
    let s : Slot = record { ty = b; len = n } in
    let more : suc (length m.slots) ≡ length (m.slots ++ s ∷ []) = omega (arith, length-append m.slots (s ∷ [])) in
    let x : ℕ → Expr = λ k. (hoisted a).from k in
    let ds : List Def = m.layouts.now in
    ap (λ (n : Numbered Expr). behind large_in n m) (form.alloc_is b n a)
    ∙ ap (λ (o : Option ℕ). record m { slots = m.slots ++ s ∷ (hoisted a).slots; large = option_or m.large o })
    (large_of ds _ _ (e.outs-Fill (length m.slots) (x (suc (length m.slots)))) ∙ or_none (large_in ds (x (suc (length m.slots)))) ∙ ap (λ k. large_in ds (x k)) more)
    ∙ ap (λ (z : List Slot). record m { slots = z; large = option_or m.large (large_in ds (x (length (m.slots ++ s ∷ [])))) })
    (sym (append_assoc m.slots (s ∷ []) (hoisted a).slots))

pub frame_made : (own : List Slot) (a : Expr) (m : Hoister)
    → made (e.Frame own a) m ≡ e.Frame (after a (entered own m)).slots (made a (entered own m))
unfolding made after
frame_made own a m = ap (λ (n : Numbered Expr). here n m) (form.frame_is own a)

pub frame_after : (own : List Slot) (a : Expr) (m : Hoister) → after (e.Frame own a) m ≡ left (put_aside m) (after a (entered own m))
unfolding after
frame_after own a m =
    let ds : List Def = m.layouts.now in
    let slots : List Slot = own ++ (hoisted a).slots in
    let body : Expr = (hoisted a).from (length own) in
    ap (λ (n : Numbered Expr). behind large_in n m) (form.frame_is own a)
    ∙ ap (λ (z : List Slot). record m { slots = z; large = option_or m.large (large_in ds (e.Frame slots body)) }) (append-nil m.slots)
    ∙ ap (λ (o : Option ℕ). record m { large = option_or m.large o })
    (large_of ds _ _ (e.outs-Frame slots body) ∙ ap (option_or (if_large (frame_bytes ds slots))) (or_none (large_in ds body)))

-- ---- items, arms and cases

pub let_made : (x : List ℕ) (b : Ty) (a : Expr) (m : Hoister) → made_item (i.Let x b a) m ≡ i.Let x b (made a m)
unfolding made made_item
let_made x b a m = ap (λ (n : Numbered Item). here n m) (form.let_is x b a)

pub let_after : (x : List ℕ) (b : Ty) (a : Expr) (m : Hoister) → after_item (i.Let x b a) m ≡ after a m
unfolding after after_item
let_after x b a m = ap (λ (n : Numbered Item). behind large_item n m) (form.let_is x b a)
    ∙ one_behind large_in large_item (i.Let x b) (hoisted a) m (λ defs z. rw i.outs-Let refl)

pub run_made : (a : Expr) (m : Hoister) → made_item (i.Run a) m ≡ i.Run (made a m)
unfolding made made_item
run_made a m = ap (λ (n : Numbered Item). here n m) (form.run_is a)

pub run_after : (a : Expr) (m : Hoister) → after_item (i.Run a) m ≡ after a m
unfolding after after_item
run_after a m = ap (λ (n : Numbered Item). behind large_item n m) (form.run_is a)
    ∙ one_behind large_in large_item i.Run (hoisted a) m (λ defs z. rw i.outs-Run refl)

abbrev an_arm : Pat → Expr → Arm
an_arm q a = roll-Arm (record { pat = q; body = a })

pub arm_made : (x : Arm) (m : Hoister) → made_arm x m ≡ roll-Arm (record { pat = (out-Arm x).pat; body = made (out-Arm x).body m })
unfolding made made_arm
arm_made x m =
    let o = out-Arm x in
    ap (λ (n : Numbered Arm). here n m) (ap arm_hoisted (sym (roll-out-Arm x)) ∙ form.arm_is o.pat o.body)

pub arm_after : (x : Arm) (m : Hoister) → after_arm x m ≡ after (out-Arm x).body m
unfolding after after_arm
arm_after x m =
    let o = out-Arm x in
    ap (λ (n : Numbered Arm). behind large_arm n m) (ap arm_hoisted (sym (roll-out-Arm x)) ∙ form.arm_is o.pat o.body)
    ∙ one_behind large_in large_arm (an_arm o.pat) (hoisted o.body) m
    (λ defs z. ap (λ (y : Arm-F Expr Item Arm Case). large_in defs y.body) (out-roll-Arm (record { pat = o.pat; body = z })))

abbrev a_case : List Expr → Expr → Case
a_case tests a = roll-Case (record { tests = tests; body = a })

pub case_made : (x : Case) (m : Hoister)
    → made_case x m ≡ roll-Case (record { tests = made_all (out-Case x).tests m; body = made (out-Case x).body (after_all (out-Case x).tests m) })
unfolding made made_case made_all after_all
case_made x m =
    let o = out-Case x in
    ap (λ (n : Numbered Case). here n m) (ap case_hoisted (sym (roll-out-Case x)) ∙ form.case_is o.tests o.body)
    ∙ two_here large_in_each large_in a_case (all (map hoisted o.tests)) (hoisted o.body) m

pub case_after : (x : Case) (m : Hoister) → after_case x m ≡ after (out-Case x).body (after_all (out-Case x).tests m)
unfolding after after_case after_all
case_after x m =
    let o = out-Case x in
    ap (λ (n : Numbered Case). behind large_case n m) (ap case_hoisted (sym (roll-out-Case x)) ∙ form.case_is o.tests o.body)
    ∙ two_behind large_in_each large_in a_case (all (map hoisted o.tests)) (hoisted o.body) m large_case
    (λ defs y z. ap (λ (w : Case-F Expr Item Arm Case). option_or (large_in_each defs w.tests) (large_in defs w.body))
    (out-roll-Case (record { tests = y; body = z })))

-- ---- one more of several

pub no_all_made : (m : Hoister) → made_all [] m ≡ []
unfolding made_all
no_all_made m = refl

pub no_all_after : (m : Hoister) → after_all [] m ≡ m
unfolding after_all
no_all_after m = all_none large_in m

pub last_all_made : (xs : List Expr) (x : Expr) (m : Hoister) → made_all (xs ++ x ∷ []) m ≡ made_all xs m ++ made x (after_all xs m) ∷ []
unfolding made_all made after_all
last_all_made xs x m = ap (λ z. here (all z) m) (map-append hoisted xs (x ∷ [])) ∙ last_here large_in (map hoisted xs) (hoisted x) m

pub last_all_after : (xs : List Expr) (x : Expr) (m : Hoister) → after_all (xs ++ x ∷ []) m ≡ after x (after_all xs m)
unfolding after after_all
last_all_after xs x m = ap (λ z. behind large_in_each (all z) m) (map-append hoisted xs (x ∷ [])) ∙ last_behind large_in (map hoisted xs) (hoisted x) m

pub no_items_made : (m : Hoister) → made_items [] m ≡ []
unfolding made_items
no_items_made m = refl

pub no_items_after : (m : Hoister) → after_items [] m ≡ m
unfolding after_items
no_items_after m = all_none large_item m

pub last_items_made : (xs : List Item) (x : Item) (m : Hoister) → made_items (xs ++ x ∷ []) m ≡ made_items xs m ++ made_item x (after_items xs m) ∷ []
unfolding made_items made_item after_items
last_items_made xs x m = ap (λ z. here (all z) m) (map-append item_hoisted xs (x ∷ [])) ∙ last_here large_item (map item_hoisted xs) (item_hoisted x) m

pub last_items_after : (xs : List Item) (x : Item) (m : Hoister) → after_items (xs ++ x ∷ []) m ≡ after_item x (after_items xs m)
unfolding after_item after_items
last_items_after xs x m = ap (λ z. behind large_items (all z) m) (map-append item_hoisted xs (x ∷ [])) ∙ last_behind large_item (map item_hoisted xs) (item_hoisted x) m

pub no_arms_made : (m : Hoister) → made_arms [] m ≡ []
unfolding made_arms
no_arms_made m = refl

pub no_arms_after : (m : Hoister) → after_arms [] m ≡ m
unfolding after_arms
no_arms_after m = all_none large_arm m

pub last_arms_made : (xs : List Arm) (x : Arm) (m : Hoister) → made_arms (xs ++ x ∷ []) m ≡ made_arms xs m ++ made_arm x (after_arms xs m) ∷ []
unfolding made_arms made_arm after_arms
last_arms_made xs x m = ap (λ z. here (all z) m) (map-append arm_hoisted xs (x ∷ [])) ∙ last_here large_arm (map arm_hoisted xs) (arm_hoisted x) m

pub last_arms_after : (xs : List Arm) (x : Arm) (m : Hoister) → after_arms (xs ++ x ∷ []) m ≡ after_arm x (after_arms xs m)
unfolding after_arm after_arms
last_arms_after xs x m = ap (λ z. behind large_arms (all z) m) (map-append arm_hoisted xs (x ∷ [])) ∙ last_behind large_arm (map arm_hoisted xs) (arm_hoisted x) m

pub no_cases_made : (m : Hoister) → made_cases [] m ≡ []
unfolding made_cases
no_cases_made m = refl

pub no_cases_after : (m : Hoister) → after_cases [] m ≡ m
unfolding after_cases
no_cases_after m = all_none large_case m

pub last_cases_made : (xs : List Case) (x : Case) (m : Hoister) → made_cases (xs ++ x ∷ []) m ≡ made_cases xs m ++ made_case x (after_cases xs m) ∷ []
unfolding made_cases made_case after_cases
last_cases_made xs x m = ap (λ z. here (all z) m) (map-append case_hoisted xs (x ∷ [])) ∙ last_here large_case (map case_hoisted xs) (case_hoisted x) m

pub last_cases_after : (xs : List Case) (x : Case) (m : Hoister) → after_cases (xs ++ x ∷ []) m ≡ after_case x (after_cases xs m)
unfolding after_case after_cases
last_cases_after xs x m = ap (λ z. behind large_cases (all z) m) (map-append case_hoisted xs (x ∷ [])) ∙ last_behind large_case (map case_hoisted xs) (case_hoisted x) m
