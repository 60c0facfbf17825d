-- The layers of expressions, form by form.
use Rattle.std.proofs.Common.{◌≡◌, ℕ, Bool, List, map, ap, ◌∙◌}
use Rattle.krml_syntax.specs.declared.tree.IntTy.{IntTy}
use Rattle.krml_syntax.specs.declared.tree.BinOp.{BinOp}
use Rattle.krml_syntax.specs.declared.tree.CmpOp.{CmpOp}
use Rattle.krml_syntax.specs.declared.tree.Ty.{Ty}
use Rattle.krml_syntax.specs.declared.tree.Slot.{Slot}
use Rattle.krml_syntax.specs.declared.tree.Def.{Def}
use Rattle.krml_syntax.specs.declared.tree.Arm.{Arm}
use Rattle.krml_syntax.specs.declared.tree.Item.{Item}
use Rattle.krml_syntax.specs.declared.tree.Case.{Case}
use Rattle.krml_syntax.specs.declared.tree.Expr.{Expr, map-Expr}
use Rattle.krml_syntax.specs.declared.tree.Expr.TheOpen.{Expr-F}
use Rattle.krml_syntax.specs.declared.tree.Expr.TheVariants as e
use Rattle.krml_types.specs.Expressions.{Comp, ItemComp, ArmComp, Layer, type_of, item_of, arm_of, case_of, layer_of}

module _ (defs : List Def) (tvars : List (List ℕ)) where
  abbrev T : Expr → Comp
  T = type_of defs tvars

  abbrev opened : Expr-F Expr Item Arm Case → Layer
  opened y = map-Expr Expr Item Arm Case Comp ItemComp ArmComp Comp (type_of defs tvars) (item_of defs tvars) (arm_of defs tvars) (case_of defs tvars) y

  pub bin_layer : (x : Expr) (op : BinOp) (i : IntTy) (a b : Expr) → x ≡ e.Bin op i a b → layer_of defs tvars x ≡ Expr-F.Bin op i (T a) (T b)
  bin_layer x op i a b is = ap (layer_of defs tvars) is ∙ ap opened (e.outs-Bin op i a b)

  pub shift_layer : (x : Expr) (left : Bool) (i : IntTy) (a b : Expr) → x ≡ e.Shift left i a b → layer_of defs tvars x ≡ Expr-F.Shift left i (T a) (T b)
  shift_layer x left i a b is = ap (layer_of defs tvars) is ∙ ap opened (e.outs-Shift left i a b)

  pub cmp_layer : (x : Expr) (op : CmpOp) (i : IntTy) (a b : Expr) → x ≡ e.Cmp op i a b → layer_of defs tvars x ≡ Expr-F.Cmp op i (T a) (T b)
  cmp_layer x op i a b is = ap (layer_of defs tvars) is ∙ ap opened (e.outs-Cmp op i a b)

  pub if_layer : (x : Expr) (a b d : Expr) → x ≡ e.If a b d → layer_of defs tvars x ≡ Expr-F.If (T a) (T b) (T d)
  if_layer x a b d is = ap (layer_of defs tvars) is ∙ ap opened (e.outs-If a b d)

  pub do_layer : (x : Expr) (items : List Item) (a : Expr) → x ≡ e.Do items a → layer_of defs tvars x ≡ Expr-F.Do (map (item_of defs tvars) items) (T a)
  do_layer x items a is = ap (layer_of defs tvars) is ∙ ap opened (e.outs-Do items a)

  pub while_layer : (x : Expr) (a b : Expr) → x ≡ e.While a b → layer_of defs tvars x ≡ Expr-F.While (T a) (T b)
  while_layer x a b is = ap (layer_of defs tvars) is ∙ ap opened (e.outs-While a b)

  pub for_layer : (x : Expr) (y : List ℕ) (a b d : Expr) → x ≡ e.For y a b d → layer_of defs tvars x ≡ Expr-F.For y (T a) (T b) (T d)
  for_layer x y a b d is = ap (layer_of defs tvars) is ∙ ap opened (e.outs-For y a b d)

  pub read_layer : (x : Expr) (a b : Expr) → x ≡ e.Read a b → layer_of defs tvars x ≡ Expr-F.Read (T a) (T b)
  read_layer x a b is = ap (layer_of defs tvars) is ∙ ap opened (e.outs-Read a b)

  pub write_layer : (x : Expr) (a b d : Expr) → x ≡ e.Write a b d → layer_of defs tvars x ≡ Expr-F.Write (T a) (T b) (T d)
  write_layer x a b d is = ap (layer_of defs tvars) is ∙ ap opened (e.outs-Write a b d)

  pub slice_layer : (x : Expr) (a b d : Expr) → x ≡ e.Slice a b d → layer_of defs tvars x ≡ Expr-F.Slice (T a) (T b) (T d)
  slice_layer x a b d is = ap (layer_of defs tvars) is ∙ ap opened (e.outs-Slice a b d)

  pub frame_layer : (x : Expr) (slots : List Slot) (a : Expr) → x ≡ e.Frame slots a → layer_of defs tvars x ≡ Expr-F.Frame slots (T a)
  frame_layer x slots a is = ap (layer_of defs tvars) is ∙ ap opened (e.outs-Frame slots a)

  pub alloc_layer : (x : Expr) (b : Ty) (n : ℕ) (a : Expr) → x ≡ e.Alloc b n a → layer_of defs tvars x ≡ Expr-F.Alloc b n (T a)
  alloc_layer x b n a is = ap (layer_of defs tvars) is ∙ ap opened (e.outs-Alloc b n a)

  pub fill_layer : (x : Expr) (k : ℕ) (a : Expr) → x ≡ e.Fill k a → layer_of defs tvars x ≡ Expr-F.Fill k (T a)
  fill_layer x k a is = ap (layer_of defs tvars) is ∙ ap opened (e.outs-Fill k a)

  pub make_layer : (x : Expr) (y : List ℕ) (args : List Ty) (es : List Expr) → x ≡ e.Make y args es → layer_of defs tvars x ≡ Expr-F.Make y args (map T es)
  make_layer x y args es is = ap (layer_of defs tvars) is ∙ ap opened (e.outs-Make y args es)

  pub con_layer : (x : Expr) (y : List ℕ) (args : List Ty) (es : List Expr) → x ≡ e.Con y args es → layer_of defs tvars x ≡ Expr-F.Con y args (map T es)
  con_layer x y args es is = ap (layer_of defs tvars) is ∙ ap opened (e.outs-Con y args es)

  pub call_layer : (x : Expr) (y : List ℕ) (args : List Ty) (es : List Expr) → x ≡ e.Call y args es → layer_of defs tvars x ≡ Expr-F.Call y args (map T es)
  call_layer x y args es is = ap (layer_of defs tvars) is ∙ ap opened (e.outs-Call y args es)
