-- What each form of the source becomes, and what it takes to be built: the equations of the translation.
use Rattle.std.proofs.Common.{◌≡◌, ℕ, Bool, true, false, if◌then◌else◌, List, map, None, refl, ap, ◌∙◌}
use Rattle.krml_syntax.specs.declared.tree.IntTy.{IntTy}
use Rattle.krml_syntax.specs.declared.tree.Ty.{Ty, out-Ty}
use Rattle.krml_syntax.specs.declared.tree.Ty.TheVariants as ty
use Rattle.krml_syntax.specs.declared.tree.BinOp.{BinOp}
use Rattle.krml_syntax.specs.declared.tree.CmpOp.{CmpOp}
use Rattle.krml_syntax.specs.declared.tree.Item.{Item}
use Rattle.krml_syntax.specs.declared.tree.Item.TheVariants as item
use Rattle.krml_syntax.specs.declared.tree.Expr.{Expr}
use Rattle.krml_syntax.specs.declared.tree.Expr.TheVariants as e
use Rattle.krml_syntax.specs.declared.tree.Expr.TheFolds.{fold-Item, fold_out-Expr, fold_out-Item}
use Rattle.krml_syntax.specs.declared.tree.Def.{Def}
use Rattle.krml_ast.specs.Names.{struct_named, fun_named}
use Rattle.krml_cstar.specs.Types.{is_unit}
use Rattle.krml_cstar.specs.Variables as variables
use Rattle.krml_cstar.specs.Numbers as numbers
use Rattle.krml_cstar.specs.Translation as code
use Rattle.krml_cstar.specs.Translation.{Comp, ItemComp, code_of, gives, does, value, code_step, item_step}

module _ (defs : List Def) where
  abbrev pub item_code : Item → ItemComp
  item_code = fold-Item Comp ItemComp (Unit {0}) (Unit {0}) (code_step defs) item_step (λ x. tt) (λ x. tt)

  pub var_is : (x : List ℕ) → code_of defs (e.Var x) ≡ gives (λ names n. code.variable (variables.look names x) names n)
  var_is x = rw (fold_out-Expr, e.outs-Var)

  pub unit_is : code_of defs e.Unit ≡ does (value ty.Unit code.nothing)
  unit_is = rw (fold_out-Expr, e.outs-Unit)

  pub bool_is : (b : Bool) → code_of defs (e.Bool b) ≡ gives (value ty.Bool (numbers.truth b))
  bool_is b = rw (fold_out-Expr, e.outs-Bool)

  pub num_is : (i : IntTy) (n : ℕ) → code_of defs (e.Num i n) ≡ gives (value (ty.Int i) (numbers.literal i.width n))
  num_is i n = rw (fold_out-Expr, e.outs-Num)

  pub bin_is : (o : BinOp) (i : IntTy) (a b : Expr) → code_of defs (e.Bin o i a b) ≡ gives (code.operands (code_of defs a) (code_of defs b) (code.binary o i))
  bin_is o i a b = rw (fold_out-Expr, e.outs-Bin)

  pub shift_is : (left : Bool) (i : IntTy) (a b : Expr) → code_of defs (e.Shift left i a b) ≡ gives (code.operands (code_of defs a) (code_of defs b) (code.shifted left i))
  shift_is left i a b = rw (fold_out-Expr, e.outs-Shift)

  pub cmp_is : (o : CmpOp) (i : IntTy) (a b : Expr) → code_of defs (e.Cmp o i a b) ≡ gives (code.operands (code_of defs a) (code_of defs b) (code.compared o i))
  cmp_is o i a b = rw (fold_out-Expr, e.outs-Cmp)

  pub not_is : (a : Expr) → code_of defs (e.Not a) ≡ gives (code.operand (code_of defs a) code.opposite)
  not_is a = rw (fold_out-Expr, e.outs-Not)

  pub cast_is : (i j : IntTy) (a : Expr) → code_of defs (e.Cast i j a) ≡ gives (code.operand (code_of defs a) (code.converted i j))
  cast_is i j a = rw (fold_out-Expr, e.outs-Cast)

  pub make_is : (x : List ℕ) (args : List Ty) (es : List Expr) → code_of defs (e.Make x args es) ≡ gives (code.built x (map (code_of defs) es))
  make_is x args es = rw (fold_out-Expr, e.outs-Make)

  pub get_is : (y : List ℕ) (a : Expr) → code_of defs (e.Get y a) ≡ gives (code.operand (code_of defs a) (code.got defs y))
  get_is y a = rw (fold_out-Expr, e.outs-Get)

  pub tab_is : (x : List ℕ) (a : Expr) → code_of defs (e.Tab x a) ≡ gives (code.operand (code_of defs a) (code.looked_up defs x))
  tab_is x a = rw (fold_out-Expr, e.outs-Tab)

  pub choice_is : (t a b : Expr) → code_of defs (e.If t a b) ≡ code.choice (code_of defs t) (code_of defs a) (code_of defs b)
  choice_is t a b = rw (fold_out-Expr, e.outs-If)

  pub block_is : (items : List Item) (a : Expr) → code_of defs (e.Do items a) ≡ code.block (map item_code items) (code_of defs a)
  block_is items a = rw (fold_out-Expr, e.outs-Do)

  pub while_is : (t a : Expr) → code_of defs (e.While t a) ≡ does (code.while (code_of defs t) (code_of defs a))
  while_is t a = rw (fold_out-Expr, e.outs-While)

  pub for_is : (x : List ℕ) (a b c : Expr) → code_of defs (e.For x a b c) ≡ does (code.for x (code_of defs a) (code_of defs b) (code_of defs c))
  for_is x a b c = rw (fold_out-Expr, e.outs-For)

  pub call_is : (x : List ℕ) (args : List Ty) (es : List Expr) → code_of defs (e.Call x args es) ≡ code.call defs x (map (code_of defs) es)
  call_is x args es = rw (fold_out-Expr, e.outs-Call)

  pub bound_is : (x : List ℕ) (b : Ty) (a : Expr) → item_code (item.Let x b a) ≡ code.bound x b (code_of defs a)
  bound_is x b a = rw (fold_out-Item, item.outs-Let)

  pub ran_is : (a : Expr) → item_code (item.Run a) ≡ code.done (code_of defs a)
  ran_is a = rw (fold_out-Item, item.outs-Run)

  -- ---- what is looked up

  -- a call gives nothing where its function does
  pub call_unit : (x : List ℕ) (args : List Ty) (es : List Expr) → (code_of defs (e.Call x args es)).unit ≡ is_unit (code.result_of (fun_named defs x))
  call_unit x args es = ap (λ o. o.unit) (call_is x args es) ∙ go (is_unit r)
    where
      r : Ty
      r = code.result_of (fun_named defs x)

      go : (b : Bool) → (if b then does (code.ran r x (map (code_of defs) es)) else gives (code.called r x (map (code_of defs) es))).unit ≡ b
      go true = refl
      go false = refl

  pub no_function_unit : is_unit (code.result_of None) ≡ true
  no_function_unit = rw (ty.outs-Unit) refl

  -- the type of a field is that of the struct
  pub field_type_is : (y x : List ℕ) (args : List Ty) → code.field_type defs y (out-Ty (ty.Named x args)) ≡ code.field_in (struct_named defs x) y
  field_type_is y x args = rw (ty.outs-Named x args) refl
