-- What is built, with buffers or without, as the code looks for what is not: by a walk over the tree.
use Rattle.std.specs.Prelude.{Bool, true, false, ◌&&◌, List}
use Rattle.std.specs.List.{list_all}
use Rattle.krml_syntax.specs.declared.tree.Ty.{Ty}
use Rattle.krml_syntax.specs.declared.tree.Ty.TheOpen.{Ty-F}
use Rattle.krml_syntax.specs.declared.tree.Ty.TheFolds.{fold-Ty}
use Rattle.krml_syntax.specs.declared.tree.Field.{Field}
use Rattle.krml_syntax.specs.declared.tree.Item.{Item}
use Rattle.krml_syntax.specs.declared.tree.Expr.{Expr}
use Rattle.krml_syntax.specs.declared.tree.Expr.TheOpen.{Expr-F, Item-F, Arm-F, Case-F}
use Rattle.krml_syntax.specs.declared.tree.Expr.TheFolds.{fold-Expr, fold-Item}
use Rattle.krml_syntax.specs.declared.tree.Def.{Def}
use Rattle.krml_syntax.specs.declared.tree.Def.TheVariants as d
use Rattle.krml_cstar.specs.Built.{is_public, is_empty, level_ty_within}

abbrev pub all : List Bool → Bool
all = list_all (λ b. b)

-- branches and cases stand in forms that are not built
abbrev pub level_arm_built : Arm-F Bool Bool Bool Bool → Bool
level_arm_built arm = false

abbrev pub level_case_built : Case-F Bool Bool Bool Bool → Bool
level_case_built x = false

module _ (buffers : Bool) where
  abbrev pub level_ty_built : Ty-F Bool → Bool
  level_ty_built (Ty-F.Buf a) = buffers && a
  level_ty_built o = level_ty_within buffers o

  abbrev pub is_ty_built : Ty → Bool
  is_ty_built = fold-Ty Bool level_ty_built

  abbrev pub are_fields_built : List Field → Bool
  are_fields_built fields = list_all (λ f. is_ty_built f.ty) fields

  abbrev pub level_built : Expr-F Bool Bool Bool Bool → Bool
  level_built (Expr-F.Var x) = true
  level_built Expr-F.Unit = true
  level_built (Expr-F.Bool b) = true
  level_built (Expr-F.Num i n) = is_public i
  level_built (Expr-F.Bin op i a b) = is_public i && a && b
  level_built (Expr-F.Shift left i a n) = is_public i && a && n
  level_built (Expr-F.Cmp op i a b) = is_public i && a && b
  level_built (Expr-F.Cast i j a) = is_public i && is_public j && a
  level_built (Expr-F.Not a) = a
  level_built (Expr-F.Make x args values) = is_empty args && all values
  level_built (Expr-F.Get x a) = a
  level_built (Expr-F.Tab x a) = a
  level_built (Expr-F.If c a b) = c && a && b
  level_built (Expr-F.Do items a) = all items && a
  level_built (Expr-F.While c a) = c && a
  level_built (Expr-F.For x a b c) = a && b && c
  level_built (Expr-F.Call x args values) = is_empty args && all values
  level_built (Expr-F.Hide i a) = false
  level_built (Expr-F.Read a i) = buffers && a && i
  level_built (Expr-F.Write a i v) = buffers && a && i && v
  level_built (Expr-F.Slice a i n) = buffers && a && i && n
  level_built (Expr-F.Frame slots a) = buffers && is_empty slots && a
  level_built (Expr-F.Alloc b n a) = buffers && is_ty_built b && a
  level_built (Expr-F.Fill k a) = false
  level_built (Expr-F.Con x args values) = false
  level_built (Expr-F.Match a arms) = false
  level_built (Expr-F.Cases cases) = false
  level_built (Expr-F.TagIs x a) = false
  level_built (Expr-F.Part x j a) = false

  abbrev pub level_item_built : Item-F Bool Bool Bool Bool → Bool
  level_item_built (Item-F.Let x a value) = is_ty_built a && value
  level_item_built (Item-F.Run value) = value

  abbrev pub is_expr_built : Expr → Bool
  is_expr_built = fold-Expr Bool Bool Bool Bool level_built level_item_built level_arm_built level_case_built

  abbrev pub is_item_built : Item → Bool
  is_item_built = fold-Item Bool Bool Bool Bool level_built level_item_built level_arm_built level_case_built

  abbrev pub is_def_built : Def → Bool
  is_def_built (d.Struct x vars fields) = is_empty vars && are_fields_built fields
  is_def_built (d.Sum x vars cons) = false
  is_def_built (d.Table x i nums) = is_public i
  is_def_built (d.Fun x vars params result body) = is_empty vars && are_fields_built params && is_ty_built result && is_expr_built body
  is_def_built (d.Entry x) = true
