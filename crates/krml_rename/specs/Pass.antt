-- Passes from tree to tree that go layer by layer.
use Rattle.std.specs.Prelude.{map}
use Rattle.krml_syntax.specs.declared.tree.Arm.{Arm, roll-Arm}
use Rattle.krml_syntax.specs.declared.tree.Case.{Case, roll-Case}
use Rattle.krml_syntax.specs.declared.tree.Item.{Item, roll-Item}
use Rattle.krml_syntax.specs.declared.tree.Expr.{Expr}
use Rattle.krml_syntax.specs.declared.tree.Expr.TheOpen.{Expr-F, Item-F, Arm-F, Case-F}
use Rattle.krml_syntax.specs.declared.tree.Expr.TheFolds.{fold-Expr, fold-Item, fold-Arm, fold-Case}
use Rattle.krml_syntax.specs.declared.tree.Def.{Def}
use Rattle.krml_syntax.specs.declared.tree.Def.TheVariants as d
use Rattle.krml_syntax.specs.declared.tree.SourceFile.{SourceFile}
use Rattle.krml_syntax.specs.Shape.{map_layer}

-- One layer of an expression, whose parts are whole.
abbrev pub Layer : Type 0
Layer = Expr-F Expr Item Arm Case

-- What a pass makes of one layer, whose parts it has passed already.
pub record Pass : Type 0 where
  pub expr : Layer → Expr
  pub item : Item-F Expr Item Arm Case → Item
  pub arm : Arm-F Expr Item Arm Case → Arm
  pub case_ : Case-F Expr Item Arm Case → Case

module _ (p : Pass) where
  abbrev pub passed : Expr → Expr
  passed = fold-Expr Expr Item Arm Case p.expr p.item p.arm p.case_

  abbrev pub item_passed : Item → Item
  item_passed = fold-Item Expr Item Arm Case p.expr p.item p.arm p.case_

  abbrev pub arm_passed : Arm → Arm
  arm_passed = fold-Arm Expr Item Arm Case p.expr p.item p.arm p.case_

  abbrev pub case_passed : Case → Case
  case_passed = fold-Case Expr Item Arm Case p.expr p.item p.arm p.case_

  -- a layer whose parts are passed
  abbrev pub parts_passed : Layer → Layer
  parts_passed y = map_layer passed item_passed arm_passed case_passed y

-- a pass that changes some forms of expressions, and nothing else
abbrev pub changing : (Layer → Expr) → Pass
changing change = record { expr = change; item = roll-Item; arm = roll-Arm; case_ = roll-Case }

-- a file whose functions have other bodies
abbrev pub def_with : (Expr → Expr) → Def → Def
def_with body (d.Struct x vars fields) = d.Struct x vars fields
def_with body (d.Sum x vars cons) = d.Sum x vars cons
def_with body (d.Table x i nums) = d.Table x i nums
def_with body (d.Fun x vars params result e) = d.Fun x vars params result (body e)
def_with body (d.Entry x) = d.Entry x

abbrev pub file_with : (Expr → Expr) → SourceFile → SourceFile
file_with body file = record { defs = map (def_with body) file.defs }
