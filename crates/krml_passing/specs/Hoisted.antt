-- Frames that list the slots of the `alloc` forms inside them, in textual order; `fill` stands in place of `alloc`.
use Rattle.std.specs.Prelude.{suc, ◌∷◌, ◌++◌, length}
use Rattle.krml_syntax.specs.declared.tree.Arm.{Arm, roll-Arm}
use Rattle.krml_syntax.specs.declared.tree.Case.{Case, roll-Case}
use Rattle.krml_syntax.specs.declared.tree.Item.{Item, roll-Item}
use Rattle.krml_syntax.specs.declared.tree.Expr.{Expr, roll-Expr}
use Rattle.krml_syntax.specs.declared.tree.Expr.TheOpen.{Expr-F, Item-F, Arm-F, Case-F}
use Rattle.krml_syntax.specs.declared.tree.Expr.TheFolds.{fold-Expr, fold-Item, fold-Arm, fold-Case}
use Rattle.krml_syntax.specs.declared.tree.SourceFile.{SourceFile}
use Rattle.krml_meaning.specs.Numbered.{Numbered, none, one, two, three, many}
use Rattle.krml_rename.specs.Pass.{file_with}

-- ---- one layer

module _ {E I A C : Type 0} where
  -- The slots of a layer are those of its parts, in textual order. An `alloc` form has one more, before them, and fills it; a
  -- frame lists those inside it after its own, and has none.
  abbrev pub layer_numbered : Expr-F (Numbered E) (Numbered I) (Numbered A) (Numbered C) → Numbered (Expr-F E I A C)
  layer_numbered (Expr-F.Var x) = none (Expr-F.Var x)
  layer_numbered Expr-F.Unit = none Expr-F.Unit
  layer_numbered (Expr-F.Bool b) = none (Expr-F.Bool b)
  layer_numbered (Expr-F.Num i n) = none (Expr-F.Num i n)
  layer_numbered (Expr-F.Bin o i a b) = two (λ a b. Expr-F.Bin o i a b) a b
  layer_numbered (Expr-F.Shift left i a n) = two (λ a n. Expr-F.Shift left i a n) a n
  layer_numbered (Expr-F.Cmp o i a b) = two (λ a b. Expr-F.Cmp o i a b) a b
  layer_numbered (Expr-F.Not a) = one (λ a. Expr-F.Not a) a
  layer_numbered (Expr-F.Cast i j a) = one (λ a. Expr-F.Cast i j a) a
  layer_numbered (Expr-F.Hide i a) = one (λ a. Expr-F.Hide i a) a
  layer_numbered (Expr-F.Make x args es) = many (λ es. Expr-F.Make x args es) es
  layer_numbered (Expr-F.Get y a) = one (λ a. Expr-F.Get y a) a
  layer_numbered (Expr-F.Con x args es) = many (λ es. Expr-F.Con x args es) es
  layer_numbered (Expr-F.Read a i) = two (λ a i. Expr-F.Read a i) a i
  layer_numbered (Expr-F.Write a i v) = three (λ a i v. Expr-F.Write a i v) a i v
  layer_numbered (Expr-F.Slice a i n) = three (λ a i n. Expr-F.Slice a i n) a i n
  layer_numbered (Expr-F.Tab x a) = one (λ a. Expr-F.Tab x a) a
  layer_numbered (Expr-F.If c a b) = three (λ c a b. Expr-F.If c a b) c a b
  layer_numbered (Expr-F.Match a arms) = two (λ a arms. Expr-F.Match a arms) a (many (λ arms. arms) arms)
  layer_numbered (Expr-F.Do items a) = two (λ items a. Expr-F.Do items a) (many (λ items. items) items) a
  layer_numbered (Expr-F.Frame slots a) = none (Expr-F.Frame (slots ++ a.slots) (a.from (length slots)))
  layer_numbered (Expr-F.Alloc b n a) = record { slots = record { ty = b; len = n } ∷ a.slots; from = λ k. Expr-F.Fill k (a.from (suc k)) }
  layer_numbered (Expr-F.While c a) = two (λ c a. Expr-F.While c a) c a
  layer_numbered (Expr-F.For x a b c) = three (λ a b c. Expr-F.For x a b c) a b c
  layer_numbered (Expr-F.Call f args es) = many (λ es. Expr-F.Call f args es) es
  layer_numbered (Expr-F.Cases cases) = many (λ cases. Expr-F.Cases cases) cases
  layer_numbered (Expr-F.TagIs x a) = one (λ a. Expr-F.TagIs x a) a
  layer_numbered (Expr-F.Part x j a) = one (λ a. Expr-F.Part x j a) a
  layer_numbered (Expr-F.Fill k a) = one (λ a. Expr-F.Fill k a) a

  abbrev pub item_numbered : Item-F (Numbered E) (Numbered I) (Numbered A) (Numbered C) → Numbered (Item-F E I A C)
  item_numbered (Item-F.Let x b a) = one (λ a. Item-F.Let x b a) a
  item_numbered (Item-F.Run a) = one (λ a. Item-F.Run a) a

  abbrev pub arm_numbered : Arm-F (Numbered E) (Numbered I) (Numbered A) (Numbered C) → Numbered (Arm-F E I A C)
  arm_numbered arm = one (λ body. record { pat = arm.pat; body = body }) arm.body

  abbrev pub case_numbered : Case-F (Numbered E) (Numbered I) (Numbered A) (Numbered C) → Numbered (Case-F E I A C)
  case_numbered c = two (λ tests body. record { tests = tests; body = body }) (many (λ tests. tests) c.tests) c.body

-- ---- the whole

abbrev pub hoist_layer : Expr-F (Numbered Expr) (Numbered Item) (Numbered Arm) (Numbered Case) → Numbered Expr
hoist_layer y = one roll-Expr (layer_numbered y)

abbrev pub hoist_item : Item-F (Numbered Expr) (Numbered Item) (Numbered Arm) (Numbered Case) → Numbered Item
hoist_item y = one roll-Item (item_numbered y)

abbrev pub hoist_arm : Arm-F (Numbered Expr) (Numbered Item) (Numbered Arm) (Numbered Case) → Numbered Arm
hoist_arm y = one roll-Arm (arm_numbered y)

abbrev pub hoist_case : Case-F (Numbered Expr) (Numbered Item) (Numbered Arm) (Numbered Case) → Numbered Case
hoist_case y = one roll-Case (case_numbered y)

-- An expression with the slots of its `alloc` forms that no frame in it lists, and itself once the first of them has a number.
abbrev pub hoisted : Expr → Numbered Expr
hoisted = fold-Expr (Numbered Expr) (Numbered Item) (Numbered Arm) (Numbered Case) hoist_layer hoist_item hoist_arm hoist_case

abbrev pub item_hoisted : Item → Numbered Item
item_hoisted = fold-Item (Numbered Expr) (Numbered Item) (Numbered Arm) (Numbered Case) hoist_layer hoist_item hoist_arm hoist_case

abbrev pub arm_hoisted : Arm → Numbered Arm
arm_hoisted = fold-Arm (Numbered Expr) (Numbered Item) (Numbered Arm) (Numbered Case) hoist_layer hoist_item hoist_arm hoist_case

abbrev pub case_hoisted : Case → Numbered Case
case_hoisted = fold-Case (Numbered Expr) (Numbered Item) (Numbered Arm) (Numbered Case) hoist_layer hoist_item hoist_arm hoist_case

-- the body of a function, whose `alloc` forms all stand in frames of its own
abbrev pub body_hoisted : Expr → Expr
body_hoisted x = (hoisted x).from 0

abbrev pub file_hoisted : SourceFile → SourceFile
file_hoisted file = file_with body_hoisted file
