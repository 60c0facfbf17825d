-- Passes that give names and types others, and keep every form.
use Rattle.std.specs.Prelude.{ℕ, List, map}
use Rattle.krml_syntax.specs.declared.tree.Ty.{Ty}
use Rattle.krml_syntax.specs.declared.tree.Slot.{Slot}
use Rattle.krml_syntax.specs.declared.tree.Pat.{Pat}
use Rattle.krml_syntax.specs.declared.tree.Arm.{roll-Arm}
use Rattle.krml_syntax.specs.declared.tree.Case.{roll-Case}
use Rattle.krml_syntax.specs.declared.tree.Item.{roll-Item}
use Rattle.krml_syntax.specs.declared.tree.Expr.{Expr, roll-Expr}
use Rattle.krml_syntax.specs.declared.tree.Expr.TheOpen.{Expr-F, Item-F, Arm-F}
use Rattle.krml_rename.specs.Pass.{Pass, passed}

-- What names, types and patterns become where they stand in an expression. A struct, a constructor and a function stand at
-- type arguments, and what they become may depend on those; a test or a part of a constructor has none.
pub record Renaming : Type 0 where
  pub struct : List ℕ → List Ty → List ℕ × List Ty
  pub con : List ℕ → List Ty → List ℕ × List Ty
  pub fun : List ℕ → List Ty → List ℕ × List Ty
  pub tag : List ℕ → List ℕ
  pub table : List ℕ → List ℕ
  pub field : List ℕ → List ℕ
  pub ty : Ty → Ty
  pub pat : Pat → Pat

module _ (n : Renaming) where
  abbrev pub slot_renamed : Slot → Slot
  slot_renamed s = record { ty = n.ty s.ty; len = s.len }

  module _ {E I A C : Type 0} where
    -- one layer under the new names: these forms have a name or a type
    abbrev pub renamed : Expr-F E I A C → Expr-F E I A C
    renamed (Expr-F.Make x args es) = Expr-F.Make (n.struct x args).0 (n.struct x args).1 es
    renamed (Expr-F.Get y a) = Expr-F.Get (n.field y) a
    renamed (Expr-F.Con x args es) = Expr-F.Con (n.con x args).0 (n.con x args).1 es
    renamed (Expr-F.Tab x a) = Expr-F.Tab (n.table x) a
    renamed (Expr-F.Frame slots a) = Expr-F.Frame (map slot_renamed slots) a
    renamed (Expr-F.Alloc b len a) = Expr-F.Alloc (n.ty b) len a
    renamed (Expr-F.Call x args es) = Expr-F.Call (n.fun x args).0 (n.fun x args).1 es
    renamed (Expr-F.TagIs x a) = Expr-F.TagIs (n.tag x) a
    renamed (Expr-F.Part x j a) = Expr-F.Part (n.tag x) j a
    renamed y = y

    abbrev pub item_renamed : Item-F E I A C → Item-F E I A C
    item_renamed (Item-F.Let x b a) = Item-F.Let x (n.ty b) a
    item_renamed (Item-F.Run a) = Item-F.Run a

    abbrev pub arm_renamed : Arm-F E I A C → Arm-F E I A C
    arm_renamed arm = record { pat = n.pat arm.pat; body = arm.body }

  -- every layer under the new names
  abbrev pub renaming : Pass
  renaming = record {
    expr = λ y. roll-Expr (renamed y);
    item = λ y. roll-Item (item_renamed y);
    arm = λ y. roll-Arm (arm_renamed y);
    case_ = roll-Case;
  }

  abbrev pub expr_renamed : Expr → Expr
  expr_renamed = passed renaming

-- each name and each type stays
abbrev pub itself : Renaming
itself = record {
  struct = λ x args. (x, args);
  con = λ x args. (x, args);
  fun = λ x args. (x, args);
  tag = λ x. x;
  table = λ x. x;
  field = λ y. y;
  ty = λ a. a;
  pat = λ q. q;
}
