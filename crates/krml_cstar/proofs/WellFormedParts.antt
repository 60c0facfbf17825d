-- The parts of an expression that is built are built, and what they bind is named as the file's variables are.
use Rattle.std.proofs.Common.{◌≡◌, ℕ, true, List, [], ◌∷◌, ◌++◌, map, flat_map, subst}
use Rattle.std.specs.List.{AllByRecursion}
use Rattle.krml_syntax.specs.declared.tree.Ty.{Ty}
use Rattle.krml_syntax.specs.declared.tree.Arm.{Arm}
use Rattle.krml_syntax.specs.declared.tree.Case.{Case}
use Rattle.krml_syntax.specs.declared.tree.Item.{Item}
use Rattle.krml_syntax.specs.declared.tree.Item.TheVariants as item
use Rattle.krml_syntax.specs.declared.tree.Expr.{Expr, out-Expr}
use Rattle.krml_syntax.specs.declared.tree.Expr.TheVariants as e
use Rattle.krml_syntax.specs.declared.tree.Expr.TheOpen.{Expr-F}
use Rattle.krml_syntax.specs.Shape.{Part, parts_of}
use Rattle.krml_trace.proofs.Lists.{each_left, each_right, each_both}
use Rattle.krml_ast.specs.FileTypes.{IsVariable, bound_name}
use Rattle.krml_ast.specs.Pieces.{Piece, Value, Test, Pattern, Written, Bound, pieces_of, pieces_of_ty}
use Rattle.krml_ast.proofs.Pieces.{Parts, HoldsIn, inside_item, parts_hold, own_hold, last_holds, let_inside, run_inside}
use Rattle.krml_cstar.specs.Built.{is_ty_built}
use Rattle.krml_cstar.proofs.Part.{PieceBuilt, ExprBuilt}

-- ---- names

-- what a piece binds is a variable
abbrev pub BindsVariable : Piece → Type 0
BindsVariable (Bound x) = IsVariable x
BindsVariable _ = Unit {0}

abbrev pub BindVariables : List Piece → Type 0
BindVariables pieces = AllByRecursion BindsVariable pieces

pub binds_variables : (pieces : List Piece) → AllByRecursion IsVariable (flat_map bound_name pieces) → BindVariables pieces
binds_variables [] h = tt
binds_variables (Bound x ∷ pieces) h = (h.0, binds_variables pieces h.1)
binds_variables (Value x ∷ pieces) h = (tt, binds_variables pieces h)
binds_variables (Test x ∷ pieces) h = (tt, binds_variables pieces h)
binds_variables (Pattern q ∷ pieces) h = (tt, binds_variables pieces h)
binds_variables (Written a ∷ pieces) h = (tt, binds_variables pieces h)

pub left : (xs ys : List Piece) → BindVariables (xs ++ ys) → BindVariables xs
left xs ys h = each_left BindsVariable xs ys h

pub right : (xs ys : List Piece) → BindVariables (xs ++ ys) → BindVariables ys
right xs ys h = each_right BindsVariable xs ys h

-- ---- parts

-- A piece is ready for the translation: it is built, and binds a variable.
pub record PieceReady (x : Piece) : Type 0 where
  pub built : PieceBuilt x
  pub binds : BindsVariable x

abbrev AllReady : List Piece → Type 0
AllReady pieces = AllByRecursion PieceReady pieces

abbrev pub IsReady : Expr → Type 0
IsReady x = AllByRecursion PieceReady (pieces_of x)

abbrev pub AreReady : Parts → Type 0
AreReady parts = HoldsIn PieceReady parts

pub ready : (x : Expr) → ExprBuilt x → BindVariables (pieces_of x) → IsReady x
ready x built binds = each_both PieceBuilt BindsVariable PieceReady (pieces_of x) (λ z b v. record { built = b; binds = v }) built binds

pub parts_ready : (x : Expr) (o : Expr-F Expr Item Arm Case) → out-Expr x ≡ o → IsReady x → AreReady (parts_of o)
parts_ready x o is h = parts_hold PieceReady x o is h.1

-- the variable of a loop
pub for_variable : (y : List ℕ) (a b c : Expr) → IsReady (e.For y a b c) → IsVariable y
for_variable y a b c h = (own_hold PieceReady (e.For y a b c) (Expr-F.For y a b c) (e.outs-For y a b c) h.1).0.binds

-- ---- blocks

pub block_ready : (items : List Item) (a : Expr) → AreReady (map Part.item items ++ Part.expr a ∷ []) → AreReady (map Part.item items) × IsReady a
block_ready items a h = last_holds PieceReady (map Part.item items) a h

pub record LetReady (x : List ℕ) (b : Ty) (a : Expr) : Type 0 where
  pub ty : is_ty_built b ≡ true
  pub value : IsReady a
  pub name : IsVariable x

pub let_ready : (x : List ℕ) (b : Ty) (a : Expr) → AllByRecursion PieceReady (inside_item (item.Let x b a)) → LetReady x b a
let_ready x b a h =
    let pieces = subst AllReady (let_inside x b a) h in
    let front = each_left PieceReady (pieces_of_ty b ++ pieces_of a) (Bound x ∷ []) pieces in
    let back = each_right PieceReady (pieces_of_ty b ++ pieces_of a) (Bound x ∷ []) pieces in
    record { ty = front.0.built; value = each_right PieceReady (pieces_of_ty b) (pieces_of a) front; name = back.0.binds }

pub run_ready : (a : Expr) → AllByRecursion PieceReady (inside_item (item.Run a)) → IsReady a
run_ready a h = subst AllReady (run_inside a) h
