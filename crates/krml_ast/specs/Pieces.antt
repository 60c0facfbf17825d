-- What stands in a definition, piece by piece: each expression, pattern and written type, and each variable that is bound.
use Rattle.std.specs.Prelude.{ℕ, List, [], ◌∷◌, ◌++◌, map}
use Rattle.std.specs.List.{flat_map}
use Rattle.krml_syntax.specs.declared.tree.Ty.{Ty}
use Rattle.krml_syntax.specs.declared.tree.Ty.TheVariants as t
use Rattle.krml_syntax.specs.declared.tree.Ty.TheOpen.{Ty-F}
use Rattle.krml_syntax.specs.declared.tree.Ty.TheFolds.{para-Ty}
use Rattle.krml_syntax.specs.declared.tree.Pat.{Pat}
use Rattle.krml_syntax.specs.declared.tree.Pat.TheOpen.{Pat-F}
use Rattle.krml_syntax.specs.declared.tree.Pat.TheFolds.{para-Pat}
use Rattle.krml_syntax.specs.declared.tree.Field.{Field}
use Rattle.krml_syntax.specs.declared.tree.Arm.{Arm}
use Rattle.krml_syntax.specs.declared.tree.Case.{Case}
use Rattle.krml_syntax.specs.declared.tree.Item.{Item}
use Rattle.krml_syntax.specs.declared.tree.Expr.{Expr}
use Rattle.krml_syntax.specs.declared.tree.Expr.TheOpen.{Expr-F, Item-F, Arm-F, Case-F}
use Rattle.krml_syntax.specs.declared.tree.Expr.TheFolds.{para-Expr}
use Rattle.krml_syntax.specs.declared.tree.Def.{Def}
use Rattle.krml_syntax.specs.declared.tree.Def.TheVariants as d
use Rattle.krml_syntax.specs.Shape.{Part, parts_of}

pub data Piece : Type 0 where
  -- an expression that is no test of a case
  Value : Expr → Piece
  -- a test of a case
  Test : Expr → Piece
  Pattern : Pat → Piece
  -- a type that is written
  Written : Ty → Piece
  -- a variable that a parameter, a `let`, a `for` or a pattern binds
  Bound : List ℕ → Piece

-- ---- types

abbrev pub inside_level_ty : Ty-F (Ty × List Piece) → List Piece
inside_level_ty (Ty-F.Buf a) = Written a.0 ∷ a.1
inside_level_ty (Ty-F.Named x args) = flat_map (λ a. Written a.0 ∷ a.1) args
inside_level_ty _ = []

abbrev pub pieces_of_ty : Ty → List Piece
pieces_of_ty a = Written a ∷ para-Ty (List Piece) inside_level_ty a

-- ---- patterns

abbrev pub inside_level_pat : Pat-F (Pat × List Piece) → List Piece
inside_level_pat (Pat-F.Bind x) = Bound x ∷ []
inside_level_pat (Pat-F.Con x ps) = flat_map (λ p. Pattern p.0 ∷ p.1) ps
inside_level_pat (Pat-F.Make x ps) = flat_map (λ p. Pattern p.0 ∷ p.1) ps
inside_level_pat _ = []

abbrev pub pieces_of_pat : Pat → List Piece
pieces_of_pat p = Pattern p ∷ para-Pat (List Piece) inside_level_pat p

-- ---- expressions

-- an expression with what stands inside it
abbrev pub With : Type 0
With = Expr × List Piece

abbrev pub value : With → List Piece
value a = Value a.0 ∷ a.1

abbrev pub test : With → List Piece
test a = Test a.0 ∷ a.1

-- one layer of an expression, each part with what stands inside it
abbrev pub Layer : Type 0
Layer = Expr-F With (Item × List Piece) (Arm × List Piece) (Case × List Piece)

module _ {E I A C : Type 0} where
  -- the types that a form writes by itself
  abbrev pub written_types : Expr-F E I A C → List Ty
  written_types (Expr-F.Num i n) = t.Int i ∷ []
  written_types (Expr-F.Bin op i a b) = t.Int i ∷ []
  written_types (Expr-F.Shift left i a n) = t.Int i ∷ []
  written_types (Expr-F.Cmp op i a b) = t.Int i ∷ []
  written_types (Expr-F.Cast i j a) = t.Int i ∷ t.Int j ∷ []
  written_types (Expr-F.Hide i a) = t.Int i ∷ []
  written_types (Expr-F.Make x args es) = args
  written_types (Expr-F.Con x args es) = args
  written_types (Expr-F.Frame slots a) = map (λ s. s.ty) slots
  written_types (Expr-F.Alloc b n a) = b ∷ []
  written_types (Expr-F.Call x args es) = args
  written_types _ = []

  -- the variables that a form binds by itself
  abbrev pub bound_variables : Expr-F E I A C → List (List ℕ)
  bound_variables (Expr-F.For x a b c) = x ∷ []
  bound_variables _ = []

  -- what stands in a form, and in none of its parts
  abbrev pub own_pieces : Expr-F E I A C → List Piece
  own_pieces y = flat_map pieces_of_ty (written_types y) ++ map Bound (bound_variables y)

-- what stands in a part
abbrev pub in_part : Part With (Item × List Piece) (Arm × List Piece) (Case × List Piece) → List Piece
in_part (Part.expr a) = value a
in_part (Part.item x) = x.1
in_part (Part.arm x) = x.1
in_part (Part.case_ x) = x.1

abbrev pub inside_level : Layer → List Piece
inside_level y = own_pieces y ++ flat_map in_part (parts_of y)

abbrev pub inside_level_item : Item-F With (Item × List Piece) (Arm × List Piece) (Case × List Piece) → List Piece
inside_level_item (Item-F.Let x b a) = pieces_of_ty b ++ value a ++ Bound x ∷ []
inside_level_item (Item-F.Run a) = value a

abbrev pub inside_level_arm : Arm-F With (Item × List Piece) (Arm × List Piece) (Case × List Piece) → List Piece
inside_level_arm arm = pieces_of_pat arm.pat ++ value arm.body

abbrev pub inside_level_case : Case-F With (Item × List Piece) (Arm × List Piece) (Case × List Piece) → List Piece
inside_level_case x = flat_map test x.tests ++ value x.body

abbrev pub pieces_of : Expr → List Piece
pieces_of x = Value x ∷ para-Expr (List Piece) (List Piece) (List Piece) (List Piece) inside_level inside_level_item inside_level_arm inside_level_case x

-- ---- definitions

abbrev pub field_types : List Field → List Piece
field_types fields = flat_map (λ f. pieces_of_ty f.ty) fields

abbrev pub pieces_of_def : Def → List Piece
pieces_of_def (d.Struct x vars fields) = field_types fields
pieces_of_def (d.Sum x vars cons) = flat_map (λ c. flat_map pieces_of_ty c.args) cons
pieces_of_def (d.Table x i nums) = pieces_of_ty (t.Int i)
pieces_of_def (d.Fun x vars params result body) = field_types params ++ map (λ p. Bound p.name) params ++ pieces_of_ty result ++ pieces_of body
pieces_of_def (d.Entry x) = []

abbrev pub pieces_in : List Def → List Piece
pieces_in defs = flat_map pieces_of_def defs
