-- The part of the language that is built: what a definition may hold, piece by piece.
use Rattle.std.specs.Prelude.{◌≡◌, ℕ, ◌==◌, Bool, true, false, not, ◌&&◌, List, length, Option, Some}
use Rattle.std.specs.List.{AllByRecursion, list_all, position}
use Rattle.krml_syntax.specs.declared.tree.IntTy.{IntTy}
use Rattle.krml_syntax.specs.declared.tree.Ty.{Ty, out-Ty}
use Rattle.krml_syntax.specs.declared.tree.Ty.TheOpen.{Ty-F}
use Rattle.krml_syntax.specs.declared.tree.Expr.{out-Expr}
use Rattle.krml_syntax.specs.declared.tree.Expr.TheOpen.{Expr-F}
use Rattle.krml_syntax.specs.declared.tree.Def.{Def}
use Rattle.krml_syntax.specs.declared.tree.Def.TheVariants as d
use Rattle.krml_ast.specs.Pieces.{Piece, Value, Test, Pattern, Written, Bound, pieces_of_def}
use Rattle.krml_ast.specs.FileTypes.{listed_vars}

abbrev pub is_public : IntTy → Bool
is_public i = not i.secret

abbrev pub is_empty : {A : Type 0} → List A → Bool
is_empty xs = length xs == 0

abbrev pub is_sum : Def → Bool
is_sum (d.Sum x vars cons) = true
is_sum _ = false

-- The passes and the translation have one part of the language in common; the passes take buffers besides, which are not translated
-- yet. So what is within the part is said with buffers or without: without them it is what is built.
module _ (buffers : Bool) where
  -- ---- types

  abbrev pub level_ty_within : {A : Type 0} → Ty-F A → Bool
  level_ty_within Ty-F.Bool = true
  level_ty_within Ty-F.Unit = true
  -- no secret types
  level_ty_within (Ty-F.Int i) = is_public i
  -- no type arguments
  level_ty_within (Ty-F.Named x args) = is_empty args
  level_ty_within (Ty-F.Buf a) = buffers
  -- no type variables
  level_ty_within (Ty-F.Var x) = false

  -- a type, apart from those inside it
  abbrev pub is_ty_within : Ty → Bool
  is_ty_within a = level_ty_within (out-Ty a)

  -- ---- expressions

  -- a form, apart from its parts and from the types that it writes
  abbrev pub is_form_within : {E I A C : Type 0} → Expr-F E I A C → Bool
  is_form_within (Expr-F.Var x) = true
  is_form_within Expr-F.Unit = true
  is_form_within (Expr-F.Bool b) = true
  is_form_within (Expr-F.Num i n) = true
  is_form_within (Expr-F.Bin op i a b) = true
  is_form_within (Expr-F.Shift left i a n) = true
  is_form_within (Expr-F.Cmp op i a b) = true
  is_form_within (Expr-F.Cast i j a) = true
  is_form_within (Expr-F.Not a) = true
  is_form_within (Expr-F.Get x a) = true
  is_form_within (Expr-F.Tab x a) = true
  is_form_within (Expr-F.If c a b) = true
  is_form_within (Expr-F.Do items a) = true
  is_form_within (Expr-F.While c a) = true
  is_form_within (Expr-F.For x a b c) = true
  -- no type arguments
  is_form_within (Expr-F.Make x args values) = is_empty args
  is_form_within (Expr-F.Call x args values) = is_empty args
  -- no secret values
  is_form_within (Expr-F.Hide i a) = false
  is_form_within (Expr-F.Read a i) = buffers
  is_form_within (Expr-F.Write a i v) = buffers
  is_form_within (Expr-F.Slice a i n) = buffers
  is_form_within (Expr-F.Alloc b n a) = buffers
  -- frames as a source writes them
  is_form_within (Expr-F.Frame slots a) = buffers && is_empty slots
  is_form_within (Expr-F.Fill k a) = false
  -- no sums
  is_form_within (Expr-F.Con x args values) = false
  is_form_within (Expr-F.Match a arms) = false
  is_form_within (Expr-F.Cases cases) = false
  is_form_within (Expr-F.TagIs x a) = false
  is_form_within (Expr-F.Part x j a) = false

  -- ---- definitions

  -- tests and patterns stand in forms that are not within it
  abbrev pub is_piece_within : Piece → Bool
  is_piece_within (Value x) = is_form_within (out-Expr x)
  is_piece_within (Test x) = false
  is_piece_within (Pattern q) = false
  is_piece_within (Written a) = is_ty_within a
  is_piece_within (Bound x) = true

  -- no sum, no type variables, and each piece is within it
  abbrev pub is_within : Def → Bool
  is_within def = not (is_sum def) && is_empty (listed_vars def) && list_all is_piece_within (pieces_of_def def)

  -- Each definition is within it.
  abbrev pub AreWithin : List Def → Type 0
  AreWithin defs = AllByRecursion (λ def. is_within def ≡ true) defs

  -- the place of the first definition that is not within it
  abbrev pub first_beyond : List Def → Option ℕ
  first_beyond defs = position (λ def. not (is_within def)) defs

-- ---- what is built: what is within it without buffers

abbrev pub level_ty_built : Ty-F Ty → Bool
level_ty_built o = level_ty_within false o

abbrev pub is_ty_built : Ty → Bool
is_ty_built a = is_ty_within false a

abbrev pub is_built : Def → Bool
is_built def = is_within false def

abbrev pub AreBuilt : List Def → Type 0
AreBuilt defs = AreWithin false defs

abbrev pub first_unbuilt : List Def → Option ℕ
first_unbuilt defs = first_beyond false defs

abbrev pub IsFirstUnbuilt : List Def → ℕ → Type 0
IsFirstUnbuilt defs k = first_unbuilt defs ≡ Some k
