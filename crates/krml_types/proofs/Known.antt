-- What the laws of expressions take of the tests of types.
use Rattle.std.proofs.Common.{◌≡◌, ℕ, List}
use Rattle.std.specs.Bool.{Decides}
use Rattle.krml_syntax.specs.declared.tree.Ty.{Ty}
use Rattle.krml_syntax.specs.declared.tree.Def.{Def}
use Rattle.krml_ast.specs.IsType.{IsFlat, IsType, AreArguments}
use Rattle.krml_types.specs.Types.{same_ty, is_flat, is_type, are_arguments}

-- each test decides what it tests
pub record Known (defs : List Def) (tvars : List (List ℕ)) : Type 0 where
  pub same : (a b : Ty) → Decides (same_ty a b) (a ≡ b)
  pub flat : (a : Ty) → Decides (is_flat defs a) (IsFlat defs a)
  pub type : (a : Ty) → Decides (is_type defs tvars a) (IsType defs tvars a)
  pub arguments : (args : List Ty) → Decides (are_arguments defs tvars args) (AreArguments defs tvars args)
