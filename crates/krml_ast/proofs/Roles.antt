-- What holds of the role of each expression in definitions.
use Rattle.std.proofs.Common.{List}
use Rattle.krml_syntax.specs.declared.tree.Def.{Def}
use Rattle.krml_syntax.specs.Shape.{Role}
use Rattle.krml_ast.specs.Pieces.{Piece, Value, Test, Pattern, Written, Bound, pieces_in}
use Rattle.krml_ast.specs.FileTypes.{RoleIn, EachRole, role_of}
use Rattle.krml_trace.proofs.Lists.{each_so, each_both}

-- it follows in a piece from what holds of the role there
pub role_in_so : (P Q : Role → Type 0) → ((r : Role) → P r → Q r) → (x : Piece) → RoleIn P x → RoleIn Q x
role_in_so P Q so (Value x) h = so (role_of x) h
role_in_so P Q so (Test x) h = so (role_of x) h
role_in_so P Q so (Pattern q) h = tt
role_in_so P Q so (Written a) h = tt
role_in_so P Q so (Bound x) h = tt

pub each_role_so : (P Q : Role → Type 0) (defs : List Def) → ((r : Role) → P r → Q r) → EachRole P defs → EachRole Q defs
each_role_so P Q defs so h = each_so (RoleIn P) (RoleIn Q) (pieces_in defs) (role_in_so P Q so) h

-- and from two things that hold
pub role_in_both : (P Q R : Role → Type 0) → ((r : Role) → P r → Q r → R r) → (x : Piece) → RoleIn P x → RoleIn Q x → RoleIn R x
role_in_both P Q R so (Value x) h k = so (role_of x) h k
role_in_both P Q R so (Test x) h k = so (role_of x) h k
role_in_both P Q R so (Pattern q) h k = tt
role_in_both P Q R so (Written a) h k = tt
role_in_both P Q R so (Bound x) h k = tt

pub each_role_both : (P Q R : Role → Type 0) (defs : List Def) → ((r : Role) → P r → Q r → R r) → EachRole P defs → EachRole Q defs → EachRole R defs
each_role_both P Q R defs so h k = each_both (RoleIn P) (RoleIn Q) (RoleIn R) (pieces_in defs) (role_in_both P Q R so) h k
