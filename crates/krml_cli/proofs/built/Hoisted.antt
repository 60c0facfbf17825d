-- A file whose forms are ordinary ones has nothing to hoist.
use Rattle.std.proofs.Common.{◌≡◌, subst, sym}
use Rattle.krml_syntax.specs.declared.tree.SourceFile.{SourceFile}
use Rattle.krml_ast.specs.Pieces.{Piece, Value, Test, Pattern, Written, Bound, pieces_in}
use Rattle.krml_ast.specs.FileTypes.{RoleIn, EachRole}
use Rattle.krml_meaning.proofs.Lists.{each_so}
use Rattle.krml_passing.specs.Hoisted.{file_hoisted}
use Rattle.krml_passing.proofs.HoistedNothing.{HasNoBuffers, file_left}
use Rattle.krml_cstar.specs.Theorem.{IsOrdinary}

no_buffers : (x : Piece) → RoleIn IsOrdinary x → RoleIn HasNoBuffers x
no_buffers (Value x) h = subst HasNoBuffers (sym h) tt
no_buffers (Test x) h = subst HasNoBuffers (sym h) tt
no_buffers (Pattern q) h = tt
no_buffers (Written a) h = tt
no_buffers (Bound x) h = tt

pub ordinary_left : (file : SourceFile) → EachRole IsOrdinary file.defs → file_hoisted file ≡ file
ordinary_left file h = file_left file (each_so (RoleIn IsOrdinary) (RoleIn HasNoBuffers) (pieces_in file.defs) no_buffers h)
