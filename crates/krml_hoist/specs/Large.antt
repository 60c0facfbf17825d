-- Frames that take more bytes than a frame may.
use Rattle.std.specs.Prelude.{ℕ, nat_lt, if◌then◌else◌, List, Option, Some, None, option_map}
use Rattle.krml_trace.specs.First.{first}
use Rattle.krml_syntax.specs.declared.tree.Def.{Def}
use Rattle.krml_syntax.specs.declared.tree.Def.TheVariants as d
use Rattle.krml_syntax.specs.Shape.{Role}
use Rattle.krml_ast.specs.Pieces.{Piece, Value, Test, pieces_of}
use Rattle.krml_ast.specs.FileTypes.{role_of}
use Rattle.krml_ast.specs.Instances.{source_name}
use Rattle.krml_layout.specs.Layout.{frame_bytes}

-- the bytes that a frame may take
abbrev pub max_frame : ℕ
max_frame = 16777216

abbrev pub if_large : ℕ → Option ℕ
if_large n = if nat_lt max_frame n then Some n else None

-- the bytes of a frame that takes too many
abbrev pub large_role : List Def → Role → Option ℕ
large_role defs (Role.frame slots) = if_large (frame_bytes defs slots)
large_role defs _ = None

abbrev pub large_piece : List Def → Piece → Option ℕ
large_piece defs (Value x) = large_role defs (role_of x)
large_piece defs (Test x) = large_role defs (role_of x)
large_piece defs _ = None

-- a function with the bytes of its first frame, in textual order, that takes too many
abbrev pub large_def : List Def → Def → Option (List ℕ × ℕ)
large_def defs (d.Fun x vars params result body) = option_map (λ n. (source_name x, n)) (first (large_piece defs) (pieces_of body))
large_def defs _ = None

abbrev pub first_large : List Def → Option (List ℕ × ℕ)
first_large defs = first (large_def defs) defs
