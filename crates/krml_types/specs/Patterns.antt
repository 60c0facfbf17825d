-- The variables that a pattern binds at a place of a type, before those that were bound already.
use Rattle.std.specs.Prelude.{◌^◌, ◌&&◌, nat_lt, List, [], ◌∷◌, Option, Some, None}
use Rattle.krml_trace.specs.Width.{bits}
use Rattle.krml_syntax.specs.declared.tree.Ty.{Ty}
use Rattle.krml_syntax.specs.declared.tree.Ty.TheVariants as t
use Rattle.krml_syntax.specs.declared.tree.Pat.{Pat}
use Rattle.krml_syntax.specs.declared.tree.Pat.TheOpen.{Pat-F}
use Rattle.krml_syntax.specs.declared.tree.Pat.TheFolds.{fold-Pat}
use Rattle.krml_syntax.specs.declared.tree.Def.{Def}
use Rattle.krml_syntax.specs.Read.{◌>>=◌}
use Rattle.krml_syntax.specs.Types.{int_ty}
use Rattle.krml_ast.specs.Typing.{Vars}
use Rattle.krml_types.specs.Types.{same_ty}
use Rattle.krml_types.specs.Parts.{demand}
use Rattle.krml_types.specs.Instances.{make_parts, con_parts}

abbrev pub Binds : Type 0
Binds = Ty → Vars → Option Vars

-- a pattern for each type
abbrev pub parts_bind : List Binds → List Ty → Vars → Option Vars
parts_bind [] [] vars = Some vars
parts_bind (q ∷ qs) (a ∷ types) vars = q a vars >>= λ more. parts_bind qs types more
parts_bind _ _ vars = None

abbrev pub pat_step : List Def → Pat-F Binds → Binds
pat_step defs Pat-F.Any a vars = Some vars
pat_step defs (Pat-F.Bind x) a vars = Some ((x, a) ∷ vars)
pat_step defs (Pat-F.Bool b) a vars = demand (same_ty a t.Bool) >>= λ u. Some vars
pat_step defs (Pat-F.Num i n) a vars = demand (same_ty a (int_ty i) && nat_lt n (2 ^ bits i.width)) >>= λ u. Some vars
pat_step defs (Pat-F.Con x qs) a vars = con_parts defs x a >>= λ types. parts_bind qs types vars
pat_step defs (Pat-F.Make x qs) a vars = make_parts defs x a >>= λ types. parts_bind qs types vars

abbrev pub binds : List Def → Pat → Binds
binds defs = fold-Pat Binds (pat_step defs)
