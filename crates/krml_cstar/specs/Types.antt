-- Types of the source as C has them.
use Rattle.std.specs.Prelude.{Bool}
use Rattle.krml_syntax.specs.declared.tree.Ty.{Ty, out-Ty}
use Rattle.krml_syntax.specs.declared.tree.Ty.TheOpen.{Ty-F}
use Rattle.krml_syntax.specs.declared.tree.Ty.TheFolds.{fold-Ty}
use Rattle.krml_syntax.specs.Types.{is_unit_in}
use Rattle.krml_ctree.specs.declared.tree.CType.{CType}
use Rattle.krml_ctree.specs.declared.tree.CType.TheVariants as ct
use Rattle.krml_ctree.specs.Text.{width_type}

abbrev pub ctype_in : Ty-F CType → CType
ctype_in (Ty-F.Int i) = width_type i.width
ctype_in Ty-F.Bool = ct.U8
ctype_in (Ty-F.Buf a) = ct.Ptr a
ctype_in (Ty-F.Named x args) = ct.Struct x
-- nothing of type unit is kept in C, and type variables are not built yet
ctype_in Ty-F.Unit = ct.U8
ctype_in (Ty-F.Var x) = ct.U8

abbrev pub ctype : Ty → CType
ctype = fold-Ty CType ctype_in

-- whether expressions of a type give nothing
abbrev pub is_unit : Ty → Bool
is_unit a = is_unit_in (out-Ty a)
