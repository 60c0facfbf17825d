use Rattle.std.proofs.Common.{refl}
use Rattle.std.proofs.lemmas.Result.{IfOk-weaker}
use Rattle.krml_syntax.specs.declared.tree.Ty.TheVariants as ty
use Rattle.krml_intern.proofs.type_table.TypeTable.buf.Goals as goal

pub put-requires : goal.put-requires
put-requires c = (ty.Buf c.requires.0, (c.requires.0, c.requires.1, refl))

pub returns-clause-value : goal.returns-clause-value
returns-clause-value c = IfOk-weaker c.put.result _ _ (λ n h a m. h (ty.Buf a) (a, m, refl)) c.put.ensures.value
