use Rattle.std.proofs.Common.{[], refl}
use Rattle.std.proofs.lemmas.Result.{IfOk-weaker}
use Rattle.krml_syntax.specs.declared.tree.Ty.TheVariants as ty
use Rattle.krml_intern.proofs.type_table.TypeTable.head.Goals as goal

pub put-requires : goal.put-requires
put-requires c = (ty.Named c.args.x.now [], (c.args.x.now, c.in_ok-k.ensures.value, refl))

pub returns-clause-value : goal.returns-clause-value
returns-clause-value c = IfOk-weaker c.put.result _ _ (λ n h. h (ty.Named c.args.x.now []) (c.args.x.now, c.in_ok-k.ensures.value, refl)) c.put.ensures.value
