use Rattle.std.proofs.Common.{[], ◌∷◌, ◌++◌, refl}
use Rattle.std.proofs.lemmas.Result.{IfOk-weaker}
use Rattle.krml_syntax.specs.declared.tree.Ty.TheVariants as ty
use Rattle.krml_intern.proofs.type_table.TypeTable.app.Goals as goal

pub put-requires : goal.put-requires
put-requires c = let (x, args, a, m, o) = c.requires in (ty.Named x (args ++ a ∷ []), (x, args, a, m, o, refl))

pub returns-clause-value : goal.returns-clause-value
returns-clause-value c = IfOk-weaker c.put.result _ _ (λ n h x args a m o. h (ty.Named x (args ++ a ∷ [])) (x, args, a, m, o, refl)) c.put.ensures.value
