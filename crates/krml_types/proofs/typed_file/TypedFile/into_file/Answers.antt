use Rattle.std.proofs.Common.{subst}
use Rattle.krml_ast.specs.WellTyped.{AreWellTyped}
use Rattle.krml_types.proofs.Faults.{IsAnswer, first_is}
use Rattle.krml_types.proofs.typed_file.TypedFile.into_file.Goals as goal

pub returns-clause-typed : goal.returns-clause-typed
returns-clause-typed c =
    let whole : AreWellTyped c.self.inside.inner.defs = subst (IsAnswer c.self.inside.inner.defs) c.self.inside.typed (first_is c.self.inside.inner.defs) in
    subst (λ z. AreWellTyped z.defs) c.self.view_is whole
