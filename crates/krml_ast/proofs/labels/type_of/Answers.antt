use Rattle.std.proofs.Common.{rules, ◌≡◌, Some, None}
use Rattle.krml_ast.specs.Labelled.{labelled_type}
use Rattle.krml_ast.proofs.Labelled.{labelled_some, labelled_is}
use Rattle.krml_ast.proofs.labels.type_of.Goals as goal

pub unreachable-requires : goal.unreachable-requires
unreachable-requires c =
    let none : labelled_type c.args.file.now.defs c.args.scope.now c.args.e.now ≡ None = search rules in
    labelled_some c.args.file.now.defs c.args.scope.now c.args.e.now c.requires none

pub returns-clause-erased : goal.returns-clause-erased
returns-clause-erased c =
    let some : labelled_type c.args.file.now.defs c.args.scope.now c.args.e.now ≡ Some c.in-Some.ty = search rules in
    labelled_is c.args.file.now.defs c.args.scope.now c.args.e.now c.in-Some.ty some
