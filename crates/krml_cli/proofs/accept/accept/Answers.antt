use Rattle.std.proofs.Common.{sym}
use Rattle.krml_syntax.specs.declared.tree.SourceFile.{SourceFile}
use Rattle.krml_cli.proofs.Ended.{unread_by, ill_typed_by, unbuilt_by, built_by, passed_by}
use Rattle.krml_cli.proofs.accept.accept.Goals as goal

pub returns-in_err-file : goal.returns-in_err-file
returns-in_err-file c = unread_by c.args.text.now c.in_err-file.field-0.0 c.from_residual.result c.from_residual.ensures.0 c.from_residual.ensures.1 c.in_err-file.ensures.refused

pub returns-in_err-typed : goal.returns-in_err-typed
returns-in_err-typed c =
    ill_typed_by SourceFile c.args.text.now c.in_ok-file.file c.in_err-typed.field-0.0 c.from_residual-in_err-typed.result c.from_residual-in_err-typed.ensures.0
    c.from_residual-in_err-typed.ensures.1 c.in_ok-file.ensures.found c.in_err-typed.ensures.answer

pub passed-requires : goal.passed-requires
passed-requires c = record { built = built_by c.in_ok-typed.typed c.file.result.now c.file.ensures.value (sym c.in-None.ensures) }

pub returns-in-None : goal.returns-in-None
returns-in-None c =
    passed_by c.args.text.now c.in_ok-file.file c.in_ok-typed.typed c.file.result.now c.passed.result c.in_ok-file.ensures.found c.in_ok-typed.ensures.typed c.in_ok-typed.ensures.answer
    c.file.ensures.value (sym c.in-None.ensures) c.passed.ensures

pub returns-in-Some : goal.returns-in-Some
returns-in-Some c =
    unbuilt_by c.args.text.now c.in_ok-file.file c.in_ok-typed.typed c.file.result.now c.not_built.result c.in-Some.place c.in_ok-file.ensures.found c.in_ok-typed.ensures.typed
    c.in_ok-typed.ensures.answer c.file.ensures.value (sym c.in-Some.ensures) c.not_built.ensures
