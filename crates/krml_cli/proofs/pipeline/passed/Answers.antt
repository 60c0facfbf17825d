use Rattle.krml_syntax.specs.declared.tree.SourceFile.{SourceFile}
use Rattle.krml_cli.proofs.Compiled.{passed_by, wide_by, large_by}
use Rattle.krml_cli.proofs.pipeline.passed.Goals as goal

pub returns-in_err-plain : goal.returns-in_err-plain
returns-in_err-plain c =
    wide_by SourceFile c.args.typed c.in_err-plain.field-0.0 c.from_residual.result c.from_residual.ensures.0 c.from_residual.ensures.1 c.in_err-plain.ensures.refused

pub returns-in_err-hoisted : goal.returns-in_err-hoisted
returns-in_err-hoisted c =
    large_by c.args.typed c.in_ok-plain.plain c.in_err-hoisted.field-0.0 c.from_residual-in_err-hoisted.result c.from_residual-in_err-hoisted.ensures.0 c.from_residual-in_err-hoisted.ensures.1
    c.in_ok-plain.ensures.value c.in_ok-plain.ensures.narrow c.in_err-hoisted.ensures.refused

pub returns : goal.returns
returns c =
    let law = c.built_files.ensures in
    let file = c.args.typed in
    passed_by file c.in_ok-plain.plain c.in_ok-hoisted.hoisted c.in_ok-bundled.bundled c.requires.built (law.ordinary file c.requires.built) c.in_ok-plain.ensures.value
    c.in_ok-plain.ensures.narrow c.in_ok-hoisted.ensures.value c.in_ok-hoisted.ensures.small c.in_ok-hoisted.ensures.runs c.in_ok-hoisted.ensures.fits c.in_ok-bundled.ensures.value
    (λ typed. c.in_ok-bundled.ensures.form (c.in_ok-hoisted.ensures.form (c.in_ok-plain.ensures.form typed))) c.in_ok-bundled.ensures.names c.in_ok-bundled.ensures.fits c.in_ok-bundled.ensures.runs
