use Rattle.krml_cli.proofs.Ended.{makes_by}
use Rattle.krml_cli.proofs.krml.answer.Goals as goal

pub output-requires : goal.output-requires
output-requires c = record { built = c.in_ok-bundled.ensures.passed.built }

pub returns : goal.returns
returns c =
    makes_by c.checked_files_run.ensures.runs c.args.command c.args.text.now c.in_ok-out.out.text.items c.in_ok-out.out.status c.in_ok-bundled.bundled c.in_ok-bundled.ensures
    c.in_ok-out.ensures
