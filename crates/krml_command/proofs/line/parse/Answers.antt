use Rattle.std.proofs.Common.{map}
use Rattle.std.specs.String.{string_bytes}
use Rattle.krml_command.proofs.Clap.{failed, parsed}
use Rattle.krml_command.proofs.line.parse.Goals as goal

pub returns-in-Ok : goal.returns-in-Ok
returns-in-Ok c = parsed _ (map string_bytes c.args.words.now) c.in-Ok.matches c.in_ok-line.ensures c.in-Ok.ensures.kinds c.in-Ok.ensures.matches

pub returns-in-Err : goal.returns-in-Err
returns-in-Err c = failed _ (map string_bytes c.args.words.now) c.in-Err.error c.refusal_of.result c.in_ok-line.ensures c.in-Err.ensures.kinds c.refusal_of.ensures
