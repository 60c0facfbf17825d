use Rattle.std.proofs.Common.{rules}
use Rattle.clap.specs.Words.{found_of, rows_of}
use Rattle.krml_command.proofs.Requests.{no_settings}
use Rattle.krml_command.proofs.words.settings.Goals as goal

pub returns-then-is_some : goal.returns-then-is_some
returns-then-is_some c = no_settings (rows_of (found_of c.args.matches.now)) c.value_of-4.result (search rules) c.value_of-4.ensures
