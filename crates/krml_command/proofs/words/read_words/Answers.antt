use Rattle.std.proofs.Common.{sym, []}
use Rattle.clap.specs.Words.{found_of, rows_of}
use Rattle.krml_command.proofs.Laws.{rows_range}
use Rattle.krml_command.proofs.words.read_words.Goals as goal

pub returns-in-Some-clause-ranges : goal.returns-in-Some-clause-ranges
returns-in-Some-clause-ranges c = rows_range [] (rows_of (found_of c.in_ok-matches.matches)) c.in-Some.request (sym c.in-Some.ensures)
