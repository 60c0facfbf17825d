use Rattle.krml_command.proofs.Laws.{written}
use Rattle.krml_command.proofs.words.written_lines.Goals as goal

pub returns : goal.returns
returns c name asked is = written name asked is
