use Rattle.krml_reader.proofs.FileLaws.{back}
use Rattle.krml_reader.proofs.written.written_is_read.Goals as goal

pub returns : goal.returns
returns c = back c.one_answer.ensures c.written_again.ensures.again
