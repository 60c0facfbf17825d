use Rattle.krml_reader.proofs.FileLaws.{same_answer}
use Rattle.krml_reader.proofs.read.one_answer.Goals as goal

pub returns : goal.returns
returns c = same_answer c.one_reading.ensures
