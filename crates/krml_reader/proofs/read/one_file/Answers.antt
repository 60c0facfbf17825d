use Rattle.krml_reader.proofs.FileLaws.{same_file}
use Rattle.krml_reader.proofs.read.one_file.Goals as goal

pub returns : goal.returns
returns c = same_file c.one_answer.ensures
