use Rattle.krml_reader.proofs.FileLaws.{same_definition}
use Rattle.krml_reader.proofs.read.one_definition.Goals as goal

pub returns : goal.returns
returns c = same_definition
