use Rattle.krml_reader.proofs.FileLaws.{is_found, is_refused}
use Rattle.krml_reader.proofs.read.read_file.Goals as goal

pub returns-clause-found : goal.returns-clause-found
returns-clause-found c = is_found c.args.text.now c.read.result c.read.ensures

pub returns-clause-refused : goal.returns-clause-refused
returns-clause-refused c = is_refused c.args.text.now c.read.result c.read.ensures
