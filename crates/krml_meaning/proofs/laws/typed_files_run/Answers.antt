use Rattle.krml_meaning.proofs.Endings.{typed_end}
use Rattle.krml_meaning.proofs.Entries.{typed_runs}
use Rattle.krml_meaning.proofs.laws.typed_files_run.Goals as goal

pub returns : goal.returns
returns c = record { runs = typed_runs; ends = typed_end }
