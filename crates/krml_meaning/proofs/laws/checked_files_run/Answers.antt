use Rattle.krml_meaning.proofs.Endings.{checked_end}
use Rattle.krml_meaning.proofs.Spelled.{checked_runs}
use Rattle.krml_meaning.proofs.laws.checked_files_run.Goals as goal

pub returns : goal.returns
returns c = record { runs = checked_runs; ends = checked_end }
