use Rattle.krml_passing.proofs.Changing.{runs_rewritten}
use Rattle.krml_passing.proofs.laws.rewritten_files_run.Goals as goal

pub returns : goal.returns
returns c = record { runs = runs_rewritten }
