use Rattle.krml_rename.specs.Renaming.{expr_renamed}
use Rattle.krml_passing.specs.Naming.{renaming_of}
use Rattle.krml_passing.proofs.Named.{runs_renamed, fits_under}
use Rattle.krml_passing.proofs.laws.renamed_files_run.Goals as goal

pub returns : goal.returns
returns c = record { runs = runs_renamed; fits = λ n ok. fits_under n ok (expr_renamed (renaming_of n)) }
