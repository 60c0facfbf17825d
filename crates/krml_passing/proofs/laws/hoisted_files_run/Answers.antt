use Rattle.krml_passing.proofs.HoistedFile.{is_hoisted}
use Rattle.krml_passing.proofs.HoistedFiles.{runs_hoisted, fits_hoisted}
use Rattle.krml_passing.proofs.HoistedRoles.{no_alloc_hoisted}
use Rattle.krml_passing.proofs.laws.hoisted_files_run.Goals as goal

pub returns : goal.returns
returns c = record { runs = runs_hoisted; fits = fits_hoisted; no_alloc = no_alloc_hoisted; form = is_hoisted }
