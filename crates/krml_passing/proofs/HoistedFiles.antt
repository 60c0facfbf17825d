-- A hoisted file runs as the file does, and takes the same arguments.
use Rattle.krml_passing.specs.Hoisted.{body_hoisted}
use Rattle.krml_passing.specs.Laws.{HoistedFilesFit, HoistedFilesRun}
use Rattle.krml_passing.proofs.Bodies.{runs_with, fits_with}
use Rattle.krml_passing.proofs.Hoisted.{body_means}

pub runs_hoisted : HoistedFilesRun
runs_hoisted = runs_with body_hoisted body_means

pub fits_hoisted : HoistedFilesFit
fits_hoisted = fits_with body_hoisted
