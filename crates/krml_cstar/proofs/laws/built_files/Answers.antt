use Rattle.krml_cstar.proofs.BuiltFiles.{is_checked, is_mono, is_without_match, is_ordinary}
use Rattle.krml_cstar.proofs.laws.built_files.Goals as goal

pub returns : goal.returns
returns c = record { checked = is_checked; mono = is_mono; matches = is_without_match; ordinary = is_ordinary }
