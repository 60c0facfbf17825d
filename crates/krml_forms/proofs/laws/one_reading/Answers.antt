use Rattle.krml_forms.proofs.Readings.{same_reading}
use Rattle.krml_forms.proofs.laws.one_reading.Goals as goal

pub returns : goal.returns
returns c = same_reading
