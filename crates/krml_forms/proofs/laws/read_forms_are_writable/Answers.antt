use Rattle.krml_forms.proofs.Words.{all_writable}
use Rattle.krml_forms.proofs.laws.read_forms_are_writable.Goals as goal

pub returns : goal.returns
returns c = all_writable
