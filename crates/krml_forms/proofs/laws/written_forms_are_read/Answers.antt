use Rattle.krml_forms.proofs.Written.{text_has_forms}
use Rattle.krml_forms.proofs.laws.written_forms_are_read.Goals as goal

pub returns : goal.returns
returns c = text_has_forms
