use Rattle.krml_forms.proofs.Clean.{no_fault, no_deep}
use Rattle.krml_forms.proofs.laws.forms_have_no_fault.Goals as goal

pub returns-clause-fault : goal.returns-clause-fault
returns-clause-fault c = no_fault

pub returns-clause-deep : goal.returns-clause-deep
returns-clause-deep c = no_deep
