use Rattle.std.proofs.Common.{◌≡◌, take}
use Rattle.krml_forms.specs.Writing.{forms_text}
use Rattle.krml_forms.proofs.write.write_forms.Given as goal

abbrev pub invariant-loop-form : goal.invariant-loop-form
invariant-loop-form l = l.out.items ≡ forms_text (take l.form-index l.forms)
