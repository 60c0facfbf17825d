use Rattle.std.proofs.Common.{◌≡◌, map, sum, take}
use Rattle.krml_forms.specs.Levels.{form_count}
use Rattle.krml_forms.proofs.count.+count.Given as goal

abbrev pub invariant-count_of-loop-form : goal.invariant-count_of-loop-form
invariant-count_of-loop-form l = l.count ≡ sum (map form_count (take l.form-index l.forms))
