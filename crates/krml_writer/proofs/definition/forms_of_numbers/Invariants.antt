use Rattle.std.proofs.Common.{◌≡◌, map, take}
use Rattle.krml_writer.specs.Written.{form_of_number}
use Rattle.krml_writer.proofs.definition.forms_of_numbers.Given as goal

abbrev pub invariant-loop-num : goal.invariant-loop-num
invariant-loop-num l = l.forms ≡ map form_of_number (take l.num-index l.nums)
