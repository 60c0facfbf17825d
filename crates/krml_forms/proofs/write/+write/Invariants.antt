use Rattle.std.proofs.Common.{◌≡◌, ◌++◌, ◌∷◌, map, take}
use Rattle.krml_forms.specs.Writing.{form_text, joined}
use Rattle.krml_forms.proofs.write.+write.Given as goal

abbrev pub invariant-write_list-loop-i : goal.invariant-write_list-loop-i
invariant-write_list-loop-i l = l.out.items ≡ l.fn.out.items ++ 40 ∷ joined (map form_text (take l.i l.forms))
