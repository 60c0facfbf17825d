use Rattle.std.proofs.Common.{◌≡◌, drop}
use Rattle.krml_forms.specs.Text.{plain_in, plain}
use Rattle.krml_forms.proofs.Places.{SoFar}
use Rattle.krml_forms.proofs.fault.first_fault.Given as goal

abbrev pub invariant-loop-i : goal.invariant-loop-i
invariant-loop-i l = record {
  rest : drop l.i (plain l.text) ≡ plain_in l.comments.is_open (drop l.i l.text);
  so_far : SoFar (plain l.text) l.i l.depth;
}
