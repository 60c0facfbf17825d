use Rattle.std.proofs.Common.{◌≡◌, drop, length}
use Rattle.krml_forms.specs.Text.{plain_in, plain}
use Rattle.krml_forms.specs.Cut.{reading, forms_of}
use Rattle.krml_forms.proofs.Places.{SoFar, Shallow}
use Rattle.krml_forms.proofs.read.read_forms.Given as goal

abbrev pub invariant-loop-i : goal.invariant-loop-i
invariant-loop-i l = record {
  same : reading l.cutter (drop l.i (plain l.text)) ≡ forms_of l.text;
  rest : drop l.i (plain l.text) ≡ plain_in l.comments.is_open (drop l.i l.text);
  so_far : SoFar (plain l.text) l.i (length l.cutter.nest.outer.items);
  shallow : Shallow (plain l.text) l.i;
}
