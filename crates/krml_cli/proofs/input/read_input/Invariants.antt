use Rattle.std.proofs.Common.{◌≡◌, ◌+◌, ◌-◌, ◌≤◌, length}
use Rattle.std.specs.Io.KnownBytes.{Consumes}
use Rattle.krml_trace.specs.Limits.{max_text}
use Rattle.krml_cli.proofs.input.read_input.Given as goal

abbrev pub invariant-loop-piece : goal.invariant-loop-piece
invariant-loop-piece g l = record {
  short : length l.input.items ≤ max_text + 1;
  consumed : Consumes (g.S.Source.left l.initial.source) (g.S.Source.left l.source) l.input.items;
  quiet : g.S.Source.faults l.source ≡ g.S.Source.faults l.initial.source;
}

abbrev pub decreases-loop-piece : goal.decreases-loop-piece
decreases-loop-piece g l = max_text + 1 - length l.input.items
