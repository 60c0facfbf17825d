use Rattle.std.proofs.Common.{◌≡◌, ℕ, List, take}
use Rattle.krml_layout.specs.Found.{has, named_layout}
use Rattle.krml_layout.proofs.layouts.layouts_of.Given as goal

abbrev pub invariant-loop-def : goal.invariant-loop-def
invariant-loop-def l = (x : List ℕ) → has l.layouts x ≡ named_layout (take l.def-index l.defs) x
