-- What is not looked at yet decides.
use Rattle.std.proofs.Common.{◌≡◌, ◌-◌, ◌≤◌, length, take, reverse}
use Rattle.krml_intern.specs.Scope.{are_distinct, shown, KnowHidden}
use Rattle.krml_intern.proofs.scope.Scope.are_distinct.Given as goal

abbrev pub invariant-loop-n : goal.invariant-loop-n
invariant-loop-n l =
    (l.n ≤ length l.self-inside.items.items) × KnowHidden (reverse (take l.n l.self-inside.items.items))
    × (are_distinct (take (l.n - l.len) (shown (reverse (take l.n l.self-inside.items.items)))) ≡ are_distinct (take (length l.self - l.len) l.self))

abbrev pub decreases-loop-n : goal.decreases-loop-n
decreases-loop-n l = l.n - l.len
