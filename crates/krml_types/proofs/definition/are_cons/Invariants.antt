use Rattle.std.proofs.Common.{◌≡◌, take, drop}
use Rattle.krml_types.specs.Definitions.{are_cons}
use Rattle.krml_types.proofs.definition.are_cons.Given as goal

abbrev pub invariant-loop-con : goal.invariant-loop-con
invariant-loop-con l = are_cons (take l.k l.index) l.index l.tvars (drop l.con-index l.cons) ≡ are_cons (take l.k l.index) l.index l.tvars l.cons
