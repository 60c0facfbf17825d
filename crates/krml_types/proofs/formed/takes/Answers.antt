use Rattle.std.proofs.Common.{rules}
use Rattle.krml_types.proofs.Before.{takes_before}
use Rattle.krml_types.proofs.formed.takes.Goals as goal

pub returns-then-not-is_given : goal.returns-then-not-is_given
returns-then-not-is_given c = rw (takes_before c.args.index.now c.args.k c.args.x.now c.args.n) (search rules)

pub returns-in-Some : goal.returns-in-Some
returns-in-Some c = rw (takes_before c.args.index.now c.args.k c.args.x.now c.args.n) (search rules)

pub returns-in-None : goal.returns-in-None
returns-in-None c = rw (takes_before c.args.index.now c.args.k c.args.x.now c.args.n) (search rules)
