use Rattle.krml_command.proofs.Decimals.{number_read, number_unread}
use Rattle.std.proofs.Common.{rules}
use Rattle.krml_command.proofs.numbers.number_in.Goals as goal

pub returns-in_default : goal.returns-in_default
returns-in_default c = number_unread _ c.args.numbers.most c.args.text.now (search rules) (search rules) c.in_default.ensures.value.0

pub returns-then-number-numbers : goal.returns-then-number-numbers
returns-then-number-numbers c = number_read _ _ c.in-Ok.number c.args.text.now (search rules) c.in-Ok.ensures.value.0 c.if-numbers-number.true c.if-number-numbers.true
