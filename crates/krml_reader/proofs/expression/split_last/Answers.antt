use Rattle.std.proofs.Common.{◌-◌, length, sym, arith}
use Rattle.krml_reader.proofs.Lasts.{split_last_none, split_last_at}
use Rattle.krml_reader.proofs.expression.split_last.Goals as goal

pub returns-in-empty : goal.returns-in-empty
returns-in-empty c = sym (split_last_none c.args.forms.now c.in-empty.len_below)

pub returns-in-len1-up : goal.returns-in-len1-up
returns-in-len1-up c = sym (split_last_at c.args.forms.now (length c.args.forms.now - 1) c.last-item.result (omega (arith, c.in-len1-up.len_at_least)) c.last-item.is)
