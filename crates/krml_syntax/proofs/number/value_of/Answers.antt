use Rattle.std.proofs.Common.{◌∙◌}
use Rattle.krml_syntax.proofs.Numbers.{parse_is_value, digits_are_text}
use Rattle.krml_syntax.proofs.number.value_of.Goals as goal

pub returns-in-Ok : goal.returns-in-Ok
returns-in-Ok c =
    c.ok.ensures.value ∙ parse_is_value c.args.word.now c.parse.result c.requires.digits c.requires.plain (rw c.in-Ok.ensures.cases.0 at c.parse.ensures.value.0)

pub returns-in-Err : goal.returns-in-Err
returns-in-Err c = absurd (c.in-Err.ensures.cases.0 (digits_are_text c.args.word.now c.requires.digits))
