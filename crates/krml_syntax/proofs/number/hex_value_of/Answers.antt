use Rattle.std.proofs.Common.{◌∙◌}
use Rattle.krml_syntax.proofs.Numbers.{hex_parse_is_value, hex_are_text}
use Rattle.krml_syntax.proofs.number.hex_value_of.Goals as goal

pub returns-in-Ok : goal.returns-in-Ok
returns-in-Ok c =
    c.ok.ensures.value ∙ hex_parse_is_value c.args.digits.now c.from_str_radix.result c.requires.some c.requires.few c.requires.digits (rw c.in-Ok.ensures.cases.0 at c.from_str_radix.ensures.value)

pub returns-in-Err : goal.returns-in-Err
returns-in-Err c = absurd (c.in-Err.ensures.cases.0 (hex_are_text c.args.digits.now c.requires.digits))
