-- A text spells at most one program.
use Rattle.krml_ctree.proofs.Spelled.{same_text}
use Rattle.krml_ctree.proofs.laws.one_spelled.Goals as goal

pub returns : goal.returns
returns c = same_text
