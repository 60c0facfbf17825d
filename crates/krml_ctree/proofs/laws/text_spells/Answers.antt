-- The text of a program spells it.
use Rattle.krml_ctree.proofs.Spelled.{spells_text}
use Rattle.krml_ctree.proofs.laws.text_spells.Goals as goal

pub returns : goal.returns
returns c = spells_text
