-- The text of a well formed program spells it alone.
use Rattle.krml_ctree.proofs.Spelled.{text_alone}
use Rattle.krml_ctree.proofs.laws.spelled_alone.Goals as goal

pub returns : goal.returns
returns c = text_alone
