-- Equal tokens are those of one program.
use Rattle.krml_ctree.proofs.Unique.{same_tokens}
use Rattle.krml_ctree.proofs.laws.one_program.Goals as goal

pub returns : goal.returns
returns c = same_tokens
