use Rattle.std.proofs.Common.{ap, ◌∙◌}
use Rattle.krml_reader.specs.Keyword.{first_of_those}
use Rattle.krml_reader.proofs.KeywordLaws.{begun_with, none_of_nothing}
use Rattle.krml_reader.proofs.keyword.keyword_of.Goals as goal

pub returns-in-empty : goal.returns-in-empty
returns-in-empty c = none_of_nothing c.args.word.now c.in-empty.len_below

pub returns-in-len1-up : goal.returns-in-len1-up
returns-in-len1-up c = c.first_of_those.ensures ∙ ap (λ cs. first_of_those cs c.args.word.now) c.beginning.ensures ∙ begun_with c.args.word.now c.in-len1-up.len_at_least
