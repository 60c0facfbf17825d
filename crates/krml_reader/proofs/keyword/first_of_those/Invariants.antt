use Rattle.std.proofs.Common.{◌≡◌, drop}
use Rattle.krml_reader.specs.Keyword.{first_of_those}
use Rattle.krml_reader.proofs.keyword.first_of_those.Given as goal

abbrev pub invariant-loop-keyword : goal.invariant-loop-keyword
invariant-loop-keyword l = first_of_those (drop l.keyword-index l.keywords) l.word ≡ first_of_those l.keywords l.word
