use Rattle.std.proofs.Common.{◌≡◌, drop}
use Rattle.krml_reader.specs.Answer.{defs_after, defs_of}
use Rattle.krml_reader.proofs.read.defs_of.Given as goal

abbrev pub invariant-loop-form : goal.invariant-loop-form
invariant-loop-form l = defs_after l.defs (drop l.form-index l.forms) ≡ defs_of l.forms
