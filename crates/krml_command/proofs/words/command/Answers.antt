use Rattle.std.proofs.Common.{◌∙◌, map}
use Rattle.clap.specs.Words.{found_of, rows_of}
use Rattle.clap.proofs.WalkLemmas.{raw_values-rows}
use Rattle.krml_command.proofs.Requests.{with_rest, without_rest}
use Rattle.krml_command.proofs.words.command.Goals as goal

pub returns-in-Some : goal.returns-in-Some
returns-in-Some c = c.command_of.ensures ∙ with_rest (rows_of (found_of c.args.matches.now)) c.in_ok-name.name.now (map (λ w. w.now) c.in-Some.rest.now) c.in_ok-name.ensures (c.in-Some.ensures ∙ raw_values-rows (found_of c.args.matches.now) _)

pub returns-in-None : goal.returns-in-None
returns-in-None c = c.command_of-in-None.ensures ∙ without_rest (rows_of (found_of c.args.matches.now)) c.in_ok-name.name.now c.in_ok-name.ensures (c.in-None.ensures ∙ raw_values-rows (found_of c.args.matches.now) _)
