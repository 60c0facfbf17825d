-- The form of a command line, and what clap makes of words by it.
use Rattle.std.specs.Prelude.{◌≡◌, true, List, [], Some, Result, MatchResult, codes}
use Rattle.clap.specs.Words.{App, Rule, Text, fault_of, found_of, matches_of, new_app, new_rule, rows_of, with_rule}
use Rattle.clap.specs.Simple.{on_top}
use Rattle.clap.specs.declared.builder.action.ArgAction.TheVariants.{Append, Set, SetTrue}
use Rattle.clap.specs.declared.error.kind.ErrorKind.{ErrorKind}
use Rattle.clap.specs.declared.error.kind.ErrorKind.TheVariants as kind
use Rattle.clap.specs.declared.parser.matches.ArgMatches.{ArgMatches}
use Rattle.krml_command.specs.declared.refusal.WordsRefusal.{WordsRefusal}
use Rattle.krml_command.specs.declared.refusal.WordsRefusal.TheVariants.{Usage, NoMemory}

-- `--NAME VALUE` or `--NAME=VALUE`
abbrev pub option_rule : Text → Rule
option_rule name = record (new_rule name) { long = Some name; action = Some Set }

-- `--trace`
abbrev pub trace_rule : Rule
trace_rule = record (new_rule (codes "trace")) { long = Some (codes "trace"); action = Some SetTrue }

-- one word, which has to stand
abbrev pub command_rule : Rule
command_rule = record (new_rule (codes "COMMAND")) { required = true; action = Some Set }

-- the words after it
abbrev pub rest_rule : Rule
rest_rule = record (new_rule (codes "REST")) { action = Some Append }

-- all words are arguments, and no word asks for help
abbrev pub bare : App
bare = on_top (λ s. record s { no_binary_name = true; disable_help_flag = true }) (new_app (codes "krml"))

-- krml [--pages N] [--bound N] [--depth N] [--opt NAMES] [--trace] COMMAND [REST]..
abbrev pub line : App
line = with_rule (with_rule (with_rule (with_rule (with_rule (with_rule (with_rule bare
    (option_rule (codes "pages"))) (option_rule (codes "bound"))) (option_rule (codes "depth"))) (option_rule (codes "opt")))
    trace_rule) command_rule) rest_rule

-- clap takes the words as such a line, and finds this, or it does not
abbrev pub ParsesLine : List Text → Result ArgMatches WordsRefusal → Type 0
ParsesLine words r = MatchResult r (λ m. (fault_of line words ≡ []) × (rows_of (found_of m) ≡ matches_of line words))
    (λ e. e ≡ Usage → fault_of line words ≡ [] → ⊥)

-- want of memory, or a fault of the words
abbrev pub refusal_for : ErrorKind → WordsRefusal
refusal_for kind.OutOfMemory = NoMemory
refusal_for _ = Usage
