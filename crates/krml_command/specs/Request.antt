-- What the words of a command line ask for.
use Rattle.std.specs.Prelude.{◌≡◌, ◌≤◌, ◌++◌, ℕ, Bool, true, false, List, [], ◌∷◌, Option, Some, None, codes, if◌then◌else◌, option_and_then, unwrap_or}
use Rattle.std.specs.Option.{option_map_or}
use Rattle.std.specs.Str.{bytes_eq}
use Rattle.clap.specs.Words.{Row, Text, all_of, fault_of, first_of, matches_of}
use Rattle.clap.specs.Walk.{is_empty}
use Rattle.krml_command.specs.declared.request.Command.{Command}
use Rattle.krml_command.specs.declared.request.Request.{Request}
use Rattle.krml_command.specs.declared.request.Settings.{Settings}
use Rattle.krml_command.specs.Line.{line}
use Rattle.krml_command.specs.Values.{bound, command_of, depth, number_in, pages, passes_in, setting}

-- whether the flag was given
abbrev pub is_traced : List Row → Bool
is_traced rows = option_map_or (λ text. bytes_eq text (codes "true")) (first_of (codes "trace") rows) false

-- the settings of these values, where each is one
abbrev pub settings_by : Option ℕ → Option ℕ → Option ℕ → Bool → Option (List ℕ) → Option Settings
settings_by (Some n) (Some ticks) (Some calls) traced (Some named) = Some (record {
  pages = n;
  bound = ticks;
  depth = calls;
  trace = traced;
  passes = named;
})
settings_by _ _ _ _ _ = None

-- the settings, where each value is of its form and in its range
abbrev pub settings_in : List Text → List Row → Option Settings
settings_in stored rows = settings_by (setting pages (first_of (codes "pages") rows)) (setting bound (first_of (codes "bound") rows))
    (setting depth (first_of (codes "depth") rows)) (is_traced rows) (passes_in stored (first_of (codes "opt") rows))

-- the words after the command's name
abbrev pub rest_in : List Row → List Text
rest_in rows = unwrap_or (all_of (codes "REST") rows) []

abbrev pub command_in : List Row → Option Command
command_in rows = option_and_then (λ name. command_of name (rest_in rows)) (first_of (codes "COMMAND") rows)

-- what the matches of a command line ask for
abbrev pub request_by : Option Command → Option Settings → Option Request
request_by (Some asked) (Some chosen) = Some (record { command = asked; settings = chosen })
request_by _ _ = None

abbrev pub request_in : List Text → List Row → Option Request
request_in stored rows = request_by (command_in rows) (settings_in stored rows)

-- what the words ask for, where stored passes have these names: clap takes the words as a command line, and each value
-- that it finds is of its form and in its range
abbrev pub request_of : List Text → List Text → Option Request
request_of stored words = if is_empty (fault_of line words) then request_in stored (matches_of line words) else None

-- each setting lies in its range
abbrev pub IsInRange : Settings → Type 0
IsInRange s = (1 ≤ s.pages) × (s.pages ≤ 1024) × (s.bound ≤ 10000000) × (1 ≤ s.depth) × (s.depth ≤ 100)

-- what the words of some lines that are written out ask for
pub record AsksAsWritten (name : Text) (asked : Command) : Type 0 where
  -- a command's name alone: the standard settings
  pub alone : (stored : List Text) → request_of stored (name ∷ [])
      ≡ Some (record { command = asked; settings = record { pages = 16; bound = 1000000; depth = 100; trace = false; passes = [] } })
  -- options before the name, with `=`: the numbers that stand there
  pub before : (stored : List Text) (n t k : Text) →
      request_of stored (codes "--trace" ∷ (codes "--pages=" ++ n) ∷ (codes "--bound=" ++ t) ∷ (codes "--depth=" ++ k) ∷ name ∷ [])
      ≡ request_by (Some asked) (settings_by (number_in 1 1024 n) (number_in 0 10000000 t) (number_in 1 100 k) true (Some []))
  -- after it
  pub after : (stored : List Text) (n t k : Text) →
      request_of stored (name ∷ (codes "--depth=" ++ k) ∷ (codes "--bound=" ++ t) ∷ (codes "--pages=" ++ n) ∷ [])
      ≡ request_by (Some asked) (settings_by (number_in 1 1024 n) (number_in 0 10000000 t) (number_in 1 100 k) false (Some []))
  -- passes
  pub passes : (stored : List Text) (names : Text) → request_of stored (name ∷ (codes "--opt=" ++ names) ∷ [])
      ≡ request_by (Some asked) (settings_by (Some 16) (Some 1000000) (Some 100) false (passes_in stored (Some names)))
  -- an option twice
  pub twice : (stored : List Text) (n k : Text) → request_of stored (name ∷ (codes "--pages=" ++ n) ∷ (codes "--pages=" ++ k) ∷ []) ≡ None
  -- a word after the name, and one after `--`
  pub more : (stored : List Text) (word : Text) → request_of stored (name ∷ codes "--" ∷ word ∷ []) ≡ None
