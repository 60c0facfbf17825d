-- What the words of a command line mean, one by one.
use Rattle.std.specs.Prelude.{◌==◌, ◌&&◌, ℕ, Bool, List, [], ◌∷◌, Option, Some, None, codes, if◌then◌else◌, length, nat_le, nat_lt, option_and_then, option_map}
use Rattle.std.specs.Str.{all_ascii_digits, bytes_eq}
use Rattle.std.specs.Str.Parse.{digits_value}
use Rattle.std.specs.List.{position}
use Rattle.clap.specs.Words.{Text}
use Rattle.krml_command.specs.declared.numbers.Numbers.{Numbers}
use Rattle.krml_command.specs.declared.request.Command.{Command}
use Rattle.krml_command.specs.declared.request.Command.TheVariants.{C, Check}

-- one decimal digit or more, and nothing else
abbrev pub is_decimal : Text → Bool
is_decimal text = nat_lt 0 (length text) && all_ascii_digits text

-- the number that the text writes in decimal, where it lies between the two
abbrev pub number_in : ℕ → ℕ → Text → Option ℕ
number_in least most text =
    let n = digits_value 10 text in
    if is_decimal text && (nat_le least n && nat_le n most) then Some n else None

-- `--pages`: 1 to 1,024, and 16
abbrev pub pages : Numbers
pages = record { least = 1; most = 1024; standard = 16 }

-- `--bound`, in ticks: 0 to 10,000,000, and 1,000,000
abbrev pub bound : Numbers
bound = record { least = 0; most = 10000000; standard = 1000000 }

-- `--depth`, in open calls: 1 to 100, and 100
abbrev pub depth : Numbers
depth = record { least = 1; most = 100; standard = 100 }

-- the number that an option's value writes, and the standard one where the option is not given
abbrev pub setting : Numbers → Option Text → Option ℕ
setting numbers None = Some numbers.standard
setting numbers (Some text) = number_in numbers.least numbers.most text

abbrev pub with_first : ℕ → List Text → List Text
with_first c [] = []
with_first c (name ∷ names) = (c ∷ name) ∷ names

-- the names between the commas (44) of a text
abbrev pub names_in : Text → List Text
names_in [] = [] ∷ []
names_in (c ∷ rest) = if c == 44 then [] ∷ names_in rest else with_first c (names_in rest)

-- where the first stored pass of this name stands
abbrev pub pass_named : List Text → Text → Option ℕ
pass_named stored name = position (λ s. bytes_eq s name) stored

-- where the stored passes of these names stand; none where one of them is not stored
abbrev pub passes_named : List Text → List Text → Option (List ℕ)
passes_named stored [] = Some []
passes_named stored (name ∷ names) =
    option_and_then (λ p. option_map (λ ps. p ∷ ps) (passes_named stored names)) (pass_named stored name)

-- the passes that a value of `--opt` names
abbrev pub passes_in : List Text → Option Text → Option (List ℕ)
passes_in stored None = Some []
passes_in stored (Some text) = passes_named stored (names_in text)

-- the command of this name, on the words after it
abbrev pub command_of : Text → List Text → Option Command
command_of name [] =
    if bytes_eq name (codes "c") then Some C
    else (if bytes_eq name (codes "check") then Some Check
    else None)
command_of name (word ∷ words) = None
