-- From what clap finds to what is asked for.
use Rattle.std.proofs.Common.{◌≡◌, ℕ, Bool, true, false, List, [], ◌∷◌, Option, Some, None, codes, refl, cond, ◌==◌, option_map, is_some, sym, true≢false, Bor}
use Rattle.clap.specs.Words.{Row, Text, all_of, first_of}
use Rattle.krml_command.specs.Values.{bound, command_of, depth, names_in, pages, passes_named, setting, with_first}
use Rattle.krml_command.specs.Request.{command_in, is_traced, settings_by, settings_in}

-- a name with words after it, and one with none
pub with_rest : (rows : List Row) (name : Text) (words : List Text) → Some name ≡ first_of (codes "COMMAND") rows → Some words ≡ all_of (codes "REST") rows
    → command_of name words ≡ command_in rows
with_rest rows name words n w = rw (← n, ← w) refl

pub without_rest : (rows : List Row) (name : Text) → Some name ≡ first_of (codes "COMMAND") rows → None ≡ all_of (codes "REST") rows
    → command_of name [] ≡ command_in rows
without_rest rows name n w = rw (← n, ← w) refl

-- where no pass is stored, no text names passes: it has one name or more
none_named : (c : ℕ) (names : List Text) → passes_named [] names ≡ None → passes_named [] (with_first c names) ≡ None
none_named c [] e = e
none_named c (name ∷ names) e = refl

none_stored : (text : Text) → passes_named [] (names_in text) ≡ None
none_stored [] = refl
none_stored (c ∷ rest) = go (c == 44) (none_stored rest)
  where
    go : (b : Bool) → passes_named [] (names_in rest) ≡ None → passes_named [] (cond b ([] ∷ names_in rest) (with_first c (names_in rest))) ≡ None
    go true e = refl
    go false e = none_named c (names_in rest) e

-- so no settings have a value of `--opt`
none_chosen : (rows : List Row) (text : Text) → Some text ≡ first_of (codes "opt") rows → None ≡ settings_in [] rows
none_chosen rows text given = rw (← given, none_stored text) (go (setting pages (first_of (codes "pages") rows)) (setting bound (first_of (codes "bound") rows)) (setting depth (first_of (codes "depth") rows)))
  where
    go : (p b d : Option ℕ) → None ≡ settings_by p b d (is_traced rows) None
    go None b d = refl
    go (Some n) None d = refl
    go (Some n) (Some t) None = refl
    go (Some n) (Some t) (Some k) = refl

pub no_settings : (rows : List Row) (value : Option (Bor Text)) → is_some value ≡ true → option_map (λ s. s.now) value ≡ first_of (codes "opt") rows → None ≡ settings_in [] rows
no_settings rows None t e = absurd (true≢false (sym t))
no_settings rows (Some text) t e = none_chosen rows text.now e
