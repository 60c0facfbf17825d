-- What a text is read as.
use Rattle.std.specs.Prelude.{ℕ, List}
use Rattle.krml_trace.specs.Limits.{max_levels}
use Rattle.krml_forms.specs.declared.read.Reading.{Reading}
use Rattle.krml_forms.specs.declared.read.Reading.TheVariants.{Forms, Syntax, Nesting}
use Rattle.krml_forms.specs.Text.{HasForms}
use Rattle.krml_forms.specs.Levels.{AllWithin}
use Rattle.krml_forms.specs.Faults.{IsFaultAt, IsDeepAt, HasNone, IsFirst}

-- Its forms, of 64 levels at most; or its first fault; or, where it has no fault, its first `(` of a 65th level.
abbrev pub HasReading : List ℕ → Reading → Type 0
HasReading text (Forms forms) = HasForms text forms × AllWithin max_levels forms
HasReading text (Syntax at) = IsFirst (IsFaultAt text) at
HasReading text (Nesting at) = IsFirst (IsDeepAt text) at × HasNone (IsFaultAt text)
