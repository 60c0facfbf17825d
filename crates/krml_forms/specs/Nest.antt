-- Tokens as forms, one token after another.
use Rattle.std.specs.Prelude.{◌≡◌, if◌then◌else◌, nat_lt, List, [], ◌∷◌, ◌++◌, length, reverse, Option, Some, None, Result, Ok, Err}
use Rattle.std.specs.declared.alloc.AllocError.{AllocError}
use Rattle.krml_trace.specs.Limits.{max_levels}
use Rattle.krml_forms.specs.Text.{Token, Open, Close, Word, Foreign}
use Rattle.krml_forms.specs.declared.form.Form.{Form}
use Rattle.krml_forms.specs.declared.form.Form.TheVariants.{Atom, List as Node}
use Rattle.krml_forms.specs.declared.nest.Step.{Step}
use Rattle.krml_forms.specs.declared.nest.Step.TheVariants.{On, Fault, Deep}
use Rattle.krml_forms.specs.declared.nest.Nest.{Nest}

-- The forms of a text, where `outer` has what stands before each open list, the innermost first, `inner` what stands
-- in the innermost, and the tokens follow.
abbrev pub nest : List (List Form) → List Form → List Token → Option (List Form)
nest [] inner [] = Some inner
nest (up ∷ outer) inner [] = None
nest outer inner (Word w ∷ ts) = nest outer (inner ++ Atom w ∷ []) ts
nest outer inner (Open ∷ ts) = if nat_lt (length outer) max_levels then nest (inner ∷ outer) [] ts else None
nest [] inner (Close ∷ ts) = None
nest (up ∷ outer) inner (Close ∷ ts) = nest outer (up ++ Node inner ∷ []) ts
nest outer inner (Foreign ∷ ts) = None

abbrev pub after : Nest → List Token → Option (List Form)
after n ts = nest (reverse n.outer.items) n.inner ts

-- What a call that was given these tokens answered, and left.
abbrev pub Takes : Nest → List Token → Result Step AllocError → Nest → Type 0
Takes old taken (Ok On) new = (ts : List Token) → after old (taken ++ ts) ≡ after new ts
Takes old taken (Ok Fault) new = (ts : List Token) → after old (taken ++ ts) ≡ None
Takes old taken (Ok Deep) new = (ts : List Token) → after old (taken ++ ts) ≡ None
Takes old taken (Err e) new = Unit {0}
