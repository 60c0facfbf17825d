-- What a `Cutter` still makes of the bytes to come.
use Rattle.std.specs.Prelude.{◌≡◌, ℕ, if◌then◌else◌, List, [], ◌∷◌, ◌++◌, Option, None, Result, Ok, Err}
use Rattle.std.specs.declared.alloc.AllocError.{AllocError}
use Rattle.krml_forms.specs.Text.{Token, Word, is_word, symbol, plain}
use Rattle.krml_forms.specs.declared.form.Form.{Form}
use Rattle.krml_forms.specs.declared.nest.Step.{Step}
use Rattle.krml_forms.specs.declared.nest.Step.TheVariants.{On, Fault, Deep}
use Rattle.krml_forms.specs.declared.cutter.Cutter.{Cutter}
use Rattle.krml_forms.specs.Nest.{nest, after}

-- the word so far stands before these tokens, unless it is empty
abbrev pub after_word : List ℕ → List Token → List Token
after_word [] ts = ts
after_word (b ∷ w) ts = Word (b ∷ w) ∷ ts

-- the tokens of a text without comments, behind the bytes of a word
abbrev pub tokens_after : List ℕ → List ℕ → List Token
tokens_after word [] = after_word word []
tokens_after word (b ∷ bs) = if is_word b then tokens_after (word ++ b ∷ []) bs else after_word word (symbol b (tokens_after [] bs))

abbrev pub forms_of_plain : List ℕ → Option (List Form)
forms_of_plain bytes = nest [] [] (tokens_after [] bytes)

abbrev pub forms_of : List ℕ → Option (List Form)
forms_of text = forms_of_plain (plain text)

abbrev pub reading : Cutter → List ℕ → Option (List Form)
reading c bytes = after c.nest (tokens_after c.word bytes)

-- What a call that was given a byte answered, and left.
abbrev pub Reads : Cutter → ℕ → Result Step AllocError → Cutter → Type 0
Reads old b (Ok On) new = (bs : List ℕ) → reading old (b ∷ bs) ≡ reading new bs
Reads old b (Ok Fault) new = (bs : List ℕ) → reading old (b ∷ bs) ≡ None
Reads old b (Ok Deep) new = (bs : List ℕ) → reading old (b ∷ bs) ≡ None
Reads old b (Err e) new = Unit {0}

abbrev pub Ends : Cutter → Result (Unit {0}) AllocError → Cutter → Type 0
Ends old (Ok u) new = ((ts : List Token) → after old.nest (after_word old.word ts) ≡ after new.nest ts) × (new.word ≡ [])
Ends old (Err e) new = Unit {0}

-- the same of a byte that is of no word
abbrev pub Symbol : Cutter → ℕ → Result Step AllocError → Cutter → Type 0
Symbol old b (Ok On) new = (bs : List ℕ) → after old.nest (symbol b (tokens_after [] bs)) ≡ reading new bs
Symbol old b (Ok Fault) new = (bs : List ℕ) → after old.nest (symbol b (tokens_after [] bs)) ≡ None
Symbol old b (Ok Deep) new = (bs : List ℕ) → after old.nest (symbol b (tokens_after [] bs)) ≡ None
Symbol old b (Err e) new = Unit {0}
