-- A text as tokens, and the tokens of forms.
use Rattle.std.specs.Prelude.{◌≡◌, ℕ, Bool, true, false, not, ◌||◌, if◌then◌else◌, ◌==◌, List, [], ◌∷◌, ◌++◌}
use Rattle.std.specs.List.{flat_map}
use Rattle.krml_trace.specs.Byte.{is_white, is_name_byte}
use Rattle.krml_forms.specs.declared.form.Form.{Form}
use Rattle.krml_forms.specs.declared.form.Form.TheOpen.{Form-F}
use Rattle.krml_forms.specs.declared.form.Form.TheFolds.{fold-Form}

pub data Token : Type 0 where
  Open : Token
  Close : Token
  Word : List ℕ → Token
  -- a byte outside the alphabet
  Foreign : Token

-- letters, digits, `_` and `'`
abbrev pub is_word : ℕ → Bool
is_word b = is_name_byte b || b == 39

-- whether a comment goes on behind a byte: it begins at a `;` and ends at an LF
abbrev pub comment_after : Bool → ℕ → Bool
comment_after true b = not (b == 10)
comment_after false b = b == 59

abbrev pub plain_byte : Bool → ℕ → ℕ
plain_byte true b = if b == 10 then 10 else 32
plain_byte false b = if b == 59 then 32 else b

abbrev pub plain_in : Bool → List ℕ → List ℕ
plain_in in_comment [] = []
plain_in in_comment (b ∷ bs) = plain_byte in_comment b ∷ plain_in (comment_after in_comment b) bs

-- The text with each byte of a comment as a space.
abbrev pub plain : List ℕ → List ℕ
plain text = plain_in false text

abbrev pub begins_word : List ℕ → Bool
begins_word [] = false
begins_word (b ∷ bs) = is_word b

-- A word is a longest run: a byte of a word stands in the word that goes on behind it, or is a word of its own.
abbrev pub join_word : Bool → ℕ → List Token → List Token
join_word true b (Word w ∷ ts) = Word (b ∷ w) ∷ ts
join_word _ b ts = Word (b ∷ []) ∷ ts

-- A byte that is of no word.
abbrev pub symbol : ℕ → List Token → List Token
symbol b ts = if b == 40 then Open ∷ ts else (if b == 41 then Close ∷ ts else (if is_white b then ts else Foreign ∷ ts))

-- The tokens of a text without comments.
abbrev pub cut : List ℕ → List Token
cut [] = []
cut (b ∷ bs) = if is_word b then join_word (begins_word bs) b (cut bs) else symbol b (cut bs)

abbrev pub tokens : List ℕ → List Token
tokens text = cut (plain text)

-- An atom is a word, a list its forms between parentheses.
abbrev pub level_tokens : Form-F (List Token) → List Token
level_tokens (Form-F.Atom w) = Word w ∷ []
level_tokens (Form-F.List fs) = Open ∷ flat_map (λ ts. ts) fs ++ Close ∷ []

abbrev pub form_tokens : Form → List Token
form_tokens = fold-Form (List Token) level_tokens

-- The text has these forms, with comments and white space between.
abbrev pub HasForms : List ℕ → List Form → Type 0
HasForms text forms = tokens text ≡ flat_map form_tokens forms
