-- The faults of a text, by place. Places count bytes from 0.
use Rattle.std.specs.Prelude.{◌≡◌, ℕ, ◌+◌, ◌<◌, ◌≤◌, Bool, false, ◌||◌, ◌==◌, List, length, take, slice_index, count_by}
use Rattle.krml_trace.specs.Byte.{is_white}
use Rattle.krml_forms.specs.Text.{is_word, plain}

-- white space, parentheses, letters, digits, `_` and `'`
abbrev pub is_alphabet : ℕ → Bool
is_alphabet b = is_word b || is_white b || b == 40 || b == 41

-- how many `(` stand before a place, and how many `)`
abbrev pub opened : List ℕ → ℕ → ℕ
opened bytes at = count_by (λ b. b == 40) (take at bytes)

abbrev pub closed : List ℕ → ℕ → ℕ
closed bytes at = count_by (λ b. b == 41) (take at bytes)

-- In a text without comments, a byte outside the alphabet, a `)` where no list is open, or the end where one is.
pub data Fault (bytes : List ℕ) (at : ℕ) : Type 0 where
  foreign : at < length bytes → is_alphabet (slice_index bytes at) ≡ false → Fault bytes at
  closes_nothing : at < length bytes → slice_index bytes at ≡ 41 → opened bytes at ≤ closed bytes at → Fault bytes at
  stays_open : at ≡ length bytes → closed bytes at < opened bytes at → Fault bytes at

-- in a text without comments, a `(` where 64 lists or more are open
abbrev pub Deep : List ℕ → ℕ → Type 0
Deep bytes at = (at < length bytes) × (slice_index bytes at ≡ 40) × (closed bytes at + 64 ≤ opened bytes at)

-- The same of a text whose comments are blanked.
abbrev pub IsFaultAt : List ℕ → ℕ → Type 0
IsFaultAt text at = Fault (plain text) at

abbrev pub IsDeepAt : List ℕ → ℕ → Type 0
IsDeepAt text at = Deep (plain text) at

abbrev pub HasNone : (ℕ → Type 0) → Type 0
HasNone P = (at : ℕ) → P at → ⊥

-- P holds at a place, and at no smaller one
abbrev pub IsFirst : (ℕ → Type 0) → ℕ → Type 0
IsFirst P at = P at × ((k : ℕ) → k < at → P k → ⊥)
