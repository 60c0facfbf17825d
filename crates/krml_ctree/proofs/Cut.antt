-- What is laid out is cut into its tokens.
use Rattle.std.proofs.Common.{◌≡◌, ℕ, zero, suc, Bool, true, false, ◌&&◌, ◌||◌, ◌==◌, List, [], ◌∷◌, ◌++◌, replicate, refl, sym, ap, ◌∙◌, subst, append_assoc, arith}
use Rattle.std.proofs.lemmas.Bool.Decides.{nat_tests}
use Rattle.std.specs.List.{list_all}
use Rattle.krml_trace.specs.Byte.{is_white, is_name_byte}
use Rattle.krml_ctree.specs.Tokens.{is_pair, tokens}

-- The bytes behind a piece: any; none that goes on a run; a space.
abbrev pub Any : List ℕ → Type 0
Any rest = Unit {0}

abbrev pub NoRun : List ℕ → Type 0
NoRun [] = Unit {0}
NoRun (c ∷ cs) = is_name_byte c ≡ false

abbrev pub Spaced : List ℕ → Type 0
Spaced [] = ⊥
Spaced (c ∷ cs) = c ≡ 32

-- The text is cut into these tokens, whatever stands behind it that is as `Behind` says.
pub record Cuts (Behind : List ℕ → Type 0) (text : List ℕ) (ts : List (List ℕ)) : Type 0 where
  -- what the bytes are cut into
  pub cut : (rest : List ℕ) → Behind rest → tokens (text ++ rest) ≡ ts ++ tokens rest

-- nothing is no token
pub nothing : Cuts Any [] []
nothing = record { cut = λ rest h. refl }

-- one piece behind another
pub both : {P Q : List ℕ → Type 0} {a b : List ℕ} {s t : List (List ℕ)} → Cuts P a s → Cuts Q b t → ((rest : List ℕ) → Q rest → P (b ++ rest)) → Cuts Q (a ++ b) (s ++ t)
both {a = a} {b = b} {s = s} {t = t} x y next = record {
  cut = λ rest h.
      ap tokens (append_assoc a b rest) ∙ x.cut (b ++ rest) (next rest h) ∙ ap (λ us. s ++ us) (y.cut rest h) ∙ sym (append_assoc s t (tokens rest));
}

-- a piece behind which anything may stand
pub before : {Q : List ℕ → Type 0} {a b : List ℕ} {s t : List (List ℕ)} → Cuts Any a s → Cuts Q b t → Cuts Q (a ++ b) (s ++ t)
before x y = both x y (λ rest h. tt)

-- less may stand behind a piece than it can bear
pub weaker : {P : List ℕ → Type 0} {a : List ℕ} {s : List (List ℕ)} → Cuts Any a s → Cuts P a s
weaker x = record { cut = λ rest h. x.cut rest tt }

-- a test and one that fails
and_false : (x : Bool) → (x && false) ≡ false
and_false true = refl
and_false false = refl

-- a byte that is in no pair begins none with any byte behind it
unpaired : (b c : ℕ) → (b == 60 || b == 62 || b == 61) ≡ false → (b == 33 || b == 60 || b == 62) ≡ false → is_pair b c ≡ false
unpaired b c h k = rw (h, k, and_false (b == c), and_false (c == 61)) refl

-- a byte that stands in no run and begins no pair
pub record IsAlone (b : ℕ) : Type 0 where
  pub no_run : is_name_byte b ≡ false
  pub no_twin : (b == 60 || b == 62 || b == 61) ≡ false
  pub no_head : (b == 33 || b == 60 || b == 62) ≡ false

-- such a byte is a token, where it is no white space
pub symbol : (b : ℕ) → IsAlone b → is_white b ≡ false → Cuts Any (b ∷ []) ((b ∷ []) ∷ [])
symbol b k w = record { cut = λ rest h. at rest }
  where
    at : (rest : List ℕ) → tokens (b ∷ rest) ≡ (b ∷ []) ∷ tokens rest
    at [] = rw w refl
    at (c ∷ cs) = rw (k.no_run, unpaired b c k.no_twin k.no_head, w) refl

-- white space is no token
pub white : (b : ℕ) → IsAlone b → is_white b ≡ true → Cuts Any (b ∷ []) []
white b k w = record { cut = λ rest h. at rest }
  where
    at : (rest : List ℕ) → tokens (b ∷ rest) ≡ tokens rest
    at [] = rw w refl
    at (c ∷ cs) = rw (k.no_run, unpaired b c k.no_twin k.no_head, w) refl

-- `(`
pub open_paren : Cuts Any (40 ∷ []) ((40 ∷ []) ∷ [])
open_paren = symbol 40 (record { no_run = refl; no_twin = refl; no_head = refl }) refl

-- `)`
pub close_paren : Cuts Any (41 ∷ []) ((41 ∷ []) ∷ [])
close_paren = symbol 41 (record { no_run = refl; no_twin = refl; no_head = refl }) refl

-- `{`
pub open_brace : Cuts Any (123 ∷ []) ((123 ∷ []) ∷ [])
open_brace = symbol 123 (record { no_run = refl; no_twin = refl; no_head = refl }) refl

-- `}`
pub close_brace : Cuts Any (125 ∷ []) ((125 ∷ []) ∷ [])
close_brace = symbol 125 (record { no_run = refl; no_twin = refl; no_head = refl }) refl

-- `,`
pub comma : Cuts Any (44 ∷ []) ((44 ∷ []) ∷ [])
comma = symbol 44 (record { no_run = refl; no_twin = refl; no_head = refl }) refl

-- `;`
pub semicolon : Cuts Any (59 ∷ []) ((59 ∷ []) ∷ [])
semicolon = symbol 59 (record { no_run = refl; no_twin = refl; no_head = refl }) refl

-- `[`
pub open_bracket : Cuts Any (91 ∷ []) ((91 ∷ []) ∷ [])
open_bracket = symbol 91 (record { no_run = refl; no_twin = refl; no_head = refl }) refl

-- `]`
pub close_bracket : Cuts Any (93 ∷ []) ((93 ∷ []) ∷ [])
close_bracket = symbol 93 (record { no_run = refl; no_twin = refl; no_head = refl }) refl

-- `*`
pub star : Cuts Any (42 ∷ []) ((42 ∷ []) ∷ [])
star = symbol 42 (record { no_run = refl; no_twin = refl; no_head = refl }) refl

-- `.`
pub dot : Cuts Any (46 ∷ []) ((46 ∷ []) ∷ [])
dot = symbol 46 (record { no_run = refl; no_twin = refl; no_head = refl }) refl

-- a space
pub space : Cuts Any (32 ∷ []) []
space = white 32 (record { no_run = refl; no_twin = refl; no_head = refl }) refl

-- the end of a line
pub line_feed : Cuts Any (10 ∷ []) []
line_feed = white 10 (record { no_run = refl; no_twin = refl; no_head = refl }) refl

-- many spaces
pub spaces : (n : ℕ) → Cuts Any (replicate n 32) []
spaces zero = nothing
spaces (suc n) = before space (spaces n)

-- a symbol before a space: each is one token
pub before_space : (w : List ℕ) → ((cs : List ℕ) → tokens (w ++ 32 ∷ cs) ≡ w ∷ tokens (32 ∷ cs)) → Cuts Spaced w (w ∷ [])
before_space w h = record { cut = λ rest k. at rest k }
  where
    at : (rest : List ℕ) → Spaced rest → tokens (w ++ rest) ≡ w ∷ tokens rest
    at [] k = absurd k
    at (c ∷ cs) k = subst (λ x. tokens (w ++ x ∷ cs) ≡ w ∷ tokens (x ∷ cs)) (sym k) (h cs)

-- a byte of a run is no white space
run_byte : (b : ℕ) → is_name_byte b ≡ true → is_white b ≡ false
run_byte b h = grind (arith, nat_tests)

-- a nonempty run of name bytes
abbrev pub IsRun : List ℕ → Type 0
IsRun [] = ⊥
IsRun (b ∷ w) = list_all is_name_byte (b ∷ w) ≡ true

-- both halves of a test hold
pub halves : (x y : Bool) → (x && y) ≡ true → (x ≡ true) × (y ≡ true)
halves true y q = (refl, q)
halves false y q = absurd (cc)

-- is one token, where no run goes on behind it
pub run : (w : List ℕ) → IsRun w → Cuts NoRun w (w ∷ [])
run w h = record { cut = λ rest k. at w rest h k }
  where
    ends : (b : ℕ) (rest : List ℕ) → is_name_byte b ≡ true → NoRun rest → tokens (b ∷ rest) ≡ (b ∷ []) ∷ tokens rest
    ends b [] n k = rw (run_byte b n) refl
    ends b (c ∷ cs) n k = rw (n, k) refl

    at : (v rest : List ℕ) → IsRun v → NoRun rest → tokens (v ++ rest) ≡ v ∷ tokens rest
    at [] rest r k = absurd r
    at (b ∷ []) rest r k = ends b rest (halves (is_name_byte b) true r).0 k
    at (b ∷ c ∷ v) rest r k =
        let p = halves (is_name_byte b) (list_all is_name_byte (c ∷ v)) r in
        let q = halves (is_name_byte c) (list_all is_name_byte v) p.1 in
        rw (p.0, q.0, at (c ∷ v) rest p.1 k) refl
