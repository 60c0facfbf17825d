-- The tokens behind the bytes of a word, and the tokens of a text.
use Rattle.std.proofs.Common.{◌≡◌, ℕ, Bool, true, false, cond, List, [], ◌∷◌, ◌++◌, refl, ap, ◌∙◌, append_assoc}
use Rattle.krml_forms.specs.Text.{Token, Open, Close, Word, Foreign, is_word, begins_word, join_word, symbol, cut}
use Rattle.krml_forms.specs.Cut.{after_word, tokens_after}

-- the bytes of a word before tokens: they go on in the first, where that is so
abbrev glue : List ℕ → Bool → List Token → List Token
glue [] goes_on ts = ts
glue (b ∷ w) true (Word v ∷ ts) = Word ((b ∷ w) ++ v) ∷ ts
glue (b ∷ w) _ ts = Word (b ∷ w) ∷ ts

-- one more byte of the word
glue_push : (w : List ℕ) (b : ℕ) (goes_on : Bool) (ts : List Token) → glue (w ++ b ∷ []) goes_on ts ≡ glue w true (join_word goes_on b ts)
glue_push [] b true (Word v ∷ ts) = refl
glue_push [] b true [] = refl
glue_push [] b true (Open ∷ ts) = refl
glue_push [] b true (Close ∷ ts) = refl
glue_push [] b true (Foreign ∷ ts) = refl
glue_push [] b false ts = refl
glue_push (c ∷ w) b true (Word v ∷ ts) = ap (λ u. Word (c ∷ u) ∷ ts) (append_assoc w (b ∷ []) v)
glue_push (c ∷ w) b true [] = refl
glue_push (c ∷ w) b true (Open ∷ ts) = refl
glue_push (c ∷ w) b true (Close ∷ ts) = refl
glue_push (c ∷ w) b true (Foreign ∷ ts) = refl
glue_push (c ∷ w) b false ts = refl

ends_word : (w : List ℕ) (ts : List Token) → after_word w ts ≡ glue w false ts
ends_word [] ts = refl
ends_word (b ∷ w) ts = refl

glued : (w bs : List ℕ) → tokens_after w bs ≡ glue w (begins_word bs) (cut bs)
glued w [] = ends_word w []
glued w (b ∷ bs) = next (is_word b) (glued (w ++ b ∷ []) bs) (glued [] bs)
  where
    next : (t : Bool) → tokens_after (w ++ b ∷ []) bs ≡ glue (w ++ b ∷ []) (begins_word bs) (cut bs) → tokens_after [] bs ≡ cut bs
        → cond t (tokens_after (w ++ b ∷ []) bs) (after_word w (symbol b (tokens_after [] bs))) ≡ glue w t (cond t (join_word (begins_word bs) b (cut bs)) (symbol b (cut bs)))
    next true goes_on ends = goes_on ∙ glue_push w b (begins_word bs) (cut bs)
    next false goes_on ends = ap (λ ts. after_word w (symbol b ts)) ends ∙ ends_word w (symbol b (cut bs))

-- a text without comments has the tokens that it is cut into
pub tokens_are_cut : (bs : List ℕ) → tokens_after [] bs ≡ cut bs
tokens_are_cut bs = glued [] bs
