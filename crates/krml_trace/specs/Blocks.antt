-- Memory of numbered blocks, for any language: a list of blocks, each of which has the number of its place.
use Rattle.std.specs.Prelude.{ℕ, zero, suc, List, [], ◌∷◌}
use Rattle.krml_trace.specs.Run.{State}

-- the list with another element at a place that it has
abbrev pub update : {A : Type 0} → ℕ → A → List A → List A
update n a [] = []
update zero a (x ∷ xs) = a ∷ xs
update (suc n) a (x ∷ xs) = x ∷ update n a xs

-- block n is now this one
abbrev pub put_block : {E B : Type 0} → ℕ → B → State E (List B) → State E (List B)
put_block n b s = record s { memory = update n b s.memory }

-- the blocks from a number on end, each by what ends a block
abbrev pub close_from : {B : Type 0} → (B → B) → ℕ → List B → List B
close_from dead n [] = []
close_from dead zero (b ∷ m) = dead b ∷ close_from dead zero m
close_from dead (suc n) (b ∷ m) = b ∷ close_from dead n m

-- the state with these blocks closed
abbrev pub close_blocks : {E B : Type 0} → (B → B) → ℕ → State E (List B) → State E (List B)
close_blocks dead n s = record s { memory = close_from dead n s.memory }
