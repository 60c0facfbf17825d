-- Lists with one item more.
use Prim.Native.Nat.{zero}
use Rattle.std.proofs.Math.Seq.{take-suc}
use Rattle.std.proofs.lemmas.List.{map-append}
use Rattle.std.proofs.Common.{◌≡◌, ℕ, suc, List, [], ◌∷◌, ◌++◌, length, take, map, get_or, ◌+◌, ◌<◌, arith, slice_get, Some, refl, sym, ap, ◌∙◌}

pub at_last : {A : Type 0} (xs : List A) (x : A) → slice_get (xs ++ x ∷ []) (length xs) ≡ Some x
at_last [] x = refl
at_last (y ∷ xs) x = at_last xs x

pub still : {A : Type 0} (xs ys : List A) (n : ℕ) (a : A) → slice_get xs n ≡ Some a → slice_get (xs ++ ys) n ≡ Some a
still [] ys n a e = absurd (cc)
still (x ∷ xs) ys zero a e = e
still (x ∷ xs) ys (suc n) a e = still xs ys n a e

pub data Before {A : Type 0} (xs : List A) (x : A) (n : ℕ) (a : A) : Type 0 where
  before : slice_get xs n ≡ Some a → Before xs x n a
  last : n ≡ length xs → a ≡ x → Before xs x n a

pub before_or_last : {A : Type 0} (xs : List A) (x : A) (n : ℕ) (a : A) → slice_get (xs ++ x ∷ []) n ≡ Some a → Before xs x n a
before_or_last [] x zero a e = last refl (cc)
before_or_last [] x (suc n) a e = absurd (cc)
before_or_last (y ∷ xs) x zero a e = before e
before_or_last (y ∷ xs) x (suc n) a e = go (before_or_last xs x n a e)
  where
    go : Before xs x n a → Before (y ∷ xs) x (suc n) a
    go (before h) = before h
    go (last m h) = last (ap suc m) h

pub cut_back : {A : Type 0} (xs ys : List A) → take (length xs) (xs ++ ys) ≡ xs
cut_back [] ys = refl
cut_back (x ∷ xs) ys = ap (λ zs. x ∷ zs) (cut_back xs ys)

pub cut_off : {A : Type 0} (xs more less : List A) (x : A) (n : ℕ) → n ≡ length xs → more ≡ xs ++ x ∷ [] → less ≡ take n more → less ≡ xs
cut_off xs more less x n long grown cut = cut ∙ ap (λ m. take m more) long ∙ ap (take (length xs)) grown ∙ cut_back xs (x ∷ [])

pub map_take_more : {A B : Type 0} (f : A → B) (xs : List A) (i : ℕ) (x : A) → i < length xs → x ≡ get_or xs i x → map f (take (i + 1) xs) ≡ map f (take i xs) ++ f x ∷ []
map_take_more f xs i x l is =
    let next : i + 1 ≡ suc i = omega arith in
    ap (λ n. map f (take n xs)) next ∙ ap (map f) (take-suc xs i x l) ∙ map-append f (take i xs) (get_or xs i x ∷ []) ∙ ap (λ y. map f (take i xs) ++ f y ∷ []) (sym is)
