-- Scopes that grow and are cut back, and the places of their variables.
use Prim.Native.Nat.{zero}
use Rattle.std.proofs.Common.{◌≡◌, ℕ, suc, ◌-◌, Bool, true, false, if◌then◌else◌, List, [], ◌∷◌, ◌++◌, map, length, take, drop, reverse, slice_get, Option, Some, None, option_map, is_some, IfSome, get_or, Bor, refl, sym, ap, ◌∙◌, arith}
use Rattle.std.specs.Str.{bytes_eq}
use Rattle.std.proofs.Math.Dec.{ltb}
use Rattle.std.proofs.lemmas.List.{length-append, length-reverse, drop_at, take-map, reverse-append}
use Rattle.std.proofs.lemmas.Option.{slice_get-map}
use Rattle.krml_ast.proofs.Scopes.{kept}
use Rattle.krml_ast.proofs.Firsts.{got}
use Rattle.krml_intern.specs.Scope as places
use Rattle.krml_intern.proofs.Lasts.{at_last, still}
use Rattle.krml_cstar.specs.declared.locals.Local.{Local}
use Rattle.krml_cstar.specs.Variables.{KnownVars, Known, look}
use Rattle.krml_cstar.specs.Scopes.{known, cut, placed}

-- what is kept of the images of a list, the last first
pub kept_images : {A B : Type 0} (f : A → B) (n : ℕ) (xs : List A) → reverse (map f (take n xs)) ≡ drop (length (reverse (map f xs)) - n) (reverse (map f xs))
kept_images f n xs = ap reverse (sym (take-map f n xs)) ∙ kept n (map f xs)

-- newer variables are cut off
pub cut_off : (more names : KnownVars) → cut (length names) (more ++ names) ≡ names
cut_off more names =
    let k_is : length more ≡ length (more ++ names) - length names = let sum = length-append more names in omega (arith, sum) in
    drop_at more names (length (more ++ names) - length names) k_is

-- ---- places

length-placed : (names : KnownVars) → length (placed names) ≡ length names
length-placed [] = refl
length-placed (k ∷ names) = ap suc (length-placed names)

drop-placed : (n : ℕ) (names : KnownVars) → drop n (placed names) ≡ placed (drop n names)
drop-placed zero names = refl
drop-placed (suc n) [] = refl
drop-placed (suc n) (k ∷ names) = drop-placed n names

-- what is left of the places is that of the variables left
cut_places : (n : ℕ) (names : KnownVars) → places.cut n (placed names) ≡ placed (cut n names)
cut_places n names = ap (λ m. drop (m - n) (placed names)) (length-placed names) ∙ drop-placed (length names - n) names

pub places_kept : (items : List Local) (n : ℕ) → places.cut n (placed (reverse (map known items))) ≡ placed (reverse (map known (take n items)))
places_kept items n = cut_places n (reverse (map known items)) ∙ ap placed (sym (kept_images known n items))

-- a name with no place is that of no variable
pub no_place : (names : KnownVars) (x : List ℕ) → places.look (placed names) x ≡ None → look names x ≡ None
no_place [] x e = refl
no_place (k ∷ names) x e = go (bytes_eq k.name x) (no_place names x) e
  where
    go : (b : Bool) → (places.look (placed names) x ≡ None → look names x ≡ None)
        → (if b then Some (length names) else places.look (placed names) x) ≡ None → (if b then Some k else look names x) ≡ None
    go true older e = absurd (cc)
    go false older e = older e

-- the newest of a name stands at its place
data Stands (names : KnownVars) (x : List ℕ) (n : ℕ) : Type 0 where
  stands : (k : Known) → slice_get (reverse names) n ≡ Some k → look names x ≡ Some k → Stands names x n

found : (names : KnownVars) (x : List ℕ) (n : ℕ) → places.look (placed names) x ≡ Some n → Stands names x n
found [] x n e = absurd (cc)
found (k ∷ names) x n e = go (found names x n) (bytes_eq k.name x) refl e
  where
    back : reverse (k ∷ names) ≡ reverse names ++ k ∷ []
    back = reverse-append (k ∷ []) names

    on : bytes_eq k.name x ≡ false → Stands names x n → Stands (k ∷ names) x n
    on other (stands l at is) = stands l (ap (λ ls. slice_get ls n) back ∙ still (reverse names) (k ∷ []) n l at) (ap (λ b. if b then Some k else look names x) other ∙ is)

    go : (places.look (placed names) x ≡ Some n → Stands names x n) → (b : Bool) → bytes_eq k.name x ≡ b
        → (if b then Some (length names) else places.look (placed names) x) ≡ Some n → Stands (k ∷ names) x n
    go older true is e =
        let here : n ≡ length (reverse names) = let l = length-reverse names in cc in
        stands k (ap (λ ls. slice_get ls n) back ∙ ap (slice_get (reverse names ++ k ∷ [])) here ∙ at_last (reverse names) k) (ap (λ b. if b then Some k else look names x) is)
    go older false is e = on is (older e)

placed_at : (names : KnownVars) (x : List ℕ) (n : ℕ) → Stands names x n → look names x ≡ slice_get (reverse names) n
placed_at names x n (stands k at is) = is ∙ sym at

pub look_at : (names : KnownVars) (x : List ℕ) (n : ℕ) → places.look (placed names) x ≡ Some n → look names x ≡ slice_get (reverse names) n
look_at names x n e = placed_at names x n (found names x n e)

-- what `get` gives of variables
pub got_known : (o : Option (Bor Local)) (items : List Local) (n : ℕ) → is_some o ≡ ltb n (length items) → IfSome o (λ l. l.now ≡ get_or items n l.now)
    → option_map (λ l. known l.now) o ≡ slice_get (map known items) n
got_known o items n there is = at o (got o items n there is)
  where
    at : (o : Option (Bor Local)) → option_map (λ l. l.now) o ≡ slice_get items n → option_map (λ l. known l.now) o ≡ slice_get (map known items) n
    at None e = ap (option_map known) e ∙ sym (slice_get-map known items n)
    at (Some l) e = ap (option_map known) e ∙ sym (slice_get-map known items n)
