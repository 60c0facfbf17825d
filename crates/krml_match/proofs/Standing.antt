-- Where the struct or the sum of a name stands in a file.
use Rattle.std.proofs.Common.{◌≡◌, ℕ, zero, suc, ◌<◌, Bool, true, false, ◌||◌, if◌then◌else◌, List, [], ◌∷◌, take, slice_get, Option, Some, None, is_some, option_map, bytes_eq, refl, ap, ◌∙◌, arith}
use Rattle.std.specs.Option.{option_or}
use Rattle.std.proofs.lemmas.Option.{same_Some}
use Rattle.krml_trace.specs.First.{first}
use Rattle.krml_trace.proofs.First.{answers, place_next}
use Rattle.krml_syntax.specs.declared.tree.Def.{Def}
use Rattle.krml_syntax.specs.declared.tree.Def.TheVariants as d
use Rattle.krml_ast.specs.declared.kind.NameKind.TheVariants as k
use Rattle.krml_ast.specs.Names.{Composite, Struct, Sum, type_here, type_named}
use Rattle.krml_ast.specs.WellTyped.{type_name}
use Rattle.krml_ast.specs.Places.{is_among, place_in, place_of}
use Rattle.krml_ast.specs.Leaves.{composite_of}
use Rattle.krml_ast.proofs.Named.{is_struct, is_sum}

-- ---- lists

-- what stands among the first items stands in the list
pub got_front : {A : Type 0} (xs : List A) (n j : ℕ) (a : A) → slice_get (take n xs) j ≡ Some a → (j < n) × (slice_get xs j ≡ Some a)
got_front [] zero j a e = absurd (cc)
got_front [] (suc n) j a e = absurd (cc)
got_front (x ∷ xs) zero j a e = absurd (cc)
got_front (x ∷ xs) (suc n) zero a e = (omega arith, e)
got_front (x ∷ xs) (suc n) (suc j) a e = let h = got_front xs n j a e in (let l = h.0 in omega (arith, l), h.1)

-- an answer of the first items is one of the list
pub first_front : {A X : Type 0} (give : A → Option X) (xs : List A) (n : ℕ) (v : X) → first give (take n xs) ≡ Some v
    → first give xs ≡ Some v
first_front give [] zero v e = absurd (cc)
first_front give [] (suc n) v e = absurd (cc)
first_front give (a ∷ xs) zero v e = absurd (cc)
first_front {X = X} give (a ∷ xs) (suc n) v e = go (give a) e (first_front give xs n v)
  where
    go : (o : Option X) → option_or o (first give (take n xs)) ≡ Some v
        → (first give (take n xs) ≡ Some v → first give xs ≡ Some v) → option_or o (first give xs) ≡ Some v
    go (Some w) q later = q
    go None q later = later q

-- ---- names

-- what a definition defines is what its name means
is_composite : (x : List ℕ) (c : Composite) (def : Def) → type_here x def ≡ Some c → composite_of def ≡ Some c
is_composite x (Struct vars fields) def e = ap composite_of (is_struct x vars fields def e)
is_composite x (Sum vars cons) def e = ap composite_of (is_sum x vars cons def e)

-- a definition that gives the name defines what it means
given_here : (x : List ℕ) (def : Def) → is_among (type_name def) x ≡ is_some (type_here x def)
given_here x (d.Struct name vars fields) = go (bytes_eq name x)
  where
    go : (b : Bool) → (b || false) ≡ is_some (if b then Some (Struct vars fields) else None)
    go true = refl
    go false = refl
given_here x (d.Sum name vars cons) = go (bytes_eq name x)
  where
    go : (b : Bool) → (b || false) ≡ is_some (if b then Some (Sum vars cons) else None)
    go true = refl
    go false = refl
given_here x (d.Table name ty nums) = refl
given_here x (d.Fun name vars params result body) = refl
given_here x (d.Entry name) = refl

-- the place of the first definition that has the name
place_found : (x : List ℕ) (c : Composite) (defs : List Def) (n j : ℕ) (def : Def) → first (type_here x) (take j (take n defs)) ≡ None
    → slice_get (take n defs) j ≡ Some def → type_here x def ≡ Some c → place_in type_name defs x ≡ Some j
place_found x c [] zero j def none there is = absurd (cc)
place_found x c [] (suc n) j def none there is = absurd (cc)
place_found x c (one ∷ defs) zero j def none there is = absurd (cc)
place_found x c (one ∷ defs) (suc n) zero def none there is =
    place_next (λ def. is_among (type_name def) x) one defs
    ∙ ap (λ b. if b then Some 0 else option_map suc (place_in type_name defs x))
    (given_here x one ∙ ap is_some (ap (type_here x) (same_Some one def there) ∙ is))
place_found x c (one ∷ defs) (suc n) (suc j) def none there is =
    go (type_here x one) refl none (λ more. place_found x c defs n j def more there is)
  where
    go : (o : Option Composite) → type_here x one ≡ o → option_or o (first (type_here x) (take j (take n defs))) ≡ None
        → (first (type_here x) (take j (take n defs)) ≡ None → place_in type_name defs x ≡ Some j)
        → place_in type_name (one ∷ defs) x ≡ Some (suc j)
    go (Some v) q e later = absurd (cc)
    go None q e later =
        place_next (λ def. is_among (type_name def) x) one defs
        ∙ ap (λ b. if b then Some 0 else option_map suc (place_in type_name defs x)) (given_here x one ∙ ap is_some q)
        ∙ ap (option_map suc) (later e)

-- What a name means among the first n definitions of a file: the definition stands there, and is what the name means in the file.
pub record Standing (defs : List Def) (n : ℕ) (x : List ℕ) (c : Composite) : Type 0 where
  pub place : ℕ
  pub def : Def
  pub early : place < n
  pub front : slice_get (take n defs) place ≡ Some def
  pub there : slice_get defs place ≡ Some def
  pub is : composite_of def ≡ Some c
  pub found : place_of k.Type defs x ≡ Some place
  pub named : type_named defs x ≡ Some c

pub standing : (defs : List Def) (n : ℕ) (x : List ℕ) (c : Composite) → type_named (take n defs) x ≡ Some c → Standing defs n x c
standing defs n x c e =
    let a = answers (type_here x) (take n defs) c e in
    let got = got_front defs n a.place a.item a.there in
    record {
      place = a.place;
      def = a.item;
      early = got.0;
      front = a.there;
      there = got.1;
      is = is_composite x c a.item a.gives;
      found = place_found x c defs n a.place a.item a.earlier a.there a.gives;
      named = first_front (type_here x) defs n c e;
    }
