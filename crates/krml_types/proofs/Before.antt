-- What names mean among the first definitions of a file, by the places of the names.
use Rattle.std.proofs.Common.{◌≡◌, ℕ, zero, suc, nat_lt, Bool, true, false, ◌&&◌, ◌||◌, ◌==◌, if◌then◌else◌, List, [], ◌∷◌, length, take, Option, Some, None, option_map, refl, sym, ap, ◌∙◌, arith}
use Rattle.std.specs.Option.{option_or}
use Rattle.std.specs.Str.{bytes_eq}
use Rattle.std.proofs.lemmas.Bool.{ltb-true, ltb-false, lt-ltb, le-ltb}
use Rattle.krml_trace.proofs.First.{place_next}
use Rattle.krml_syntax.specs.declared.tree.Def.{Def}
use Rattle.krml_syntax.specs.declared.tree.Def.TheVariants as d
use Rattle.krml_ast.specs.Names.{Composite, Struct, Sum, type_named, vars_of, vars_named}
use Rattle.krml_ast.specs.WellTyped.{type_name}
use Rattle.krml_ast.specs.declared.kind.NameKind.{NameKind}
use Rattle.krml_ast.specs.Places.{is_among, names_in, place_in, place_of}
use Rattle.krml_types.specs.Types.{takes}
use Rattle.krml_types.specs.Definitions.{is_given}

-- whether a place is before another
abbrev pub is_before : Option ℕ → ℕ → Bool
is_before (Some j) i = nat_lt j i
is_before None i = false

lt_more : (j i : ℕ) → nat_lt (suc j) (suc i) ≡ nat_lt j i
lt_more j i = go (nat_lt j i) refl
  where
    go : (b : Bool) → nat_lt j i ≡ b → nat_lt (suc j) (suc i) ≡ b
    go true e = let l = ltb-true j i e in lt-ltb (suc j) (suc i) (omega (arith, l))
    go false e = let l = ltb-false j i e in le-ltb (suc j) (suc i) (omega (arith, l))

one_more : (o : Option ℕ) (i : ℕ) → is_before (option_map suc o) (suc i) ≡ is_before o i
one_more (Some j) i = lt_more j i
one_more None i = refl

none_before : (o : Option ℕ) → is_before o 0 ≡ false
none_before (Some j) = le-ltb j 0 (omega arith)
none_before None = refl

given_in : (names : Def → List (List ℕ)) (defs : List Def) (i : ℕ) (x : List ℕ) → is_given names (take i defs) x ≡ is_before (place_in names defs x) i
given_in names [] zero x = refl
given_in names [] (suc i) x = refl
given_in names (def ∷ defs) zero x = sym (none_before (place_in names (def ∷ defs) x))
given_in names (def ∷ defs) (suc i) x =
    go (is_among (names def) x) (given_in names defs i x ∙ sym (one_more (place_in names defs x) i)) ∙ ap (λ o. is_before o (suc i)) (sym (place_next (λ def. is_among (names def) x) def defs))
  where
    go : (b : Bool) → is_given names (take i defs) x ≡ is_before (option_map suc (place_in names defs x)) (suc i)
        → (b || is_given names (take i defs) x) ≡ is_before (if b then Some 0 else option_map suc (place_in names defs x)) (suc i)
    go true later = sym (lt-ltb 0 (suc i) (omega arith))
    go false later = later

-- a name is given before a place where its first place is
pub given_before : (kind : NameKind) (defs : List Def) (i : ℕ) (x : List ℕ) → is_given (names_in kind) (take i defs) x ≡ is_before (place_of kind defs x) i
given_before kind = given_in (names_in kind)

-- a name means before a place what it means in the file, where it is given before
named_before : (defs : List Def) (i : ℕ) (x : List ℕ) → type_named (take i defs) x ≡ (if is_given type_name (take i defs) x then type_named defs x else None)
named_before [] zero x = refl
named_before [] (suc i) x = refl
named_before (def ∷ defs) zero x = refl
named_before (d.Struct name vars fields ∷ defs) (suc i) x = go (bytes_eq name x) (named_before defs i x)
  where
    go : (b : Bool) → type_named (take i defs) x ≡ (if is_given type_name (take i defs) x then type_named defs x else None)
        → (option_or (if b then Some (Struct vars fields) else None) (type_named (take i defs) x))
        ≡ (if ((b || false) || is_given type_name (take i defs) x) then (option_or (if b then Some (Struct vars fields) else None) (type_named defs x)) else None)
    go true later = refl
    go false later = later
named_before (d.Sum name vars cons ∷ defs) (suc i) x = go (bytes_eq name x) (named_before defs i x)
  where
    go : (b : Bool) → type_named (take i defs) x ≡ (if is_given type_name (take i defs) x then type_named defs x else None)
        → (option_or (if b then Some (Sum vars cons) else None) (type_named (take i defs) x))
        ≡ (if ((b || false) || is_given type_name (take i defs) x) then (option_or (if b then Some (Sum vars cons) else None) (type_named defs x)) else None)
    go true later = refl
    go false later = later
named_before (d.Table name ty nums ∷ defs) (suc i) x = named_before defs i x
named_before (d.Fun name vars params result body ∷ defs) (suc i) x = named_before defs i x
named_before (d.Entry name ∷ defs) (suc i) x = named_before defs i x

abbrev pub are_many : Option (List (List ℕ)) → ℕ → Bool
are_many (Some vars) n = n == length vars
are_many None n = false

by_vars : (o : Option Composite) (n : ℕ) → takes o n ≡ are_many (option_map vars_of o) n
by_vars (Some c) n = refl
by_vars None n = refl

pub takes_before : (defs : List Def) (i : ℕ) (x : List ℕ) (n : ℕ) → takes (type_named (take i defs) x) n ≡ (is_given type_name (take i defs) x && are_many (vars_named defs x) n)
takes_before defs i x n = ap (λ o. takes o n) (named_before defs i x) ∙ go (is_given type_name (take i defs) x)
  where
    go : (b : Bool) → takes (if b then type_named defs x else None) n ≡ (b && are_many (vars_named defs x) n)
    go true = by_vars (type_named defs x) n
    go false = refl
