-- The first definitions that give names, and their places.
use Rattle.std.proofs.Common.{◌≡◌, ℕ, suc, ◌+◌, ◌<◌, Bool, true, false, ◌||◌, if◌then◌else◌, List, [], ◌∷◌, ◌++◌, length, take, get_or, slice_get, Option, Some, None, IfSome, option_map, is_some, Bor, refl, sym, ap, ◌∙◌, arith}
use Rattle.std.specs.Map.{update}
use Rattle.std.specs.Str.{bytes_eq}
use Rattle.std.proofs.Math.Dec.{ltb}
use Rattle.std.proofs.Math.Seq.{take-suc}
use Rattle.std.proofs.lemmas.Bool.{ltb-true, ltb-false}
use Rattle.std.proofs.lemmas.List.{length-take-le}
use Rattle.std.proofs.lemmas.Option.{slice_get-get_or, slice_get_past}
use Rattle.std.proofs.lemmas.Slice.Eq.{bytes_eq-Decides}
use Rattle.std.specs.Option.{option_or}
use Rattle.krml_trace.specs.First.{first}
use Rattle.krml_trace.proofs.First.{Alike, or_none, first_alike, alike_then, alike_is, place_next, place_stands}
use Rattle.krml_syntax.specs.declared.tree.Ty.{Ty}
use Rattle.krml_syntax.specs.declared.tree.Field.{Field}
use Rattle.krml_syntax.specs.declared.tree.Con.{Con}
use Rattle.krml_syntax.specs.declared.tree.Def.{Def}
use Rattle.krml_syntax.specs.declared.tree.Def.TheVariants as d
use Rattle.krml_syntax.specs.Read.{◌>>=◌}
use Rattle.krml_ast.specs.Names.{Composite, Struct, Sum, type_here, type_named, struct_of, struct_named, sum_of, sum_named, vars_of, vars_named, con_in, con_from, con_here, con_named, table_here, table_named, fun_here, fun_named}
use Rattle.krml_ast.specs.WellTyped.{type_name, con_names, table_name, fun_name}
use Rattle.krml_ast.specs.declared.kind.NameKind.{NameKind}
use Rattle.krml_ast.specs.declared.kind.NameKind.TheVariants as k
use Rattle.krml_ast.specs.Places.{is_among, cons_of, names_in, place_in, place_of, def_here, first_in, first_of, place_or, vars_at, struct_at, sum_at, table_at, fun_at}

-- ---- what stands at a place

stands : (names : Def → List (List ℕ)) (defs : List Def) (x : List ℕ) → (place_in names defs x >>= slice_get defs) ≡ first_in names defs x
stands names defs x = place_stands (λ def. is_among (names def) x) defs

-- what `get` of a slice gives
pub got : {A : Type 0} (o : Option (Bor A)) (xs : List A) (j : ℕ) → is_some o ≡ ltb j (length xs) → IfSome o (λ x. x.now ≡ get_or xs j x.now)
    → option_map (λ x. x.now) o ≡ slice_get xs j
got (Some x) xs j there is = ap Some is ∙ sym (slice_get-get_or xs j x.now (ltb-true j (length xs) (sym there)))
got None xs j there is = sym (slice_get_past xs j (omega (arith, ltb-false j (length xs) (sym there))))

-- where a name has a place, its first definition stands there
pub first_at : (kind : NameKind) (defs : List Def) (x : List ℕ) (j : ℕ) → place_of kind defs x ≡ Some j → first_of kind defs x ≡ slice_get defs j
first_at kind defs x j e = sym (stands (names_in kind) defs x) ∙ ap (λ o. o >>= slice_get defs) e

pub no_first : (kind : NameKind) (defs : List Def) (x : List ℕ) → place_of kind defs x ≡ None → first_of kind defs x ≡ None
no_first kind defs x e = sym (stands (names_in kind) defs x) ∙ ap (λ o. o >>= slice_get defs) e

-- ---- names by the first definitions that give them

-- what a definition gives is alike where it has the name
module _ {A : Type 0} (R : A → Def → Type 0) where
  where_named : (b : Bool) (a : A) (def : Def) → R a def → Alike R (if b then Some a else None) (if (b || false) then Some def else None)
  where_named true a def r = r
  where_named false a def r = tt

-- a law of a name's struct or sum, by what is made of it
module _ {A : Type 0} (of : Composite → Option A) (at : Def → Option A) (struct : (name : List ℕ) (vars : List (List ℕ)) (fields : List Field) → of (Struct vars fields) ≡ at (d.Struct name vars fields))
    (sum : (name : List ℕ) (vars : List (List ℕ)) (cons : List Con) → of (Sum vars cons) ≡ at (d.Sum name vars cons)) where
  abbrev SameType : Composite → Def → Type 0
  SameType c def = of c ≡ at def

  type_alike : (x : List ℕ) (def : Def) → Alike SameType (type_here x def) (def_here type_name x def)
  type_alike x (d.Struct name vars fields) = where_named SameType (bytes_eq name x) (Struct vars fields) (d.Struct name vars fields) (struct name vars fields)
  type_alike x (d.Sum name vars cons) = where_named SameType (bytes_eq name x) (Sum vars cons) (d.Sum name vars cons) (sum name vars cons)
  type_alike x (d.Table name ty nums) = tt
  type_alike x (d.Fun name vars params result body) = tt
  type_alike x (d.Entry name) = tt

  type_first : (defs : List Def) (x : List ℕ) → (type_named defs x >>= of) ≡ (first_of k.Type defs x >>= at)
  type_first defs x = alike_then of at (type_named defs x) (first_of k.Type defs x) (first_alike SameType (type_here x) (def_here type_name x) (type_alike x) defs)

pub struct_first : (defs : List Def) (x : List ℕ) → struct_named defs x ≡ (first_of k.Type defs x >>= struct_at)
struct_first = type_first struct_of struct_at (λ name vars fields. refl) (λ name vars cons. refl)

pub sum_first : (defs : List Def) (x : List ℕ) → sum_named defs x ≡ (first_of k.Type defs x >>= sum_at)
sum_first = type_first sum_of sum_at (λ name vars fields. refl) (λ name vars cons. refl)

mapped : {A B : Type 0} (f : A → B) (o : Option A) → option_map f o ≡ (o >>= λ a. Some (f a))
mapped f (Some a) = refl
mapped f None = refl

pub vars_first : (defs : List Def) (x : List ℕ) → vars_named defs x ≡ (first_of k.Type defs x >>= vars_at)
vars_first defs x = mapped vars_of (type_named defs x) ∙ type_first (λ c. Some (vars_of c)) vars_at (λ name vars fields. refl) (λ name vars cons. refl) defs x

-- a law of the other kinds
module _ {A : Type 0} (names : Def → List (List ℕ)) (here : List ℕ → Def → Option A) (at : List ℕ → Def → Option A)
    (alike : (x : List ℕ) (def : Def) → Alike (λ a def. Some a ≡ at x def) (here x def) (def_here names x def)) where
  by_first : (defs : List Def) (x : List ℕ) → first (here x) defs ≡ (first_in names defs x >>= at x)
  by_first defs x = alike_is (at x) (first (here x) defs) (first_in names defs x) (first_alike (λ a def. Some a ≡ at x def) (here x) (def_here names x) (alike x) defs)

-- a constructor is found where its name is given
con_there : (cons : List Con) (x : List ℕ) → is_among (cons_of cons) x ≡ is_some (con_in cons x)
con_there [] x = refl
con_there (c ∷ cons) x = go (bytes_eq c.name x) (con_there cons x)
  where
    go : (b : Bool) → is_among (cons_of cons) x ≡ is_some (con_in cons x) → (b || is_among (cons_of cons) x) ≡ is_some (option_or (if b then Some c.args else None) (con_in cons x))
    go true later = refl
    go false later = later

con_alike : (x : List ℕ) (def : Def) → Alike (λ c def. Some c ≡ con_here x def) (con_here x def) (def_here con_names x def)
con_alike x (d.Sum name vars cons) = go (con_in cons x) refl (is_among (cons_of cons) x) (con_there cons x)
  where
    go : (o : Option (List Ty)) → con_in cons x ≡ o → (b : Bool) → b ≡ is_some (con_in cons x)
        → Alike (λ c def. Some c ≡ con_here x def) (option_map (con_from name vars) o) (if b then Some (d.Sum name vars cons) else None)
    go (Some args) is true e = sym (ap (option_map (con_from name vars)) is)
    go (Some args) is false e = let bad : false ≡ true = e ∙ ap is_some is in absurd (cc)
    go None is true e = let bad : true ≡ false = e ∙ ap is_some is in absurd (cc)
    go None is false e = tt
con_alike x (d.Struct name vars fields) = tt
con_alike x (d.Table name ty nums) = tt
con_alike x (d.Fun name vars params result body) = tt
con_alike x (d.Entry name) = tt

pub con_first : (defs : List Def) (x : List ℕ) → con_named defs x ≡ (first_of k.Con defs x >>= con_here x)
con_first = by_first con_names con_here con_here con_alike

table_alike : (x : List ℕ) (def : Def) → Alike (λ i def. Some i ≡ table_at def) (table_here x def) (def_here table_name x def)
table_alike x (d.Table name ty nums) = where_named (λ i def. Some i ≡ table_at def) (bytes_eq name x) ty (d.Table name ty nums) refl
table_alike x (d.Struct name vars fields) = tt
table_alike x (d.Sum name vars cons) = tt
table_alike x (d.Fun name vars params result body) = tt
table_alike x (d.Entry name) = tt

pub table_first : (defs : List Def) (x : List ℕ) → table_named defs x ≡ (first_of k.Table defs x >>= table_at)
table_first = by_first table_name table_here (λ x. table_at) table_alike

fun_alike : (x : List ℕ) (def : Def) → Alike (λ f def. Some f ≡ fun_at def) (fun_here x def) (def_here fun_name x def)
fun_alike x (d.Fun name vars params result body) =
    where_named (λ f def. Some f ≡ fun_at def) (bytes_eq name x) (record { vars = vars; params = params; result = result }) (d.Fun name vars params result body) refl
fun_alike x (d.Struct name vars fields) = tt
fun_alike x (d.Sum name vars cons) = tt
fun_alike x (d.Table name ty nums) = tt
fun_alike x (d.Entry name) = tt

pub fun_first : (defs : List Def) (x : List ℕ) → fun_named defs x ≡ (first_of k.Fun defs x >>= fun_at)
fun_first = by_first fun_name fun_here (λ x. fun_at) fun_alike

-- ---- one definition more

pub nothing_more : (o : Option ℕ) (j : ℕ) → place_or o false j ≡ o
nothing_more (Some i) j = refl
nothing_more None j = refl

one_later : (o : Option ℕ) (b : Bool) (j : ℕ) → option_map suc (place_or o b j) ≡ place_or (option_map suc o) b (suc j)
one_later (Some i) b j = refl
one_later None true j = refl
one_later None false j = refl

place_last : (names : Def → List (List ℕ)) (before : List Def) (def : Def) (x : List ℕ)
    → place_in names (before ++ def ∷ []) x ≡ place_or (place_in names before x) (is_among (names def) x) (length before)
place_last names [] def x = or_none (if is_among (names def) x then Some 0 else None)
place_last names (other ∷ before) def x =
    place_next has other (before ++ def ∷ []) ∙ go (has other) (ap (option_map suc) (place_last names before def x) ∙ one_later (place_in names before x) (has def) (length before))
    ∙ ap (λ o. place_or o (has def) (suc (length before))) (sym (place_next has other before))
  where
    has : Def → Bool
    has def = is_among (names def) x

    go : (c : Bool) → option_map suc (place_in names (before ++ def ∷ []) x) ≡ place_or (option_map suc (place_in names before x)) (has def) (suc (length before))
        → (if c then Some 0 else option_map suc (place_in names (before ++ def ∷ []) x)) ≡ place_or (if c then Some 0 else option_map suc (place_in names before x)) (has def) (suc (length before))
    go true later = refl
    go false later = later

-- places in one definition more
pub place_more : (kind : NameKind) (defs : List Def) (i : ℕ) (def : Def) (x : List ℕ) → i < length defs → def ≡ get_or defs i def
    → place_of kind (take (i + 1) defs) x ≡ place_or (place_of kind (take i defs) x) (is_among (names_in kind def) x) i
place_more kind defs i def x l is =
    let next : i + 1 ≡ suc i = omega arith in
    let cut : take (i + 1) defs ≡ take i defs ++ def ∷ [] = ap (λ n. take n defs) next ∙ take-suc defs i def l ∙ ap (λ z. take i defs ++ z ∷ []) (sym is) in
    let long : length (take i defs) ≡ i = length-take-le i defs (omega (arith, l)) in
    ap (λ z. place_of kind z x) cut ∙ place_last (names_in kind) (take i defs) def x ∙ ap (place_or (place_of kind (take i defs) x) (is_among (names_in kind def) x)) long

-- a name that was not there is put at a place
pub put_new : (old new : List ℕ → Option ℕ) (name : List ℕ) (j : ℕ) → old name ≡ None → ((x : List ℕ) → new x ≡ update bytes_eq old name (Some j) x)
    → (x : List ℕ) → new x ≡ place_or (old x) (is_among (name ∷ []) x) j
put_new old new name j absent put x = put x ∙ go (bytes_eq name x) ((bytes_eq-Decides name x).0)
  where
    go : (b : Bool) → (b ≡ true → name ≡ x) → (if b then Some j else old x) ≡ place_or (old x) (b || false) j
    go true same = let none : old x ≡ None = ap old (sym (same refl)) ∙ absent in sym (ap (λ o. place_or o true j) none)
    go false same = sym (nothing_more (old x) j)
