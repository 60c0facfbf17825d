-- The structs that are set in the end are those that hold buffers.
use Rattle.std.proofs.Common.{◌≡◌, ℕ, zero, suc, ◌+◌, ◌-◌, ◌<◌, ◌≤◌, Bool, true, false, ◌||◌, if◌then◌else◌, List, [], ◌∷◌, ◌++◌, map, length, slice_get, drop, ◌⊎◌, inl, inr, Option, Some, None, option_map, refl, sym, ap, ◌∙◌, subst, arith, append_assoc}
use Rattle.std.specs.Option.{option_or}
use Rattle.std.specs.Bool.{Decides}
use Rattle.std.specs.List.{Contains}
use Rattle.std.specs.Str.{bytes_eq}
use Rattle.std.proofs.lemmas.Bool.{and_parts}
use Rattle.std.proofs.lemmas.List.{length-map, length_push}
use Rattle.krml_trace.proofs.First.{place_next}
use Rattle.krml_trace.proofs.Lists.{contains_first, contains_later}
use Rattle.krml_syntax.specs.declared.tree.Ty.{Ty, out-Ty, roll-Ty, roll-out-Ty}
use Rattle.krml_syntax.specs.declared.tree.Ty.TheOpen.{Ty-F}
use Rattle.krml_syntax.specs.declared.tree.Ty.TheVariants as t
use Rattle.krml_syntax.specs.declared.tree.Field.{Field}
use Rattle.krml_syntax.specs.declared.tree.Def.{Def}
use Rattle.krml_syntax.specs.declared.tree.Def.TheVariants as d
use Rattle.krml_syntax.specs.Read.{◌>>=◌}
use Rattle.krml_ast.specs.Names.{Struct, Sum, type_named, struct_of, struct_named}
use Rattle.krml_ast.specs.IsType.{HoldsBuffer}
use Rattle.krml_ast.specs.declared.kind.NameKind.TheVariants as k
use Rattle.krml_ast.specs.WellTyped.{type_name}
use Rattle.krml_ast.specs.Places.{is_among, place_of}
use Rattle.krml_types.specs.declared.part.Part.{Part}
use Rattle.krml_types.specs.declared.part.Part.TheVariants as part
use Rattle.krml_types.specs.Holds.{is_set, holds_in, holds_by, any_holds, def_holds, set_more, struct_place, at_place, part_in, parts_of, parts_in, or_false, part_holds, any_part, round, rounds, same_bool, same_table, none_set, holders, swept}

-- ---- rounds come to an end

abbrev count : List Bool → ℕ
count [] = 0
count (true ∷ table) = suc (count table)
count (false ∷ table) = count table

count_fits : (table : List Bool) → count table ≤ length table
count_fits [] = omega arith
count_fits (true ∷ table) = let h = count_fits table in omega (arith, h)
count_fits (false ∷ table) = let h = count_fits table in omega (arith, h)

length_more : (test : Def → Bool) (defs : List Def) (table : List Bool) → length table ≡ length defs → length (set_more test defs table) ≡ length defs
length_more test [] [] q = refl
length_more test (def ∷ defs) (b ∷ table) q = ap suc (length_more test defs table (omega (arith, q)))
length_more test [] (b ∷ table) q = absurd (omega (arith, q))
length_more test (def ∷ defs) [] q = absurd (omega (arith, q))

count_more : (test : Def → Bool) (defs : List Def) (table : List Bool) → length table ≡ length defs → count table ≤ count (set_more test defs table)
count_more test [] [] q = omega arith
count_more test (def ∷ defs) (true ∷ table) q = let h = count_more test defs table (omega (arith, q)) in omega (arith, h)
count_more test (def ∷ defs) (false ∷ table) q = go (test def) (count_more test defs table (omega (arith, q)))
  where
    go : (b : Bool) → count table ≤ count (set_more test defs table) → count table ≤ count (b ∷ set_more test defs table)
    go true h = omega (arith, h)
    go false h = h
count_more test [] (b ∷ table) q = absurd (omega (arith, q))
count_more test (def ∷ defs) [] q = absurd (omega (arith, q))

-- a round sets one, or none
grows : (test : Def → Bool) (defs : List Def) (table : List Bool) → length table ≡ length defs
    → (set_more test defs table ≡ table) ⊎ (count table < count (set_more test defs table))
grows test [] [] q = inl refl
grows test (def ∷ defs) (true ∷ table) q = go (grows test defs table (omega (arith, q)))
  where
    go : (set_more test defs table ≡ table) ⊎ (count table < count (set_more test defs table))
        → ((true ∷ set_more test defs table) ≡ true ∷ table) ⊎ (suc (count table) < suc (count (set_more test defs table)))
    go (inl e) = inl (ap (λ z. true ∷ z) e)
    go (inr l) = inr (omega (arith, l))
grows test (def ∷ defs) (false ∷ table) q = go (test def) (grows test defs table (omega (arith, q)))
  where
    go : (b : Bool) → (set_more test defs table ≡ table) ⊎ (count table < count (set_more test defs table))
        → ((b ∷ set_more test defs table) ≡ false ∷ table) ⊎ (count table < count (b ∷ set_more test defs table))
    go true h = inr (let l = count_more test defs table (omega (arith, q)) in omega (arith, l))
    go false (inl e) = inl (ap (λ z. false ∷ z) e)
    go false (inr l) = inr l
grows test [] (b ∷ table) q = absurd (omega (arith, q))
grows test (def ∷ defs) [] q = absurd (omega (arith, q))

-- where a round sets none, no later one does
pub stays : (n : ℕ) (defs : List Def) (table : List Bool) → round defs table ≡ table → rounds n defs table ≡ table
stays zero defs table e = refl
stays (suc n) defs table e = ap (rounds n defs) e ∙ stays n defs table e

pub bool_same : (b : Bool) → same_bool b b ≡ true
bool_same true = refl
bool_same false = refl

pub bool_is : (b c : Bool) → same_bool b c ≡ true → b ≡ c
bool_is true true h = refl
bool_is false false h = refl
bool_is true false h = cc
bool_is false true h = cc

pub table_is : (table other : List Bool) → same_table table other ≡ true → table ≡ other
table_is [] [] h = refl
table_is (b ∷ table) (c ∷ other) h =
    let both = and_parts (same_bool b c) (same_table table other) h in
    ap (λ z. z ∷ table) (bool_is b c both.0) ∙ ap (λ z. c ∷ z) (table_is table other both.1)
table_is [] (b ∷ other) h = absurd (cc)
table_is (b ∷ table) [] h = absurd (cc)

-- a table that is longer than another is not the same
pub longer : (i : ℕ) (table other : List Bool) → i < length table → length other < 1 → same_table (drop i table) other ≡ false
longer i [] other l e = absurd (omega (arith, l))
longer zero (b ∷ table) [] l e = refl
longer (suc i) (b ∷ table) [] l e = longer i table [] (omega (arith, l)) e
longer i (b ∷ table) (c ∷ other) l e = absurd (omega (arith, e))

pub one_less : (n : ℕ) (defs : List Def) (table : List Bool) → 0 < n → rounds n defs table ≡ rounds (n - 1) defs (round defs table)
one_less zero defs table l = absurd (omega (arith, l))
one_less (suc n) defs table l = let e : suc n - 1 ≡ n = omega arith in rw e refl

settles : (n : ℕ) (defs : List Def) (table : List Bool) → length table ≡ length defs → length defs ≤ count table + n
    → round defs (rounds n defs table) ≡ rounds n defs table
settles zero defs table q le = go (grows (def_holds defs table) defs table q)
  where
    go : (round defs table ≡ table) ⊎ (count table < count (round defs table)) → round defs table ≡ table
    go (inl e) = e
    go (inr l) = absurd (
        let f = count_fits (round defs table) in
        let m = length_more (def_holds defs table) defs table q in
        omega (arith, f, m, l, le))
settles (suc n) defs table q le = go (grows (def_holds defs table) defs table q) (settles n defs (round defs table) (length_more (def_holds defs table) defs table q))
  where
    go : (round defs table ≡ table) ⊎ (count table < count (round defs table))
        → (length defs ≤ count (round defs table) + n → round defs (rounds n defs (round defs table)) ≡ rounds n defs (round defs table))
        → round defs (rounds n defs (round defs table)) ≡ rounds n defs (round defs table)
    go (inl e) later =
        let last : rounds n defs (round defs table) ≡ table = ap (rounds n defs) e ∙ stays n defs table e in
        ap (round defs) last ∙ e ∙ sym last
    go (inr l) later = later (omega (arith, l, le))

length_none : (defs : List Def) → length (none_set defs) ≡ length defs
length_none [] = refl
length_none (def ∷ defs) = ap suc (length_none defs)

length_rounds : (n : ℕ) (defs : List Def) (table : List Bool) → length table ≡ length defs → length (rounds n defs table) ≡ length defs
length_rounds zero defs table q = q
length_rounds (suc n) defs table q = length_rounds n defs (round defs table) (length_more (def_holds defs table) defs table q)

closed : (defs : List Def) → round defs (holders defs) ≡ holders defs
unfolding holders
closed defs = settles (length defs) defs (none_set defs) (length_none defs) (omega arith)

length_holders : (defs : List Def) → length (holders defs) ≡ length defs
unfolding holders
length_holders defs = length_rounds (length defs) defs (none_set defs) (length_none defs)

-- ---- each that is set holds a buffer

pub either : (b c : Bool) → (b || c) ≡ true → (b ≡ true) ⊎ (c ≡ true)
either true c h = inl refl
either false c h = inr h

no_table : (def : Def) (ds : List Def) (x : List ℕ) → is_set (def ∷ ds) [] x ≡ false
no_table (d.Struct name vars fields) ds x = refl
no_table (d.Sum name vars cons) ds x = refl
no_table (d.Table name ty nums) ds x = refl
no_table (d.Fun name vars params result body) ds x = refl
no_table (d.Entry name) ds x = refl

-- ---- rounds by places

-- a place in one definition more
on_one : (b : Bool) (table : List Bool) (o : Option ℕ) → part_holds (b ∷ table) (at_place (option_map suc o)) ≡ part_holds table (at_place o)
on_one b table (Some j) = refl
on_one b table None = refl

no_more : (o : Option ℕ) → part_holds [] (at_place o) ≡ false
no_more (Some j) = refl
no_more None = refl

one_later : {A : Type 0} (o : Option A) (p : Option ℕ) → option_map suc (o >>= λ a. p) ≡ (o >>= λ a. option_map suc p)
one_later (Some a) p = refl
one_later None p = refl

-- the place of a struct is the first place of its name
pub struct_place_is : (defs : List Def) (x : List ℕ) → struct_place defs x ≡ (struct_named defs x >>= λ s. place_of k.Type defs x)
struct_place_is [] x = refl
struct_place_is (def ∷ defs) x =
    by_def def (ap (option_map suc) (struct_place_is defs x) ∙ one_later (struct_named defs x) (place_of k.Type defs x))
    ∙ ap (λ o. struct_named (def ∷ defs) x >>= λ s. o) (sym (place_next (λ def. is_among (type_name def) x) def defs))
  where
    by_def : (def : Def) → option_map suc (struct_place defs x) ≡ (struct_named defs x >>= λ s. option_map suc (place_of k.Type defs x))
        → struct_place (def ∷ defs) x ≡ (struct_named (def ∷ defs) x >>= λ s. if is_among (type_name def) x then Some 0 else option_map suc (place_of k.Type defs x))
    by_def (d.Struct name vars fields) later = go (bytes_eq name x)
      where
        go : (c : Bool) → (if c then Some 0 else option_map suc (struct_place defs x))
            ≡ (((option_or (if c then Some (Struct vars fields) else None) (type_named defs x)) >>= struct_of) >>= λ s. if (c || false) then Some 0 else option_map suc (place_of k.Type defs x))
        go true = refl
        go false = later
    by_def (d.Sum name vars cons) later = go (bytes_eq name x)
      where
        go : (c : Bool) → (if c then None else option_map suc (struct_place defs x))
            ≡ (((option_or (if c then Some (Sum vars cons) else None) (type_named defs x)) >>= struct_of) >>= λ s. if (c || false) then Some 0 else option_map suc (place_of k.Type defs x))
        go true = refl
        go false = later
    by_def (d.Table name ty nums) later = later
    by_def (d.Fun name vars params result body) later = later
    by_def (d.Entry name) later = later

-- what is set at a name's place is what is set by its name
abbrev AtPlace : List Def → List Bool → List ℕ → Type 0
AtPlace defs table x = part_holds table (at_place (struct_place defs x)) ≡ is_set defs table x

pub place_is : (defs : List Def) (table : List Bool) (x : List ℕ) → AtPlace defs table x
place_is [] table x = refl
place_is (def ∷ defs) [] x = no_more (struct_place (def ∷ defs) x) ∙ sym (no_table def defs x)
place_is (d.Struct name vars fields ∷ defs) (b ∷ table) x = go (bytes_eq name x) (on_one b table (struct_place defs x) ∙ place_is defs table x)
  where
    go : (c : Bool) → part_holds (b ∷ table) (at_place (option_map suc (struct_place defs x))) ≡ is_set defs table x
        → part_holds (b ∷ table) (at_place (if c then Some 0 else option_map suc (struct_place defs x))) ≡ (if c then b else is_set defs table x)
    go true later = refl
    go false later = later
place_is (d.Sum name vars cons ∷ defs) (b ∷ table) x = go (bytes_eq name x) (on_one b table (struct_place defs x) ∙ place_is defs table x)
  where
    go : (c : Bool) → part_holds (b ∷ table) (at_place (option_map suc (struct_place defs x))) ≡ is_set defs table x
        → part_holds (b ∷ table) (at_place (if c then None else option_map suc (struct_place defs x))) ≡ (if c then false else is_set defs table x)
    go true later = refl
    go false later = later
place_is (d.Table name ty nums ∷ defs) (b ∷ table) x = on_one b table (struct_place defs x) ∙ place_is defs table x
place_is (d.Fun name vars params result body ∷ defs) (b ∷ table) x = on_one b table (struct_place defs x) ∙ place_is defs table x
place_is (d.Entry name ∷ defs) (b ∷ table) x = on_one b table (struct_place defs x) ∙ place_is defs table x

pub part_is : (defs : List Def) (table : List Bool) (o : Ty-F Ty) → part_holds table (part_in defs o) ≡ holds_in defs table o
part_is defs table (Ty-F.Buf a) = refl
part_is defs table (Ty-F.Named x args) = place_is defs table x
part_is defs table Ty-F.Bool = refl
part_is defs table Ty-F.Unit = refl
part_is defs table (Ty-F.Int i) = refl
part_is defs table (Ty-F.Var x) = refl

any_is : (defs : List Def) (table : List Bool) (fields : List Field) → any_part table (parts_of defs fields) ≡ any_holds defs table fields
any_is defs table [] = refl
any_is defs table (f ∷ fields) = rw (part_is defs table (out-Ty f.ty), any_is defs table fields) refl

def_is : (defs : List Def) (table : List Bool) (def : Def) → any_part table (parts_in defs def) ≡ def_holds defs table def
def_is defs table (d.Struct name vars fields) = any_is defs table fields
def_is defs table (d.Sum name vars cons) = refl
def_is defs table (d.Table name ty nums) = refl
def_is defs table (d.Fun name vars params result body) = refl
def_is defs table (d.Entry name) = refl

more_is : (defs : List Def) (table : List Bool) (ds : List Def) (ts : List Bool)
    → set_more (any_part table) (map (parts_in defs) ds) ts ≡ set_more (def_holds defs table) ds ts
more_is defs table [] ts = refl
more_is defs table (def ∷ ds) [] = refl
more_is defs table (def ∷ ds) (b ∷ ts) = rw (def_is defs table def, more_is defs table ds ts) refl

pub round_is : (defs : List Def) (table : List Bool) → set_more (any_part table) (map (parts_in defs) defs) table ≡ round defs table
round_is defs table = more_is defs table defs table

-- ---- what is set from the first to the last is set in the end

-- whether the table is set at a place
abbrev set_at : List Bool → ℕ → Bool
set_at table k = or_false (slice_get table k)

-- what is set in one table is set in the other
abbrev Within : List Bool → List Bool → Type 0
Within table other = (k : ℕ) → set_at table k ≡ true → set_at other k ≡ true

part_within : (table other : List Bool) → Within table other → (p : Part) → part_holds table p ≡ true → part_holds other p ≡ true
part_within table other w part.Buffer h = refl
part_within table other w (part.At k) h = w k h
part_within table other w part.Nothing h = h

or_first : (b c : Bool) → b ≡ true → (b || c) ≡ true
or_first true c h = refl
or_first false c h = cc

or_second : (b c : Bool) → c ≡ true → (b || c) ≡ true
or_second true c h = refl
or_second false c h = h

any_within : (table other : List Bool) → Within table other → (parts : List Part) → any_part table parts ≡ true → any_part other parts ≡ true
any_within table other w [] h = h
any_within table other w (p ∷ parts) h = go (either (part_holds table p) (any_part table parts) h) (any_within table other w parts)
  where
    go : (part_holds table p ≡ true) ⊎ (any_part table parts ≡ true) → (any_part table parts ≡ true → any_part other parts ≡ true) → (part_holds other p || any_part other parts) ≡ true
    go (inl k) later = or_first (part_holds other p) (any_part other parts) (part_within table other w p k)
    go (inr k) later = or_second (part_holds other p) (any_part other parts) (later k)

-- more is set from more
more_within : (f g : List Part → Bool) (all : List (List Part)) (table other : List Bool) → length all ≡ length other → ((parts : List Part) → f parts ≡ true → g parts ≡ true)
    → Within table other → Within (set_more f all table) (set_more g all other)
more_within f g [] table other q fg w k h = h
more_within f g (parts ∷ all) [] other q fg w k h = absurd (cc)
more_within f g (parts ∷ all) (b ∷ table) [] q fg w k h = absurd (omega (arith, q))
more_within f g (parts ∷ all) (b ∷ table) (c ∷ other) q fg w zero h = go (either b (f parts) h)
  where
    go : (b ≡ true) ⊎ (f parts ≡ true) → (c || g parts) ≡ true
    go (inl k) = or_first c (g parts) (w 0 k)
    go (inr k) = or_second c (g parts) (fg parts k)
more_within f g (parts ∷ all) (b ∷ table) (c ∷ other) q fg w (suc k) h = more_within f g all table other (omega (arith, q)) fg (λ j. w (suc j)) k h

round_within : (defs : List Def) (table other : List Bool) → length other ≡ length defs → Within table other → Within (round defs table) (round defs other)
round_within defs table other q w =
    let m = more_within (any_part table) (any_part other) (map (parts_in defs) defs) table other (length-map defs (parts_in defs) ∙ sym q) (any_within table other w) w in
    subst (λ z. Within z (round defs other)) (round_is defs table) (subst (λ z. Within (set_more (any_part table) (map (parts_in defs) defs) table) z) (round_is defs other) m)

rounds_within : (n : ℕ) (defs : List Def) (table other : List Bool) → length other ≡ length defs → Within table other → Within (rounds n defs table) (rounds n defs other)
rounds_within zero defs table other q w = w
rounds_within (suc n) defs table other q w = rounds_within n defs (round defs table) (round defs other) (length_more (def_holds defs other) defs other q) (round_within defs table other q w)

same_set : (table other : List Bool) → length table ≡ length other → Within table other → Within other table → table ≡ other
same_set [] [] q w v = refl
same_set [] (c ∷ other) q w v = absurd (omega (arith, q))
same_set (b ∷ table) [] q w v = absurd (omega (arith, q))
same_set (b ∷ table) (c ∷ other) q w v =
    ap (λ z. z ∷ table) (go b c (w 0) (v 0)) ∙ ap (λ z. c ∷ z) (same_set table other (omega (arith, q)) (λ k. w (suc k)) (λ k. v (suc k)))
  where
    go : (b c : Bool) → (b ≡ true → c ≡ true) → (c ≡ true → b ≡ true) → b ≡ c
    go true c h k = sym (h refl)
    go false true h k = k refl
    go false false h k = refl

none_within : (defs : List Def) (table : List Bool) → Within (none_set defs) table
none_within [] table k h = absurd (cc)
none_within (def ∷ defs) table zero h = absurd (cc)
none_within (def ∷ defs) [] (suc k) h = none_within defs [] k h
none_within (def ∷ defs) (b ∷ table) (suc k) h = none_within defs table k h

length_swept : (all : List (List Part)) (table : List Bool) → length (swept all table) ≡ length table + length all
length_swept [] table = omega arith
length_swept (parts ∷ all) table =
    let h = length_swept all (table ++ any_part table parts ∷ []) in
    let m = length_push table (any_part table parts) in
    omega (arith, h, m)

set_front : (done rest : List Bool) (k : ℕ) → set_at done k ≡ true → set_at (done ++ rest) k ≡ true
set_front [] rest k h = absurd (cc)
set_front (c ∷ done) rest zero h = h
set_front (c ∷ done) rest (suc k) h = set_front done rest k h

push_within : (table done : List Bool) (b c : Bool) → (b ≡ true → c ≡ true) → length table ≡ length done → Within table done → Within (table ++ b ∷ []) (done ++ c ∷ [])
push_within [] [] b c h q w zero k = h k
push_within [] [] b c h q w (suc j) k = k
push_within (x ∷ table) (y ∷ done) b c h q w zero k = w 0 k
push_within (x ∷ table) (y ∷ done) b c h q w (suc j) k = push_within table done b c h (omega (arith, q)) (λ i. w (suc i)) j k
push_within [] (y ∷ done) b c h q w j k = absurd (omega (arith, q))
push_within (x ∷ table) [] b c h q w j k = absurd (omega (arith, q))

set_head : (b c : Bool) (bs cs : List Bool) → b ∷ bs ≡ c ∷ cs → (b ≡ c) × (bs ≡ cs)
set_head b c bs cs e = (cc, cc)

has_to_be : (b c : Bool) → (b || c) ≡ b → c ≡ true → b ≡ true
has_to_be true c e h = refl
has_to_be false c e h = sym e ∙ h

-- in a table of which a round sets no more
module _ (end : List Bool) where
  swept_within : (all : List (List Part)) (table done rest : List Bool) → done ++ rest ≡ end → set_more (any_part end) all rest ≡ rest → length all ≡ length rest
      → length table ≡ length done → Within table done → Within (swept all table) end
  swept_within [] table done rest e stay l q w = subst (Within table) e (λ k h. set_front done rest k (w k h))
  swept_within (parts ∷ all) table done [] e stay l q w = absurd (omega (arith, l))
  swept_within (parts ∷ all) table done (c ∷ rest) e stay l q w =
      let both = set_head (c || any_part end parts) c (set_more (any_part end) all rest) rest stay in
      let whole : Within table end = subst (Within table) e (λ k h. set_front done (c ∷ rest) k (w k h)) in
      let more : Within (table ++ any_part table parts ∷ []) (done ++ c ∷ []) =
      push_within table done (any_part table parts) c (λ h. has_to_be c (any_part end parts) both.0 (any_within table end whole parts h)) q w in
      swept_within all (table ++ any_part table parts ∷ []) (done ++ c ∷ []) rest (append_assoc done (c ∷ []) rest ∙ e) both.1 (omega (arith, l))
      (let m = length_push table (any_part table parts) in let n = length_push done c in omega (arith, m, n, q)) more

holders_within : (defs : List Def) (table : List Bool) → length table ≡ length defs → Within (holders defs) (rounds (length defs) defs table)
unfolding holders
holders_within defs table q = rounds_within (length defs) defs (none_set defs) table q (none_within defs table)

-- rounds that begin so come to the same end
pub rounds_swept : (defs : List Def) → rounds (length defs) defs (swept (map (parts_in defs) defs) []) ≡ holders defs
rounds_swept defs =
    let all : List (List Part) = map (parts_in defs) defs in
    let n : ℕ = length defs in
    let long : length (swept all []) ≡ length defs = let a = length_swept all [] in let b = length-map defs (parts_in defs) in omega (arith, a, b) in
    let stay : set_more (any_part (holders defs)) all (holders defs) ≡ holders defs = round_is defs (holders defs) ∙ closed defs in
    let begun : Within (swept all []) (holders defs) =
    swept_within (holders defs) all [] [] (holders defs) refl stay (length-map defs (parts_in defs) ∙ sym (length_holders defs)) refl (λ k h. h) in
    let less : Within (rounds n defs (swept all [])) (holders defs) =
    subst (Within (rounds n defs (swept all []))) (stays n defs (holders defs) (closed defs)) (rounds_within n defs (swept all []) (holders defs) (length_holders defs) begun) in
    let more : Within (holders defs) (rounds n defs (swept all [])) = holders_within defs (swept all []) long in
    same_set (rounds n defs (swept all [])) (holders defs) (length_rounds n defs (swept all []) long ∙ sym (length_holders defs)) less more

module _ (defs : List Def) where
  abbrev Sound : List Bool → Type 0
  Sound table = (x : List ℕ) → is_set defs table x ≡ true → (args : List Ty) → HoldsBuffer defs (t.Named x args)

  holds_sound : (table : List Bool) → Sound table → (a : Ty) → holds_by defs table a ≡ true → HoldsBuffer defs a
  holds_sound table s a h = go (out-Ty a) (λ o q. sym (roll-out-Ty a) ∙ ap roll-Ty q) h
    where
      go : (o : Ty-F Ty) → ((o' : Ty-F Ty) → o ≡ o' → a ≡ roll-Ty o') → holds_in defs table o ≡ true → HoldsBuffer defs a
      go (Ty-F.Buf b) is k = subst (HoldsBuffer defs) (sym (is (Ty-F.Buf b) refl ∙ t.rolls-Buf b)) (HoldsBuffer.buffer b)
      go (Ty-F.Named x args) is k = subst (HoldsBuffer defs) (sym (is (Ty-F.Named x args) refl ∙ t.rolls-Named x args)) (s x k args)
      go _ is k = absurd (cc)

  any_sound : (table : List Bool) → Sound table → (fields : List Field) → any_holds defs table fields ≡ true
      → (f : Field) × Contains fields f × HoldsBuffer defs f.ty
  any_sound table s [] h = absurd (cc)
  any_sound table s (f ∷ fields) h = go (either (holds_by defs table f.ty) (any_holds defs table fields) h) (any_sound table s fields)
    where
      go : (holds_by defs table f.ty ≡ true) ⊎ (any_holds defs table fields ≡ true)
          → (any_holds defs table fields ≡ true → (g : Field) × Contains fields g × HoldsBuffer defs g.ty) → (g : Field) × Contains (f ∷ fields) g × HoldsBuffer defs g.ty
      go (inl k) later = (f, contains_first f fields, holds_sound table s f.ty k)
      go (inr k) later = let m = later k in (m.0, contains_later f m.0 fields m.1, m.2)

  -- what is set was set before, or is set now
  abbrev Now : (Def → Bool) → List Def → List ℕ → Type 0
  Now test ds x = (name : List ℕ) × (vars : List (List ℕ)) × (fields : List Field) × (type_named ds x ≡ Some (Struct vars fields)) × (test (d.Struct name vars fields) ≡ true)

  was_or_now : (test : Def → Bool) (ds : List Def) (ts : List Bool) (x : List ℕ) → is_set ds (set_more test ds ts) x ≡ true → (is_set ds ts x ≡ true) ⊎ Now test ds x
  was_or_now test [] ts x h = absurd (cc)
  was_or_now test (def ∷ ds) [] x h = let u = no_table def ds x in absurd (cc)
  was_or_now test (d.Struct name vars fields ∷ ds) (b ∷ ts) x h = go (bytes_eq name x) h (was_or_now test ds ts x)
    where
      go : (c : Bool) → (if c then (b || test (d.Struct name vars fields)) else is_set ds (set_more test ds ts) x) ≡ true
          → (is_set ds (set_more test ds ts) x ≡ true → (is_set ds ts x ≡ true) ⊎ Now test ds x)
          → ((if c then b else is_set ds ts x) ≡ true) ⊎
          ((name' : List ℕ) × (vars' : List (List ℕ)) × (fields' : List Field) × (option_or (if c then Some (Struct vars fields) else None) (type_named ds x) ≡ Some (Struct vars' fields')) × (test (d.Struct name' vars' fields') ≡ true))
      go true k later = both (either b (test (d.Struct name vars fields)) k)
        where
          both : (b ≡ true) ⊎ (test (d.Struct name vars fields) ≡ true) → (b ≡ true) ⊎
              ((name' : List ℕ) × (vars' : List (List ℕ)) × (fields' : List Field) × (Some (Struct vars fields) ≡ Some (Struct vars' fields')) × (test (d.Struct name' vars' fields') ≡ true))
          both (inl e) = inl e
          both (inr e) = inr (name, vars, fields, refl, e)
      go false k later = later k
  was_or_now test (d.Sum name vars cons ∷ ds) (b ∷ ts) x h = go (bytes_eq name x) h (was_or_now test ds ts x)
    where
      go : (c : Bool) → (if c then false else is_set ds (set_more test ds ts) x) ≡ true
          → (is_set ds (set_more test ds ts) x ≡ true → (is_set ds ts x ≡ true) ⊎ Now test ds x)
          → ((if c then false else is_set ds ts x) ≡ true) ⊎
          ((name' : List ℕ) × (vars' : List (List ℕ)) × (fields' : List Field) × (option_or (if c then Some (Sum vars cons) else None) (type_named ds x) ≡ Some (Struct vars' fields')) × (test (d.Struct name' vars' fields') ≡ true))
      go true k later = absurd (cc)
      go false k later = later k
  was_or_now test (d.Table name ty nums ∷ ds) (b ∷ ts) x h = was_or_now test ds ts x h
  was_or_now test (d.Fun name vars params result body ∷ ds) (b ∷ ts) x h = was_or_now test ds ts x h
  was_or_now test (d.Entry name ∷ ds) (b ∷ ts) x h = was_or_now test ds ts x h

  round_sound : (table : List Bool) → Sound table → Sound (round defs table)
  round_sound table s x h args = go (was_or_now (def_holds defs table) defs table x h)
    where
      go : (is_set defs table x ≡ true) ⊎ Now (def_holds defs table) defs x → HoldsBuffer defs (t.Named x args)
      go (inl k) = s x k args
      go (inr k) = let m = any_sound table s k.2 k.4 in HoldsBuffer.field args k.3 m.1 m.2

  rounds_sound : (n : ℕ) (table : List Bool) → Sound table → Sound (rounds n defs table)
  rounds_sound zero table s = s
  rounds_sound (suc n) table s = rounds_sound n (round defs table) (round_sound table s)

  unset : (ds : List Def) (x : List ℕ) → is_set ds (none_set ds) x ≡ false
  unset [] x = refl
  unset (d.Struct name vars fields ∷ ds) x = go (bytes_eq name x) (unset ds x)
    where
      go : (c : Bool) → is_set ds (none_set ds) x ≡ false → (if c then false else is_set ds (none_set ds) x) ≡ false
      go true later = refl
      go false later = later
  unset (d.Sum name vars cons ∷ ds) x = go (bytes_eq name x) (unset ds x)
    where
      go : (c : Bool) → is_set ds (none_set ds) x ≡ false → (if c then false else is_set ds (none_set ds) x) ≡ false
      go true later = refl
      go false later = later
  unset (d.Table name ty nums ∷ ds) x = unset ds x
  unset (d.Fun name vars params result body ∷ ds) x = unset ds x
  unset (d.Entry name ∷ ds) x = unset ds x

  holders_sound : Sound (holders defs)
  unfolding holders
  holders_sound = rounds_sound (length defs) (none_set defs) (λ x h args. let u = unset defs x in absurd (cc))

  -- ---- each that holds a buffer is set

  stays_set : (test : Def → Bool) (ds : List Def) (ts : List Bool) (x : List ℕ) (vars : List (List ℕ)) (fields : List Field) → length ts ≡ length ds
      → set_more test ds ts ≡ ts → type_named ds x ≡ Some (Struct vars fields) → ((name : List ℕ) → test (d.Struct name vars fields) ≡ true) → is_set ds ts x ≡ true
  stays_set test [] ts x vars fields q e is h = absurd (cc)
  stays_set test (def ∷ ds) [] x vars fields q e is h = absurd (omega (arith, q))
  stays_set test (d.Struct name vars' fields' ∷ ds) (b ∷ ts) x vars fields q e is h = go (bytes_eq name x) is (λ k. stays_set test ds ts x vars fields (omega (arith, q)) (set_head (b || test (d.Struct name vars' fields')) b (set_more test ds ts) ts e).1 k h)
    where
      parts : ((b || test (d.Struct name vars' fields')) ≡ b) × (set_more test ds ts ≡ ts)
      parts = set_head (b || test (d.Struct name vars' fields')) b (set_more test ds ts) ts e

      go : (c : Bool) → option_or (if c then Some (Struct vars' fields') else None) (type_named ds x) ≡ Some (Struct vars fields)
          → (type_named ds x ≡ Some (Struct vars fields) → is_set ds ts x ≡ true) → (if c then b else is_set ds ts x) ≡ true
      go true k later = has_to_be b (test (d.Struct name vars' fields')) parts.0 (let hn = h name in cc)
      go false k later = later k
  stays_set test (d.Sum name vars' cons ∷ ds) (b ∷ ts) x vars fields q e is h = go (bytes_eq name x) is (λ k. stays_set test ds ts x vars fields (omega (arith, q)) (set_head (b || test (d.Sum name vars' cons)) b (set_more test ds ts) ts e).1 k h)
    where
      go : (c : Bool) → option_or (if c then Some (Sum vars' cons) else None) (type_named ds x) ≡ Some (Struct vars fields)
          → (type_named ds x ≡ Some (Struct vars fields) → is_set ds ts x ≡ true) → (if c then false else is_set ds ts x) ≡ true
      go true k later = absurd (cc)
      go false k later = later k
  stays_set test (d.Table name ty nums ∷ ds) (b ∷ ts) x vars fields q e is h =
      stays_set test ds ts x vars fields (omega (arith, q)) (set_head (b || test (d.Table name ty nums)) b (set_more test ds ts) ts e).1 is h
  stays_set test (d.Fun name vars' params result body ∷ ds) (b ∷ ts) x vars fields q e is h =
      stays_set test ds ts x vars fields (omega (arith, q)) (set_head (b || test (d.Fun name vars' params result body)) b (set_more test ds ts) ts e).1 is h
  stays_set test (d.Entry name ∷ ds) (b ∷ ts) x vars fields q e is h =
      stays_set test ds ts x vars fields (omega (arith, q)) (set_head (b || test (d.Entry name)) b (set_more test ds ts) ts e).1 is h

  any_again : (table : List Bool) (fields : List Field) (f : Field) → Contains fields f → holds_by defs table f.ty ≡ true → any_holds defs table fields ≡ true
  any_again table [] f (k, l, is) h = absurd (omega (arith, l))
  any_again table (g ∷ fields) f (zero, l, is) h = ap (λ z. holds_by defs table z.ty || any_holds defs table fields) is ∙ ap (λ b. b || any_holds defs table fields) h
  any_again table (g ∷ fields) f (suc k, l, is) h = rw (any_again table fields f (k, omega (arith, l), is) h) (last (holds_by defs table g.ty))
    where
      last : (b : Bool) → (b || true) ≡ true
      last true = refl
      last false = refl

  holds_again : (a : Ty) → HoldsBuffer defs a → holds_by defs (holders defs) a ≡ true
  holds_again a (HoldsBuffer.buffer b) = rw (t.outs-Buf b) refl
  holds_again a (HoldsBuffer.field {x = x} args {vars = vars} {fields = fields} {f = f} is has h) =
      rw (t.outs-Named x args) (stays_set (def_holds defs (holders defs)) defs (holders defs) x vars fields (length_holders defs) (closed defs) is
      (λ name. any_again (holders defs) fields f has (holds_again f.ty h)))

  pub holds_decides : (a : Ty) → Decides (holds_by defs (holders defs) a) (HoldsBuffer defs a)
  holds_decides a = (holds_sound (holders defs) holders_sound a, holds_again a)
