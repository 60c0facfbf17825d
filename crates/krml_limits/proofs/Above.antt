-- The first count above a limit, in counts in a row.
use Rattle.std.proofs.Common.{◌≡◌, ◌⊎◌, inl, inr, ℕ, ◌+◌, ◌<◌, Bool, true, false, cond, nat_lt, get_or, List, [], ◌∷◌, ◌++◌, length, drop, Option, Some, None, refl, sym, ap, ◌∙◌}
use Rattle.std.specs.List.{flat_map}
use Rattle.std.proofs.lemmas.List.{drop_more}
use Rattle.krml_forms.specs.declared.form.Form.{Form}
use Rattle.krml_syntax.specs.declared.limit.LimitKind.{LimitKind}
use Rattle.krml_syntax.specs.declared.tree.Def.{Def}
use Rattle.krml_syntax.specs.Limits.{first_above, counts_in, counts_each}

pub above_here : (limit : ℕ) (ns ms : List ℕ) (n : ℕ) → first_above limit ns ≡ Some n → first_above limit (ns ++ ms) ≡ Some n
above_here limit (k ∷ ns) ms n e = go (nat_lt limit k) (above_here limit ns ms n) e
  where
    go : (t : Bool) → (first_above limit ns ≡ Some n → first_above limit (ns ++ ms) ≡ Some n) → cond t (Some k) (first_above limit ns) ≡ Some n → cond t (Some k) (first_above limit (ns ++ ms)) ≡ Some n
    go true more e = e
    go false more e = more e
above_here limit [] ms n e = absurd (cc)

pub above_after : (limit : ℕ) (ns ms : List ℕ) → first_above limit ns ≡ None → first_above limit (ns ++ ms) ≡ first_above limit ms
above_after limit (k ∷ ns) ms e = go (nat_lt limit k) (above_after limit ns ms) e
  where
    go : (t : Bool) → (first_above limit ns ≡ None → first_above limit (ns ++ ms) ≡ first_above limit ms) → cond t (Some k) (first_above limit ns) ≡ None → cond t (Some k) (first_above limit (ns ++ ms)) ≡ first_above limit ms
    go true more e = absurd (cc)
    go false more e = more e
above_after limit [] ms e = refl

-- ---- a loop over things with counts, at the thing x with index i

counts_from : {A : Type 0} (f : A → List ℕ) (xs : List A) (i : ℕ) (x : A) → i < length xs → x ≡ get_or xs i x → flat_map f (drop i xs) ≡ f x ++ flat_map f (drop (i + 1) xs)
counts_from f xs i x l e = ap (flat_map f) (drop_more xs i x l) ∙ ap (λ y. f y ++ flat_map f (drop (i + 1) xs)) (sym e)

pub loop_finds : {A : Type 0} (f : A → List ℕ) (limit : ℕ) (xs : List A) (i : ℕ) (x : A) (n : ℕ) → i < length xs → x ≡ get_or xs i x → first_above limit (flat_map f (drop i xs)) ≡ first_above limit (flat_map f xs) → Some n ≡ first_above limit (f x) → Some n ≡ first_above limit (flat_map f xs)
loop_finds f limit xs i x n l e inv found =
    sym (above_here limit (f x) (flat_map f (drop (i + 1) xs)) n (sym found)) ∙ sym (ap (first_above limit) (counts_from f xs i x l e)) ∙ inv

pub loop_goes : {A : Type 0} (f : A → List ℕ) (limit : ℕ) (xs : List A) (i : ℕ) (x : A) → i < length xs → x ≡ get_or xs i x → first_above limit (flat_map f (drop i xs)) ≡ first_above limit (flat_map f xs) → None ≡ first_above limit (f x) → first_above limit (flat_map f (drop (i + 1) xs)) ≡ first_above limit (flat_map f xs)
loop_goes f limit xs i x l e inv none =
    sym (above_after limit (f x) (flat_map f (drop (i + 1) xs)) (sym none)) ∙ sym (ap (first_above limit) (counts_from f xs i x l e)) ∙ inv

-- ---- a loop over definitions and their forms, at def and f with those in fs' and ds' to come

pair_counts : (kind : LimitKind) (limit : ℕ) (fs fs' : List Form) (ds ds' : List Def) (f : Form) (def : Def) → fs ≡ f ∷ fs' → ds ≡ def ∷ ds' → first_above limit (counts_each kind fs ds) ≡ first_above limit (counts_in kind f def ++ counts_each kind fs' ds')
pair_counts kind limit fs fs' ds ds' f def first second = rw (first, second) refl

pub pair_finds : (kind : LimitKind) (limit : ℕ) (fs fs' : List Form) (ds ds' : List Def) (f : Form) (def : Def) (n : ℕ) (all : Option ℕ) → fs ≡ f ∷ fs' → ds ≡ def ∷ ds' → first_above limit (counts_each kind fs ds) ≡ all → first_above limit (counts_in kind f def) ≡ Some n → Some n ≡ all
pair_finds kind limit fs fs' ds ds' f def n all first second inv found =
    sym (pair_counts kind limit fs fs' ds ds' f def first second ∙ above_here limit (counts_in kind f def) (counts_each kind fs' ds') n found) ∙ inv

pub pair_goes : (kind : LimitKind) (limit : ℕ) (fs fs' : List Form) (ds ds' : List Def) (f : Form) (def : Def) (all : Option ℕ) → fs ≡ f ∷ fs' → ds ≡ def ∷ ds' → first_above limit (counts_each kind fs ds) ≡ all → first_above limit (counts_in kind f def) ≡ None → first_above limit (counts_each kind fs' ds') ≡ all
pair_goes kind limit fs fs' ds ds' f def all first second inv none =
    sym (pair_counts kind limit fs fs' ds ds' f def first second ∙ above_after limit (counts_in kind f def) (counts_each kind fs' ds') none) ∙ inv

pub pairs_end : (kind : LimitKind) (limit : ℕ) (fs : List Form) (ds : List Def) (all : Option ℕ) → (fs ≡ []) ⊎ (ds ≡ []) → first_above limit (counts_each kind fs ds) ≡ all → None ≡ all
pairs_end kind limit [] ds all e inv = inv
pairs_end kind limit (f ∷ fs) [] all e inv = inv
pairs_end kind limit (f ∷ fs) (def ∷ ds) all (inl e) inv = absurd (cc)
pairs_end kind limit (f ∷ fs) (def ∷ ds) all (inr e) inv = absurd (cc)
