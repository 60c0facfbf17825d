-- Variables in scope, with one more or one less.
use Rattle.std.proofs.Common.{◌≡◌, ℕ, ◌-◌, ◌<◌, suc, Bool, true, false, if◌then◌else◌, List, [], ◌∷◌, ◌++◌, length, drop, reverse, slice_get, Some, None, Result, Ok, Err, OnOk, OnErr, Bor, refl, sym, ap, subst, ◌∙◌, arith}
use Rattle.std.specs.BTreeMap.{BTreeMap, is_at, UpdatesBy}
use Rattle.std.specs.Map.{lookup}
use Rattle.std.specs.Cmp.Lexicographic.{slice_cmp}
use Rattle.std.specs.Ordering.{nat_cmp}
use Rattle.std.specs.Str.{bytes_eq}
use Rattle.std.proofs.lemmas.Map.Text.{btree_map_updates_str}
use Rattle.std.proofs.lemmas.Slice.Eq.{bytes_eq-Decides}
use Rattle.std.proofs.lemmas.List.{reverse-append, reverse-reverse, length-reverse}
use Rattle.krml_intern.specs.declared.entry.Entry.{Entry}
use Rattle.krml_intern.specs.Scope.{look, cut, shown, newest, has, IsScope}
use Rattle.krml_intern.proofs.Lasts.{at_last, still}

-- what stands where the newest of a name stands
pub looked : (es : List Entry) (x : List ℕ) → newest es x ≡ None → look (shown es) x ≡ None
looked [] x e = refl
looked (a ∷ es) x e = go (looked es x) (bytes_eq a.name.now x) e
  where
    go : (newest es x ≡ None → look (shown es) x ≡ None) → (b : Bool) → (if b then Some (length es) else newest es x) ≡ None → (if b then Some a.value else look (shown es) x) ≡ None
    go later true e = absurd (cc)
    go later false e = later e

pub data Stands (es : List Entry) (x : List ℕ) (k : ℕ) : Type 0 where
  stands : (a : Entry) → slice_get (reverse es) k ≡ Some a → look (shown es) x ≡ Some a.value → Stands es x k

pub found : (es : List Entry) (x : List ℕ) (k : ℕ) → newest es x ≡ Some k → Stands es x k
found [] x k e = absurd (cc)
found (a ∷ es) x k e = go (found es x k) (bytes_eq a.name.now x) refl e
  where
    back : reverse (a ∷ es) ≡ reverse es ++ a ∷ []
    back = reverse-append (a ∷ []) es

    on : bytes_eq a.name.now x ≡ false → Stands es x k → Stands (a ∷ es) x k
    on other (stands b at is) = stands b (ap (λ xs. slice_get xs k) back ∙ still (reverse es) (a ∷ []) k b at) (ap (λ b. if b then Some a.value else look (shown es) x) other ∙ is)

    go : (newest es x ≡ Some k → Stands es x k) → (b : Bool) → bytes_eq a.name.now x ≡ b → (if b then Some (length es) else newest es x) ≡ Some k → Stands (a ∷ es) x k
    go later true is e =
        let here : k ≡ length (reverse es) = let l = length-reverse es in cc in
        stands a (ap (λ xs. slice_get xs k) back ∙ ap (slice_get (reverse es ++ a ∷ [])) here ∙ at_last (reverse es) a) (ap (λ b. if b then Some a.value else look (shown es) x) is)
    go later false is e = on is (later e)

pub scope_more : (es : List Entry) (a : Entry) (places more : BTreeMap (Bor (List ℕ)) ℕ) → IsScope es places → a.hidden ≡ has places a.name.now
    → UpdatesBy (λ x y. slice_cmp nat_cmp x.now y.now) (λ k. slice_cmp nat_cmp a.name.now k.now) places more (Some (length es)) → IsScope (a ∷ es) more
scope_more es a places more ok hidden put = record {
  at = λ x. btree_map_updates_str a.name.now places more (Some (length es)) put x ∙ ap (λ o. if bytes_eq a.name.now x then Some (length es) else o) (ok.at x);
  hidden = (hidden ∙ ok.at a.name.now, ok.hidden);
}

pub scope_less : (es : List Entry) (a : Entry) (places less : BTreeMap (Bor (List ℕ)) ℕ) → IsScope (a ∷ es) places
    → UpdatesBy (λ x y. slice_cmp nat_cmp x.now y.now) (λ k. slice_cmp nat_cmp a.name.now k.now) places less a.hidden → IsScope es less
scope_less es a places less ok put = record {
  at = λ x. btree_map_updates_str a.name.now places less a.hidden put x ∙ ap (λ o. if bytes_eq a.name.now x then a.hidden else o) (ok.at x) ∙ go x (bytes_eq a.name.now x) refl;
  hidden = ok.hidden.1;
}
  where
    go : (x : List ℕ) (b : Bool) → bytes_eq a.name.now x ≡ b → (if b then a.hidden else if b then Some (length es) else newest es x) ≡ newest es x
    go x true is = ok.hidden.0 ∙ ap (newest es) ((bytes_eq-Decides a.name.now x).0 is)
    go x false is = refl

pub scope_same : (es fs : List Entry) (places more : BTreeMap (Bor (List ℕ)) ℕ) → IsScope es places → fs ≡ es → more.entries ≡ places.entries → IsScope fs more
scope_same es fs places more ok is same = subst (λ xs. IsScope xs more) (sym is) (record {
  at = λ x. ap (lookup (is_at (λ (k : Bor (List ℕ)). slice_cmp nat_cmp x k.now))) same ∙ ok.at x;
  hidden = ok.hidden;
})

pub on_result : {T E P Q : Type 0} (r : Result T E) → OnOk r P → OnErr r Q → (Q → P) → P
on_result (Ok x) p q f = p
on_result (Err x) p q f = f q

pub still_there : (es : List Entry) (a : Entry) (places : BTreeMap (Bor (List ℕ)) ℕ) → IsScope (a ∷ es) places → has places a.name.now ≡ None → ⊥
still_there es a places ok none =
    let here : newest (a ∷ es) a.name.now ≡ Some (length es) = ap (λ b. if b then Some (length es) else newest es a.name.now) ((bytes_eq-Decides a.name.now a.name.now).1 refl) in
    let gone : newest (a ∷ es) a.name.now ≡ None = sym (ok.at a.name.now) ∙ none in
    absurd (cc)

stood : (es : List Entry) (x : List ℕ) (k : ℕ) (a : Entry) → Stands es x k → slice_get (reverse es) k ≡ Some a → look (shown es) x ≡ Some a.value
stood es x k a (stands b at is) e = let same : b ≡ a = let both : Some b ≡ Some a = sym at ∙ e in cc in is ∙ ap (λ (b : Entry). Some b.value) same

stood_there : (es : List Entry) (x : List ℕ) (k : ℕ) → Stands es x k → slice_get (reverse es) k ≡ None → ⊥
stood_there es x k (stands b at is) e = let both : Some b ≡ None = sym at ∙ e in (cc)

pub look_at : (items : List Entry) (x : List ℕ) (k : ℕ) (a : Entry) → newest (reverse items) x ≡ Some k → slice_get items k ≡ Some a → look (shown (reverse items)) x ≡ Some a.value
look_at items x k a n e = stood (reverse items) x k a (found (reverse items) x k n) (ap (λ xs. slice_get xs k) (reverse-reverse items) ∙ e)

pub look_there : (items : List Entry) (x : List ℕ) (k : ℕ) → newest (reverse items) x ≡ Some k → slice_get items k ≡ None → ⊥
look_there items x k n e = stood_there (reverse items) x k (found (reverse items) x k n) (ap (λ xs. slice_get xs k) (reverse-reverse items) ∙ e)

pub cut_pop : (n : ℕ) (vars : List (List ℕ × ℕ)) → n < length vars → cut n (drop 1 vars) ≡ cut n vars
cut_pop n [] l = absurd (omega (arith, l))
cut_pop n (v ∷ vars) l = let less : suc (length vars) - n ≡ suc (length vars - n) = omega (arith, l) in ap (λ k. drop k (v ∷ vars)) (sym less)
