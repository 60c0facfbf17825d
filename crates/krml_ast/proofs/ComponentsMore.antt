-- One component more is found.
use Rattle.std.proofs.Common.{◌≡◌, ℕ, Bool, true, false, cond, if◌then◌else◌, Some, refl, sym, ap, subst, ◌∙◌}
use Rattle.std.specs.BTreeMap.{BTreeMap, get, Updates}
use Rattle.std.specs.Map.{lookup}
use Rattle.std.specs.Ordering.{nat_cmp}
use Rattle.std.specs.Cmp.{Equal-is}
use Rattle.std.proofs.lemmas.Map.Lookups.{CmpEqualImpliesEq, exact_pairs, exact_unsigned}
use Rattle.krml_intern.specs.Exact.{key_cmp}
use Rattle.krml_ast.specs.declared.component.Component.{Component}
use Rattle.krml_ast.specs.declared.component.Component.TheVariants as comp
use Rattle.krml_ast.specs.Components.{Found, code_of, is_key, found_at, Adds}

code_is : (c d : Component) → code_of c ≡ code_of d → c ≡ d
code_is comp.Field comp.Field e = refl
code_is comp.Argument comp.Argument e = refl
code_is comp.Parameter comp.Parameter e = refl
code_is comp.Result comp.Result e = refl
code_is comp.Field comp.Argument e = absurd (cc)
code_is comp.Field comp.Parameter e = absurd (cc)
code_is comp.Field comp.Result e = absurd (cc)
code_is comp.Argument comp.Field e = absurd (cc)
code_is comp.Argument comp.Parameter e = absurd (cc)
code_is comp.Argument comp.Result e = absurd (cc)
code_is comp.Parameter comp.Field e = absurd (cc)
code_is comp.Parameter comp.Argument e = absurd (cc)
code_is comp.Parameter comp.Result e = absurd (cc)
code_is comp.Result comp.Field e = absurd (cc)
code_is comp.Result comp.Argument e = absurd (cc)
code_is comp.Result comp.Parameter e = absurd (cc)

is_equal : CmpEqualImpliesEq key_cmp
is_equal = exact_pairs nat_cmp (λ x y. _) exact_unsigned (exact_pairs nat_cmp nat_cmp exact_unsigned exact_unsigned)

-- what is so of all that was found is so of all that is found, where it is so of the one that was added
module _ (P : Component → ℕ → ℕ → ℕ → Type 0) (cs more : Found) (kind : Component) (k j n : ℕ) where
  pub found_more : ((c : Component) (l i m : ℕ) → found_at cs c l i ≡ Some m → P c l i m) → P kind k j n → Adds cs kind k j n more
      → (c : Component) (l i m : ℕ) → found_at more c l i ≡ Some m → P c l i m
  found_more all one put c l i m e = go (is_key kind k j (code_of c, (l, i))) refl
    where
      go : (b : Bool) → is_key kind k j (code_of c, (l, i)) ≡ b → P c l i m
      go true is =
          let key : ◌≡◌ {A = ℕ × (ℕ × ℕ)} (code_of kind, (k, j)) (code_of c, (l, i)) = is_equal (code_of kind, (k, j)) (code_of c, (l, i)) ((Equal-is _).0 is) in
          let value : found_at more c l i ≡ Some n = put c l i ∙ ap (λ b. if b then Some n else found_at cs c l i) is in
          let n_is : n ≡ m = let both : Some n ≡ Some m = sym value ∙ e in cc in
          let kind_is : kind ≡ c = code_is kind c (ap (λ p. p.0) key) in
          let k_is : k ≡ l = ap (λ p. p.1.0) key in
          let j_is : j ≡ i = ap (λ p. p.1.1) key in
          subst (λ c. P c l i m) kind_is (subst (λ l. P kind l i m) k_is (subst (λ i. P kind k i m) j_is (subst (λ m. P kind k j m) n_is one)))
      go false is = all c l i m (sym (put c l i ∙ ap (λ b. if b then Some n else found_at cs c l i) is) ∙ e)

pub adds_by : (old new : BTreeMap (ℕ × (ℕ × ℕ)) ℕ) (seen : Found) (kind : Component) (code k j n : ℕ) → old.entries ≡ seen → code ≡ code_of kind
    → Updates key_cmp old new (code, (k, j)) (Some n) → Adds seen kind k j n new.entries
adds_by old new seen kind code k j n seen_is code_is put c l i =
    let by : Updates key_cmp old new (code_of kind, (k, j)) (Some n) = subst (λ z. Updates key_cmp old new (z, (k, j)) (Some n)) code_is put in
    by.0 (code_of c, (l, i)) ∙ go (is_key kind k j (code_of c, (l, i)))
  where
    go : (b : Bool) → cond b (Some n) (get key_cmp old (code_of c, (l, i))) ≡ (if b then Some n else found_at seen c l i)
    go true = refl
    go false = ap (lookup (is_key c l i)) seen_is
