-- A body whose frames are all its own: where no slots stand before it.
use Rattle.std.proofs.Common.{◌≡◌, ℕ, List, [], None, Result, Ok, Err, IfOk, IfErr, IsOkAnd, OnOk, MatchResult, refl, sym, ap, ◌∙◌, subst}
use Rattle.krml_syntax.specs.declared.tree.Slot.{Slot}
use Rattle.krml_syntax.specs.declared.tree.Expr.{Expr}
use Rattle.krml_syntax.specs.declared.tree.Expr.TheVariants as e
use Rattle.krml_passing.specs.Hoisted.{body_hoisted}
use Rattle.krml_hoist.specs.declared.hoister.Hoister.{Hoister}
use Rattle.krml_hoist.specs.declared.hoister.Outer.{Outer}
use Rattle.krml_hoist.specs.declared.refusal.HoistRefusal.{HoistRefusal}
use Rattle.krml_hoist.specs.declared.refusal.HoistRefusal.TheVariants.{NoMemory}
use Rattle.krml_hoist.specs.Refusing.{Refuses, large_fun}
use Rattle.krml_hoist.specs.Walk.{large_in, made, after, entered, put_aside, left}
use Rattle.krml_hoist.proofs.Forms.{frame_after}

pub body_made : (x : Expr) (m : Hoister) → m.slots ≡ [] → made x m ≡ body_hoisted x
unfolding made
body_made x m is = rw is refl

pub body_large : (x : Expr) (m : Hoister) → m.slots ≡ [] → m.large ≡ None → (after x m).large ≡ large_in m.layouts.now (body_hoisted x)
unfolding after
body_large x m is none = rw (is, none) refl

pub on_ok : {A E : Type 0} {P : Type 0} (r : Result A E) → P → OnOk r P
on_ok (Ok a) p = p
on_ok (Err e) p = tt

module _ {E : Type 0} (x : Expr) (m n k : Hoister) (rx : Result Expr E) (starts : m ≡ n) (slots : n.slots ≡ []) (large : n.large ≡ None)
    (walked : OnOk rx (k ≡ after x m)) where
  -- the first frame of the body that takes too many bytes
  found : k ≡ after x m → k.large ≡ large_in n.layouts.now (body_hoisted x)
  found is = ap (λ (z : Hoister). z.large) (is ∙ ap (λ (z : Hoister). after x z) starts) ∙ body_large x n slots large

  pub body_small : (r : Result Expr HoistRefusal) → IfOk r (λ b. IsOkAnd rx (λ z. b ≡ z)) → IfOk r (λ b. k.large ≡ None)
      → IfOk r (λ b. large_in n.layouts.now (body_hoisted x) ≡ None)
  body_small r is small = go r rx walked is small
    where
      go : (r : Result Expr HoistRefusal) (rx : Result Expr E) → OnOk rx (k ≡ after x m) → IfOk r (λ b. IsOkAnd rx (λ z. b ≡ z))
          → IfOk r (λ b. k.large ≡ None) → IfOk r (λ b. large_in n.layouts.now (body_hoisted x) ≡ None)
      go (Ok b) (Ok z) w is small = sym (found w) ∙ small
      go (Ok b) (Err z) w is small = absurd is
      go (Err b) rx w is small = tt

  pub body_refused : (name : List ℕ) (r : Result Expr HoistRefusal)
      → IfErr r (λ b. MatchResult rx (λ z. Refuses (large_fun name k.large) b) (λ z. b ≡ NoMemory))
      → IfErr r (λ b. Refuses (large_fun name (large_in n.layouts.now (body_hoisted x))) b)
  body_refused name r says = go r rx walked says
    where
      go : (r : Result Expr HoistRefusal) (rx : Result Expr E) → OnOk rx (k ≡ after x m)
          → IfErr r (λ b. MatchResult rx (λ z. Refuses (large_fun name k.large) b) (λ z. b ≡ NoMemory))
          → IfErr r (λ b. Refuses (large_fun name (large_in n.layouts.now (body_hoisted x))) b)
      go (Ok b) rx w says = tt
      go (Err b) (Ok z) w says = subst (λ o. Refuses (large_fun name o) b) (found w) says
      go (Err b) (Err z) w says = subst (λ y. Refuses (large_fun name (large_in n.layouts.now (body_hoisted x))) y) (sym says) tt

-- a frame, from where it begins to where it ends
pub frame_walked : {E : Type 0} (own : List Slot) (a : Expr) (m m1 m2 m3 : Hoister) (r ra : Result Expr E) (ro : Result Outer E) (rs : Result (List Slot) E)
    → OnOk ro (m1 ≡ entered own m) → IfOk ro (λ o. o ≡ put_aside m) → OnOk ra (m2 ≡ after a m1) → OnOk rs (IsOkAnd ro (λ o. m3 ≡ left o m2))
    → IfOk r (λ z. IsOkAnd rs (λ s. IsOkAnd ra (λ x. z ≡ e.Frame s x))) → OnOk r (m3 ≡ after (e.Frame own a) m)
frame_walked own a m m1 m2 m3 (Ok z) (Ok x) (Ok o) (Ok s) h1 ho h2 h3 is =
    h3 ∙ ap (λ (y : Outer). left y m2) ho ∙ ap (λ (y : Hoister). left (put_aside m) y) (h2 ∙ ap (λ (y : Hoister). after a y) h1)
    ∙ sym (frame_after own a m)
frame_walked own a m m1 m2 m3 (Ok z) (Ok x) (Err o) (Ok s) h1 ho h2 h3 is = absurd h3
frame_walked own a m m1 m2 m3 (Ok z) (Err x) ro (Ok s) h1 ho h2 h3 is = absurd is
frame_walked own a m m1 m2 m3 (Ok z) ra ro (Err s) h1 ho h2 h3 is = absurd is
frame_walked own a m m1 m2 m3 (Err z) ra ro rs h1 ho h2 h3 is = tt
