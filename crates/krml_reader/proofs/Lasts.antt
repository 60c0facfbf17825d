-- All but the last of forms, and the last.
use Rattle.std.proofs.Common.{◌≡◌, ℕ, zero, suc, ◌<◌, List, [], ◌∷◌, ◌++◌, length, take, get_or, Some, None, refl, sym, ap, arith}
use Rattle.krml_forms.specs.declared.form.Form.{Form}
use Rattle.krml_reader.specs.Expression.{before_last, split_last}
use Rattle.krml_syntax.proofs.Only.{Only, only_none, only_some}

pub split_last_none : (fs : List Form) → length fs < 1 → split_last fs ≡ None
unfolding split_last
split_last_none [] l = refl
split_last_none (f ∷ fs) l = absurd (omega arith)

pub split_last_at : (fs : List Form) (n : ℕ) (f : Form) → length fs ≡ suc n → f ≡ get_or fs n f → split_last fs ≡ Some (take n fs, f)
unfolding split_last
split_last_at [] n f l e = absurd (omega arith)
split_last_at (g ∷ []) zero f l e = ap (λ h. Some ([], h)) (sym e)
split_last_at (g ∷ []) (suc n) f l e = absurd (omega arith)
split_last_at (g ∷ h ∷ fs) zero f l e = absurd (omega arith)
split_last_at (g ∷ h ∷ fs) (suc n) f l e = ap (λ r. Some (before_last g r)) (split_last_at (h ∷ fs) n f (omega arith) e)

pub split_last_again : (fs : List Form) (f : Form) → split_last (fs ++ f ∷ []) ≡ Some (fs, f)
unfolding split_last
split_last_again [] f = refl
split_last_again (g ∷ fs) f = ap (λ r. Some (before_last g r)) (split_last_again fs f)

pub split_last_only : (fs : List Form) → Only (λ p. fs ≡ p.0 ++ p.1 ∷ []) (split_last fs)
unfolding split_last
split_last_only [] = only_none
split_last_only (f ∷ []) = only_some ([], f) refl
split_last_only (f ∷ g ∷ fs) =
    let p = before_last g (split_last fs) in
    only_some (f ∷ p.0, p.1) (ap (λ t. f ∷ t) ((split_last_only (g ∷ fs)).holds p refl))
