-- What lists of forms are read as, one by one, where each form is read as what it spells.
use Rattle.std.proofs.Common.{◌≡◌, ℕ, zero, suc, List, [], ◌∷◌, ◌++◌, Option, Some, refl, sym, ap, ◌∙◌, subst, append_assoc}
use Rattle.std.proofs.lemmas.List.{append-nil}
use Rattle.krml_forms.specs.declared.form.Form.{Form, out-Form}
use Rattle.krml_forms.specs.declared.form.Form.TheOpen.{Form-F}
use Rattle.krml_forms.specs.declared.form.Form.TheVariants.{List as Node}
use Rattle.krml_forms.specs.Levels.{Within, AllWithin}
use Rattle.krml_forms.proofs.Layer.{is_list}
use Rattle.krml_syntax.specs.Spelling.{Each}
use Rattle.krml_syntax.proofs.Only.{Only, only_none, only_some, only_then, only_more}
use Rattle.krml_reader.specs.Each.{each_after, each_of, list_in, below}

module _ {X : Type 0} (R : Form → X → Type 0) (read : Form → Option X) where
  -- xs are those before, and then what the forms spell
  record More (done : List X) (fs : List Form) (xs : List X) : Type 0 where
    more : List X
    whole : xs ≡ done ++ more
    spelled : Each R fs more

  each_after_only : ((f : Form) → Only (R f) (read f)) → (fs : List Form) (done : List X) → Only (More done fs) (each_after read done fs)
  unfolding each_after
  each_after_only sound [] done = only_some done (record { more = []; whole = sym (append-nil done); spelled = Each.none })
  each_after_only sound (f ∷ fs) done =
      only_then (read f) (sound f) (λ x s. only_more (each_after_only sound fs (done ++ x ∷ [])) (λ xs r.
      record { more = x ∷ r.more; whole = r.whole ∙ simp append_assoc; spelled = Each.one s r.spelled }))

  -- what forms are read as, they spell one by one
  pub each_only : ((f : Form) → Only (R f) (read f)) → (fs : List Form) → Only (Each R fs) (each_of read fs)
  each_only sound fs = only_more (each_after_only sound fs []) (λ xs r. let same : r.more ≡ xs = sym r.whole in subst (Each R fs) same r.spelled)

-- one more form
pub one_after : {X : Type 0} (read : Form → Option X) (f : Form) (fs : List Form) (x : X) (done xs : List X)
    → read f ≡ Some x → each_after read (done ++ x ∷ []) fs ≡ Some ((done ++ x ∷ []) ++ xs) → each_after read done (f ∷ fs) ≡ Some (done ++ x ∷ xs)
unfolding each_after
one_after read f fs x done xs here others = rw here (others ∙ ap Some (simp append_assoc))

pub none_after : {X : Type 0} (read : Form → Option X) (done : List X) → each_after read done [] ≡ Some (done ++ [])
unfolding each_after
none_after read done = ap Some (sym (append-nil done))

-- where each form that spells something is read as that
pub each_again : {X : Type 0} {R : Form → X → Type 0} (read : Form → Option X) (n : ℕ) → ((f : Form) (x : X) → R f x → Within n f → read f ≡ Some x)
    → {fs : List Form} {xs : List X} → Each R fs xs → AllWithin n fs → (done : List X) → each_after read done fs ≡ Some (done ++ xs)
each_again read n again Each.none w done = none_after read done
each_again read n again (Each.one {x = f} {y = x} {xs = fs} {ys = xs} s more) w done =
    one_after read f fs x done xs (again f x s w.0) (each_again read n again more w.1 (done ++ x ∷ []))

-- the same where no form needs levels
after_again : {X : Type 0} {R : Form → X → Type 0} (read : Form → Option X) → ((f : Form) (x : X) → R f x → read f ≡ Some x)
    → {fs : List Form} {xs : List X} → Each R fs xs → (done : List X) → each_after read done fs ≡ Some (done ++ xs)
after_again read again Each.none done = none_after read done
after_again read again (Each.one {x = f} {y = x} {xs = fs} {ys = xs} s more) done =
    one_after read f fs x done xs (again f x s) (after_again read again more (done ++ x ∷ []))

pub each_of_again : {X : Type 0} {R : Form → X → Type 0} (read : Form → Option X) → ((f : Form) (x : X) → R f x → read f ≡ Some x)
    → {fs : List Form} {xs : List X} → Each R fs xs → each_of read fs ≡ Some xs
each_of_again read again s = after_again read again s []

-- a list that is read has what is read
pub list_only : {X : Type 0} (P : List Form → X → Type 0) (read : List Form → Option X) → ((fs : List Form) → Only (P fs) (read fs))
    → (f : Form) → Only (λ x. (fs : List Form) × (f ≡ Node fs) × P fs x) (list_in read (out-Form f))
list_only {X = X} P read sound f = go (out-Form f) refl
  where
    go : (x : Form-F Form) → out-Form f ≡ x → Only (λ y. (fs : List Form) × (f ≡ Node fs) × P fs y) (list_in read x)
    go (Form-F.Atom w) o = only_none
    go (Form-F.List fs) o = only_more (sound fs) (λ x p. (fs, is_list f fs o, p))

pub below_only : {X : Type 0} (P : List Form → X → Type 0) (read : ℕ → List Form → Option X) → ((n : ℕ) (fs : List Form) → Only (P fs) (read n fs))
    → (n : ℕ) (fs : List Form) → Only (P fs) (below read n fs)
below_only P read sound zero fs = only_none
below_only P read sound (suc n) fs = sound n fs
