-- What words are read as is what they spell, and what they spell they are read as.
use Rattle.std.proofs.Common.{◌≡◌, ℕ, ◌<◌, ◌≤◌, ◌^◌, true, false, nat_lt, ◌==◌, List, [], ◌∷◌, Option, Some, refl, sym, ap, ◌∙◌, subst, arith}
use Rattle.std.proofs.lemmas.Bool.Decides.{nat_tests}
use Rattle.krml_trace.specs.declared.width.Width.{Width}
use Rattle.krml_trace.specs.Width.{bits}
use Rattle.krml_trace.proofs.Widths.{below_all_widths}
use Rattle.krml_forms.specs.declared.form.Form.{Form, out-Form}
use Rattle.krml_forms.specs.declared.form.Form.TheOpen.{Form-F}
use Rattle.krml_forms.specs.declared.form.Form.TheVariants.{Atom, outs-Atom}
use Rattle.krml_forms.proofs.Layer.{is_atom}
use Rattle.krml_syntax.specs.declared.tree.IntTy.{IntTy}
use Rattle.krml_syntax.specs.Name.{is_name, IsName}
use Rattle.krml_syntax.specs.Number.{number_at}
use Rattle.krml_syntax.specs.Spelling.{int_word, SpellsVar, SpellsNumber, SpellsLength}
use Rattle.krml_syntax.proofs.Numbers.{number_at_only, number_at_again}
use Rattle.krml_syntax.proofs.Only.{Only, only_none, only_some, only_then, only_if, only_unless, only_more}
use Rattle.krml_reader.specs.declared.keyword.Keyword.{Keyword}
use Rattle.krml_reader.specs.declared.keyword.Keyword.TheVariants as k
use Rattle.krml_reader.specs.Keyword.{keyword_at}
use Rattle.krml_reader.specs.Words.{name_of, name_in, name_at, var_of, var_in, var_at, int_of, int_at, number_of_width, length_at}
use Rattle.krml_reader.proofs.KeywordLaws.{keyword_here, keyword_is}

-- ---- names

pub name_of_only : (w : List ℕ) → Only (λ x. (w ≡ x) × IsName x) (name_of w)
name_of_only w = only_if (is_name w) (λ h. only_some w (refl, h))

-- f is the word of a name
abbrev pub IsNameForm : Form → List ℕ → Type 0
IsNameForm f x = (f ≡ Atom x) × IsName x

pub name_only : (f : Form) → Only (IsNameForm f) (name_at f)
name_only f = go (out-Form f) refl
  where
    go : (x : Form-F Form) → out-Form f ≡ x → Only (IsNameForm f) (name_in x)
    go (Form-F.Atom w) o = only_more (name_of_only w) (λ x is. (is_atom f w o ∙ ap Atom is.0, is.1))
    go (Form-F.List fs) o = only_none

pub name_of_again : (x : List ℕ) → IsName x → name_of x ≡ Some x
name_of_again x h = rw h refl

pub name_again : (x : List ℕ) → IsName x → name_at (Atom x) ≡ Some x
name_again x h = ap name_in (outs-Atom x) ∙ name_of_again x h

-- ---- type variables

quote : (b : ℕ) → (b == 39) ≡ true → 39 ≡ b
quote b h = grind (arith, nat_tests)

var_of_only : (w : List ℕ) → Only (SpellsVar (Atom w)) (var_of w)
var_of_only [] = only_none
var_of_only (b ∷ w) = only_if (b == 39) (λ q. only_more (name_of_only w) (λ x is.
    subst (λ v. SpellsVar (Atom (b ∷ v)) x) (sym is.0) (subst (λ c. SpellsVar (Atom (c ∷ x)) x) (quote b q) (SpellsVar.variable is.1))))

pub var_only : (f : Form) → Only (SpellsVar f) (var_at f)
var_only f = go (out-Form f) refl
  where
    go : (x : Form-F Form) → out-Form f ≡ x → Only (SpellsVar f) (var_in x)
    go (Form-F.Atom w) o = subst (λ g. Only (SpellsVar g) (var_of w)) (sym (is_atom f w o)) (var_of_only w)
    go (Form-F.List fs) o = only_none

pub var_again : {f : Form} {x : List ℕ} → SpellsVar f x → var_at f ≡ Some x
var_again (SpellsVar.variable {x = x} h) = ap var_in (outs-Atom (39 ∷ x)) ∙ name_of_again x h

-- ---- integer types

pub int_here : (i : IntTy) → int_at (Atom (int_word i)) ≡ Some i
int_here i = ap int_of (keyword_here (k.Int i))

pub int_only : (f : Form) → Only (λ i. f ≡ Atom (int_word i)) (int_at f)
int_only f = go (keyword_at f) refl
  where
    go : (c : Option Keyword) → keyword_at f ≡ c → Only (λ i. f ≡ Atom (int_word i)) (int_of c)
    go (Some (k.Int i)) e = only_some i (keyword_is f (k.Int i) e)
    go _ e = only_none

-- ---- numbers

pub number_only : (w : Width) (f : Form) → Only (SpellsNumber w f) (number_of_width w f)
number_only w f =
    only_then (number_at f) (number_at_only f) (λ n is. only_if (nat_lt n (2 ^ bits w)) (λ l.
    let fits : n < 2 ^ bits w = grind (arith, nat_tests) in
    only_some n (subst (λ g. SpellsNumber w g n) (sym is.1) (SpellsNumber.number is.2 fits))))

pub number_again : (w : Width) {f : Form} {n : ℕ} → SpellsNumber w f n → number_of_width w f ≡ Some n
number_again w (SpellsNumber.number {digits = d} {n = n} is l) =
    let small : nat_lt n (2 ^ bits w) ≡ true = grind (arith, nat_tests) in
    rw (number_at_again d n is (below_all_widths w n l), small) refl

pub length_only : (f : Form) → Only (SpellsLength f) (length_at f)
length_only f =
    only_then (number_at f) (number_at_only f) (λ n is. only_unless (n == 0) (λ some. only_if (nat_lt n (2 ^ 32)) (λ l.
    let positive : 1 ≤ n = grind (arith, nat_tests) in
    let fits : n < 2 ^ 32 = grind (arith, nat_tests) in
    only_some n (subst (λ g. SpellsLength g n) (sym is.1) (SpellsLength.length is.2 positive fits)))))

pub length_again : {f : Form} {n : ℕ} → SpellsLength f n → length_at f ≡ Some n
length_again (SpellsLength.length {digits = d} {n = n} is some l) =
    let below : n < 2 ^ 64 = omega arith in
    let positive : (n == 0) ≡ false = grind (arith, nat_tests) in
    let small : nat_lt n (2 ^ 32) ≡ true = grind (arith, nat_tests) in
    rw (number_at_again d n is below, positive, small) refl
