-- A text has at most one reading.
use Rattle.std.proofs.Common.{◌≡◌, ℕ, ◌<◌, Bool, true, false, nat_lt, List, Some, refl, sym, ap, ◌∙◌, arith}
use Rattle.std.proofs.lemmas.Bool.Decides.{nat_tests}
use Rattle.krml_forms.specs.declared.form.Form.{Form}
use Rattle.krml_forms.specs.declared.read.Reading.{Reading}
use Rattle.krml_forms.specs.declared.read.Reading.TheVariants.{Forms, Syntax, Nesting}
use Rattle.krml_forms.specs.Text.{HasForms}
use Rattle.krml_forms.specs.Levels.{AllWithin}
use Rattle.krml_forms.specs.Faults.{IsFirst, IsFaultAt, IsDeepAt}
use Rattle.krml_forms.specs.Reading.{HasReading}
use Rattle.krml_forms.proofs.Clean.{read_again, no_fault, no_deep}

-- a property first holds at one place
pub same_first : (P : ℕ → Type 0) (a b : ℕ) → IsFirst P a → IsFirst P b → a ≡ b
same_first P a b x y = below (nat_lt a b) (nat_lt b a) refl refl
  where
    below : (t u : Bool) → nat_lt a b ≡ t → nat_lt b a ≡ u → a ≡ b
    below true u e f = let l : a < b = grind (arith, nat_tests) in absurd (y.1 a l x.0)
    below false true e f = let l : b < a = grind (arith, nat_tests) in absurd (x.1 b l y.0)
    below false false e f = grind (arith, nat_tests)

-- a text has at most one list of forms of few levels
pub same_forms : (text : List ℕ) (f g : List Form) → HasForms text f → AllWithin 64 f → HasForms text g → AllWithin 64 g → f ≡ g
same_forms text f g a b c d = let p = read_again text f a b in let q = read_again text g c d in let e : Some f ≡ Some g = sym p ∙ q in cc

pub same_reading : (text : List ℕ) (a b : Reading) → HasReading text a → HasReading text b → a ≡ b
same_reading text (Forms f) (Forms g) x y = ap Forms (same_forms text f g x.0 x.1 y.0 y.1)
same_reading text (Forms f) (Syntax b) x y = absurd (no_fault text f x.0 x.1 b y.0)
same_reading text (Forms f) (Nesting b) x y = absurd (no_deep text f x.0 x.1 b y.0.0)
same_reading text (Syntax a) (Forms g) x y = absurd (no_fault text g y.0 y.1 a x.0)
same_reading text (Syntax a) (Syntax b) x y = ap Syntax (same_first (IsFaultAt text) a b x y)
same_reading text (Syntax a) (Nesting b) x y = absurd (y.1 a x.0)
same_reading text (Nesting a) (Forms g) x y = absurd (no_deep text g y.0 y.1 a x.0.0)
same_reading text (Nesting a) (Syntax b) x y = absurd (x.1 b y.0)
same_reading text (Nesting a) (Nesting b) x y = ap Nesting (same_first (IsDeepAt text) a b x.0 y.0)
