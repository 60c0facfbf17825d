-- What a reader gives has a property: a lemma for each kind of step.
use Rattle.std.proofs.Common.{◌≡◌, Bool, true, false, cond, Option, Some, None, refl, subst}
use Rattle.krml_syntax.specs.Read.{◌>>=◌}

-- what is given has P
pub record Only {A : Type 0} (P : A → Type 0) (o : Option A) : Type 0 where
  pub holds : (a : A) → o ≡ Some a → P a

pub only_none : {A : Type 0} {P : A → Type 0} → Only P None
only_none = record { holds = λ a e. absurd (cc) }

pub only_some : {A : Type 0} {P : A → Type 0} (x : A) → P x → Only P (Some x)
only_some {P = P} x p = record { holds = λ a e. let same : x ≡ a = cc in subst P same p }

pub only_then : {A B : Type 0} {P : A → Type 0} {Q : B → Type 0} (o : Option A) {f : A → Option B} → Only P o → ((a : A) → P a → Only Q (f a)) → Only Q (o >>= f)
only_then (Some x) h k = k x (h.holds x refl)
only_then None h k = only_none

pub only_if : {A : Type 0} {P : A → Type 0} (b : Bool) {o : Option A} → (b ≡ true → Only P o) → Only P (cond b o None)
only_if true k = k refl
only_if false k = only_none

pub only_unless : {A : Type 0} {P : A → Type 0} (b : Bool) {o : Option A} → (b ≡ false → Only P o) → Only P (cond b None o)
only_unless true k = only_none
only_unless false k = k refl

pub only_more : {A : Type 0} {P Q : A → Type 0} {o : Option A} → Only P o → ((a : A) → P a → Q a) → Only Q o
only_more h k = record { holds = λ a e. k a (h.holds a e) }
