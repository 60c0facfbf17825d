-- No limit is exceeded exactly where each count is within the limit of its kind.
use Rattle.std.proofs.Common.{◌≡◌, ℕ, ◌≤◌, false, nat_lt, List, [], ◌∷◌, Option, Some, None, refl, arith}
use Rattle.std.specs.List.{AllByRecursion}
use Rattle.std.proofs.lemmas.Bool.Decides.{nat_tests}
use Rattle.krml_forms.specs.declared.form.Form.{Form}
use Rattle.krml_syntax.specs.declared.limit.LimitKind.{LimitKind}
use Rattle.krml_syntax.specs.declared.limit.LimitKind.TheVariants as k
use Rattle.krml_syntax.specs.declared.tree.Def.{Def}
use Rattle.krml_syntax.specs.Limits.{limit_of, kinds, counts, first_above, excess, excess_or, first_excess_of, first_excess}
use Rattle.krml_syntax.proofs.Limits.{none_above}
use Rattle.krml_limits.specs.Within.{IsWithin}

-- ---- counts of a kind

not_above : (limit n : ℕ) → n ≤ limit → nat_lt limit n ≡ false
not_above limit n l = grind (arith, nat_tests)

above_none : (limit : ℕ) (ns : List ℕ) → AllByRecursion (λ n. n ≤ limit) ns → first_above limit ns ≡ None
above_none limit [] all = refl
above_none limit (n ∷ ns) all = rw (not_above limit n all.0) (above_none limit ns all.1)

-- ---- kinds in order

all_none : (fs : List Form) (ds : List Def) (ks : List LimitKind) → first_excess_of ks fs ds ≡ None → AllByRecursion (λ kind. excess kind fs ds ≡ None) ks
all_none fs ds [] e = tt
all_none fs ds (kind ∷ ks) e = go (excess kind fs ds) (all_none fs ds ks) e
  where
    go : (o : Option ℕ) → (first_excess_of ks fs ds ≡ None → AllByRecursion (λ kind. excess kind fs ds ≡ None) ks) → excess_or kind (first_excess_of ks fs ds) o ≡ None → (o ≡ None) × AllByRecursion (λ kind. excess kind fs ds ≡ None) ks
    go (Some n) more e = absurd (cc)
    go None more e = (refl, more e)

none_of : (fs : List Form) (ds : List Def) (ks : List LimitKind) → ((kind : LimitKind) → excess kind fs ds ≡ None) → first_excess_of ks fs ds ≡ None
none_of fs ds [] all = refl
none_of fs ds (kind ∷ ks) all = rw (all kind) (none_of fs ds ks all)

-- each kind is among them
none_at : (fs : List Form) (ds : List Def) → AllByRecursion (λ kind. excess kind fs ds ≡ None) kinds → (kind : LimitKind) → excess kind fs ds ≡ None
none_at fs ds all k.Definitions = all.0
none_at fs ds all k.Name = all.1.0
none_at fs ds all k.Forms = all.1.1.0
none_at fs ds all k.Variables = all.1.1.1.0
none_at fs ds all k.Parameters = all.1.1.1.1.0
none_at fs ds all k.Fields = all.1.1.1.1.1.0
none_at fs ds all k.Constructors = all.1.1.1.1.1.1.0
none_at fs ds all k.Elements = all.1.1.1.1.1.1.1.0

-- ----

pub within : (fs : List Form) (ds : List Def) → first_excess fs ds ≡ None → IsWithin fs ds
within fs ds e kind = none_above (limit_of kind) (counts kind fs ds) (none_at fs ds (all_none fs ds kinds e) kind)

pub none_where_within : (fs : List Form) (ds : List Def) → IsWithin fs ds → first_excess fs ds ≡ None
none_where_within fs ds all = none_of fs ds kinds (λ kind. above_none (limit_of kind) (counts kind fs ds) (all kind))
