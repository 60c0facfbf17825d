-- Variables in scope, the newest first.
use Rattle.std.specs.Prelude.{◌≡◌, ℕ, ◌-◌, Bool, true, not, ◌&&◌, if◌then◌else◌, List, [], ◌∷◌, length, drop, map, Option, Some, None}
use Rattle.std.specs.BTreeMap.{BTreeMap, get_by}
use Rattle.std.specs.Cmp.Lexicographic.{slice_cmp}
use Rattle.std.specs.Ordering.{nat_cmp}
use Rattle.std.specs.Str.{bytes_eq}
use Rattle.krml_intern.specs.declared.entry.Entry.{Entry}
use denote.Ref.{Bor}

-- the newest value of a name
abbrev pub look : {A : Type 0} → List (List ℕ × A) → List ℕ → Option A
look [] x = None
look ((y, v) ∷ vars) x = if bytes_eq y x then Some v else look vars x

-- the oldest n
abbrev pub cut : {A : Type 0} → ℕ → List (List ℕ × A) → List (List ℕ × A)
cut n vars = drop (length vars - n) vars

abbrev pub is_new : {A : Type 0} → List (List ℕ × A) → List ℕ → Bool
is_new [] x = true
is_new ((y, v) ∷ vars) x = not (bytes_eq x y) && is_new vars x

-- no two have one name
abbrev pub are_distinct : {A : Type 0} → List (List ℕ × A) → Bool
are_distinct [] = true
are_distinct ((x, v) ∷ vars) = is_new vars x && are_distinct vars

abbrev pub shown : List Entry → List (List ℕ × ℕ)
shown es = map (λ e. (e.name.now, e.value)) es

-- where the newest of a name stands, from the oldest
abbrev pub newest : List Entry → List ℕ → Option ℕ
newest [] x = None
newest (e ∷ es) x = if bytes_eq e.name.now x then Some (length es) else newest es x

-- each knows which one it hides
abbrev pub KnowHidden : List Entry → Type 0
KnowHidden [] = Unit {0}
KnowHidden (e ∷ es) = (e.hidden ≡ newest es e.name.now) × KnowHidden es

abbrev pub has : BTreeMap (Bor (List ℕ)) ℕ → List ℕ → Option ℕ
has places x = get_by (λ k. slice_cmp nat_cmp x k.now) places

pub record IsScope (es : List Entry) (places : BTreeMap (Bor (List ℕ)) ℕ) : Type 0 where
  pub at : (x : List ℕ) → has places x ≡ newest es x
  pub hidden : KnowHidden es
