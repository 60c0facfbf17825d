-- Items that are looked up by what they are.
use Rattle.std.specs.Prelude.{◌≡◌, ℕ, List, Option, Some, slice_get}
use Rattle.std.specs.BTreeMap.{BTreeMap, get}
use Rattle.std.specs.declared.cmp.Ordering.{Ordering}
use Rattle.std.specs.Ordering.{nat_cmp, ordering_then}
use Rattle.krml_intern.specs.declared.node.Node.{Node}
use Rattle.krml_intern.specs.Keys.{key_of}

-- A look-up gives the place of each item, and of no other.
pub record IsExact {A : Type 0} (items : List A) (place : A → Option ℕ) : Type 0 where
  pub at : (x : A) (n : ℕ) → place x ≡ Some n → slice_get items n ≡ Some x
  pub there : (x : A) (n : ℕ) → slice_get items n ≡ Some x → place x ≡ Some n

abbrev pub key_cmp : ℕ × (ℕ × ℕ) → ℕ × (ℕ × ℕ) → Ordering
key_cmp x y = ordering_then (nat_cmp x.0 y.0) (ordering_then (nat_cmp x.1.0 y.1.0) (nat_cmp x.1.1 y.1.1))

abbrev pub node_place : BTreeMap (ℕ × (ℕ × ℕ)) ℕ → Node → Option ℕ
node_place places x = get key_cmp places (key_of x)
