-- That definitions are in order has at most one proof.
use Rattle.std.proofs.Common.{◌≡◌, List, [], ◌∷◌, refl}
use Rattle.std.proofs.Math.Bool.{Bool-set}
use Rattle.std.proofs.Math.Bridge.{le_prop}
use Rattle.std.specs.List.{AllByRecursion}
use Rattle.krml_syntax.specs.declared.tree.Ty.{Ty, out-Ty}
use Rattle.krml_syntax.specs.declared.tree.Ty.TheOpen.{Ty-F}
use Rattle.krml_syntax.specs.declared.tree.Def.{Def}
use Rattle.krml_layout.specs.Ordered.{KnownIn, IsKnown, types_of, IsInOrder, AreInOrder}
use Rattle.krml_ast.specs.Leaves.{composite_of}

known_in_prop : (defs : List Def) (o : Ty-F Ty) (a b : KnownIn defs o) → a ≡ b
known_in_prop defs Ty-F.Bool a b = refl
known_in_prop defs Ty-F.Unit a b = refl
known_in_prop defs (Ty-F.Int i) a b = refl
known_in_prop defs (Ty-F.Buf c) a b = refl
known_in_prop defs (Ty-F.Var x) a b = refl
known_in_prop defs (Ty-F.Named x args) a b = Bool-set _ _ a b

all_known_prop : (defs : List Def) (types : List Ty) (a b : AllByRecursion (IsKnown defs) types) → a ≡ b
all_known_prop defs [] a b = refl
all_known_prop defs (ty ∷ types) a b = λ i. (known_in_prop defs (out-Ty ty) a.0 b.0 i, all_known_prop defs types a.1 b.1 i)

one_prop : (before : List Def) (def : Def) (a b : IsInOrder before def) → a ≡ b
one_prop before def a b = λ i. record {
  new = λ x e. Bool-set _ _ (a.new x e) (b.new x e) i;
  made = all_known_prop before (types_of (composite_of def)) a.made b.made i;
  small = le_prop a.small b.small i;
}

pub in_order_prop : (defs : List Def) (a b : AreInOrder defs) → a ≡ b
in_order_prop defs a b = λ i before def after is. one_prop before def (a before def after is) (b before def after is) i
