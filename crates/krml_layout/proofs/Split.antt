-- The definition that a name means, and the definitions before it.
use Rattle.std.proofs.Common.{◌≡◌, ℕ, ◌<◌, Bool, true, false, if◌then◌else◌, List, [], ◌∷◌, ◌++◌, length, Option, Some, None, is_some, refl, ap, ◌∙◌, subst, arith}
use Rattle.std.specs.Str.{bytes_eq}
use Rattle.std.specs.Option.{option_or}
use Rattle.krml_syntax.specs.declared.tree.Def.{Def}
use Rattle.krml_syntax.specs.declared.tree.Def.TheVariants as d
use Rattle.krml_ast.specs.Names.{Composite, Struct, Sum, type_here, type_named}
use Rattle.krml_ast.specs.Leaves.{composite_of}

pub record NamedAt (defs : List Def) (x : List ℕ) (c : Composite) : Type 0 where
  pub before : List Def
  pub def : Def
  pub after : List Def
  pub is : before ++ def ∷ after ≡ defs
  pub here : type_here x def ≡ Some c

pub there_is : {A : Type 0} (o : Option A) → is_some o ≡ true → (a : A) × (o ≡ Some a)
there_is None e = absurd (cc)
there_is (Some a) e = (a, refl)

pub none_is : {A : Type 0} (o : Option A) → is_some o ≡ false → o ≡ None
none_is None e = refl
none_is (Some a) e = absurd (cc)

pub named_at : (defs : List Def) (x : List ℕ) (c : Composite) → type_named defs x ≡ Some c → NamedAt defs x c
named_at [] x c e = absurd (cc)
named_at (def ∷ defs) x c e = go (type_here x def) refl e (named_at defs x c)
  where
    go : (o : Option Composite) → type_here x def ≡ o → option_or o (type_named defs x) ≡ Some c
        → (type_named defs x ≡ Some c → NamedAt defs x c) → NamedAt (def ∷ defs) x c
    go (Some w) q e' later = record { before = []; def = def; after = defs; is = refl; here = q ∙ e' }
    go None q e' later =
        let l = later e' in
        record { before = def ∷ l.before; def = l.def; after = l.after; is = ap (λ z. def ∷ z) l.is; here = l.here }

longer : (before : List Def) (def : Def) (after : List Def) → length before < length (before ++ def ∷ after)
longer [] def after = omega arith
longer (other ∷ before) def after = let l = longer before def after in omega (arith, l)

pub shorter : (before : List Def) (def : Def) (after defs : List Def) → before ++ def ∷ after ≡ defs → length before < length defs
shorter before def after defs is = subst (λ z. length before < length z) is (longer before def after)

-- what a definition of a name defines
pub composite_here : (x : List ℕ) (def : Def) (c : Composite) → type_here x def ≡ Some c → composite_of def ≡ Some c
composite_here x (d.Struct name vars fields) c e = go (bytes_eq name x) e
  where
    go : (b : Bool) → (if b then Some (Struct vars fields) else None) ≡ Some c → Some (Struct vars fields) ≡ Some c
    go true q = q
    go false q = absurd (cc)
composite_here x (d.Sum name vars cons) c e = go (bytes_eq name x) e
  where
    go : (b : Bool) → (if b then Some (Sum vars cons) else None) ≡ Some c → Some (Sum vars cons) ≡ Some c
    go true q = q
    go false q = absurd (cc)
composite_here x (d.Table name ty nums) c e = absurd (cc)
composite_here x (d.Fun name vars params result body) c e = absurd (cc)
composite_here x (d.Entry name) c e = absurd (cc)
