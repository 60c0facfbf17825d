-- Tables of types with one name or one node more.
use Rattle.std.proofs.Common.{◌≡◌, ℕ, ◌+◌, List, [], ◌∷◌, ◌++◌, length, get_or, slice_get, Some, refl, sym, ap, subst, ◌∙◌, arith}
use Rattle.std.specs.List.{AllByRecursion}
use Rattle.std.proofs.lemmas.Option.{get_or_from_slice_get, slice_get_within}
use Rattle.std.proofs.lemmas.List.{length-append}
use Rattle.krml_syntax.specs.declared.tree.Ty.{Ty, out-Ty}
use Rattle.krml_syntax.specs.declared.tree.Ty.TheVariants as ty
use Rattle.krml_syntax.specs.declared.tree.Ty.TheOpen.{Ty-F}
use Rattle.krml_intern.specs.declared.node.Node.{Node}
use Rattle.krml_intern.specs.declared.node.Node.TheVariants as n
use Rattle.krml_intern.specs.Puts.{Lacks}
use Rattle.krml_intern.specs.Table.{Table, Means, Names, Grows, Stands, applied, level, types_from, Apart, HasName, IsBelow, AreTypes}
use Rattle.krml_intern.proofs.Lasts.{at_last, still, Before, before, last, before_or_last}

-- ---- what a node stands for

pub level_is : (t : Table) (x : Node) (b : Ty) → Stands t x b → level t.names t.types x ≡ b
level_is t n.Bool b e = sym e
level_is t n.Unit b e = sym e
level_is t (n.Int i) b e = sym e
level_is t (n.Buf k) b (a, m, e) = ap ty.Buf (get_or_from_slice_get t.types k a ty.Unit m) ∙ sym e
level_is t (n.Var k) b (x, m, e) = ap ty.Var (get_or_from_slice_get t.names k x [] m) ∙ sym e
level_is t (n.Head k) b (x, m, e) = ap (λ y. ty.Named y []) (get_or_from_slice_get t.names k x [] m) ∙ sym e
level_is t (n.App f k) b (x, args, a, m, m', e) =
    ap (λ z. applied (out-Ty z) (get_or t.types k ty.Unit)) (get_or_from_slice_get t.types f (ty.Named x args) ty.Unit m)
    ∙ ap (λ z. applied z (get_or t.types k ty.Unit)) (ty.outs-Named x args)
    ∙ ap (λ z. ty.Named x (args ++ z ∷ [])) (get_or_from_slice_get t.types k a ty.Unit m') ∙ sym e

pub one_type : (t : Table) (x : Node) (a b : Ty) → Stands t x a → Stands t x b → a ≡ b
one_type t x a b p q = sym (level_is t x a p) ∙ level_is t x b q

pub stands_still : (old new : Table) → Grows old new → (x : Node) (b : Ty) → Stands old x b → Stands new x b
stands_still old new g n.Bool b e = e
stands_still old new g n.Unit b e = e
stands_still old new g (n.Int i) b e = e
stands_still old new g (n.Buf k) b (a, m, e) = (a, g.types k a m, e)
stands_still old new g (n.Var k) b (x, m, e) = (x, g.names k x m, e)
stands_still old new g (n.Head k) b (x, m, e) = (x, g.names k x m, e)
stands_still old new g (n.App f k) b (x, args, a, m, m', e) = (x, args, a, g.types f (ty.Named x args) m, g.types k a m', e)

-- ---- the node of a type

no_last : {A : Type 0} (xs : List A) (x : A) → [] ≡ xs ++ x ∷ [] → ⊥
no_last [] x e = (cc)
no_last (y ∷ xs) x e = (cc)

pub fronts : {A : Type 0} (xs ys : List A) (x y : A) → xs ++ x ∷ [] ≡ ys ++ y ∷ [] → (xs ≡ ys) × (x ≡ y)
fronts [] [] x y e = (refl, cc)
fronts [] (z ∷ ys) x y e = let rest : [] ≡ ys ++ y ∷ [] = cc in absurd (no_last ys y rest)
fronts (z ∷ xs) [] x y e = let rest : [] ≡ xs ++ x ∷ [] = cc in absurd (no_last xs x rest)
fronts (z ∷ xs) (w ∷ ys) x y e =
    let rest : xs ++ x ∷ [] ≡ ys ++ y ∷ [] = cc in
    let front : xs ≡ ys = (fronts xs ys x y rest).0 in
    let head : z ≡ w = cc in
    (cc, (fronts xs ys x y rest).1)

pub data FromNamed (t : Table) (y : List ℕ) (ts : List Ty) (x : Node) : Type 0 where
  head : (k : ℕ) → ts ≡ [] → Names t k y → x ≡ n.Head k → FromNamed t y ts x
  app : (f k : ℕ) (args : List Ty) (a : Ty) → ts ≡ args ++ a ∷ [] → Means t f (ty.Named y args) → Means t k a → x ≡ n.App f k → FromNamed t y ts x

abbrev pub From : Table → Ty-F Ty → Node → Type 0
From t Ty-F.Bool x = x ≡ n.Bool
From t Ty-F.Unit x = x ≡ n.Unit
From t (Ty-F.Int i) x = x ≡ n.Int i
From t (Ty-F.Buf a) x = (k : ℕ) × Means t k a × (x ≡ n.Buf k)
From t (Ty-F.Var y) x = (k : ℕ) × Names t k y × (x ≡ n.Var k)
From t (Ty-F.Named y ts) x = FromNamed t y ts x

by : (t : Table) (x : Node) (b c : Ty) (f : Ty-F Ty) → b ≡ c → out-Ty c ≡ f → From t f x → From t (out-Ty b) x
by t x b c f e o h = subst (λ g. From t g x) (sym (ap out-Ty e ∙ o)) h

pub from : (t : Table) (x : Node) (b : Ty) → Stands t x b → From t (out-Ty b) x
from t n.Bool b e = by t n.Bool b ty.Bool Ty-F.Bool e ty.outs-Bool refl
from t n.Unit b e = by t n.Unit b ty.Unit Ty-F.Unit e ty.outs-Unit refl
from t (n.Int i) b e = by t (n.Int i) b (ty.Int i) (Ty-F.Int i) e (ty.outs-Int i) refl
from t (n.Buf k) b (a, m, e) = by t (n.Buf k) b (ty.Buf a) (Ty-F.Buf a) e (ty.outs-Buf a) (k, m, refl)
from t (n.Var k) b (x, m, e) = by t (n.Var k) b (ty.Var x) (Ty-F.Var x) e (ty.outs-Var x) (k, m, refl)
from t (n.Head k) b (x, m, e) = by t (n.Head k) b (ty.Named x []) (Ty-F.Named x []) e (ty.outs-Named x []) (head k refl m refl)
from t (n.App f k) b (x, args, a, m, m', e) = by t (n.App f k) b (ty.Named x (args ++ a ∷ [])) (Ty-F.Named x (args ++ a ∷ [])) e (ty.outs-Named x (args ++ a ∷ [])) (app f k args a refl m m' refl)

one_node : (t : Table) → Apart t.names → Apart t.types → (b : Ty-F Ty) (x y : Node) → From t b x → From t b y → x ≡ y
one_node t u v Ty-F.Bool x y p q = p ∙ sym q
one_node t u v Ty-F.Unit x y p q = p ∙ sym q
one_node t u v (Ty-F.Int i) x y p q = p ∙ sym q
one_node t u v (Ty-F.Buf a) x y (k, m, e) (j, o, f) = e ∙ ap n.Buf (v k j a m o) ∙ sym f
one_node t u v (Ty-F.Var z) x y (k, m, e) (j, o, f) = e ∙ ap n.Var (u k j z m o) ∙ sym f
one_node t u v (Ty-F.Named z ts) x y (head k _ m e) (head j _ o f) = e ∙ ap n.Head (u k j z m o) ∙ sym f
one_node t u v (Ty-F.Named z ts) x y (head k l m e) (app g j args a l' o o' f) = absurd (no_last args a (sym l ∙ l'))
one_node t u v (Ty-F.Named z ts) x y (app g j args a l' o o' f) (head k l m e) = absurd (no_last args a (sym l ∙ l'))
one_node t u v (Ty-F.Named z ts) x y (app g j args a l m m' e) (app h k args' a' l' o o' f) =
    let same : (args ≡ args') × (a ≡ a') = fronts args args' a a' (sym l ∙ l') in
    let o_is : Means t h (ty.Named z args) = subst (λ xs. Means t h (ty.Named z xs)) (sym same.0) o in
    let o'_is : Means t k a = subst (λ b. Means t k b) (sym same.1) o' in
    let g_is : g ≡ h = v g h (ty.Named z args) m o_is in
    let j_is : j ≡ k = v j k a m' o'_is in
    e ∙ ap (λ i. n.App i j) g_is ∙ ap (n.App h) j_is ∙ sym f

pub node_is : (t : Table) → Apart t.names → Apart t.types → (x y : Node) (b : Ty) → Stands t x b → Stands t y b → x ≡ y
node_is t u v x y b p q = one_node t u v (out-Ty b) x y (from t x b p) (from t y b q)

-- ---- one node more

pub types_last : (names : List (List ℕ)) (types : List Ty) (nodes : List Node) (x : Node)
    → types_from names types (nodes ++ x ∷ []) ≡ types_from names types nodes ++ level names (types_from names types nodes) x ∷ []
types_last names types [] x = refl
types_last names types (y ∷ nodes) x = types_last names (types ++ level names types y ∷ []) nodes x

pub types_long : (names : List (List ℕ)) (types : List Ty) (nodes : List Node) → length (types_from names types nodes) ≡ length types + length nodes
types_long names types [] = omega arith
types_long names types (y ∷ nodes) =
    let long = types_long names (types ++ level names types y ∷ []) nodes in
    let more = length-append types (level names types y ∷ []) in
    omega (arith, long, more)

is_named : (t : Table) (x : Node) (b : Ty) → Stands t x b → HasName t.names x
is_named t n.Bool b e = tt
is_named t n.Unit b e = tt
is_named t (n.Int i) b e = tt
is_named t (n.Buf k) b e = tt
is_named t (n.Var k) b (x, m, e) = (x, m)
is_named t (n.Head k) b (x, m, e) = (x, m)
is_named t (n.App f k) b e = tt

all_last : {A : Type 0} (P : A → Type 0) (xs : List A) (x : A) → AllByRecursion P xs → P x → AllByRecursion P (xs ++ x ∷ [])
all_last P [] x all here = (here, tt)
all_last P (y ∷ xs) x all here = (all.0, all_last P xs x all.1 here)

is_below : (t : Table) (x : Node) (b : Ty) → Stands t x b → IsBelow (length t.types) x
is_below t n.Bool b e = tt
is_below t n.Unit b e = tt
is_below t (n.Int i) b e = tt
is_below t (n.Buf k) b (a, m, e) = slice_get_within t.types k a m
is_below t (n.Var k) b e = tt
is_below t (n.Head k) b e = tt
is_below t (n.App f k) b (x, args, a, m, m', e) = (slice_get_within t.types f (ty.Named x args) m, slice_get_within t.types k a m')

pub node_more : (names : List (List ℕ)) (nodes : List Node) (types : List Ty) (x : Node) (a : Ty) → AreTypes names nodes types → length types ≡ length nodes
    → Lacks nodes x → Stands (record { names = names; types = types }) x a → AreTypes names (nodes ++ x ∷ []) (types ++ a ∷ [])
node_more names nodes types x a ok long lacks stands =
    let old : Table = record { names = names; types = types } in
    let new : Table = record { names = names; types = types ++ a ∷ [] } in
    let grows : Grows old new = record { names = λ k y e. e; types = λ k b e. still types (a ∷ []) k b e } in
    record {
      named = all_last (HasName names) nodes x ok.named (is_named old x a stands);
      names_apart = ok.names_apart;
      types_apart = apart;
      below = λ k y e. under k y (before_or_last nodes x k y e);
      stand = λ k b e. stand old new grows k b (before_or_last types a k b e);
    }
  where
    stand : (old new : Table) → Grows old new → (k : ℕ) (b : Ty) → Before types a k b → (y : Node) × (slice_get (nodes ++ x ∷ []) k ≡ Some y) × Stands (record { names = names; types = types ++ a ∷ [] }) y b
    stand old new grows k b (before e) = let was = ok.stand k b e in
        (was.0, still nodes (x ∷ []) k was.0 was.1, stands_still (record { names = names; types = types }) (record { names = names; types = types ++ a ∷ [] }) (record { names = λ k y e. e; types = λ k b e. still types (a ∷ []) k b e }) was.0 b was.2)
    stand old new grows k b (last i e) = (
      x,
      ap (slice_get (nodes ++ x ∷ [])) (i ∙ long) ∙ at_last nodes x,
      subst (λ c. Stands (record { names = names; types = types ++ a ∷ [] }) x c) (sym e) (stands_still (record { names = names; types = types }) (record { names = names; types = types ++ a ∷ [] }) (record { names = λ k y e. e; types = λ k b e. still types (a ∷ []) k b e }) x a stands),
    )

    under : (k : ℕ) (y : Node) → Before nodes x k y → IsBelow k y
    under k y (before e) = ok.below k y e
    under k y (last i e) = subst (λ z. IsBelow k z) (sym e) (subst (λ m. IsBelow m x) (long ∙ sym i) (is_below (record { names = names; types = types }) x a stands))

    absent : (k : ℕ) (b : Ty) → slice_get types k ≡ Some b → b ≡ a → ⊥
    absent k b e is = let was = ok.stand k b e in
        let same : was.0 ≡ x = node_is (record { names = names; types = types }) ok.names_apart ok.types_apart was.0 x a (subst (λ c. Stands (record { names = names; types = types }) was.0 c) is was.2) stands in
        lacks k (was.1 ∙ ap Some same)

    go : (m k : ℕ) (b : Ty) → Before types a m b → Before types a k b → m ≡ k
    go m k b (before e) (before f) = ok.types_apart m k b e f
    go m k b (before e) (last i f) = absurd (absent m b e f)
    go m k b (last i f) (before e) = absurd (absent k b e f)
    go m k b (last i e) (last j f) = i ∙ sym j

    apart : Apart (types ++ a ∷ [])
    apart m k b e f = go m k b (before_or_last types a m b e) (before_or_last types a k b f)

-- ---- one name more

level_more : (names more : List (List ℕ)) (types : List Ty) (x : Node) → HasName names x → level (names ++ more) types x ≡ level names types x
level_more names more types n.Bool h = refl
level_more names more types n.Unit h = refl
level_more names more types (n.Int i) h = refl
level_more names more types (n.Buf k) h = refl
level_more names more types (n.Var k) (x, m) = ap ty.Var (get_or_from_slice_get (names ++ more) k x [] (still names more k x m) ∙ sym (get_or_from_slice_get names k x [] m))
level_more names more types (n.Head k) (x, m) = ap (λ y. ty.Named y []) (get_or_from_slice_get (names ++ more) k x [] (still names more k x m) ∙ sym (get_or_from_slice_get names k x [] m))
level_more names more types (n.App f k) h = refl

pub types_more : (names more : List (List ℕ)) (types : List Ty) (nodes : List Node) → AllByRecursion (HasName names) nodes → types_from (names ++ more) types nodes ≡ types_from names types nodes
types_more names more types [] all = refl
types_more names more types (x ∷ nodes) all =
    ap (λ a. types_from (names ++ more) (types ++ a ∷ []) nodes) (level_more names more types x all.0) ∙ types_more names more (types ++ level names types x ∷ []) nodes all.1

named_more : (names more : List (List ℕ)) (x : Node) → HasName names x → HasName (names ++ more) x
named_more names more n.Bool h = tt
named_more names more n.Unit h = tt
named_more names more (n.Int i) h = tt
named_more names more (n.Buf k) h = tt
named_more names more (n.Var k) (x, m) = (x, still names more k x m)
named_more names more (n.Head k) (x, m) = (x, still names more k x m)
named_more names more (n.App f k) h = tt

all_more : (names more : List (List ℕ)) (nodes : List Node) → AllByRecursion (HasName names) nodes → AllByRecursion (HasName (names ++ more)) nodes
all_more names more [] all = tt
all_more names more (x ∷ nodes) all = (named_more names more x all.0, all_more names more nodes all.1)

apart_last : {A : Type 0} (xs : List A) (x : A) → Apart xs → Lacks xs x → Apart (xs ++ x ∷ [])
apart_last {A} xs x apart lacks m k b e f = go (before_or_last xs x m b e) (before_or_last xs x k b f)
  where
    go : Before xs x m b → Before xs x k b → m ≡ k
    go (before e) (before f) = apart m k b e f
    go (before e) (last i f) = absurd (lacks m (e ∙ ap Some f))
    go (last i f) (before e) = absurd (lacks k (e ∙ ap Some f))
    go (last i e) (last j f) = i ∙ sym j

pub name_more : (names : List (List ℕ)) (nodes : List Node) (types : List Ty) (x : List ℕ) → AreTypes names nodes types → Lacks names x → AreTypes (names ++ x ∷ []) nodes types
name_more names nodes types x ok lacks = record {
  named = all_more names (x ∷ []) nodes ok.named;
  names_apart = apart_last names x ok.names_apart lacks;
  types_apart = ok.types_apart;
  below = ok.below;
  stand = λ k b e. let was = ok.stand k b e in (
    was.0,
    was.1,
    stands_still (record { names = names; types = types }) (record { names = names ++ x ∷ []; types = types })
        (record { names = λ k y e. still names (x ∷ []) k y e; types = λ k b e. e }) was.0 b was.2,
  );
}
