-- What a table of types is after a node or a name was put into it.
use Prim.Native.Nat.{zero, suc}
use Rattle.std.proofs.Common.{◌↔◌, ◌≡◌, ℕ, List, [], ◌∷◌, ◌++◌, length, slice_get, ◌<◌, Option, Some, None, refl, sym, ap, subst, ◌∙◌, arith}
use Rattle.std.proofs.lemmas.Option.{slice_get_within}
use Rattle.krml_syntax.specs.declared.tree.Ty.{Ty, out-Ty}
use Rattle.krml_syntax.specs.declared.tree.Ty.TheVariants as ty
use Rattle.krml_syntax.specs.Types.{element_of}
use Rattle.krml_intern.specs.declared.node.Node.TheVariants as n
use Rattle.krml_intern.specs.declared.node.Node.{Node}
use Rattle.krml_intern.specs.Parts.{element_in}
use Rattle.krml_intern.specs.Puts.{Puts, found, added}
use Rattle.krml_intern.specs.Table.{Table, Means, Names, Grows, Stands, types_of, AreTypes, IsTable, AllMean, AreKnown, IsNumber}
use Rattle.krml_intern.proofs.Lasts.{at_last, still}
use Rattle.krml_intern.proofs.Grown.{level_is, one_type, types_last, types_long, types_more, node_more, name_more}

abbrev pub seen : List (List ℕ) → List Node → Table
seen names nodes = record { names = names; types = types_of names nodes }

pub grows_same : (t : Table) → Grows t t
grows_same t = record { names = λ k x e. e; types = λ k a e. e }

pub grows_on : (s t u : Table) → Grows s t → Grows t u → Grows s u
grows_on s t u g h = record { names = λ k x e. h.names k x (g.names k x e); types = λ k a e. h.types k a (g.types k a e) }

long : (names : List (List ℕ)) (nodes : List Node) → length (types_of names nodes) ≡ length nodes
long names nodes = let l = types_long names [] nodes in omega (arith, l)

one_more : (names : List (List ℕ)) (nodes : List Node) (x : Node) (a : Ty) → Stands (seen names nodes) x a → types_of names (nodes ++ x ∷ []) ≡ types_of names nodes ++ a ∷ []
one_more names nodes x a s = types_last names [] nodes x ∙ ap (λ b. types_of names nodes ++ b ∷ []) (level_is (seen names nodes) x a s)

there : {A : Type 0} (xs : List A) (k : ℕ) → k < length xs → slice_get xs k ≡ None → ⊥
there [] k l e = absurd (omega (arith, l))
there (x ∷ xs) zero l e = (cc)
there (x ∷ xs) (suc k) l e = there xs k (omega (arith, l)) e

-- ---- a node

pub node_table : (names : List (List ℕ)) (old new : List Node) (x : Node) (k : ℕ) → IsTable names old → Puts old x k new → ((a : Ty) × Stands (seen names old) x a) → IsTable names new
node_table names old new x k ok (found e is) s = subst (IsTable names) (sym is) ok
node_table names old new x k ok (added lacks here is) s =
    subst (IsTable names) (sym is) (subst (AreTypes names (old ++ x ∷ [])) (sym (one_more names old x s.0 s.1)) (node_more names old (types_of names old) x s.0 ok (long names old) lacks s.1))

pub node_means : (names : List (List ℕ)) (old new : List Node) (x : Node) (k : ℕ) → IsTable names old → Puts old x k new → (a : Ty) → Stands (seen names old) x a → Means (seen names new) k a
node_means names old new x k ok (added lacks here is) a s =
    ap (λ ns. slice_get (types_of names ns) k) is ∙ ap (λ ts. slice_get ts k) (one_more names old x a s)
    ∙ ap (slice_get (types_of names old ++ a ∷ [])) (here ∙ sym (long names old)) ∙ at_last (types_of names old) a
node_means names old new x k ok (found e is) a s = ap (λ ns. slice_get (types_of names ns) k) is ∙ go (slice_get (types_of names old) k) refl
  where
    go : (o : Option Ty) → slice_get (types_of names old) k ≡ o → slice_get (types_of names old) k ≡ Some a
    go (Some b) h = let was = ok.stand k b h in
        let node : was.0 ≡ x = let both : Some was.0 ≡ Some x = sym was.1 ∙ e in cc in
        h ∙ ap Some (one_type (seen names old) x b a (subst (λ y. Stands (seen names old) y b) node was.2) s)
    go None h = let in_nodes = slice_get_within old k x e in
        let in_types : k < length (types_of names old) = let l = long names old in omega (arith, l, in_nodes) in
        absurd (there (types_of names old) k in_types h)

pub node_grows : (names : List (List ℕ)) (old new : List Node) (x : Node) (k : ℕ) → Puts old x k new → ((a : Ty) × Stands (seen names old) x a) → Grows (seen names old) (seen names new)
node_grows names old new x k (found e is) s = subst (λ ns. Grows (seen names old) (seen names ns)) (sym is) (grows_same (seen names old))
node_grows names old new x k (added lacks here is) s = subst (λ ns. Grows (seen names old) (seen names ns)) (sym is) (record {
  names = λ j y e. e;
  types = λ j b e. ap (λ ts. slice_get ts j) (one_more names old x s.0 s.1) ∙ still (types_of names old) (s.0 ∷ []) j b e;
})

-- ---- a name

pub name_table : (old new : List (List ℕ)) (nodes : List Node) (x : List ℕ) (k : ℕ) → IsTable old nodes → Puts old x k new → IsTable new nodes
name_table old new nodes x k ok (found e is) = subst (λ xs. IsTable xs nodes) (sym is) ok
name_table old new nodes x k ok (added lacks here is) =
    subst (λ xs. IsTable xs nodes) (sym is) (subst (AreTypes (old ++ x ∷ []) nodes) (sym (types_more old (x ∷ []) [] nodes ok.named)) (name_more old nodes (types_of old nodes) x ok lacks))

pub name_there : (old new : List (List ℕ)) (nodes : List Node) (x : List ℕ) (k : ℕ) → Puts old x k new → Names (seen new nodes) k x
name_there old new nodes x k (found e is) = ap (λ xs. slice_get xs k) is ∙ e
name_there old new nodes x k (added lacks here is) = ap (λ xs. slice_get xs k) is ∙ ap (slice_get (old ++ x ∷ [])) here ∙ at_last old x

pub name_grows : (old new : List (List ℕ)) (nodes : List Node) (x : List ℕ) (k : ℕ) → IsTable old nodes → Puts old x k new → Grows (seen old nodes) (seen new nodes)
name_grows old new nodes x k ok (found e is) = subst (λ xs. Grows (seen old nodes) (seen xs nodes)) (sym is) (grows_same (seen old nodes))
name_grows old new nodes x k ok (added lacks here is) = subst (λ xs. Grows (seen old nodes) (seen xs nodes)) (sym is) (record {
  names = λ j y e. still old (x ∷ []) j y e;
  types = λ j b e. ap (λ ts. slice_get ts j) (types_more old (x ∷ []) [] nodes ok.named) ∙ e;
})

-- ---- numbers

pub all_still : (s t : Table) → Grows s t → (ks : List ℕ) (types : List Ty) → AllMean s ks types → AllMean t ks types
all_still s t g [] [] all = tt
all_still s t g (k ∷ ks) (a ∷ types) all = (g.types k a all.0, all_still s t g ks types all.1)
all_still s t g [] (a ∷ types) all = absurd all
all_still s t g (k ∷ ks) [] all = absurd all

pub known_still : (s t : Table) → Grows s t → (ks : List ℕ) → AreKnown s ks → AreKnown t ks
known_still s t g ks known = record { types = known.types; mean = all_still s t g ks known.types known.mean }

-- ---- what is read

pub same_number : (names : List (List ℕ)) (nodes : List Node) → IsTable names nodes → (j k : ℕ) (a b : Ty) → Means (seen names nodes) j a → Means (seen names nodes) k b → (j ≡ k) ↔ (a ≡ b)
same_number names nodes ok j k a b m o = (
  λ e. let both : Some a ≡ Some b = sym m ∙ ap (slice_get (types_of names nodes)) e ∙ o in cc,
  λ e. ok.types_apart j k a m (o ∙ ap Some (sym e)),
)

pub element_is : (t : Table) (x : Node) (a : Ty) → Stands t x a → IsNumber t (element_in x) (element_of (out-Ty a))
element_is t n.Bool a e = ap (λ b. element_of (out-Ty b)) e ∙ ap element_of ty.outs-Bool
element_is t n.Unit a e = ap (λ b. element_of (out-Ty b)) e ∙ ap element_of ty.outs-Unit
element_is t (n.Int i) a e = ap (λ b. element_of (out-Ty b)) e ∙ ap element_of (ty.outs-Int i)
element_is t (n.Buf j) a (b, m, e) = (b, ap (λ b. element_of (out-Ty b)) e ∙ ap element_of (ty.outs-Buf b), m)
element_is t (n.Var k) a (x, m, e) = ap (λ b. element_of (out-Ty b)) e ∙ ap element_of (ty.outs-Var x)
element_is t (n.Head k) a (x, m, e) = ap (λ b. element_of (out-Ty b)) e ∙ ap element_of (ty.outs-Named x [])
element_is t (n.App f k) a (x, args, b, m, o, e) = ap (λ b. element_of (out-Ty b)) e ∙ ap element_of (ty.outs-Named x (args ++ b ∷ []))
