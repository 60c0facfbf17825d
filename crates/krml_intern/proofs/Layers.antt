-- What the first layer of a type tells of it.
use Rattle.std.proofs.Common.{◌≡◌, ℕ, List, [], ◌∷◌, ◌++◌, slice_get, true, false, Option, Some, None, refl, sym, ap, subst, ◌∙◌}
use Rattle.krml_syntax.specs.declared.tree.Ty.{Ty, out-Ty}
use Rattle.krml_syntax.specs.declared.tree.Ty.TheVariants as ty
use Rattle.krml_syntax.specs.declared.tree.Ty.TheOpen.{Ty-F}
use Rattle.krml_syntax.specs.Types.{is_unit_in}
use Rattle.krml_intern.specs.declared.node.Node.{Node}
use Rattle.krml_intern.specs.declared.node.Node.TheVariants as n
use Rattle.krml_intern.specs.Table.{Table, Means, Stands, AllMean, head_of}
use Rattle.krml_intern.proofs.Grown.{FromNamed, From, from, head, app}

pub here : (t : Table) (r : Option Node) (x : Node) (a : Ty) → r ≡ Some x → (y : Node) × (r ≡ Some y) × Stands t y a → Stands t x a
here t r x a is (y, e, s) = let both : Some y ≡ Some x = sym e ∙ is in let same : y ≡ x = cc in subst (λ z. Stands t z a) same s

-- ---- unit

pub is_unit : (t : Table) (a : Ty) → Stands t n.Unit a → true ≡ is_unit_in (out-Ty a)
is_unit t a e = sym (ap (λ b. is_unit_in (out-Ty b)) e ∙ ap is_unit_in ty.outs-Unit)

pub no_unit : (t : Table) (x : Node) (a : Ty) → Stands t x a → (x ≡ n.Unit → ⊥) → false ≡ is_unit_in (out-Ty a)
no_unit t n.Bool a e not = sym (ap (λ b. is_unit_in (out-Ty b)) e ∙ ap is_unit_in ty.outs-Bool)
no_unit t n.Unit a e not = absurd (not refl)
no_unit t (n.Int i) a e not = sym (ap (λ b. is_unit_in (out-Ty b)) e ∙ ap is_unit_in (ty.outs-Int i))
no_unit t (n.Buf j) a (b, m, e) not = sym (ap (λ b. is_unit_in (out-Ty b)) e ∙ ap is_unit_in (ty.outs-Buf b))
no_unit t (n.Var k) a (x, m, e) not = sym (ap (λ b. is_unit_in (out-Ty b)) e ∙ ap is_unit_in (ty.outs-Var x))
no_unit t (n.Head k) a (x, m, e) not = sym (ap (λ b. is_unit_in (out-Ty b)) e ∙ ap is_unit_in (ty.outs-Named x []))
no_unit t (n.App f k) a (x, args, b, m, o, e) not = sym (ap (λ b. is_unit_in (out-Ty b)) e ∙ ap is_unit_in (ty.outs-Named x (args ++ b ∷ [])))

-- ---- the name of a struct or a sum

pub head_is : (t : Table) (k : ℕ) (a : Ty) → Stands t (n.Head k) a → slice_get t.names k ≡ head_of (out-Ty a)
head_is t k a (x, m, e) = m ∙ sym (ap (λ b. head_of (out-Ty b)) e ∙ ap head_of (ty.outs-Named x []))

pub app_head : (t : Table) (f k : ℕ) (a : Ty) (r : Option (List ℕ)) → Stands t (n.App f k) a → ((b : Ty) → Means t f b → r ≡ head_of (out-Ty b)) → r ≡ head_of (out-Ty a)
app_head t f k a r (x, args, b, m, o, e) h =
    h (ty.Named x args) m ∙ ap head_of (ty.outs-Named x args) ∙ sym (ap (λ b. head_of (out-Ty b)) e ∙ ap head_of (ty.outs-Named x (args ++ b ∷ [])))

pub no_head : (t : Table) (x : Node) (a : Ty) → Stands t x a → ((k : ℕ) → x ≡ n.Head k → ⊥) → ((f k : ℕ) → x ≡ n.App f k → ⊥) → None ≡ head_of (out-Ty a)
no_head t n.Bool a e not_head not_app = sym (ap (λ b. head_of (out-Ty b)) e ∙ ap head_of ty.outs-Bool)
no_head t n.Unit a e not_head not_app = sym (ap (λ b. head_of (out-Ty b)) e ∙ ap head_of ty.outs-Unit)
no_head t (n.Int i) a e not_head not_app = sym (ap (λ b. head_of (out-Ty b)) e ∙ ap head_of (ty.outs-Int i))
no_head t (n.Buf j) a (b, m, e) not_head not_app = sym (ap (λ b. head_of (out-Ty b)) e ∙ ap head_of (ty.outs-Buf b))
no_head t (n.Var k) a (x, m, e) not_head not_app = sym (ap (λ b. head_of (out-Ty b)) e ∙ ap head_of (ty.outs-Var x))
no_head t (n.Head k) a s not_head not_app = absurd (not_head k refl)
no_head t (n.App f k) a s not_head not_app = absurd (not_app f k refl)

-- ---- the type arguments of a struct or a sum

-- type arguments with the last one apart
pub record Parted (t : Table) (f k : ℕ) (x : List ℕ) (args : List Ty) : Type 0 where
  pub front : List Ty
  pub last : Ty
  pub is : args ≡ front ++ last ∷ []
  pub means_front : Means t f (ty.Named x front)
  pub means_last : Means t k last

pub parted : (t : Table) (f k : ℕ) (x : List ℕ) (args : List Ty) → Stands t (n.App f k) (ty.Named x args) → Parted t f k x args
parted t f k x args (y, front, b, m, o, e) =
    let layer : Ty-F.Named x args ≡ Ty-F.Named y (front ++ b ∷ []) = sym (ty.outs-Named x args) ∙ ap out-Ty e ∙ ty.outs-Named y (front ++ b ∷ []) in
    let name : y ≡ x = cc in
    record { front = front; last = b; is = cc; means_front = subst (λ z. Means t f (ty.Named z front)) name m; means_last = o }

pub no_args : (t : Table) (x : Node) (y : List ℕ) (args : List Ty) → Stands t x (ty.Named y args) → ((f k : ℕ) → x ≡ n.App f k → ⊥) → args ≡ []
no_args t x y args s not = go (subst (λ g. From t g x) (ty.outs-Named y args) (from t x (ty.Named y args) s))
  where
    go : FromNamed t y args x → args ≡ []
    go (head k l m e) = l
    go (app f k front b l m o e) = absurd (not f k e)

pub all_mean_last : (t : Table) (ks : List ℕ) (types : List Ty) (k : ℕ) (a : Ty) → AllMean t ks types → Means t k a → AllMean t (ks ++ k ∷ []) (types ++ a ∷ [])
all_mean_last t [] [] k a all m = (m, tt)
all_mean_last t (j ∷ ks) (b ∷ types) k a all m = (all.0, all_mean_last t ks types k a all.1 m)
all_mean_last t [] (b ∷ types) k a all m = absurd all
all_mean_last t (j ∷ ks) [] k a all m = absurd all
