-- An example: a frame with two buffers, where the elements of the first are read from the second. It lists their slots in
-- textual order, and each is filled by its number.
use Rattle.std.proofs.Common.{◌≡◌, ℕ, List, [], ◌∷◌, ap, ◌∙◌}
use Rattle.krml_syntax.specs.declared.tree.Ty.{Ty}
use Rattle.krml_syntax.specs.declared.tree.Expr.{Expr}
use Rattle.krml_syntax.specs.declared.tree.Expr.TheVariants as e
use Rattle.krml_meaning.specs.Numbered.{none, two}
use Rattle.krml_passing.specs.Hoisted.{hoisted, body_hoisted}
use Rattle.krml_passing.proofs.HoistedForms.{var_is, read_is, frame_is, alloc_is, alloc_hoisted}

module _ (a b : Ty) (m n : ℕ) (x i : List ℕ) where
  -- (alloc A m (read (alloc B n x) i))
  abbrev first : Expr
  first = e.Alloc a m (e.Read (e.Alloc b n (e.Var x)) (e.Var i))

  abbrev before : Expr
  before = e.Frame [] first

  abbrev after : Expr
  after = e.Frame (record { ty = a; len = m } ∷ record { ty = b; len = n } ∷ []) (e.Fill 0 (e.Read (e.Fill 1 (e.Var x)) (e.Var i)))

  first_is : hoisted first ≡ alloc_hoisted a m (two e.Read (alloc_hoisted b n (none (e.Var x))) (none (e.Var i)))
  first_is = alloc_is a m _ ∙ ap (alloc_hoisted a m) (read_is _ _
      ∙ ap (λ z. two e.Read z (hoisted (e.Var i))) (alloc_is b n (e.Var x) ∙ ap (alloc_hoisted b n) (var_is x))
      ∙ ap (two e.Read (alloc_hoisted b n (none (e.Var x)))) (var_is i))

  frame_lists_both : body_hoisted before ≡ after
  frame_lists_both = ap (λ z. z.from 0) (frame_is [] first) ∙ ap (λ z. e.Frame z.slots (z.from 0)) first_is
