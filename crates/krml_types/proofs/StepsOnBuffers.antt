-- Steps of the checker on two numbers, on buffers and in frames, where types are known by number.
use Rattle.std.proofs.Common.{◌≡◌, ℕ, Bool, ◌&&◌, List, Option, Some, None, Result, Err, sym, ap, subst, ◌∙◌}
use Rattle.krml_syntax.specs.declared.tree.BinOp.{BinOp}
use Rattle.krml_syntax.specs.declared.tree.CmpOp.{CmpOp}
use Rattle.krml_syntax.specs.declared.tree.IntTy.{IntTy}
use Rattle.krml_syntax.specs.declared.tree.Ty.{Ty, out-Ty}
use Rattle.krml_syntax.specs.declared.tree.Ty.TheVariants as ty
use Rattle.krml_syntax.specs.declared.tree.Slot.{Slot}
use Rattle.krml_syntax.specs.declared.tree.Expr.{Expr}
use Rattle.krml_syntax.specs.declared.tree.Expr.TheVariants as e
use Rattle.krml_syntax.specs.Read.{◌>>=◌}
use Rattle.krml_syntax.specs.Types.{erased, int_ty, u32, element_of}
use Rattle.krml_ast.specs.Typing.{in_frame}
use Rattle.krml_intern.specs.Table.{Table}
use Rattle.krml_trace.specs.declared.missing.Missing.{Missing}
use Rattle.krml_types.specs.Expressions.{has, one_type, two_type, read_type, write_type, slice_type, frame_type, alloc_type, fill_type, may_alloc, is_result, binary_step, access_step, frame_step, type_of, layer_of}
use Rattle.krml_trace.specs.Gives.{Gives}
use Rattle.krml_types.specs.Judging.{Place, GivesNumber, in_scope}
use Rattle.krml_types.specs.Parts.{demand}
use Rattle.krml_types.specs.Scopes.{is_framed, slot_type}
use Rattle.krml_types.proofs.LayersOfForms.{bin_layer, shift_layer, cmp_layer, read_layer, write_layer, slice_layer, frame_layer, alloc_layer, fill_layer}
use Rattle.krml_types.proofs.Moved.{same_has, same_type, moved_has, moved_type}
use Rattle.krml_types.proofs.Steps.{fails, handed_number, unmet_number, seen_as}

-- ---- forms, with what is read of their parts

module _ (p : Place) (x : Expr) where
  pub bin_step : (op : BinOp) (i : IntTy) (a b a_now b_now : Expr) → x ≡ e.Bin op i a b → a_now ≡ a → b_now ≡ b
      → binary_step (layer_of p.defs p.tvars x) p.scope ≡ two_type (type_of p.defs p.tvars a_now) (type_of p.defs p.tvars b_now) (int_ty i) (int_ty i) (int_ty i) p.scope
  bin_step op i a b a_now b_now is a_now_is b_now_is =
      ap (λ l. binary_step l p.scope) (bin_layer p.defs p.tvars x op i a_now b_now
      (is ∙ ap (λ z. e.Bin op i z b) (sym a_now_is) ∙ ap (λ z. e.Bin op i a_now z) (sym b_now_is)))

  pub shift_step : (left : Bool) (i : IntTy) (a b a_now b_now : Expr) → x ≡ e.Shift left i a b → a_now ≡ a → b_now ≡ b
      → binary_step (layer_of p.defs p.tvars x) p.scope ≡ two_type (type_of p.defs p.tvars a_now) (type_of p.defs p.tvars b_now) (int_ty i) u32 (int_ty i) p.scope
  shift_step left i a b a_now b_now is a_now_is b_now_is =
      ap (λ l. binary_step l p.scope) (shift_layer p.defs p.tvars x left i a_now b_now
      (is ∙ ap (λ z. e.Shift left i z b) (sym a_now_is) ∙ ap (λ z. e.Shift left i a_now z) (sym b_now_is)))

  pub cmp_step : (op : CmpOp) (i : IntTy) (a b a_now b_now : Expr) → x ≡ e.Cmp op i a b → a_now ≡ a → b_now ≡ b
      → binary_step (layer_of p.defs p.tvars x) p.scope ≡ two_type (type_of p.defs p.tvars a_now) (type_of p.defs p.tvars b_now) (int_ty i) (int_ty i) ty.Bool p.scope
  cmp_step op i a b a_now b_now is a_now_is b_now_is =
      ap (λ l. binary_step l p.scope) (cmp_layer p.defs p.tvars x op i a_now b_now
      (is ∙ ap (λ z. e.Cmp op i z b) (sym a_now_is) ∙ ap (λ z. e.Cmp op i a_now z) (sym b_now_is)))

  pub read_step : (a i a_now i_now : Expr) → x ≡ e.Read a i → a_now ≡ a → i_now ≡ i
      → access_step (layer_of p.defs p.tvars x) p.scope ≡ read_type (type_of p.defs p.tvars a_now) (type_of p.defs p.tvars i_now) p.scope
  read_step a i a_now i_now is a_now_is i_now_is =
      ap (λ l. access_step l p.scope) (read_layer p.defs p.tvars x a_now i_now
      (is ∙ ap (λ z. e.Read z i) (sym a_now_is) ∙ ap (λ z. e.Read a_now z) (sym i_now_is)))

  pub write_step : (a i v a_now i_now v_now : Expr) → x ≡ e.Write a i v → a_now ≡ a → i_now ≡ i → v_now ≡ v
      → access_step (layer_of p.defs p.tvars x) p.scope ≡ write_type (type_of p.defs p.tvars a_now) (type_of p.defs p.tvars i_now) (type_of p.defs p.tvars v_now) p.scope
  write_step a i v a_now i_now v_now is a_now_is i_now_is v_now_is =
      ap (λ l. access_step l p.scope) (write_layer p.defs p.tvars x a_now i_now v_now
      (is ∙ ap (λ z. e.Write z i v) (sym a_now_is) ∙ ap (λ z. e.Write a_now z v) (sym i_now_is) ∙ ap (λ z. e.Write a_now i_now z) (sym v_now_is)))

  pub slice_step : (a i n a_now i_now n_now : Expr) → x ≡ e.Slice a i n → a_now ≡ a → i_now ≡ i → n_now ≡ n
      → access_step (layer_of p.defs p.tvars x) p.scope ≡ slice_type (type_of p.defs p.tvars a_now) (type_of p.defs p.tvars i_now) (type_of p.defs p.tvars n_now) p.scope
  slice_step a i n a_now i_now n_now is a_now_is i_now_is n_now_is =
      ap (λ l. access_step l p.scope) (slice_layer p.defs p.tvars x a_now i_now n_now
      (is ∙ ap (λ z. e.Slice z i n) (sym a_now_is) ∙ ap (λ z. e.Slice a_now z n) (sym i_now_is) ∙ ap (λ z. e.Slice a_now i_now z) (sym n_now_is)))

  pub framed_step : (slots slots_now : List Slot) (a a_now : Expr) → x ≡ e.Frame slots a → slots_now ≡ slots → a_now ≡ a
      → frame_step p.defs p.tvars (layer_of p.defs p.tvars x) p.scope ≡ frame_type p.defs slots_now (type_of p.defs p.tvars a_now) p.scope
  framed_step slots slots_now a a_now is slots_is a_is =
      ap (λ l. frame_step p.defs p.tvars l p.scope) (frame_layer p.defs p.tvars x slots_now a_now (is ∙ ap (λ z. e.Frame z a) (sym slots_is) ∙ ap (λ z. e.Frame slots_now z) (sym a_is)))

  pub alloc_step : (b : Ty) (n : ℕ) (a a_now : Expr) → x ≡ e.Alloc b n a → a_now ≡ a
      → frame_step p.defs p.tvars (layer_of p.defs p.tvars x) p.scope ≡ alloc_type p.defs p.tvars b n (type_of p.defs p.tvars a_now) p.scope
  alloc_step b n a a_now is a_now_is =
      ap (λ l. frame_step p.defs p.tvars l p.scope) (alloc_layer p.defs p.tvars x b n a_now
      (is ∙ ap (λ z. e.Alloc b n z) (sym a_now_is)))

  pub fill_step : (k : ℕ) (a a_now : Expr) → x ≡ e.Fill k a → a_now ≡ a
      → frame_step p.defs p.tvars (layer_of p.defs p.tvars x) p.scope ≡ fill_type k (type_of p.defs p.tvars a_now) p.scope
  fill_step k a a_now is a_now_is =
      ap (λ l. frame_step p.defs p.tvars l p.scope) (fill_layer p.defs p.tvars x k a_now
      (is ∙ ap (λ z. e.Fill k z) (sym a_now_is)))

-- ---- operands, of which the last was looked at from an equal place

module _ (p q : Place) (same : q ≡ p) where
  pub one_fails : (t : Table) (b : Expr) (B R : Ty) (r : Result (Unit {0}) Missing) (z : Result ℕ Missing) (e : Missing)
      → Gives r (has (type_of q.defs q.tvars b) B q.scope) → r ≡ Err e → z ≡ Err e
      → GivesNumber t z (one_type (type_of p.defs p.tvars b) B R p.scope)
  one_fails t b B R r z e g r_is z_is = fails t (has (type_of p.defs p.tvars b) B p.scope) (λ u. Some R) r z e (moved_has q p b B r same g) r_is z_is

  pub one_has : (t : Table) (b : Expr) (B R : Ty) (z : Result ℕ Missing)
      → has (type_of q.defs q.tvars b) B q.scope ≡ Some tt → GivesNumber t z (Some R)
      → GivesNumber t z (one_type (type_of p.defs p.tvars b) B R p.scope)
  one_has t b B R z b_is g = seen_as t z (one_type (type_of p.defs p.tvars b) B R p.scope) (Some R) (ap (λ o. o >>= λ u. Some R) (sym (same_has q p b B same) ∙ b_is)) g

  -- the first has its type
  second_is : (a b : Expr) (A B R : Ty) → has (type_of p.defs p.tvars a) A p.scope ≡ Some tt
      → two_type (type_of p.defs p.tvars a) (type_of p.defs p.tvars b) A B R p.scope ≡ one_type (type_of p.defs p.tvars b) B R p.scope
  second_is a b A B R a_is = ap (λ o. o >>= λ u. has (type_of p.defs p.tvars b) B p.scope >>= λ w. Some R) a_is

  pub second_fails : (t : Table) (a b : Expr) (A B R : Ty) (r : Result (Unit {0}) Missing) (z : Result ℕ Missing) (e : Missing)
      → has (type_of p.defs p.tvars a) A p.scope ≡ Some tt → Gives r (has (type_of q.defs q.tvars b) B q.scope) → r ≡ Err e → z ≡ Err e
      → GivesNumber t z (two_type (type_of p.defs p.tvars a) (type_of p.defs p.tvars b) A B R p.scope)
  second_fails t a b A B R r z e a_is g r_is z_is =
      seen_as t z (two_type (type_of p.defs p.tvars a) (type_of p.defs p.tvars b) A B R p.scope) (one_type (type_of p.defs p.tvars b) B R p.scope) (second_is a b A B R a_is)
      (one_fails t b B R r z e g r_is z_is)

  pub second_has : (t : Table) (a b : Expr) (A B R : Ty) (z : Result ℕ Missing)
      → has (type_of p.defs p.tvars a) A p.scope ≡ Some tt → has (type_of q.defs q.tvars b) B q.scope ≡ Some tt → GivesNumber t z (Some R)
      → GivesNumber t z (two_type (type_of p.defs p.tvars a) (type_of p.defs p.tvars b) A B R p.scope)
  second_has t a b A B R z a_is b_is g =
      seen_as t z (two_type (type_of p.defs p.tvars a) (type_of p.defs p.tvars b) A B R p.scope) (one_type (type_of p.defs p.tvars b) B R p.scope) (second_is a b A B R a_is)
      (one_has t b B R z b_is g)

  -- the index of a buffer
  pub index_fails : (t : Table) (a i : Expr) (v : Ty) (r : Result (Unit {0}) Missing) (z : Result ℕ Missing) (e : Missing) (x : Option Ty)
      → type_of p.defs p.tvars a p.scope ≡ Some v → Gives r (has (type_of q.defs q.tvars i) u32 q.scope) → r ≡ Err e → z ≡ Err e
      → (read_type (type_of p.defs p.tvars a) (type_of p.defs p.tvars i) p.scope ≡ None → x ≡ None) → GivesNumber t z x
  index_fails t a i v r z e x a_is g r_is z_is on = unmet_number t r z e (has (type_of p.defs p.tvars i) u32 p.scope) x (moved_has q p i u32 r same g) r_is z_is (λ none.
      on (ap (λ o. o >>= λ b. has (type_of p.defs p.tvars i) u32 p.scope >>= λ u. element_of (out-Ty b)) a_is ∙ ap (λ o. o >>= λ u. element_of (out-Ty v)) none))

  pub at_index : (a i : Expr) (v : Ty) → type_of p.defs p.tvars a p.scope ≡ Some v → has (type_of q.defs q.tvars i) u32 q.scope ≡ Some tt
      → read_type (type_of p.defs p.tvars a) (type_of p.defs p.tvars i) p.scope ≡ element_of (out-Ty v)
  at_index a i v a_is i_is =
      ap (λ o. o >>= λ b. has (type_of p.defs p.tvars i) u32 p.scope >>= λ u. element_of (out-Ty b)) a_is
      ∙ ap (λ o. o >>= λ u. element_of (out-Ty v)) (sym (same_has q p i u32 same) ∙ i_is)

  -- a first element
  pub filled_at : (t : Table) (a : Expr) (v : Ty) (z : Result ℕ Missing) → GivesNumber t z (one_type (type_of q.defs q.tvars a) v (ty.Buf v) q.scope)
      → GivesNumber t z (one_type (type_of p.defs p.tvars a) v (ty.Buf v) p.scope)
  filled_at t a v z g = subst (λ (y : Place). GivesNumber t z (one_type (type_of y.defs y.tvars a) v (ty.Buf v) y.scope)) same g

-- ---- behind the element of a buffer

pub write_then : (p : Place) (r : Option Ty) (d : Expr) (b : Ty) → r ≡ Some b
    → (r >>= λ b. one_type (type_of p.defs p.tvars d) b ty.Unit p.scope) ≡ one_type (type_of p.defs p.tvars d) b ty.Unit p.scope
write_then p r d b is = ap (λ o. o >>= λ b. one_type (type_of p.defs p.tvars d) b ty.Unit p.scope) is

pub slice_then : (p : Place) (r : Option Ty) (d : Expr) (b : Ty) → r ≡ Some b
    → (r >>= λ b. one_type (type_of p.defs p.tvars d) u32 (ty.Buf b) p.scope) ≡ one_type (type_of p.defs p.tvars d) u32 (ty.Buf b) p.scope
slice_then p r d b is = ap (λ o. o >>= λ b. one_type (type_of p.defs p.tvars d) u32 (ty.Buf b) p.scope) is

pub write_none : (p : Place) (r : Option Ty) (d : Expr) → r ≡ None → (r >>= λ b. one_type (type_of p.defs p.tvars d) b ty.Unit p.scope) ≡ None
write_none p r d is = ap (λ o. o >>= λ b. one_type (type_of p.defs p.tvars d) b ty.Unit p.scope) is

pub slice_none : (p : Place) (r : Option Ty) (d : Expr) → r ≡ None → (r >>= λ b. one_type (type_of p.defs p.tvars d) u32 (ty.Buf b) p.scope) ≡ None
slice_none p r d is = ap (λ o. o >>= λ b. one_type (type_of p.defs p.tvars d) u32 (ty.Buf b) p.scope) is

-- ---- frames

module _ (p f : Place) (slots : List Slot) (a : Expr) (f_is : f ≡ in_scope p (in_frame slots p.scope)) where
  pub frame_fails : (s t : Table) (r z : Result ℕ Missing) (e : Missing) → GivesNumber s r (type_of f.defs f.tvars a f.scope) → r ≡ Err e → z ≡ Err e
      → GivesNumber t z (frame_type p.defs slots (type_of p.defs p.tvars a) p.scope)
  frame_fails s t r z e g r_is z_is =
      handed_number s t r z e (type_of p.defs p.tvars a (in_frame slots p.scope)) (frame_type p.defs slots (type_of p.defs p.tvars a) p.scope)
      (moved_type s f (in_scope p (in_frame slots p.scope)) a r f_is g) r_is z_is
      (λ none. ap (λ o. o >>= λ b. demand (is_result p.defs b) >>= λ u. Some b) none)

  pub frame_then : (v : Ty) → type_of f.defs f.tvars a f.scope ≡ Some v
      → frame_type p.defs slots (type_of p.defs p.tvars a) p.scope ≡ (demand (is_result p.defs v) >>= λ u. Some v)
  frame_then v v_is = ap (λ o. o >>= λ b. demand (is_result p.defs b) >>= λ u. Some b) (sym (same_type f (in_scope p (in_frame slots p.scope)) a f_is) ∙ v_is)

pub result_fails : (t : Table) (b : Bool) (v : Ty) (r : Result (Unit {0}) Missing) (z : Result ℕ Missing) (e : Missing) → Gives r (demand b) → r ≡ Err e → z ≡ Err e
    → GivesNumber t z (demand b >>= λ u. Some v)
result_fails t b v r z e g r_is z_is = fails t (demand b) (λ u. Some v) r z e g r_is z_is

pub result_is : (b : Bool) (v : Ty) → demand b ≡ Some tt → (demand b >>= λ u. Some v) ≡ Some v
result_is b v is = ap (λ o. o >>= λ u. Some v) is

-- ---- buffers that are made

pub alloc_then : (p : Place) (b : Ty) (n : ℕ) (a : Expr) (v : Ty) → demand (is_framed p.scope.frame && may_alloc p.defs p.tvars b n) ≡ Some tt → Some (erased b) ≡ Some v
    → alloc_type p.defs p.tvars b n (type_of p.defs p.tvars a) p.scope ≡ one_type (type_of p.defs p.tvars a) v (ty.Buf v) p.scope
alloc_then p b n a v may is =
    ap (λ o. o >>= λ u. one_type (type_of p.defs p.tvars a) (erased b) (ty.Buf (erased b)) p.scope) may
    ∙ ap (λ o. o >>= λ c. one_type (type_of p.defs p.tvars a) c (ty.Buf c) p.scope) is

pub fill_then : (p : Place) (k : ℕ) (a : Expr) (v : Ty) → slot_type p.scope.frame k ≡ Some v
    → fill_type k (type_of p.defs p.tvars a) p.scope ≡ one_type (type_of p.defs p.tvars a) v (ty.Buf v) p.scope
fill_then p k a v is = ap (λ o. o >>= λ b. one_type (type_of p.defs p.tvars a) b (ty.Buf b) p.scope) is
