-- What stores, pushes and pops keep of a memory.
use Rattle.std.proofs.Common.{◌≡◌, ℕ, ◌<◌, ◌≤◌, List, [], ◌∷◌, ◌++◌, Some, slice_get, map, length, sym, ap, ◌∙◌, arith, ⊎_elim}
use Rattle.std.specs.List.{AllByRecursion}
use Rattle.std.proofs.lemmas.Bool.Decides.{eqb_tells}
use Rattle.krml_syntax.specs.declared.tree.Ty.{Ty}
use Rattle.krml_syntax.specs.declared.tree.Slot.{Slot}
use Rattle.krml_syntax.specs.declared.tree.Def.{Def}
use Rattle.krml_syntax.specs.Types.{erased}
use Rattle.krml_ast.specs.IsType.{IsFlat}
use Rattle.krml_meaning.specs.declared.value.Value.{Value}
use Rattle.krml_trace.specs.Blocks.{update, close_from}
use Rattle.krml_meaning.specs.State.{Block, with_item, fresh, dead}
use Rattle.krml_meaning.specs.Shape.{Open, Usable, HasShape, BlockTyped, MemoryTyped, Extends}
use Rattle.krml_trace.proofs.Blocks.{get_update_same, get_update_other, get_left, get_below, each_update, get_close_below, each_close}
use Rattle.krml_meaning.proofs.Lists.{same_some, length_set, length_add, each_get, each_set, each_append}

-- ---- a store

module _ (m : List Block) (n : ℕ) (b : Block) (i : ℕ) (x : Value) (h : slice_get m n ≡ Some b) (lt : i < b.len) where
  open_put : (k : ℕ) (a : Ty) (len : ℕ) → Open m k a len → Open (update n (with_item i x b) m) k a len
  open_put k a len o = ⊎_elim
      (λ p.
      let same : b ≡ o.block = same_some b o.block (sym h ∙ ap (slice_get m) p.1 ∙ o.there) in
      record {
        block = with_item i x b;
        there = ap (slice_get (update n (with_item i x b) m)) (sym p.1) ∙ get_update_same m n (with_item i x b) b h;
        elem = ap (λ (z : Block). erased z.elem) same ∙ o.elem;
        size = ap (λ (z : Block). z.len) same ∙ o.size;
        live = ap (λ (z : Block). z.live) same ∙ o.live;
      })
      (λ p. record { block = o.block; there = get_update_other m n k (with_item i x b) p.1 ∙ o.there; elem = o.elem; size = o.size; live = o.live })
      (eqb_tells n k)

  usable_put : (k : ℕ) (a : Ty) (len : ℕ) → Usable m k a len → Usable (update n (with_item i x b) m) k a len
  usable_put k a len u =
      let o = u.is_open in
      ⊎_elim
      (λ p.
      let same : b ≡ o.block = same_some b o.block (sym h ∙ ap (slice_get m) p.1 ∙ o.there) in
      let size : b.len ≡ len = ap (λ (z : Block). z.len) same ∙ o.size in
      let full : length b.items ≡ len = ap (λ (z : Block). length z.items) same ∙ u.full in
      let in_it : i < length b.items = omega (arith, lt, size, full) in
      record {
        is_open = record {
          block = with_item i x b;
          there = ap (slice_get (update n (with_item i x b) m)) (sym p.1) ∙ get_update_same m n (with_item i x b) b h;
          elem = ap (λ (z : Block). erased z.elem) same ∙ o.elem;
          size = size;
          live = ap (λ (z : Block). z.live) same ∙ o.live;
        };
        full = length_set b.items i x in_it ∙ full;
      })
      (λ p. record {
        is_open = record { block = o.block; there = get_update_other m n k (with_item i x b) p.1 ∙ o.there; elem = o.elem; size = o.size; live = o.live };
        full = u.full;
      })
      (eqb_tells n k)

  pub put_extends : Extends m (update n (with_item i x b) m)
  put_extends = record { opened = open_put; usable = usable_put }

-- ---- a frame's begin

pub push_extends : (m l : List Block) → Extends m (m ++ l)
push_extends m l = record {
  opened = λ n a len o. on n a len o;
  usable = λ n a len u. record { is_open = on n a len u.is_open; full = u.full };
}
  where
    on : (n : ℕ) (a : Ty) (len : ℕ) → Open m n a len → Open (m ++ l) n a len
    on n a len o = record { block = o.block; there = get_left m l n o.block o.there; elem = o.elem; size = o.size; live = o.live }

-- ---- and its end

pub close_extends : (m now : List Block) → Extends m now → Extends m (close_from dead (length m) now)
close_extends m now p = record {
  opened = λ n a len o. on n a len (get_below m n o.block o.there) (p.opened n a len o);
  usable = λ n a len u.
      let w = p.usable n a len u in
      record { is_open = on n a len (get_below m n u.is_open.block u.is_open.there) w.is_open; full = w.full };
}
  where
    on : (n : ℕ) (a : Ty) (len : ℕ) → n < length m → Open now n a len → Open (close_from dead (length m) now) n a len
    on n a len lt o = record { block = o.block; there = get_close_below dead now (length m) n lt ∙ o.there; elem = o.elem; size = o.size; live = o.live }

-- ---- typed memories

module _ (defs : List Def) where
  pub put_typed : (m : List Block) (n : ℕ) (b : Block) (i : ℕ) (x : Value) → MemoryTyped defs m → slice_get m n ≡ Some b → HasShape defs [] x (erased b.elem) → i < b.len
      → i ≤ length b.items → MemoryTyped defs (update n (with_item i x b) m)
  put_typed m n b i x h e s lt le =
      let typed = each_get (BlockTyped defs) m n b h e in
      each_update (BlockTyped defs) m n (with_item i x b) h (record {
        flat = typed.flat;
        few = ⊎_elim
            (λ p. let q = length_add b.items i x p.1 in omega (arith, q, lt))
            (λ p. let q = length_set b.items i x (below i (length b.items) le p.1) in let f = typed.few in omega (arith, q, f))
            (eqb_tells i (length b.items));
        items = each_set (λ y. HasShape defs [] y (erased b.elem)) b.items i x typed.items s;
      })
    where
      below : (i n : ℕ) → i ≤ n → (i ≡ n → ⊥) → i < n
      below i n le ne = omega (arith, le, ne)

  fresh_typed : (slots : List Slot) → AllByRecursion (λ s. IsFlat defs s.ty) slots → MemoryTyped defs (map fresh slots)
  fresh_typed [] h = tt
  fresh_typed (s ∷ slots) h = (record { flat = h.0; few = omega arith; items = tt }, fresh_typed slots h.1)

  pub push_typed : (m : List Block) (slots : List Slot) → MemoryTyped defs m → AllByRecursion (λ s. IsFlat defs s.ty) slots → MemoryTyped defs (m ++ map fresh slots)
  push_typed m slots h f = each_append (BlockTyped defs) m (map fresh slots) h (fresh_typed slots f)

  pub close_typed : (n : ℕ) (m : List Block) → MemoryTyped defs m → MemoryTyped defs (close_from dead n m)
  close_typed = each_close dead (BlockTyped defs) (λ b h. record { flat = h.flat; few = h.few; items = h.items })
