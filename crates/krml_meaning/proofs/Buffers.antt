-- The forms of expressions that use memory, and loops over numbers: a run of one whose parts are sound is sound.
use Rattle.std.proofs.Common.{◌≡◌, ℕ, suc, ◌+◌, ◌^◌, ◌<◌, ◌≤◌, nat_lt, nat_le, true, false, List, [], ◌∷◌, ◌++◌, Some, slice_get, map, length, refl, sym, ◌∙◌, subst, arith}
use Rattle.std.specs.List.{AllByRecursion}
use Rattle.std.proofs.lemmas.Bool.{ltb-true}
use Rattle.std.proofs.lemmas.Bool.Decides.{nat_tests}
use Rattle.krml_trace.specs.declared.width.Width.TheVariants.{W32}
use Rattle.krml_trace.specs.declared.outcome.Cause.TheVariants as cause
use Rattle.krml_trace.specs.declared.why.Why.TheVariants.{Undefined}
use Rattle.krml_trace.specs.Width.{bits}
use Rattle.krml_trace.specs.Run.{leave}
use Rattle.krml_syntax.specs.declared.tree.Ty.{Ty}
use Rattle.krml_syntax.specs.declared.tree.Ty.TheVariants as t
use Rattle.krml_syntax.specs.declared.tree.Slot.{Slot}
use Rattle.krml_syntax.specs.declared.tree.Def.{Def}
use Rattle.krml_ast.specs.declared.event.SourceEvent.TheVariants as event
use Rattle.krml_syntax.specs.Types.{erased, u32}
use Rattle.krml_ast.specs.IsType.{HoldsBuffer, IsFlat}
use Rattle.krml_meaning.specs.declared.value.Value.{Value}
use Rattle.krml_meaning.specs.declared.value.Value.TheVariants as v
use Rattle.krml_trace.specs.Blocks.{close_from}
use Rattle.krml_meaning.specs.State.{Block, SourceState, Env, Sem, with_vars, closed_slot, fresh, put, with_item, dead}
use Rattle.krml_trace.specs.Loop.{loop}
use Rattle.krml_meaning.specs.Meaning as src
use Rattle.krml_meaning.specs.Shape.{Open, Usable, HasShape, BlockTyped, MemoryTyped, Extends}
use Rattle.krml_trace.specs.After.{After}
use Rattle.krml_meaning.specs.Sound.{Fine}
use Rattle.krml_trace.proofs.Blocks.{get_in, get_update_same}
use Rattle.krml_meaning.proofs.Lists.{same_some, set_more, each_get}
use Rattle.krml_trace.proofs.After.{after_bind, after_some, after_check, after_if, Turned, loop_after}
use Rattle.krml_meaning.proofs.Facts.{Facts}
use Rattle.krml_meaning.proofs.Flat.{holds_erased}
use Rattle.krml_meaning.proofs.Memory.{put_extends, push_extends, close_extends, put_typed, push_typed, close_typed}
use Rattle.krml_meaning.proofs.Shapes.{extends_same, extends_then, extends_none, shape_on, flat_shape, after_number, after_buffer}
use Rattle.krml_meaning.proofs.Forms.{Sound, Kept, turn_on_after, operands_after}

not_less : (i n : ℕ) → nat_lt i n ≡ false → n ≤ i
not_less i n h = grind (arith, nat_tests)

at_most : (m n : ℕ) → nat_le m n ≡ true → m ≤ n
at_most m n h = grind (arith, nat_tests)

module _ (defs : List Def) (facts : Facts defs) where
  -- a value for a block holds no buffer
  stored_shape : (m now : List Block) (b : Block) (x : Value) → IsFlat defs b.elem → HasShape defs m x (erased b.elem) → HasShape defs now x (erased b.elem)
  stored_shape m now b x f h = flat_shape defs facts m now x (erased b.elem) (λ k. f.flat (holds_erased defs b.elem k)) h

  module _ (I : List Block → Env → Type 0) (on : (m now : List Block) (env : Env) → Extends m now → I m env → I now env) where
    pub read_sound : (a : Ty) (ev ev' : Sem) → Sound defs I (t.Buf a) ev → Sound defs I u32 ev' → Sound defs I a (src.read ev ev')
    read_sound a ev ev' h h' = record {
      run = λ env s r hm.
          let Q = Fine defs s.memory a in
          after_bind (Fine defs s.memory (t.Buf a)) Q (ev env s) _ (h.run env s r hm) (λ x s1 h1.
          after_bind (Fine defs s1.memory u32) Q (ev' env s1) _ (h'.run env s1 (on s.memory s1.memory env h1.extends r) h1.memory) (λ y s2 h2.
          after_buffer defs Q s2.memory s2 a x _ (shape_on defs s1.memory s2.memory x (t.Buf a) h2.extends h1.shape) (λ n off len size u le.
          after_number defs Q s2.memory s2 W32 y _ h2.shape (λ j lj ej. after_check Q cause.Index (nat_lt j len) s2 _ (λ yes'.
          let lt : j < len = ltb-true j len yes' in
          let b : Block = u.is_open.block in
          let full : length b.items ≡ size = u.full in
          let in_it : off + j < length b.items = omega (arith, lt, le, full) in
          let f = get_in b.items (off + j) in_it in
          let typed = each_get (BlockTyped defs) s2.memory n b h2.memory u.is_open.there in
          after_some Q Undefined (slice_get s2.memory n) b s2 _ u.is_open.there (after_some Q Undefined (slice_get b.items (off + j)) f.0 s2 _ f.1 (record {
            extends = extends_then s.memory s1.memory s2.memory h1.extends h2.extends;
            shape = subst (HasShape defs s2.memory f.0) u.is_open.elem
                (shape_on defs [] s2.memory f.0 (erased b.elem) (extends_none s2.memory) (each_get (λ z. HasShape defs [] z (erased b.elem)) b.items (off + j) f.0 typed.items f.1));
            memory = h2.memory;
          })))))));
    }

    pub write_sound : (a : Ty) (ev ev' ev'' : Sem) → Sound defs I (t.Buf a) ev → Sound defs I u32 ev' → Sound defs I a ev'' → Sound defs I t.Unit (src.write ev ev' ev'')
    write_sound a ev ev' ev'' h h' h'' = record {
      run = λ env s r hm.
          let Q = Fine defs s.memory t.Unit in
          after_bind (Fine defs s.memory (t.Buf a)) Q (ev env s) _ (h.run env s r hm) (λ x s1 h1.
          let r1 = on s.memory s1.memory env h1.extends r in
          after_bind (Fine defs s1.memory u32) Q (ev' env s1) _ (h'.run env s1 r1 h1.memory) (λ y s2 h2.
          after_bind (Fine defs s2.memory a) Q (ev'' env s2) _ (h''.run env s2 (on s1.memory s2.memory env h2.extends r1) h2.memory) (λ z s3 h3.
          let p = extends_then s1.memory s2.memory s3.memory h2.extends h3.extends in
          after_buffer defs Q s3.memory s3 a x _ (shape_on defs s1.memory s3.memory x (t.Buf a) p h1.shape) (λ n off len size u le.
          after_number defs Q s2.memory s3 W32 y _ h2.shape (λ j lj ej. after_check Q cause.Index (nat_lt j len) s3 _ (λ yes'.
          let lt : j < len = ltb-true j len yes' in
          let b : Block = u.is_open.block in
          let full : length b.items ≡ size = u.full in
          let sized : b.len ≡ size = u.is_open.size in
          let in_it : off + j < length b.items = omega (arith, lt, le, full) in
          let in_len : off + j < b.len = omega (arith, lt, le, sized) in
          let f = get_in b.items (off + j) in_it in
          let typed = each_get (BlockTyped defs) s3.memory n b h3.memory u.is_open.there in
          let shape : HasShape defs [] z (erased b.elem) = stored_shape s3.memory [] b z typed.flat (subst (HasShape defs s3.memory z) (sym u.is_open.elem) h3.shape) in
          after_some Q Undefined (slice_get s3.memory n) b s3 _ u.is_open.there (after_some Q Undefined (slice_get b.items (off + j)) f.0 s3 _ f.1 (record {
            extends = extends_then s.memory s3.memory _ (extends_then s.memory s1.memory s3.memory h1.extends p) (put_extends s3.memory n b (off + j) z u.is_open.there in_len);
            shape = HasShape.unit;
            memory = put_typed defs s3.memory n b (off + j) z h3.memory u.is_open.there shape in_len (omega (arith, in_it));
          }))))))));
    }

    pub slice_sound : (a : Ty) (ev ev' ev'' : Sem) → Sound defs I (t.Buf a) ev → Sound defs I u32 ev' → Sound defs I u32 ev'' → Sound defs I (t.Buf a) (src.slice ev ev' ev'')
    slice_sound a ev ev' ev'' h h' h'' = record {
      run = λ env s r hm.
          let Q = Fine defs s.memory (t.Buf a) in
          after_bind (Fine defs s.memory (t.Buf a)) Q (ev env s) _ (h.run env s r hm) (λ x s1 h1.
          let r1 = on s.memory s1.memory env h1.extends r in
          after_bind (Fine defs s1.memory u32) Q (ev' env s1) _ (h'.run env s1 r1 h1.memory) (λ y s2 h2.
          after_bind (Fine defs s2.memory u32) Q (ev'' env s2) _ (h''.run env s2 (on s1.memory s2.memory env h2.extends r1) h2.memory) (λ z s3 h3.
          let p = extends_then s1.memory s2.memory s3.memory h2.extends h3.extends in
          after_buffer defs Q s3.memory s3 a x _ (shape_on defs s1.memory s3.memory x (t.Buf a) p h1.shape) (λ n off len size u le.
          after_number defs Q s2.memory s3 W32 y _ h2.shape (λ i li ei. after_number defs Q s3.memory s3 W32 z _ h3.shape (λ j lj ej.
          after_check Q cause.Slice (nat_le (i + j) len) s3 _ (λ yes'.
          let within : i + j ≤ len = at_most (i + j) len yes' in
          record {
            extends = extends_then s.memory s1.memory s3.memory h1.extends p;
            shape = HasShape.buf u (omega (arith, within, le));
            memory = h3.memory;
          })))))));
    }

    -- ---- a loop over numbers

    pub for_sound : (J : List Block → Env → Type 0) (x : List ℕ) (ev ev' ev'' : Sem)
        → ((m : List Block) (env : Env) (n : ℕ) → n < 2 ^ bits W32 → I m env → J m (with_vars ((x, v.Num W32 n) ∷ []) env))
        → Sound defs I u32 ev → Sound defs I u32 ev' → Sound defs J t.Unit ev'' → Sound defs I t.Unit (src.for x ev ev' ev'')
    for_sound J x ev ev' ev'' inside h h' h'' = record {
      run = λ env s r hm.
          operands_after defs I on (Fine defs s.memory t.Unit) W32 W32 ev ev' h h' env s r hm _ (λ start end s2 ls le p h2.
          loop_after (λ i. Kept defs s.memory) (Fine defs s.memory t.Unit) (src.for_turn x end ev'' env) (λ i s1 n k. record { extends = k.extends; memory = k.memory })
          (λ i s1 k. turn env s r end le i s1 k) start s2 (record { extends = p; memory = h2 }));
    }
      where
        turn : (env : Env) (s : SourceState) → I s.memory env → (end : ℕ) → end < 2 ^ bits W32 → (i : ℕ) (s1 : SourceState) → Kept defs s.memory s1
            → After (Turned (λ (u : ℕ). Kept defs s.memory) (Fine defs s.memory t.Unit)) (src.for_turn x end ev'' env i s1)
        turn env s r end le i s1 k =
            let Q = Turned (λ (u : ℕ). Kept defs s.memory) (Fine defs s.memory t.Unit) in
            turn_on_after defs s.memory t.Unit (nat_lt i end) s1 _ k.extends k.memory HasShape.unit (λ e.
            let lt : i < end = ltb-true i end e in
            let fits : i < 2 ^ bits W32 = omega (arith, lt, le) in
            after_bind (Fine defs s1.memory t.Unit) Q (ev'' (with_vars ((x, v.Num W32 i) ∷ []) env) (leave (event.Turn true) s1)) _
            (h''.run (with_vars ((x, v.Num W32 i) ∷ []) env) (leave (event.Turn true) s1) (inside s1.memory env i fits (on s.memory s1.memory env k.extends r)) k.memory) (λ y s3 h3.
            record { extends = extends_then s.memory s1.memory s3.memory k.extends h3.extends; memory = h3.memory }))

    -- ---- frames

    pub frame_sound : (J : List Block → Env → Type 0) (slots : List Slot) (a : Ty) (ev : Sem)
        → ((m : List Block) (env : Env) → I m env → AllByRecursion (λ (s : Slot). IsFlat defs s.ty) (map (closed_slot env) slots))
        → ((m : List Block) (env : Env) → I (m ++ map fresh (map (closed_slot env) slots)) env
        → J (m ++ map fresh (map (closed_slot env) slots)) (record env { base = length m }))
        → (HoldsBuffer defs a → ⊥) → Sound defs J a ev → Sound defs I a (src.frame slots ev)
    frame_sound J slots a ev flats inside flat h = record {
      run = λ env s r hm.
          let m = s.memory in
          let begun = src.push (map (closed_slot env) slots) s in
          let p = push_extends m (map fresh (map (closed_slot env) slots)) in
          after_bind (Fine defs begun.memory a) (Fine defs m a) (ev (record env { base = length m }) begun) _
          (h.run (record env { base = length m }) begun (inside m env (on m begun.memory env p r)) (push_typed defs m (map (closed_slot env) slots) hm (flats m env r))) (λ x s2 h2.
          record {
            extends = close_extends m s2.memory (extends_then m begun.memory s2.memory p h2.extends);
            shape = flat_shape defs facts s2.memory (close_from dead (length m) s2.memory) x a flat h2.shape;
            memory = close_typed defs (length m) s2.memory h2.memory;
          });
    }

  -- ---- fills

  -- elements before this one have values
  pub record Filling (m : List Block) (n i : ℕ) (s : SourceState) : Type 0 where
    pub extends : Extends m s.memory
    pub memory : MemoryTyped defs s.memory
    pub count : (b : Block) → slice_get s.memory n ≡ Some b → i ≤ length b.items

  pub record Filled (m : List Block) (n : ℕ) (a : Ty) (len : ℕ) (u : Unit {0}) (s : SourceState) : Type 0 where
    pub extends : Extends m s.memory
    pub memory : MemoryTyped defs s.memory
    pub usable : Usable s.memory n a len

  module _ (m : List Block) (n : ℕ) (a : Ty) (len : ℕ) (x : Value) (o : Open m n a len) (shape : HasShape defs [] x a) where
    fill_more : (i : ℕ) (s : SourceState) (b : Block) → slice_get s.memory n ≡ Some b → b.len ≡ len → erased b.elem ≡ a → nat_lt i len ≡ true → Filling m n i s
        → Filling m n (suc i) (put n i x b (leave (event.Fill n i) s))
    fill_more i s b there size elem yes' f =
        let lt : i < len = ltb-true i len yes' in
        let in_len : i < b.len = omega (arith, lt, size) in
        let le = f.count b there in
        let late = with_item i x b in
        record {
          extends = extends_then m s.memory _ f.extends (put_extends s.memory n b i x there in_len);
          memory = put_typed defs s.memory n b i x f.memory there (subst (HasShape defs [] x) (sym elem) shape) in_len le;
          count = λ c c_is.
              let same : late ≡ c = same_some late c (sym (get_update_same s.memory n late b there) ∙ c_is) in
              subst (λ (z : Block). suc i ≤ length z.items) same (set_more b.items i x le);
        }

    fill_over : (i : ℕ) (s : SourceState) → nat_lt i len ≡ false → Filling m n i s → Filled m n a len tt s
    fill_over i s no' f =
        let now = f.extends.opened n a len o in
        let b : Block = now.block in
        let least = f.count b now.there in
        let typed = each_get (BlockTyped defs) s.memory n b f.memory now.there in
        let few = typed.few in
        let size : b.len ≡ len = now.size in
        let past : len ≤ i = not_less i len no' in
        record { extends = f.extends; memory = f.memory; usable = record { is_open = now; full = omega (arith, least, few, size, past) } }

    fill_turn_after : (i : ℕ) (s : SourceState) → Filling m n i s → After (Turned (λ (j : ℕ). Filling m n j) (Filled m n a len)) (src.fill_turn n len x i s)
    fill_turn_after i s f =
        let Q = Turned (λ (j : ℕ). Filling m n j) (Filled m n a len) in
        let now = f.extends.opened n a len o in
        after_if Q (nat_lt i len) _ _
        (λ e. after_some Q Undefined (slice_get s.memory n) now.block s _ now.there (fill_more i s now.block now.there now.size now.elem e f))
        (λ e. let g = fill_over i s e f in record { extends = g.extends; memory = g.memory; usable = g.usable })

    fills_after : (s : SourceState) → s.memory ≡ m → MemoryTyped defs s.memory → After (Filled m n a len) (loop (src.fill_turn n len x) 0 s)
    fills_after s same hm = loop_after (λ (j : ℕ). Filling m n j) (Filled m n a len) (src.fill_turn n len x)
        (λ i s1 left f. record { extends = f.extends; memory = f.memory; count = f.count }) fill_turn_after 0 s
        (record { extends = subst (λ z. Extends m z) (sym same) (extends_same m); memory = hm; count = λ b there. omega arith })

  pub fill_sound : (I : List Block → Env → Type 0) (on : (m now : List Block) (env : Env) → Extends m now → I m env → I now env) (k : ℕ) (a : Ty) (len : ℕ) (ev : Sem)
      → ((m : List Block) (env : Env) → I m env → Open m (env.base + k) a len) → Sound defs I a ev → Sound defs I (t.Buf a) (src.fill k ev)
  fill_sound I on k a len ev slot h = record {
    run = λ env s r hm.
        let Q = Fine defs s.memory (t.Buf a) in
        let n = env.base + k in
        after_bind (Fine defs s.memory a) Q (ev env s) _ (h.run env s r hm) (λ x s1 h1.
        let o = slot s1.memory env (on s.memory s1.memory env h1.extends r) in
        let b : Block = o.block in
        let typed = each_get (BlockTyped defs) s1.memory n b h1.memory o.there in
        let shape : HasShape defs [] x a = subst (HasShape defs [] x) o.elem (stored_shape s1.memory [] b x typed.flat (subst (HasShape defs s1.memory x) (sym o.elem) h1.shape)) in
        let mine : Open s1.memory n a b.len = record { block = b; there = o.there; elem = o.elem; size = refl; live = o.live } in
        after_some Q Undefined (slice_get s1.memory n) b s1 _ o.there
        (after_bind (Filled s1.memory n a b.len) Q (loop (src.fill_turn n b.len x) 0 (leave (event.Alloc n k) s1)) _
        (fills_after s1.memory n a b.len x mine shape (leave (event.Alloc n k) s1) refl h1.memory) (λ u s2 h2.
        record {
          extends = extends_then s.memory s1.memory s2.memory h1.extends h2.extends;
          shape = HasShape.buf h2.usable (omega arith);
          memory = h2.memory;
        })));
  }
