-- The forms of expressions without memory: a run of one whose parts are sound is sound.
use Rattle.std.proofs.Common.{◌≡◌, ℕ, ◌^◌, ◌<◌, nat_lt, Bool, true, false, List, [], ◌∷◌, Some, slice_get, map, length, refl, sym, ap, subst}
use Rattle.krml_trace.specs.declared.width.Width.{Width}
use Rattle.krml_trace.specs.declared.width.Width.TheVariants.{W32}
use Rattle.krml_trace.specs.declared.outcome.Cause.TheVariants as cause
use Rattle.krml_trace.specs.declared.why.Why.TheVariants.{Undefined}
use Rattle.krml_trace.specs.Width.{bits}
use Rattle.krml_trace.specs.Run.{leave}
use Rattle.krml_syntax.specs.declared.tree.IntTy.{IntTy}
use Rattle.krml_syntax.specs.declared.tree.Ty.{Ty}
use Rattle.krml_syntax.specs.declared.tree.Ty.TheVariants as t
use Rattle.krml_syntax.specs.declared.tree.Field.{Field}
use Rattle.krml_syntax.specs.declared.tree.Slot.{Slot}
use Rattle.krml_syntax.specs.declared.tree.BinOp.{BinOp}
use Rattle.krml_syntax.specs.declared.tree.CmpOp.{CmpOp}
use Rattle.krml_syntax.specs.declared.tree.Def.{Def}
use Rattle.krml_ast.specs.declared.event.SourceEvent.TheVariants as event
use Rattle.krml_ast.specs.Names.{Struct, Signature, type_named, field_named, table_named, fun_named}
use Rattle.krml_syntax.specs.Types.{int_ty, u32}
use Rattle.krml_ast.specs.IsType.{AreArguments}
use Rattle.krml_ast.specs.Typing.{Scope, look, fields_at}
use Rattle.krml_ast.specs.Typing as typing
use Rattle.krml_ast.specs.WellTyped.{names_of}
use Rattle.krml_meaning.specs.declared.value.Value.{Value}
use Rattle.krml_meaning.specs.declared.value.Value.TheVariants as v
use Rattle.krml_meaning.specs.State.{Block, SourceState, SourceRan, Env, Sem, value_of, closed}
use Rattle.krml_trace.specs.Loop.{Turn}
use Rattle.krml_meaning.specs.Meaning as src
use Rattle.krml_meaning.specs.Shape.{number_ty, HasShape, AllHaveShape, MemoryTyped, Extends}
use Rattle.krml_trace.specs.After.{After}
use Rattle.krml_meaning.specs.Sound.{Fine}
use Rattle.krml_meaning.proofs.Lists.{each_get}
use Rattle.krml_trace.proofs.After.{after_bind, after_so, after_tick, after_some, after_found, after_check, after_if, Turned, loop_after}
use Rattle.krml_meaning.proofs.Facts.{Facts}
use Rattle.krml_meaning.proofs.Numbers.{wrap_fits, result_fits, shifted_fits}
use Rattle.krml_meaning.proofs.Shapes.{extends_same, extends_then, shape_on, after_number, after_truth, after_struct, field_there, struct_count}
use Rattle.krml_meaning.proofs.Scopes.{Instance, here, Ready}

module _ (defs : List Def) where
  -- ---- what runs come to

  pub record FineAll (m : List Block) (types : List Ty) (xs : List Value) (s : SourceState) : Type 0 where
    pub extends : Extends m s.memory
    pub shapes : AllHaveShape defs s.memory xs types
    pub memory : MemoryTyped defs s.memory

  -- a step from a scope of one kind to the scope of what follows
  pub record FineEnv (I : List Block → Env → Type 0) (m : List Block) (env : Env) (s : SourceState) : Type 0 where
    pub extends : Extends m s.memory
    pub ready : I s.memory env
    pub memory : MemoryTyped defs s.memory

  pub fine_then : (m now : List Block) (a : Ty) (x : Value) (s : SourceState) → Extends m now → Fine defs now a x s → Fine defs m a x s
  fine_then m now a x s p f = record { extends = extends_then m now s.memory p f.extends; shape = f.shape; memory = f.memory }

  -- What is said of the meaning of an expression: from where it is ready, in a typed memory, a run comes to a value of the type.
  pub record Sound (I : List Block → Env → Type 0) (a : Ty) (ev : Sem) : Type 0 where
    pub run : (env : Env) (s : SourceState) → I s.memory env → MemoryTyped defs s.memory → After (Fine defs s.memory a) (ev env s)

  pub record SoundAll (I : List Block → Env → Type 0) (types : List Ty) (evs : List Sem) : Type 0 where
    pub run : (env : Env) (s : SourceState) → I s.memory env → MemoryTyped defs s.memory → After (FineAll s.memory types) (src.values evs env s)

  -- where more is known
  pub sound_under : (I J : List Block → Env → Type 0) (a : Ty) (ev : Sem) → ((m : List Block) (env : Env) → J m env → I m env) → Sound I a ev → Sound J a ev
  sound_under I J a ev f h = record { run = λ env s r hm. h.run env s (f s.memory env r) hm }

  pub sound_all_under : (I J : List Block → Env → Type 0) (types : List Ty) (evs : List Sem) → ((m : List Block) (env : Env) → J m env → I m env) → SoundAll I types evs
      → SoundAll J types evs
  sound_all_under I J types evs f h = record { run = λ env s r hm. h.run env s (f s.memory env r) hm }

  -- what calls mean is sound: a function at closed type arguments, on values of its parameters' types, comes to one of its result's
  abbrev pub CallsSound : src.Calls → Type 0
  CallsSound calls = (x : List ℕ) (f : Signature) (types : List Ty) (xs : List Value) (s : SourceState) → fun_named defs x ≡ Some f → length types ≡ length f.vars
      → AreArguments defs [] types → AllHaveShape defs s.memory xs (fields_at f.vars types f.params) → MemoryTyped defs s.memory
      → After (Fine defs s.memory (typing.at f.vars types f.result)) (calls (record { name = x; types = types; values = xs }) s)

  -- between the turns of a loop
  pub record Kept (m : List Block) (s : SourceState) : Type 0 where
    pub extends : Extends m s.memory
    pub memory : MemoryTyped defs s.memory

  pub turn_on_after : {X : Type 0} (m : List Block) (a : Ty) (b : Bool) (s : SourceState) (body : SourceState → SourceRan (Turn X Value)) → Extends m s.memory → MemoryTyped defs s.memory
      → HasShape defs s.memory v.Unit t.Unit → (b ≡ true → After (Turned (λ x. Kept m) (Fine defs m t.Unit)) (body (leave (event.Turn true) s)))
      → After (Turned (λ x. Kept m) (Fine defs m t.Unit)) (src.turn_on b body s)
  turn_on_after m a true s body p hm u k = k refl
  turn_on_after m a false s body p hm u k = record { extends = p; shape = u; memory = hm }

  -- ---- what is ready stays so in a memory that extends this one

  module _ (I : List Block → Env → Type 0) (on : (m now : List Block) (env : Env) → Extends m now → I m env → I now env) where
    pub just_sound : (x : Value) (a : Ty) → ((m : List Block) → HasShape defs m x a) → Sound I a (src.just x)
    just_sound x a h = record { run = λ env s r hm. record { extends = extends_same s.memory; shape = h s.memory; memory = hm } }

    pub operands_after : {A : Type 0} (Q : A → SourceState → Type 0) (w w' : Width) (a b : Sem) → Sound I (number_ty w) a → Sound I (number_ty w') b
        → (env : Env) (s : SourceState) → I s.memory env → MemoryTyped defs s.memory → (next : ℕ → ℕ → SourceState → SourceRan A)
        → ((m n : ℕ) (s2 : SourceState) → m < 2 ^ bits w → n < 2 ^ bits w' → Extends s.memory s2.memory → MemoryTyped defs s2.memory → After Q (next m n s2))
        → After Q (src.operands w w' a b env s next)
    operands_after Q w w' a b ha hb env s r hm next k =
        after_bind (Fine defs s.memory (number_ty w)) Q (a env s) _ (ha.run env s r hm) (λ x s1 h1.
        after_bind (Fine defs s1.memory (number_ty w')) Q (b env s1) _ (hb.run env s1 (on s.memory s1.memory env h1.extends r) h1.memory) (λ y s2 h2.
        after_number defs Q s1.memory s2 w x _ h1.shape (λ m lm em. after_number defs Q s2.memory s2 w' y _ h2.shape (λ n ln en.
        k m n s2 lm ln (extends_then s.memory s1.memory s2.memory h1.extends h2.extends) h2.memory))))

    pub binary_sound : (o : BinOp) (i : IntTy) (a b : Sem) → Sound I (int_ty i) a → Sound I (int_ty i) b → Sound I (int_ty i) (src.binary o i a b)
    binary_sound o i a b ha hb = record {
      run = λ env s r hm.
          let Q = Fine defs s.memory (int_ty i) in
          operands_after Q i.width i.width a b ha hb env s r hm _ (λ m n s2 lm ln p h2.
          after_check Q cause.Divisor (src.has_result o n) s2 _ (λ has.
          record { extends = p; shape = HasShape.num (result_fits o i.width m n lm ln has); memory = h2 }));
    }

    pub shift_sound : (left : Bool) (i : IntTy) (a b : Sem) → Sound I (int_ty i) a → Sound I u32 b → Sound I (int_ty i) (src.shift left i a b)
    shift_sound left i a b ha hb = record {
      run = λ env s r hm.
          let Q = Fine defs s.memory (int_ty i) in
          operands_after Q i.width W32 a b ha hb env s r hm _ (λ m n s2 lm ln p h2.
          after_check Q cause.Shift (nat_lt n (bits i.width)) s2 _ (λ has.
          record { extends = p; shape = HasShape.num (shifted_fits left i.width m n lm); memory = h2 }));
    }

    pub compare_sound : (o : CmpOp) (i : IntTy) (a b : Sem) → Sound I (int_ty i) a → Sound I (int_ty i) b → Sound I t.Bool (src.compare o i a b)
    compare_sound o i a b ha hb = record {
      run = λ env s r hm.
          operands_after (Fine defs s.memory t.Bool) i.width i.width a b ha hb env s r hm _ (λ m n s2 lm ln p h2.
          record { extends = p; shape = HasShape.bool; memory = h2 });
    }

    pub opposite_sound : (a : Sem) → Sound I t.Bool a → Sound I t.Bool (src.opposite a)
    opposite_sound a ha = record {
      run = λ env s r hm.
          let Q = Fine defs s.memory t.Bool in
          after_bind (Fine defs s.memory t.Bool) Q (a env s) _ (ha.run env s r hm) (λ x s1 h1.
          after_truth defs Q s1.memory s1 x _ h1.shape (λ b. record { extends = h1.extends; shape = HasShape.bool; memory = h1.memory }));
    }

    pub cast_sound : (i j : IntTy) (a : Sem) → Sound I (int_ty i) a → Sound I (int_ty j) (src.cast i j a)
    cast_sound i j a ha = record {
      run = λ env s r hm.
          let Q = Fine defs s.memory (int_ty j) in
          after_bind (Fine defs s.memory (int_ty i)) Q (a env s) _ (ha.run env s r hm) (λ x s1 h1.
          after_number defs Q s1.memory s1 i.width x _ h1.shape (λ n ln en.
          record { extends = h1.extends; shape = HasShape.num (wrap_fits j.width n); memory = h1.memory }));
    }

    pub hide_sound : (i : IntTy) (a : Sem) → Sound I (int_ty i) a → Sound I (int_ty i) (src.hide i a)
    hide_sound i a ha = record {
      run = λ env s r hm.
          let Q = Fine defs s.memory (int_ty i) in
          after_bind (Fine defs s.memory (int_ty i)) Q (a env s) _ (ha.run env s r hm) (λ x s1 h1.
          after_number defs Q s1.memory s1 i.width x _ h1.shape (λ n ln en.
          record { extends = h1.extends; shape = HasShape.num ln; memory = h1.memory }));
    }

    -- ---- operands in order

    pub no_values_sound : SoundAll I [] []
    no_values_sound = record { run = λ env s r hm. record { extends = extends_same s.memory; shapes = AllHaveShape.none; memory = hm } }

    pub more_values_sound : (a : Ty) (types : List Ty) (ev : Sem) (evs : List Sem) → Sound I a ev → SoundAll I types evs → SoundAll I (a ∷ types) (ev ∷ evs)
    more_values_sound a types ev evs h hs = record {
      run = λ env s r hm.
          let Q = FineAll s.memory (a ∷ types) in
          after_bind (Fine defs s.memory a) Q (ev env s) _ (h.run env s r hm) (λ x s1 h1.
          after_bind (FineAll s1.memory types) Q (src.values evs env s1) _ (hs.run env s1 (on s.memory s1.memory env h1.extends r) h1.memory) (λ xs s2 h2.
          record {
            extends = extends_then s.memory s1.memory s2.memory h1.extends h2.extends;
            shapes = AllHaveShape.one (shape_on defs s1.memory s2.memory x a h2.extends h1.shape) h2.shapes;
            memory = h2.memory;
          }));
    }

    -- ---- structs

    pub make_sound : (x : List ℕ) (vars : List (List ℕ)) (fields : List Field) (args : List Ty) (evs : List Sem) → type_named defs x ≡ Some (Struct vars fields)
        → length args ≡ length vars → AreArguments defs [] args → SoundAll I (fields_at vars args fields) evs → Sound I (t.Named x args) (src.make defs x evs)
    make_sound x vars fields args evs is n oks hs = record {
      run = λ env s r hm.
          let Q = Fine defs s.memory (t.Named x args) in
          after_bind (FineAll s.memory (fields_at vars args fields)) Q (src.values evs env s) _ (hs.run env s r hm) (λ xs s1 h1.
          after_some Q Undefined (src.fields_of (type_named defs x)) (names_of fields) s1 _ (ap src.fields_of is) (record {
            extends = h1.extends;
            shape = HasShape.struct is n oks h1.shapes;
            memory = h1.memory;
          }));
    }

    pub get_sound : (x y : List ℕ) (vars : List (List ℕ)) (fields : List Field) (args : List Ty) (b r : Ty) (a : Sem) → type_named defs x ≡ Some (Struct vars fields)
        → field_named fields y ≡ Some b → (length args ≡ length vars → typing.at vars args b ≡ r) → Sound I (t.Named x args) a → Sound I r (src.get y a)
    get_sound x y vars fields args b r a is b_is same ha = record {
      run = λ env s ready hm.
          let Q = Fine defs s.memory r in
          after_bind (Fine defs s.memory (t.Named x args)) Q (a env s) _ (ha.run env s ready hm) (λ z s1 h1.
          after_struct defs Q s1.memory s1 x args vars fields is z _ h1.shape (λ names xs h.
          let f = field_there defs x y args vars fields b s1.memory names xs is b_is h in
          after_some Q Undefined (src.field_of names xs y) f.0 s1 _ f.1 (record { extends = h1.extends; shape = subst (HasShape defs s1.memory f.0) (same (struct_count defs x args vars fields s1.memory names xs is h)) f.2; memory = h1.memory })));
    }

    -- ---- tables

    pub tab_sound : (facts : Facts defs) (x : List ℕ) (i : IntTy) (a : Sem) → table_named defs x ≡ Some i → Sound I u32 a → Sound I (int_ty i) (src.tab defs x a)
    tab_sound facts x i a is ha = record {
      run = λ env s r hm.
          let Q = Fine defs s.memory (int_ty i) in
          let f = facts.table x i is in
          after_bind (Fine defs s.memory u32) Q (a env s) _ (ha.run env s r hm) (λ y s1 h1.
          after_number defs Q s1.memory s1 W32 y _ h1.shape (λ j lj ej.
          after_some Q Undefined (src.table_from 0 defs x) f.table s1 _ f.is (after_found Q cause.Index (slice_get f.table.nums j) s1 _ (λ n there. record {
            extends = h1.extends;
            shape = subst (λ (z : IntTy). HasShape defs s1.memory (v.Num z.width n) (int_ty i)) (sym f.ty) (HasShape.num (each_get (λ z. z < 2 ^ bits i.width) f.table.nums j n f.fit there));
            memory = h1.memory;
          }))));
    }

    -- ---- choices

    pub choose_sound : (a : Ty) (c ev ev' : Sem) → Sound I t.Bool c → Sound I a ev → Sound I a ev' → Sound I a (src.choose c ev ev')
    choose_sound a c ev ev' hc h h' = record {
      run = λ env s r hm.
          let Q = Fine defs s.memory a in
          after_bind (Fine defs s.memory t.Bool) Q (c env s) _ (hc.run env s r hm) (λ x s1 h1.
          let r1 = on s.memory s1.memory env h1.extends r in
          after_truth defs Q s1.memory s1 x _ h1.shape (λ b. after_if Q b _ _
          (λ e. after_so (Fine defs s1.memory a) Q _ (h.run env (leave (event.If true) s1) r1 h1.memory) (λ y s2 h2. fine_then s.memory s1.memory a y s2 h1.extends h2))
          (λ e. after_so (Fine defs s1.memory a) Q _ (h'.run env (leave (event.If false) s1) r1 h1.memory) (λ y s2 h2. fine_then s.memory s1.memory a y s2 h1.extends h2))));
    }

    -- ---- calls

    pub call_sound : (calls : src.Calls) → CallsSound calls → (x : List ℕ) (f : Signature) (args types : List Ty) (evs : List Sem) → fun_named defs x ≡ Some f
        → length types ≡ length f.vars → AreArguments defs [] types → ((m : List Block) (env : Env) → I m env → map (closed env) args ≡ types)
        → SoundAll I (fields_at f.vars types f.params) evs → Sound I (typing.at f.vars types f.result) (src.call calls x args evs)
    call_sound calls hk x f args types evs is n oks same hs = record {
      run = λ env s r hm.
          let Q = Fine defs s.memory (typing.at f.vars types f.result) in
          after_bind (FineAll s.memory (fields_at f.vars types f.params)) Q (src.values evs env s) _ (hs.run env s r hm) (λ xs s1 h1.
          after_tick Q s1 _ (λ left. after_so (Fine defs s1.memory (typing.at f.vars types f.result)) Q _
          (subst (λ z. After (Fine defs s1.memory (typing.at f.vars types f.result)) (calls (record { name = x; types = z; values = xs }) (record s1 { ticks = left }))) (sym (same s.memory env r))
          (hk x f types xs (record s1 { ticks = left }) is n oks h1.shapes h1.memory))
          (λ y s2 h2. fine_then s.memory s1.memory (typing.at f.vars types f.result) y s2 h1.extends h2)));
    }

    -- ---- loops

    pub while_sound : (c a : Sem) → Sound I t.Bool c → Sound I t.Unit a → Sound I t.Unit (src.while c a)
    while_sound c a hc ha = record {
      run = λ env s r hm.
          loop_after (λ u. Kept s.memory) (Fine defs s.memory t.Unit) (src.while_turn c a env) (λ u s1 n k. record { extends = k.extends; memory = k.memory })
          (λ u s1 k. turn env s r s1 k) tt s (record { extends = extends_same s.memory; memory = hm });
    }
      where
        turn : (env : Env) (s : SourceState) → I s.memory env → (s1 : SourceState) → Kept s.memory s1
            → After (Turned (λ u. Kept s.memory) (Fine defs s.memory t.Unit)) (src.while_turn c a env tt s1)
        turn env s r s1 k =
            let Q = Turned (λ u. Kept s.memory) (Fine defs s.memory t.Unit) in
            after_bind (Fine defs s1.memory t.Bool) Q (c env s1) _ (hc.run env s1 (on s.memory s1.memory env k.extends r) k.memory) (λ x s2 h2.
            let p = extends_then s.memory s1.memory s2.memory k.extends h2.extends in
            after_truth defs Q s2.memory s2 x _ h2.shape (λ b. turn_on_after s.memory t.Unit b s2 _ p h2.memory HasShape.unit (λ e.
            after_bind (Fine defs s2.memory t.Unit) Q (a env (leave (event.Turn true) s2)) _ (ha.run env (leave (event.Turn true) s2) (on s.memory s2.memory env p r) h2.memory) (λ y s3 h3.
            record { extends = extends_then s.memory s2.memory s3.memory p h3.extends; memory = h3.memory }))))

  -- ---- variables

  pub var_sound : (at : Instance defs) (g : Scope) (k : ℕ) (slots : List Slot) (x : List ℕ) (a : Ty) → look g.vars x ≡ Some a
      → Sound (Ready defs at g k slots) (here defs at a) (src.var x)
  var_sound at g k slots x a e = record {
    run = λ env s r hm.
        let f = r.vars x a e in
        after_some (Fine defs s.memory (here defs at a)) Undefined (value_of env.vars x) f.0 s _ f.1 (record { extends = extends_same s.memory; shape = f.2; memory = hm });
  }
