-- What each form means, side by side: it does the same where its parts do. One lemma a form.
-- Of a part it is known what it gives, and that the two scopes still stand to one another as before, in the memory that it
-- leaves. Of the whole form it is shown only that it does the same: what else holds there, a pass knows from the kind of
-- relation that it chose (of scopes alone), or from the soundness of typing.
use Rattle.std.proofs.Common.{◌≡◌, ℕ, suc, ◌+◌, ◌==◌, nat_lt, nat_le, not, ◌&&◌, Bool, true, false, if◌then◌else◌, List, [], ◌∷◌, map, length, Option, Some, None, option_map, option_and_then, slice_get, bytes_eq, refl, sym, ap, ◌∙◌}
use Rattle.std.proofs.lemmas.List.{length-map}
use Rattle.std.proofs.lemmas.Option.{slice_get-map}
use Rattle.krml_trace.specs.declared.width.Width.{Width}
use Rattle.krml_trace.specs.declared.width.Width.TheVariants.{W32}
use Rattle.krml_trace.specs.declared.outcome.Cause.TheVariants as cause
use Rattle.krml_trace.specs.declared.why.Why.TheVariants.{Stuck, Undefined}
use Rattle.krml_trace.specs.Width.{bits, same_width}
use Rattle.krml_trace.specs.Run.{Goes, bind, leave, with_some}
use Rattle.krml_trace.specs.After.{After}
use Rattle.krml_trace.specs.Loop.{Turn, Again, Over, loop}
use Rattle.krml_syntax.specs.declared.tree.IntTy.{IntTy}
use Rattle.krml_syntax.specs.declared.tree.Ty.{Ty}
use Rattle.krml_syntax.specs.declared.tree.Slot.{Slot}
use Rattle.krml_syntax.specs.declared.tree.BinOp.{BinOp}
use Rattle.krml_syntax.specs.declared.tree.CmpOp.{CmpOp}
use Rattle.krml_syntax.specs.declared.tree.Def.{Def}
use Rattle.krml_syntax.specs.Spelling.{Each}
use Rattle.krml_ast.specs.Names.{type_named}
use Rattle.krml_ast.specs.declared.event.SourceEvent.TheVariants as event
use Rattle.krml_meaning.specs.declared.value.Value.{Value, out-Value}
use Rattle.krml_meaning.specs.declared.value.Value.TheOpen.{Value-F}
use Rattle.krml_meaning.specs.declared.value.Value.TheVariants as v
use Rattle.krml_meaning.specs.State.{Block, SourceState, SourceRan, Variables, Env, Sem, value_of, with_vars, closed, closed_slot, put}
use Rattle.krml_meaning.specs.Meaning as src
use Rattle.krml_passing.specs.Images.{Images, vars_image, slot_image, block_image, state_image}
use Rattle.krml_passing.specs.Alike.{Both, Alike, Scopes, Of, any, IsImage, Gives, GivesAll, Same, Does, DoAll, Leads}
use Rattle.krml_passing.proofs.Alike.{BothTurned, alike_goes, alike_ends, alike_to, alike_bind, alike_so, alike_after, alike_some, alike_check, alike_if, alike_tick, alike_loop}
use Rattle.krml_passing.proofs.Values as is
use Rattle.krml_passing.proofs.Values.{first_image, number_alike, number_is_alike, truth_alike, buffer_alike, struct_alike, con_alike}

-- ---- what is asked of names that are looked up

-- A constructor keeps its place in its sum, whatever else becomes of it.
pub record SameCon (defs defs' : List Def) (x x' : List ℕ) : Type 0 where
  pub to : ℕ × List Ty → ℕ × List Ty
  pub is : src.con_place defs' x' ≡ option_map to (src.con_place defs x)
  pub place : (p : ℕ × List Ty) → (to p).0 ≡ p.0

-- the zero value of an argument of a constructor is the image of that before
abbrev pub SameZero : (im : Images) (defs defs' : List Def) (x x' : List ℕ) → SameCon defs defs' x x' → ℕ → Type 0
SameZero im defs defs' x x' c j = (p : ℕ × List Ty) → src.con_place defs x ≡ Some p
    → option_and_then (src.zero_value defs') (slice_get (c.to p).1 j)
    ≡ option_map im.value (option_and_then (src.zero_value defs) (slice_get p.1 j))

abbrev pub table_image : Images → src.Table → src.Table
table_image im t = record t { place = im.place t.place }

module _ (im : Images) where
  -- ---- what is known of parts

  -- of a relation of scopes alone, whatever the memory
  pub steady : (I : Scopes) {a a' : Sem} → ((env env' : Env) (m m1 : List Block) → I env env' m → I env env' m1) → Same im I a a'
      → Does im I any a a'
  steady I k h = record {
    run = λ env env' s i. alike_so im (IsImage im) (Gives im I any env env') _ _ (h.run env env' s i) (λ x x' m e. (
      e,
      tt,
      k env env' s.memory m i,
    ));
  }

  -- of a typed run
  pub typed : (I : Scopes) (P : Of Value) {a a' : Sem}
      → ((env env' : Env) (s : SourceState) → I env env' s.memory → After (λ x s1. P x s1.memory × I env env' s1.memory) (a env s))
      → Same im I a a' → Does im I P a a'
  typed I P k h = record {
    run = λ env env' s i. alike_after im (λ x s1. P x s1.memory × I env env' s1.memory) (IsImage im) (Gives im I P env env') _ _
        (k env env' s i) (h.run env env' s i) (λ x x' s1 p e. (e, p.0, p.1));
  }

  -- less may be said
  pub forget : {I : Scopes} {P : Of Value} {a a' : Sem} → Does im I P a a' → Same im I a a'
  forget {I = I} {P = P} h = record {
    run = λ env env' s i. alike_so im (Gives im I P env env') (IsImage im) _ _ (h.run env env' s i) (λ x x' m e. e.0);
  }

  -- the second may be one that means the same
  pub same_to : {I : Scopes} {a a' a'' : Sem} → ((env : Env) (s : SourceState) → a'' env s ≡ a' env s) → Same im I a a' → Same im I a a''
  same_to {a = a} e h = record { run = λ env env' s i. alike_to im (IsImage im) (a env s) (e env' (state_image im s)) (h.run env env' s i) }

  module _ (I : Scopes) where
    -- a part, and then a step with its value
    pub part_then : {A A' : Type 0} (Q : Both A A') {P : Of Value} {a a' : Sem} → Does im I P a a' → (env env' : Env) (s : SourceState)
        → I env env' s.memory → (go : Value → SourceState → SourceRan A) (go' : Value → SourceState → SourceRan A')
        → ((x : Value) (s : SourceState) → P x s.memory → I env env' s.memory → Alike im Q (go x s) (go' (im.value x) (state_image im s)))
        → Alike im Q (bind (a env s) go) (bind (a' env' (state_image im s)) go')
    part_then Q {P = P} ha env env' s i go go' k = alike_bind im (Gives im I P env env') Q _ _ go go' (ha.run env env' s i)
        (λ x x' s1 g. alike_to im Q (go x s1) (ap (λ z. go' z (state_image im s1)) g.0) (k x s1 g.1 g.2))

    -- parts from left to right, and then a step with their values
    pub parts_then : {A A' : Type 0} (Q : Both A A') {P : Of (List Value)} {es es' : List Sem} → DoAll im I P es es' → (env env' : Env)
        (s : SourceState) → I env env' s.memory → (go : List Value → SourceState → SourceRan A) (go' : List Value → SourceState
        → SourceRan A')
        → ((xs : List Value) (s : SourceState) → P xs s.memory → I env env' s.memory
        → Alike im Q (go xs s) (go' (map im.value xs) (state_image im s)))
        → Alike im Q (bind (src.values es env s) go) (bind (src.values es' env' (state_image im s)) go')
    parts_then Q {P = P} hs env env' s i go go' k =
        alike_bind im (GivesAll im I P env env') Q _ _ go go' (hs.run env env' s i)
        (λ xs xs' s1 g. alike_to im Q (go xs s1) (ap (λ z. go' z (state_image im s1)) g.0) (k xs s1 g.1 g.2))

    gives : (x x' : Value) (s : SourceState) → im.value x ≡ x' → Alike im (IsImage im) (Goes x s) (Goes x' (state_image im s))
    gives x x' s h = alike_goes im (IsImage im) x x' s (sym h)

    -- ---- values that are there

    pub var_same : (x x' : List ℕ)
        → ((env env' : Env) (m : List Block) → I env env' m → value_of env'.vars x' ≡ option_map im.value (value_of env.vars x))
        → Same im I (src.var x) (src.var x')
    var_same x x' h = record {
      run = λ env env' s i. alike_some im (IsImage im) im.value Undefined (value_of env.vars x) _ s _ _ (h env env' s.memory i)
          (λ y e. gives y (im.value y) s refl);
    }

    pub just_same : (x x' : Value) → im.value x ≡ x' → Same im I (src.just x) (src.just x')
    just_same x x' h = record { run = λ env env' s i. gives x x' s h }

    -- ---- numbers

    -- two operands, with what the second is
    operands_are : {A A' : Type 0} (Q : Both A A') (w w' : Width) {P P' : Of Value} {a b a' b' : Sem} → Does im I P a a' → Does im I P' b b'
        → (env env' : Env) (s : SourceState) (next : ℕ → ℕ → SourceState → SourceRan A) (next' : ℕ → ℕ → SourceState → SourceRan A')
        → I env env' s.memory
        → ((m n : ℕ) (s : SourceState) (y : Value) (u : Width) → I env env' s.memory → P' y s.memory → out-Value y ≡ Value-F.Num u n
        → same_width w' u ≡ true → Alike im Q (next m n s) (next' m n (state_image im s)))
        → Alike im Q (src.operands w w' a b env s next) (src.operands w w' a' b' env' (state_image im s) next')
    operands_are Q w w' ha hb env env' s next next' i k = part_then Q ha env env' s i _ _ (λ x s1 p i1. part_then Q hb env env' s1 i1 _ _
        (λ y s2 q i2.
        number_alike im Q s2 w x _ _ (λ m. number_is_alike im Q s2 w' y _ _ (λ u n is same. k m n s2 y u i2 q is same))))

    pub operands_alike : {A A' : Type 0} (Q : Both A A') (w w' : Width) {P P' : Of Value} {a b a' b' : Sem} → Does im I P a a'
        → Does im I P' b b' → (env env' : Env) (s : SourceState) (next : ℕ → ℕ → SourceState → SourceRan A)
        (next' : ℕ → ℕ → SourceState → SourceRan A') → I env env' s.memory
        → ((m n : ℕ) (s : SourceState) → I env env' s.memory → Alike im Q (next m n s) (next' m n (state_image im s)))
        → Alike im Q (src.operands w w' a b env s next) (src.operands w w' a' b' env' (state_image im s) next')
    operands_alike Q w w' ha hb env env' s next next' i k = operands_are Q w w' ha hb env env' s _ _ i
        (λ m n s1 y u i1 q is same. k m n s1 i1)

    pub binary_same : (o : BinOp) (t : IntTy) {P P' : Of Value} {a b a' b' : Sem} → Does im I P a a' → Does im I P' b b'
        → Same im I (src.binary o t a b) (src.binary o t a' b')
    binary_same o t ha hb = record {
      run = λ env env' s i. operands_alike (IsImage im) t.width t.width ha hb env env' s _ _ i (λ m n s1 i1.
          alike_check im (IsImage im) (Stuck cause.Divisor) (src.has_result o n) s1 _ _
          (gives _ _ s1 (is.num_value im t.width (src.result_of o t.width m n))));
    }

    pub shift_same : (left : Bool) (t : IntTy) {P P' : Of Value} {a b a' b' : Sem} → Does im I P a a' → Does im I P' b b'
        → Same im I (src.shift left t a b) (src.shift left t a' b')
    shift_same left t ha hb = record {
      run = λ env env' s i. operands_alike (IsImage im) t.width W32 ha hb env env' s _ _ i (λ m n s1 i1.
          alike_check im (IsImage im) (Stuck cause.Shift) (nat_lt n (bits t.width)) s1 _ _
          (gives _ _ s1 (is.num_value im t.width (src.shifted left t.width m n))));
    }

    pub compare_same : (o : CmpOp) (t : IntTy) {P P' : Of Value} {a b a' b' : Sem} → Does im I P a a' → Does im I P' b b'
        → Same im I (src.compare o t a b) (src.compare o t a' b')
    compare_same o t ha hb = record {
      run = λ env env' s i. operands_alike (IsImage im) t.width t.width ha hb env env' s _ _ i (λ m n s1 i1.
          gives _ _ s1 (is.bool_value im (src.compared o m n)));
    }

    pub opposite_same : {P : Of Value} {a a' : Sem} → Does im I P a a' → Same im I (src.opposite a) (src.opposite a')
    opposite_same ha = record {
      run = λ env env' s i. part_then (IsImage im) ha env env' s i _ _ (λ x s1 p i1.
          truth_alike im (IsImage im) s1 x _ _ (λ b. gives _ _ s1 (is.bool_value im (not b))));
    }

    pub cast_same : (t u : IntTy) {P : Of Value} {a a' : Sem} → Does im I P a a' → Same im I (src.cast t u a) (src.cast t u a')
    cast_same t u ha = record {
      run = λ env env' s i. part_then (IsImage im) ha env env' s i _ _ (λ x s1 p i1.
          number_alike im (IsImage im) s1 t.width x _ _ (λ n. gives _ _ s1 (is.num_value im u.width (src.wrap u.width n))));
    }

    pub hide_same : (t : IntTy) {P : Of Value} {a a' : Sem} → Does im I P a a' → Same im I (src.hide t a) (src.hide t a')
    hide_same t ha = record {
      run = λ env env' s i. part_then (IsImage im) ha env env' s i _ _ (λ x s1 p i1.
          number_alike im (IsImage im) s1 t.width x _ _ (λ n. gives _ _ s1 (is.num_value im t.width n)));
    }

    -- ---- operands in order

    values_alike : {es es' : List Sem} → Each (Does im I any) es es' → (env env' : Env) (s : SourceState) → I env env' s.memory
        → Alike im (GivesAll im I any env env') (src.values es env s) (src.values es' env' (state_image im s))
    values_alike Each.none env env' s i = alike_goes im (GivesAll im I any env env') [] [] s (refl, tt, i)
    values_alike (Each.one {xs = more} h hs) env env' s i = part_then (GivesAll im I any env env') h env env' s i _ _ (λ x s1 p i1.
        alike_bind im (GivesAll im I any env env') (GivesAll im I any env env') (src.values more env s1) _ _ _
        (values_alike hs env env' s1 i1)
        (λ xs xs' s2 g. alike_goes im (GivesAll im I any env env') (x ∷ xs) (im.value x ∷ xs') s2 (ap (λ z. im.value x ∷ z) g.0, tt, g.2)))

    pub all_do : {es es' : List Sem} → Each (Does im I any) es es' → DoAll im I any es es'
    all_do hs = record { run = values_alike hs }

    -- ---- structs and sums

    module _ (defs defs' : List Def) where
      pub make_same : (x x' : List ℕ) → src.fields_of (type_named defs' x') ≡ option_map (map im.field) (src.fields_of (type_named defs x))
          → {P : Of (List Value)} {es es' : List Sem} → DoAll im I P es es' → Same im I (src.make defs x es) (src.make defs' x' es')
      make_same x x' e hs = record {
        run = λ env env' s i. parts_then (IsImage im) hs env env' s i _ _ (λ xs s1 p i1.
            alike_some im (IsImage im) (map im.field) Undefined (src.fields_of (type_named defs x)) _ s1 _ _ e (λ names is_names.
            gives _ _ s1 (is.struct_value im names xs)));
      }

      pub con_same : (x x' : List ℕ) → SameCon defs defs' x x' → {P : Of (List Value)} {es es' : List Sem} → DoAll im I P es es'
          → Same im I (src.con defs x es) (src.con defs' x' es')
      con_same x x' c hs = record {
        run = λ env env' s i. parts_then (IsImage im) hs env env' s i _ _ (λ xs s1 p i1.
            alike_some im (IsImage im) c.to Undefined (src.con_place defs x) _ s1 _ _ c.is (λ q is_q.
            gives _ _ s1 (is.con_value im q.0 xs ∙ ap (λ k. v.Con k (map im.value xs)) (sym (c.place q)))));
      }

      pub tag_is_same : (x x' : List ℕ) → SameCon defs defs' x x' → {P : Of Value} {a a' : Sem} → Does im I P a a'
          → Same im I (src.tag_is defs x a) (src.tag_is defs' x' a')
      tag_is_same x x' c ha = record {
        run = λ env env' s i. part_then (IsImage im) ha env env' s i _ _ (λ y s1 p i1. con_alike im (IsImage im) s1 y _ _ (λ k xs.
            alike_some im (IsImage im) c.to Undefined (src.con_place defs x) _ s1 _ _ c.is (λ q is_q.
            gives _ _ s1 (is.bool_value im (k == q.0) ∙ ap (λ n. v.Bool (k == n)) (sym (c.place q))))));
      }

      part_or : (b : Bool) (xs : List Value) (j : ℕ) (o o' : Option Value) → o' ≡ option_map im.value o
          → (if b then slice_get (map im.value xs) j else o') ≡ option_map im.value (if b then slice_get xs j else o)
      part_or true xs j o o' h = slice_get-map im.value xs j
      part_or false xs j o o' h = h

      pub part_same : (x x' : List ℕ) (j : ℕ) (c : SameCon defs defs' x x') → SameZero im defs defs' x x' c j → {P : Of Value} {a a' : Sem}
          → Does im I P a a' → Same im I (src.part defs x j a) (src.part defs' x' j a')
      part_same x x' j c z ha = record {
        run = λ env env' s i. part_then (IsImage im) ha env env' s i _ _ (λ y s1 p i1. con_alike im (IsImage im) s1 y _ _ (λ k xs.
            alike_some im (IsImage im) c.to Undefined (src.con_place defs x) _ s1 _ _ c.is (λ q is_q.
            alike_some im (IsImage im) im.value Undefined
            (if k == q.0 then slice_get xs j else option_and_then (src.zero_value defs) (slice_get q.1 j)) _ s1 _ _
            (ap (λ n. if k == n then slice_get (map im.value xs) j else option_and_then (src.zero_value defs') (slice_get (c.to q).1 j))
            (c.place q)
            ∙ part_or (k == q.0) xs j _ _ (z q is_q)) (λ y1 e. gives _ _ s1 refl))));
      }

      -- ---- tables

      pub tab_same : (x x' : List ℕ) → src.table_from 0 defs' x' ≡ option_map (table_image im) (src.table_from 0 defs x)
          → {P : Of Value} {a a' : Sem} → Does im I P a a' → Same im I (src.tab defs x a) (src.tab defs' x' a')
      tab_same x x' e ha = record {
        run = λ env env' s i. part_then (IsImage im) ha env env' s i _ _ (λ y s1 p i1. number_alike im (IsImage im) s1 W32 y _ _ (λ k.
            alike_some im (IsImage im) (table_image im) Undefined (src.table_from 0 defs x) _ s1 _ _ e (λ t is_t.
            alike_some im (IsImage im) (λ n. n) (Stuck cause.Index) (slice_get t.nums k) _ s1 _ _ (itself (slice_get t.nums k)) (λ n is_n.
            gives _ _ (leave (event.Tab t.place k) s1) (is.num_value im t.ty.width n)))));
      }
        where
          itself : (o : Option ℕ) → o ≡ option_map (λ n. n) o
          itself (Some n) = refl
          itself None = refl

    field_of_image : (names : List (List ℕ)) (xs : List Value) (y : List ℕ)
        → src.field_of (map im.field names) (map im.value xs) (im.field y) ≡ option_map im.value (src.field_of names xs y)
    field_of_image [] xs y = refl
    field_of_image (x ∷ names) [] y = refl
    field_of_image (x ∷ names) (z ∷ xs) y = rw (im.apart x y) (first_image im.value (bytes_eq x y) z _ _ (field_of_image names xs y))

    pub get_same : (y : List ℕ) {P : Of Value} {a a' : Sem} → Does im I P a a' → Same im I (src.get y a) (src.get (im.field y) a')
    get_same y ha = record {
      run = λ env env' s i. part_then (IsImage im) ha env env' s i _ _ (λ x s1 p i1. struct_alike im (IsImage im) s1 x _ _ (λ names xs.
          alike_some im (IsImage im) im.value Undefined (src.field_of names xs y) _ s1 _ _ (field_of_image names xs y) (λ z e.
          gives _ _ s1 refl)));
    }

    -- ---- buffers

    read_at_alike : (n j : ℕ) (s : SourceState) → Alike im (IsImage im) (src.read_at n j s) (src.read_at n j (state_image im s))
    read_at_alike n j s =
        alike_some im (IsImage im) (block_image im) Undefined (slice_get s.memory n) _ s _ _ (slice_get-map (block_image im) s.memory n)
        (λ b is_b.
        alike_some im (IsImage im) im.value Undefined (slice_get b.items j) _ s _ _ (slice_get-map im.value b.items j) (λ x is_x.
        gives _ _ (leave (event.Read n j) s) refl))

    write_at_alike : (n j : ℕ) (x : Value) (s : SourceState)
        → Alike im (IsImage im) (src.write_at n j x s) (src.write_at n j (im.value x) (state_image im s))
    write_at_alike n j x s =
        alike_some im (IsImage im) (block_image im) Undefined (slice_get s.memory n) _ s _ _ (slice_get-map (block_image im) s.memory n)
        (λ b is_b.
        alike_some im (IsImage im) im.value Undefined (slice_get b.items j) _ s _ _ (slice_get-map im.value b.items j) (λ old is_old.
        alike_to im (IsImage im) (Goes v.Unit (put n j x b (leave (event.Write n j) s)))
        (ap (Goes v.Unit) (is.put_image im n j x b (leave (event.Write n j) s)))
        (gives v.Unit v.Unit (put n j x b (leave (event.Write n j) s)) (is.unit_value im))))

    pub read_same : {P P' : Of Value} {a b a' b' : Sem} → Does im I P a a' → Does im I P' b b' → Same im I (src.read a b) (src.read a' b')
    read_same ha hb = record {
      run = λ env env' s i. part_then (IsImage im) ha env env' s i _ _ (λ x s1 p i1. part_then (IsImage im) hb env env' s1 i1 _ _
          (λ y s2 q i2.
          buffer_alike im (IsImage im) s2 x _ _ (λ n off len. number_alike im (IsImage im) s2 W32 y _ _ (λ j.
          alike_check im (IsImage im) (Stuck cause.Index) (nat_lt j len) s2 _ _ (read_at_alike n (off + j) s2)))));
    }

    pub write_same : {P P' P'' : Of Value} {a b c a' b' c' : Sem} → Does im I P a a' → Does im I P' b b' → Does im I P'' c c'
        → Same im I (src.write a b c) (src.write a' b' c')
    write_same ha hb hc = record {
      run = λ env env' s i. part_then (IsImage im) ha env env' s i _ _ (λ x s1 p i1. part_then (IsImage im) hb env env' s1 i1 _ _
          (λ y s2 q i2.
          part_then (IsImage im) hc env env' s2 i2 _ _ (λ z s3 r i3.
          buffer_alike im (IsImage im) s3 x _ _ (λ n off len. number_alike im (IsImage im) s3 W32 y _ _ (λ j.
          alike_check im (IsImage im) (Stuck cause.Index) (nat_lt j len) s3 _ _ (write_at_alike n (off + j) z s3))))));
    }

    pub slice_same : {P P' P'' : Of Value} {a b c a' b' c' : Sem} → Does im I P a a' → Does im I P' b b' → Does im I P'' c c'
        → Same im I (src.slice a b c) (src.slice a' b' c')
    slice_same ha hb hc = record {
      run = λ env env' s i. part_then (IsImage im) ha env env' s i _ _ (λ x s1 p i1. part_then (IsImage im) hb env env' s1 i1 _ _
          (λ y s2 q i2.
          part_then (IsImage im) hc env env' s2 i2 _ _ (λ z s3 r i3.
          buffer_alike im (IsImage im) s3 x _ _ (λ n off len. number_alike im (IsImage im) s3 W32 y _ _
          (λ j. number_alike im (IsImage im) s3 W32 z _ _ (λ k.
          alike_check im (IsImage im) (Stuck cause.Slice) (nat_le (j + k) len) s3 _ _ (gives _ _ s3 (is.buf_value im n (off + j) k))))))));
    }

    -- ---- choices

    pub choose_same : {P : Of Value} {c a b c' a' b' : Sem} → Does im I P c c' → Same im I a a' → Same im I b b'
        → Same im I (src.choose c a b) (src.choose c' a' b')
    choose_same hc ha hb = record {
      run = λ env env' s i. part_then (IsImage im) hc env env' s i _ _ (λ x s1 p i1. truth_alike im (IsImage im) s1 x _ _ (λ t.
          alike_if im (IsImage im) t _ _ _ _ (ha.run env env' (leave (event.If true) s1) i1)
          (hb.run env env' (leave (event.If false) s1) i1)));
    }

    -- A branch takes the same values of which P holds, and its body does the same in the scope that it leads to.
    pub record SameBranch (P : Of Value) (b b' : src.Branch) : Type 0 where
      pub takes : (x : Value) (m : List Block) → P x m → b'.takes (im.value x) ≡ option_map (vars_image im) (b.takes x)
      pub body : (env env' : Env) (s : SourceState) (x : Value) (vars : Variables) → I env env' s.memory → P x s.memory
          → b.takes x ≡ Some vars
          → Alike im (IsImage im) (b.body (with_vars vars env) s) (b'.body (with_vars (vars_image im vars) env') (state_image im s))

    -- the body of a branch that was found
    abbrev picked : Env → SourceState → ℕ × Variables × Sem → SourceRan Value
    picked env s f = f.2 (with_vars f.1 env) (leave (event.Pick f.0) s)

    branches_alike : {P : Of Value} (env env' : Env) (s : SourceState) (x : Value) → I env env' s.memory → P x s.memory → (k : ℕ)
        (bs bs' : List src.Branch) → Each (SameBranch P) bs bs'
        → Alike im (IsImage im) (with_some (Stuck cause.Match) (src.first_branch k bs x) s (picked env s))
        (with_some (Stuck cause.Match) (src.first_branch k bs' (im.value x)) (state_image im s) (picked env' (state_image im s)))
    branches_alike env env' s x i p k bs bs' Each.none = alike_ends im (IsImage im) (Stuck cause.Match) s
    branches_alike env env' s x i p k bs bs' (Each.one {x = b} {y = b'} {xs = more} {ys = more'} h hs) =
        rw (h.takes x s.memory p) (go (b.takes x) refl (branches_alike env env' s x i p (suc k) more more' hs))
      where
        go : (o : Option Variables) → b.takes x ≡ o
            → Alike im (IsImage im) (with_some (Stuck cause.Match) (src.first_branch (suc k) more x) s (picked env s))
            (with_some (Stuck cause.Match) (src.first_branch (suc k) more' (im.value x)) (state_image im s)
            (picked env' (state_image im s)))
            → Alike im (IsImage im) (with_some (Stuck cause.Match)
            (src.branch_or (option_map (λ vars. (k, vars, b.body)) o) (src.first_branch (suc k) more x)) s (picked env s))
            (with_some (Stuck cause.Match)
            (src.branch_or (option_map (λ vars. (k, vars, b'.body)) (option_map (vars_image im) o))
            (src.first_branch (suc k) more' (im.value x)))
            (state_image im s) (picked env' (state_image im s)))
        go (Some vars) e later = h.body env env' (leave (event.Pick k) s) x vars i p e
        go None e later = later

    pub match_same : {P : Of Value} {a a' : Sem} {branches branches' : List src.Branch} → Does im I P a a'
        → Each (SameBranch P) branches branches' → Same im I (src.match a branches) (src.match a' branches')
    match_same {branches = bs} {branches' = bs'} ha hs = record {
      run = λ env env' s i. part_then (IsImage im) ha env env' s i _ _ (λ x s1 p i1. branches_alike env env' s1 x i1 p 0 bs bs' hs);
    }

    -- ---- what stands in a `do`

    pub bound_leads : {J : Scopes} (x x' : List ℕ) {P : Of Value} {a a' : Sem} → Does im I P a a'
        → ((env env' : Env) (y : Value) (m : List Block) → I env env' m → P y m
        → J (with_vars ((x, y) ∷ []) env) (with_vars ((x', im.value y) ∷ []) env') m)
        → Leads im I J (src.bound x a) (src.bound x' a')
    bound_leads {J = J} x x' ha into = record {
      run = λ env env' s i. part_then J ha env env' s i _ _ (λ y s1 p i1. alike_goes im J _ _ s1 (into env env' y s1.memory i1 p));
    }

    pub ran_leads : {P : Of Value} {a a' : Sem} → Does im I P a a' → Leads im I I (src.ran a) (src.ran a')
    ran_leads ha = record { run = λ env env' s i. part_then I ha env env' s i _ _ (λ y s1 p i1. alike_goes im I env env' s1 i1) }

    pub no_steps_lead : Leads im I I (src.steps []) (src.steps [])
    no_steps_lead = record { run = λ env env' s i. alike_goes im I env env' s i }

    pub more_steps_lead : {J K : Scopes} {item item' : src.Step} (items items' : List src.Step) → Leads im I J item item'
        → Leads im J K (src.steps items) (src.steps items') → Leads im I K (src.steps (item ∷ items)) (src.steps (item' ∷ items'))
    more_steps_lead {J = J} {K = K} {item = item} items items' h hs = record {
      run = λ env env' s i. alike_bind im J K (item env s) _ _ _ (h.run env env' s i) (λ env1 env1' s1 j. hs.run env1 env1' s1 j);
    }

    pub block_same : {J : Scopes} (items items' : List src.Step) {a a' : Sem} → Leads im I J (src.steps items) (src.steps items')
        → Same im J a a' → Same im I (src.block items a) (src.block items' a')
    block_same {J = J} items items' hs ha = record {
      run = λ env env' s i. alike_bind im J (IsImage im) (src.steps items env s) _ _ _ (hs.run env env' s i)
          (λ env1 env1' s1 j. ha.run env1 env1' s1 j);
    }

    -- ---- frames

    -- the body of a frame does the same on new blocks
    abbrev pub InFrame : List Slot → Sem → Sem → Type 0
    InFrame slots a a' = (env env' : Env) (s : SourceState) → I env env' s.memory
        → Alike im (IsImage im) (a (record env { base = length s.memory }) (src.push (map (closed_slot env) slots) s))
        (a' (record env' { base = length s.memory }) (state_image im (src.push (map (closed_slot env) slots) s)))

    pub frame_same : (slots slots' : List Slot) (a a' : Sem) → ((env env' : Env) (m : List Block) → I env env' m
        → map (closed_slot env') slots' ≡ map (slot_image im) (map (closed_slot env) slots)) → InFrame slots a a'
        → Same im I (src.frame slots a) (src.frame slots' a')
    frame_same slots slots' a a' types body = record {
      run = λ env env' s i.
          let pushed : src.push (map (closed_slot env') slots') (state_image im s)
          ≡ state_image im (src.push (map (closed_slot env) slots) s) =
          ap (λ z. src.push z (state_image im s)) (types env env' s.memory i) ∙ is.push_image im (map (closed_slot env) slots) s in
          alike_to im (IsImage im) (src.frame slots a env s)
          (ap (λ n. bind (a' (record env' { base = n }) (src.push (map (closed_slot env') slots') (state_image im s)))
          (λ x late. Goes x (src.pop n late))) (length-map s.memory (block_image im))
          ∙ ap (λ z. bind (a' (record env' { base = length s.memory }) z) (λ x late. Goes x (src.pop (length s.memory) late))) pushed)
          (alike_bind im (IsImage im) (IsImage im) _ _ _ _ (body env env' s i) (λ x x' late e.
          alike_to im (IsImage im) (Goes x (src.pop (length s.memory) late)) (ap (Goes x') (is.pop_image im (length s.memory) late))
          (alike_goes im (IsImage im) x x' _ e)));
    }

    -- nothing is said of what a fill gives, and its turns are numbered alike
    abbrev Filling : Both (Turn ℕ (Unit {0})) (Turn ℕ (Unit {0}))
    Filling = BothTurned im (λ j j' m. j' ≡ j) (λ u u' m. Unit {0})

    fill_turn_alike : (n len : ℕ) (x : Value) (j j' : ℕ) (s : SourceState) → j' ≡ j
        → Alike im Filling (src.fill_turn n len x j s) (src.fill_turn n len (im.value x) j' (state_image im s))
    fill_turn_alike n len x j j' s e =
        alike_to im Filling (src.fill_turn n len x j s) (ap (λ z. src.fill_turn n len (im.value x) z (state_image im s)) e)
        (alike_if im Filling (nat_lt j len) _ (Goes (Over tt) (leave (event.Filled n) s)) _ _
        (alike_some im Filling (block_image im) Undefined (slice_get s.memory n) _ s _ _ (slice_get-map (block_image im) s.memory n)
        (λ b is_b.
        alike_to im Filling (Goes (Again (suc j)) (put n j x b (leave (event.Fill n j) s)))
        (ap (Goes (Again (suc j))) (is.put_image im n j x b (leave (event.Fill n j) s)))
        (alike_goes im Filling _ _ (put n j x b (leave (event.Fill n j) s)) refl)))
        (alike_goes im Filling _ _ (leave (event.Filled n) s) tt))

    pub fill_same : (k : ℕ) → ((env env' : Env) (m : List Block) → I env env' m → env'.base ≡ env.base) → {P : Of Value} {a a' : Sem}
        → Does im I P a a' → Same im I (src.fill k a) (src.fill k a')
    fill_same k base {a = a} {a' = a'} ha = record {
      run = λ env env' s i. alike_to im (IsImage im) (src.fill k a env s)
          (ap (λ n. filled (n + k) (a' env' (state_image im s))) (base env env' s.memory i)) (part_then (IsImage im) ha env env' s i _ _
          (λ x s1 p i1.
          let n : ℕ = env.base + k in
          alike_some im (IsImage im) (block_image im) Undefined (slice_get s1.memory n) _ s1 _ _
          (slice_get-map (block_image im) s1.memory n)
          (λ b is_b. alike_bind im (λ u u' m. Unit {0}) (IsImage im) (loop (src.fill_turn n b.len x) 0 (leave (event.Alloc n k) s1)) _ _ _
          (alike_loop im (λ j j' m. j' ≡ j) (λ u u' m. Unit {0}) (src.fill_turn n b.len x) (src.fill_turn n b.len (im.value x))
          (λ j j' s2 e. fill_turn_alike n b.len x j j' s2 e) 0 0 (leave (event.Alloc n k) s1) refl)
          (λ u u' s2 e. gives _ _ s2 (is.buf_value im n 0 b.len)))));
    }
      where
        filled : ℕ → SourceRan Value → SourceRan Value
        filled n r = bind r (λ x s. with_some Undefined (slice_get s.memory n) s
            (λ b. bind (loop (src.fill_turn n b.len x) 0 (leave (event.Alloc n k) s)) (λ u s. Goes (v.Buf n 0 b.len) s)))

    -- ---- loops

    turn_on_alike : {X : Type 0} (R : Both X X) (b : Bool) (s : SourceState) (body body' : SourceState → SourceRan (Turn X Value))
        → (b ≡ true → Alike im (BothTurned im R (IsImage im)) (body (leave (event.Turn true) s))
        (body' (state_image im (leave (event.Turn true) s))))
        → Alike im (BothTurned im R (IsImage im)) (src.turn_on b body s) (src.turn_on b body' (state_image im s))
    turn_on_alike R true s body body' k = k refl
    turn_on_alike R false s body body' k = alike_goes im (BothTurned im R (IsImage im)) _ _ (leave (event.Turn false) s)
        (sym (is.unit_value im))

    pub while_same : {P P' : Of Value} {c a c' a' : Sem} → Does im I P c c' → Does im I P' a a'
        → Same im I (src.while c a) (src.while c' a')
    while_same {c = c} {a = a} {c' = c'} {a' = a'} hc ha = record {
      run = λ env env' s i.
          let R : Both (Unit {0}) (Unit {0}) = λ u u' m. I env env' m in
          let T : Both (Turn (Unit {0}) Value) (Turn (Unit {0}) Value) = BothTurned im R (IsImage im) in
          alike_loop im R (IsImage im) (src.while_turn c a env) (src.while_turn c' a' env') (λ u u' s1 i1.
          part_then T hc env env' s1 i1 _ _ (λ x s2 p i2. truth_alike im T s2 x _ _ (λ b. turn_on_alike R b s2 _ _ (λ is_b.
          part_then T ha env env' (leave (event.Turn true) s2) i2 _ _ (λ y s3 q i3. alike_goes im T _ _ s3 i3))))) tt tt s i;
    }

    -- A turn of a `for` does the same, and the scopes around the loop still stand to one another. The number is below one of
    -- which Ok holds: that the last value of the variable fits is known of the bound.
    abbrev pub InFor : (Ok : ℕ → Type 0) (x x' : List ℕ) (c c' : Sem) → Type 0
    InFor Ok x x' c c' = (env env' : Env) (s : SourceState) (j end : ℕ) → Ok end → nat_lt j end ≡ true → I env env' s.memory
        → Alike im (λ y y' m. I env env' m) (c (with_vars ((x, v.Num W32 j) ∷ []) env) s)
        (c' (with_vars ((x', v.Num W32 j) ∷ []) env') (state_image im s))

    pub for_same : (Ok : ℕ → Type 0) (x x' : List ℕ) {P P' : Of Value} {a b a' b' : Sem} (c c' : Sem)
        → ((y : Value) (m : List Block) (u : Width) (n : ℕ) → P' y m → out-Value y ≡ Value-F.Num u n → same_width W32 u ≡ true → Ok n)
        → Does im I P a a' → Does im I P' b b' → InFor Ok x x' c c' → Same im I (src.for x a b c) (src.for x' a' b' c')
    for_same Ok x x' c c' ok ha hb hc = record {
      run = λ env env' s i. operands_are (IsImage im) W32 W32 ha hb env env' s _ _ i (λ start end s1 y u i1 q is same.
          let R : Both ℕ ℕ = λ j j' m. (j' ≡ j) × I env env' m in
          let T : Both (Turn ℕ Value) (Turn ℕ Value) = BothTurned im R (IsImage im) in
          alike_loop im R (IsImage im) (src.for_turn x end c env) (src.for_turn x' end c' env') (λ j j' s2 h.
          alike_to im T (src.for_turn x end c env j s2) (ap (λ z. src.for_turn x' end c' env' z (state_image im s2)) h.0)
          (turn_on_alike R (nat_lt j end) s2 _ _ (λ lt. alike_bind im (λ y y' m. I env env' m) T _ _ _ _
          (hc env env' (leave (event.Turn true) s2) j end (ok y s1.memory u end q is same) lt h.1)
          (λ y y' s3 i3. alike_goes im T (Again (suc j)) (Again (suc j)) s3 (refl, i3))))) start start s1 (refl, i1));
    }

    -- ---- calls

    pub call_same : (calls calls' : src.Calls) (f f' : List ℕ) (args args' : List Ty) {P : Of (List Value)} {es es' : List Sem}
        → DoAll im I P es es' → ((env env' : Env) (xs : List Value) (s : SourceState) → I env env' s.memory → P xs s.memory
        → Alike im (IsImage im) (calls (record { name = f; types = map (closed env) args; values = xs }) s)
        (calls' (record { name = f'; types = map (closed env') args'; values = map im.value xs }) (state_image im s)))
        → Same im I (src.call calls f args es) (src.call calls' f' args' es')
    call_same calls calls' f f' args args' hs k = record {
      run = λ env env' s i. parts_then (IsImage im) hs env env' s i _ _ (λ xs s1 p i1.
          alike_tick im (IsImage im) s1 _ _ (λ n. k env env' xs (record s1 { ticks = n }) i1 p));
    }

    -- ---- what the passes bring

    all_true_alike : (xs : List Value) (s : SourceState) (next next' : Bool → SourceRan Value)
        → ((b : Bool) → Alike im (IsImage im) (next b) (next' b))
        → Alike im (IsImage im) (src.all_true xs s next) (src.all_true (map im.value xs) (state_image im s) next')
    all_true_alike [] s next next' k = k true
    all_true_alike (x ∷ xs) s next next' k = truth_alike im (IsImage im) s x _ _ (λ b. all_true_alike xs s _ _ (λ c. k (b && c)))

    -- The tests of a case and its body do the same.
    pub record SameTested (c c' : src.Tested) : Type 0 where
      pub tests : DoAll im I any c.tests c'.tests
      pub body : Same im I c.body c'.body

    cases_alike : (k : ℕ) (cs cs' : List src.Tested) → Each SameTested cs cs' → (env env' : Env) (s : SourceState) → I env env' s.memory
        → Alike im (IsImage im) (src.cases k cs env s) (src.cases k cs' env' (state_image im s))
    cases_alike k cs cs' Each.none env env' s i = alike_ends im (IsImage im) (Stuck cause.Match) s
    cases_alike k cs cs' (Each.one {xs = more} {ys = more'} h hs) env env' s i = parts_then (IsImage im) h.tests env env' s i _ _
        (λ xs s1 p i1.
        all_true_alike xs s1 _ _ (λ b. alike_if im (IsImage im) b _ _ _ _ (h.body.run env env' (leave (event.Pick k) s1) i1)
        (cases_alike (suc k) more more' hs env env' s1 i1)))

    pub cases_same : (k : ℕ) {cs cs' : List src.Tested} → Each SameTested cs cs' → Same im I (src.cases k cs) (src.cases k cs')
    cases_same k {cs = cs} {cs' = cs'} hs = record { run = cases_alike k cs cs' hs }
