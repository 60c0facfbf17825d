-- Results and final contents of runs that are done: numbers that fit.
use Rattle.std.proofs.Common.{◌≡◌, ℕ, suc, ◌+◌, ◌<◌, ◌^◌, Bool, true, false, if◌then◌else◌, List, [], ◌∷◌, ◌++◌, map, take, length, slice_get, Option, Some, None, unwrap_or, refl, sym, ap, ◌∙◌, subst, arith, append_assoc}
use Rattle.std.specs.List.{AllByRecursion, list_all}
use Rattle.std.proofs.lemmas.Bool.{and_parts}
use Rattle.krml_trace.specs.declared.width.Width.{Width}
use Rattle.krml_trace.specs.declared.why.Why.TheVariants.{Spent, Deep, Stuck, Undefined, Trapped}
use Rattle.krml_trace.specs.declared.argument.Arg.{Arg}
use Rattle.krml_trace.specs.declared.argument.Arg.TheVariants as arg
use Rattle.krml_trace.specs.Argument.{fits}
use Rattle.krml_trace.specs.Width.{bits, same_width}
use Rattle.krml_trace.specs.Run.{Goes, Ends, outcome_of}
use Rattle.krml_trace.specs.After.{After}
use Rattle.krml_trace.specs.Host as host
use Rattle.krml_trace.specs.Host.{Plain, pass, pass_all, contents, done, run_from, run_started}
use Rattle.krml_syntax.specs.declared.tree.IntTy.{IntTy}
use Rattle.krml_syntax.specs.declared.tree.Ty.{Ty, out-Ty}
use Rattle.krml_syntax.specs.declared.tree.Ty.TheVariants as t
use Rattle.krml_syntax.specs.declared.tree.Ty.TheOpen.{Ty-F}
use Rattle.krml_syntax.specs.declared.tree.Field.{Field}
use Rattle.krml_syntax.specs.declared.tree.Def.{Def}
use Rattle.krml_syntax.specs.Types.{public, erased, int_ty}
use Rattle.krml_syntax.proofs.Types.{at_unit, erased_unit, erased_int}
use Rattle.krml_ast.specs.Typing.{at}
use Rattle.krml_ast.specs.WellTyped.{IsAnswer}
use Rattle.krml_meaning.specs.declared.value.Value.{Value, out-Value}
use Rattle.krml_meaning.specs.declared.value.Value.TheOpen.{Value-F}
use Rattle.krml_meaning.specs.declared.value.Value.TheVariants as v
use Rattle.krml_meaning.specs.State.{Block, SourceRan}
use Rattle.krml_meaning.specs.Meaning.{Passing, Passed, buffer, buffer_for, passing, passings, start, called_by_host, scalar_in, seen}
use Rattle.krml_meaning.specs.Shape.{HasShape, BlockTyped, MemoryTyped, Usable, Extends}
use Rattle.krml_meaning.specs.Sound.{Fine}
use Rattle.krml_meaning.specs.Endings.{IsNumberOf, IsResultOf, IsBufferOf, AreBuffersOf, LeavesNumbers, TypedFilesEnd, CheckedFilesEnd}
use Rattle.krml_meaning.proofs.Lists.{same_some, no_some, each_get, map_length}
use Rattle.krml_trace.proofs.Blocks.{get_right}
use Rattle.krml_meaning.proofs.Shapes.{ShapeIn, extends_then}
use Rattle.krml_meaning.proofs.Files.{each_def}
use Rattle.krml_meaning.proofs.Entries.{width_is, closed_bool, closed_int, one_more, one_passed, all_passed, EntryTyped, EntryFits, entry_fits, entry_there, shape_as, started, some_there, started_fine}
use Rattle.krml_meaning.proofs.Spelled.{checked_can_run}

-- ---- a result

each_number : (b : Ty) (o : Option ℕ) → ((n : ℕ) → o ≡ Some n → IsNumberOf (out-Ty b) n) → IsResultOf b o
each_number b (Some n) so = so n refl
each_number b None so = tt

module _ (defs : List Def) (m : List Block) where
  bool_small : (o : Value-F Value) → ShapeIn defs m o Ty-F.Bool → (n : ℕ) → scalar_in o ≡ Some n → n < 2
  bool_small (Value-F.Bool true) h n e = let same : 1 ≡ n = same_some 1 n e in omega (arith, same)
  bool_small (Value-F.Bool false) h n e = let same : 0 ≡ n = same_some 0 n e in omega (arith, same)
  bool_small (Value-F.Num w k) h n e = absurd h
  bool_small Value-F.Unit h n e = absurd h
  bool_small (Value-F.Struct names xs) h n e = absurd h
  bool_small (Value-F.Con k xs) h n e = absurd h
  bool_small (Value-F.Buf k off len) h n e = absurd h

  int_small : (i : IntTy) (o : Value-F Value) → ShapeIn defs m o (Ty-F.Int i) → (n : ℕ) → scalar_in o ≡ Some n → n < 2 ^ bits i.width
  int_small i (Value-F.Num w k) h n e = subst (λ z. z < 2 ^ bits i.width) (same_some k n e) (subst (λ z. k < 2 ^ bits z) (sym h.0) h.1)
  int_small i (Value-F.Bool b) h n e = absurd h
  int_small i Value-F.Unit h n e = absurd h
  int_small i (Value-F.Struct names xs) h n e = absurd h
  int_small i (Value-F.Con k xs) h n e = absurd h
  int_small i (Value-F.Buf k off len) h n e = absurd h

  unit_none : (o : Value-F Value) → ShapeIn defs m o Ty-F.Unit → scalar_in o ≡ None
  unit_none Value-F.Unit h = refl
  unit_none (Value-F.Bool b) h = absurd h
  unit_none (Value-F.Num w n) h = absurd h
  unit_none (Value-F.Struct names xs) h = absurd h
  unit_none (Value-F.Con k xs) h = absurd h
  unit_none (Value-F.Buf n off len) h = absurd h

  result_fits : (vars : List (List ℕ)) (y : Value) (a : Ty) → IsAnswer a → HasShape defs m y (at vars [] a) → IsResultOf a (scalar_in (out-Value y))
  result_fits vars y a IsAnswer.unit h =
      let s = shape_as defs vars m y (at vars [] t.Unit) t.Unit Ty-F.Unit (ap erased (at_unit vars []) ∙ erased_unit) t.outs-Unit h in
      subst (IsResultOf t.Unit) (sym (unit_none (out-Value y) s)) tt
  result_fits vars y a IsAnswer.bool h =
      let s = shape_as defs vars m y (at vars [] t.Bool) t.Bool Ty-F.Bool (closed_bool defs vars) t.outs-Bool h in
      each_number t.Bool (scalar_in (out-Value y)) (λ n e. subst (λ o. IsNumberOf o n) (sym t.outs-Bool) (bool_small (out-Value y) s n e))
  result_fits vars y a (IsAnswer.int i) h =
      let s = shape_as defs vars m y (at vars [] (t.Int i)) (int_ty i) (Ty-F.Int (public i)) (closed_int defs vars i) (t.outs-Int (public i)) h in
      each_number (t.Int i) (scalar_in (out-Value y)) (λ n e. subst (λ o. IsNumberOf o n) (sym (t.outs-Int i)) (int_small (public i) (out-Value y) s n e))

-- ---- what an argument leaves in memory

module _ (x : List ℕ) (p : Passed) (k : Passing) where
  bool_keeps : (c : Bool) (o : Ty-F Ty) → passing x (arg.Bool c) o ≡ Some k → p.memory ≡ (pass p k).memory
  bool_keeps c Ty-F.Bool e = ap (λ z. (pass p z).memory) (same_some (Plain (x, v.Bool c)) k e)
  bool_keeps c _ e = absurd (no_some k e)

  num_keeps : (w : Width) (n : ℕ) (o : Ty-F Ty) → passing x (arg.Num w n) o ≡ Some k → p.memory ≡ (pass p k).memory
  num_keeps w n (Ty-F.Int i) e = go (same_width w i.width) e
    where
      go : (b : Bool) → (if b then Some (Plain (x, v.Num w n)) else None) ≡ Some k → p.memory ≡ (pass p k).memory
      go true h = ap (λ z. (pass p z).memory) (same_some (Plain (x, v.Num w n)) k h)
      go false h = absurd (no_some k h)
  num_keeps w n _ e = absurd (no_some k e)

-- a buffer is an argument for a buffer of numbers of its width
record Given (x : List ℕ) (w : Width) (nums : List ℕ) (k : Passing) : Type 0 where
  elem : IntTy
  width : w ≡ elem.width
  is : buffer x elem nums ≡ k

module _ (x : List ℕ) (w : Width) (nums : List ℕ) (k : Passing) where
  as_given : (i : IntTy) (b : Bool) → same_width w i.width ≡ b → (if b then Some (buffer x i nums) else None) ≡ Some k → Given x w nums k
  as_given i true s h = record { elem = i; width = width_is w i.width s; is = same_some (buffer x i nums) k h }
  as_given i false s h = absurd (no_some k h)

  in_buffer : (o : Ty-F Ty) → buffer_for x w nums o ≡ Some k → Given x w nums k
  in_buffer (Ty-F.Int i) e = as_given i (same_width w i.width) refl e
  in_buffer _ e = absurd (no_some k e)

  given : (o : Ty-F Ty) → passing x (arg.Buf w nums) o ≡ Some k → Given x w nums k
  given (Ty-F.Buf b) e = in_buffer (out-Ty b) e
  given _ e = absurd (no_some k e)

-- ---- final contents

-- how many arguments are buffers
abbrev pub buffers_in : List Arg → ℕ
buffers_in [] = 0
buffers_in (arg.Buf w nums ∷ args) = suc (buffers_in args)
buffers_in (arg.Bool b ∷ args) = buffers_in args
buffers_in (arg.Num w n ∷ args) = buffers_in args

take_none : {A : Type 0} (xs : List A) → take 0 xs ≡ []
take_none [] = refl
take_none (x ∷ xs) = refl

-- what follows a front of this length has the element there
record Follows (front rest : List Block) (b : Block) : Type 0 where
  more : List Block
  is : rest ≡ b ∷ more

follows : (front rest : List Block) (b : Block) → slice_get (front ++ rest) (length front) ≡ Some b → Follows front rest b
follows [] [] b e = absurd (no_some b e)
follows [] (c ∷ rest) b e = record { more = rest; is = ap (λ z. z ∷ rest) (same_some c b e) }
follows (c ∷ front) rest b e = let k = follows front rest b e in record { more = k.more; is = k.is }

longer : (m : List Block) (b : Block) → length (m ++ b ∷ []) ≡ length m + 1
longer [] b = refl
longer (c ∷ m) b = let h = longer m b in omega (arith, h)

-- the block of an argument, as a run begins
abbrev passed_block : IntTy → List ℕ → Block
passed_block i nums = record { elem = t.Int i; len = length nums; live = true; items = map (λ n. v.Num i.width n) nums }

module _ (defs : List Def) where
  -- the numbers of elements that have an integer type
  number_small : (i : IntTy) (o : Value-F Value) → ShapeIn defs [] o (Ty-F.Int i) → unwrap_or (scalar_in o) 0 < 2 ^ bits i.width
  number_small i (Value-F.Num w n) h = subst (λ z. n < 2 ^ bits z) (sym h.0) h.1
  number_small i (Value-F.Bool b) h = absurd h
  number_small i Value-F.Unit h = absurd h
  number_small i (Value-F.Struct names xs) h = absurd h
  number_small i (Value-F.Con k xs) h = absurd h
  number_small i (Value-F.Buf n off len) h = absurd h

  items_small : (i : IntTy) (a : Ty) → a ≡ int_ty i → (items : List Value) → AllByRecursion (λ x. HasShape defs [] x a) items
      → AllByRecursion (λ n. n < 2 ^ bits i.width) (map (λ n. unwrap_or n 0) (map (λ x. scalar_in (out-Value x)) items))
  items_small i a e [] h = tt
  items_small i a e (x ∷ items) h =
      (number_small (public i) (out-Value x) (shape_as defs [] [] x a (int_ty i) (Ty-F.Int (public i)) e (t.outs-Int (public i)) h.0), items_small i a e items h.1)

  -- a block of numbers that can be used
  block_fits : (i : IntTy) (nums : List ℕ) (b : Block) → erased b.elem ≡ int_ty i → length b.items ≡ length nums → BlockTyped defs b → IsBufferOf i.width nums (contents seen b)
  block_fits i nums b elem full h = record {
    long = map_length (λ n. unwrap_or n 0) (seen.numbers b) ∙ map_length (λ (x : Value). scalar_in (out-Value x)) b.items ∙ full;
    small = items_small i (erased b.elem) elem b.items h.items;
  }

  module _ (vars : List (List ℕ)) (now : List Block) (typed : MemoryTyped defs now) where
    pub record Left (args : List Arg) (rest : List Block) (p q : Passed) : Type 0 where
      pub buffers : AreBuffersOf args (map (contents seen) (take (buffers_in args) rest))
      pub count : length q.memory ≡ length p.memory + buffers_in args

    -- the block of an argument, which is still of its numbers
    pub record BlockLeft (w : Width) (nums : List ℕ) (p : Passed) : Type 0 where
      pub block : Block
      pub there : slice_get now (length p.memory) ≡ Some block
      pub numbers : IsBufferOf w nums (contents seen block)

    block_left : (x : List ℕ) (w : Width) (nums : List ℕ) (p : Passed) (k : Passing) (g : Given x w nums k) → Extends (pass p k).memory now → BlockLeft w nums p
    block_left x w nums p k g ext =
        let n : ℕ = length p.memory in
        let i : IntTy = g.elem in
        let first : Block = passed_block i nums in
        let late : List Block = p.memory ++ first ∷ [] in
        let z : n + 0 ≡ n = omega arith in
        let there : slice_get late n ≡ Some first = ap (slice_get late) (sym z) ∙ get_right p.memory (first ∷ []) 0 in
        let usable : Usable late n (int_ty i) (length nums) =
        record { is_open = record { block = first; there = there; elem = erased_int i; size = refl; live = refl }; full = map_length (λ k. v.Num i.width k) nums } in
        let u : Usable now n (int_ty i) (length nums) = ext.usable n (int_ty i) (length nums) (subst (λ (y : Passing). Usable (pass p y).memory n (int_ty i) (length nums)) g.is usable) in
        let o = u.is_open in
        let block : IsBufferOf i.width nums (contents seen o.block) = block_fits i nums o.block o.elem u.full (each_get (BlockTyped defs) now n o.block typed o.there) in
        record { block = o.block; there = o.there; numbers = subst (λ y. IsBufferOf y nums (contents seen o.block)) (sym g.width) block }

    left : (params : List Field) (args : List Arg) (p : Passed) (ks : List Passing) → list_all fits args ≡ true → MemoryTyped defs p.memory → passings params args ≡ Some ks
        → Extends (pass_all p ks).memory now → (front rest : List Block) → front ++ rest ≡ now → length front ≡ length p.memory → Left args rest p (pass_all p ks)
    left [] [] p ks fit hm e ext front rest w l =
        let count : length p.memory ≡ length p.memory + 0 = omega arith in
        subst (λ z. Left [] rest p (pass_all p z)) (same_some [] ks e)
        (record { buffers = subst (λ (z : List Block). AreBuffersOf [] (map (contents seen) z)) (sym (take_none rest)) tt; count = count })
    left [] (a ∷ args) p ks fit hm e ext front rest w l = absurd (no_some ks e)
    left (f ∷ params) [] p ks fit hm e ext front rest w l = absurd (no_some ks e)
    left (f ∷ params) (arg.Bool c ∷ args) p ks fit hm e ext front rest w l =
        let k = one_more (passing f.name (arg.Bool c) (out-Ty f.ty)) (passings params args) ks e in
        let first = one_passed defs vars f.name p k.first hm (arg.Bool c) refl f.ty k.one in
        let same : p.memory ≡ (pass p k.first).memory = bool_keeps f.name p k.first c (out-Ty f.ty) k.one in
        let ih = left params args (pass p k.first) k.rest fit first.memory k.more (subst (λ z. Extends (pass_all p z).memory now) (sym k.all) ext) front rest w (l ∙ ap length same) in
        subst (λ z. Left (arg.Bool c ∷ args) rest p (pass_all p z)) k.all
        (record { buffers = ih.buffers; count = ih.count ∙ ap (λ (z : List Block). length z + buffers_in args) (sym same) })
    left (f ∷ params) (arg.Num u n ∷ args) p ks fit hm e ext front rest w l =
        let fit2 = and_parts (fits (arg.Num u n)) (list_all fits args) fit in
        let k = one_more (passing f.name (arg.Num u n) (out-Ty f.ty)) (passings params args) ks e in
        let first = one_passed defs vars f.name p k.first hm (arg.Num u n) fit2.0 f.ty k.one in
        let same : p.memory ≡ (pass p k.first).memory = num_keeps f.name p k.first u n (out-Ty f.ty) k.one in
        let ih = left params args (pass p k.first) k.rest fit2.1 first.memory k.more (subst (λ z. Extends (pass_all p z).memory now) (sym k.all) ext) front rest w (l ∙ ap length same) in
        subst (λ z. Left (arg.Num u n ∷ args) rest p (pass_all p z)) k.all
        (record { buffers = ih.buffers; count = ih.count ∙ ap (λ (z : List Block). length z + buffers_in args) (sym same) })
    left (f ∷ params) (arg.Buf u nums ∷ args) p ks fit hm e ext front rest w l =
        let fit2 = and_parts (fits (arg.Buf u nums)) (list_all fits args) fit in
        let k = one_more (passing f.name (arg.Buf u nums) (out-Ty f.ty)) (passings params args) ks e in
        let first = one_passed defs vars f.name p k.first hm (arg.Buf u nums) fit2.0 f.ty k.one in
        let g = given f.name u nums k.first (out-Ty f.ty) k.one in
        let all = all_passed defs vars params args (pass p k.first) k.rest fit2.1 first.memory k.more in
        let ext' : Extends (pass_all p (k.first ∷ k.rest)).memory now = subst (λ z. Extends (pass_all p z).memory now) (sym k.all) ext in
        let late : Extends (pass p k.first).memory now = extends_then (pass p k.first).memory (pass_all p (k.first ∷ k.rest)).memory now all.extends ext' in
        let stays = block_left f.name u nums p k.first g late in
        let b : Block = stays.block in
        let place : slice_get (front ++ rest) (length front) ≡ Some b = ap (λ z. slice_get z (length front)) w ∙ ap (slice_get now) l ∙ stays.there in
        let h = follows front rest b place in
        let grown : length (pass p k.first).memory ≡ length p.memory + 1 = ap (λ (z : Passing). length (pass p z).memory) (sym g.is) ∙ longer p.memory (passed_block g.elem nums) in
        let w' : (front ++ b ∷ []) ++ h.more ≡ now = append_assoc front (b ∷ []) h.more ∙ ap (λ z. front ++ z) (sym h.is) ∙ w in
        let l' : length (front ++ b ∷ []) ≡ length (pass p k.first).memory = longer front b ∙ ap (λ z. z + 1) l ∙ sym grown in
        let ih = left params args (pass p k.first) k.rest fit2.1 first.memory k.more ext' (front ++ b ∷ []) h.more w' l' in
        let buffers : AreBuffersOf (arg.Buf u nums ∷ args) (map (contents seen) (take (suc (buffers_in args)) (b ∷ h.more))) = (stays.numbers, ih.buffers) in
        let count = ih.count in
        subst (λ z. Left (arg.Buf u nums ∷ args) rest p (pass_all p z)) k.all (record {
          buffers = subst (λ (z : List Block). AreBuffersOf (arg.Buf u nums ∷ args) (map (contents seen) (take (suc (buffers_in args)) z))) (sym h.is) buffers;
          count = omega (arith, count, grown);
        })

-- ---- runs

leaves : (defs : List Def) (vars : List (List ℕ)) (a : Ty) (params : List Field) (args : List Arg) (ks : List Passing) (r : SourceRan Value) → IsAnswer a → list_all fits args ≡ true
    → passings params args ≡ Some ks → After (Fine defs (host.passed ks).memory (at vars [] a)) r → LeavesNumbers a args (outcome_of (done seen (length (host.passed ks).memory)) r)
leaves defs vars a params args ks (Goes y s) ans fit e h =
    let k = left defs vars s.memory h.memory params args host.nothing ks fit tt e h.extends [] s.memory refl refl in
    let few : buffers_in args ≡ length (host.passed ks).memory = let c = k.count in omega (arith, c) in
    (result_fits defs s.memory vars y a ans h.shape, subst (λ n. AreBuffersOf args (map (contents seen) (take n s.memory))) few k.buffers)
leaves defs vars a params args ks (Ends Spent es) ans fit e h = tt
leaves defs vars a params args ks (Ends Deep es) ans fit e h = tt
leaves defs vars a params args ks (Ends (Stuck c) es) ans fit e h = tt
leaves defs vars a params args ks (Ends Undefined es) ans fit e h = tt
leaves defs vars a params args ks (Ends Trapped es) ans fit e h = tt

pub typed_end : TypedFilesEnd
typed_end file entry args bound typed can fit =
    let b = some_there (start file entry args.items) fit in
    let st = started file entry args.items b.0 b.1 in
    let k : EntryTyped file.defs entry = entry_there file.defs file.defs entry (each_def file.defs typed (EntryFits file.defs) (entry_fits file.defs)) st.named in
    let f = k.function in
    let r : SourceRan Value = run_from (called_by_host file) bound b.0 in
    let fine = subst (λ (q : Passed). After (Fine file.defs q.memory (at f.vars [] f.result)) r) (sym st.passed) (started_fine file typed can entry args bound b.0 st k) in
    let all = leaves file.defs f.vars f.result b.0.function.params args.items st.args r k.answer args.fit st.passing fine in
    record {
      function = f;
      is = k.is;
      leaves = subst (λ o. LeavesNumbers f.result args.items (run_started seen (called_by_host file) bound o).outcome) (sym b.1)
          (subst (λ (q : Passed). LeavesNumbers f.result args.items (outcome_of (done seen (length q.memory)) r)) st.passed all);
    }

pub checked_end : CheckedFilesEnd
checked_end file entry args bound c fit = typed_end file entry args bound c.typed (checked_can_run file c) fit
