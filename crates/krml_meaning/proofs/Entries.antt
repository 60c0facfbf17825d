-- Runs of a well typed file's entries.
use Rattle.std.proofs.Common.{◌≡◌, ℕ, ◌+◌, ◌<◌, ◌^◌, Bool, true, false, if◌then◌else◌, List, [], ◌∷◌, ◌++◌, map, length, slice_get, Option, Some, None, option_map, option_and_then, IsSome, ◌↔◌, refl, sym, ap, ◌∙◌, subst, arith}
use Rattle.std.specs.List.{AllByRecursion, list_all}
use Rattle.std.specs.Str.{bytes_eq}
use Rattle.std.proofs.lemmas.Bool.{ltb-true, and_parts}
use Rattle.std.proofs.lemmas.Slice.Eq.{bytes_eq-Decides}
use Rattle.krml_trace.specs.declared.width.Width.{Width}
use Rattle.krml_trace.specs.declared.width.Width.TheVariants.{W8, W32, W64}
use Rattle.krml_trace.specs.declared.argument.Arg.{Arg}
use Rattle.krml_trace.specs.declared.argument.Arg.TheVariants as arg
use Rattle.krml_trace.specs.declared.arguments.Arguments.{Arguments}
use Rattle.krml_trace.specs.declared.bound.Bound.{Bound}
use Rattle.krml_trace.specs.declared.why.Why.TheVariants.{Spent, Deep, Stuck, Undefined, Trapped}
use Rattle.krml_trace.specs.Argument.{fits, fits_width}
use Rattle.krml_trace.specs.Width.{bits, same_width}
use Rattle.krml_trace.specs.Run.{Goes, Ends, outcome_of}
use Rattle.krml_trace.specs.Host as host
use Rattle.krml_trace.specs.Host.{Plain, pass, pass_all, begin, done, run_from, run_started}
use Rattle.krml_syntax.specs.declared.tree.IntTy.{IntTy}
use Rattle.krml_syntax.specs.declared.tree.Ty.{Ty, out-Ty}
use Rattle.krml_syntax.specs.declared.tree.Ty.TheVariants as t
use Rattle.krml_syntax.specs.declared.tree.Ty.TheOpen.{Ty-F}
use Rattle.krml_syntax.specs.declared.tree.Field.{Field}
use Rattle.krml_syntax.specs.declared.tree.Def.{Def}
use Rattle.krml_syntax.specs.declared.tree.Def.TheVariants as d
use Rattle.krml_syntax.specs.declared.tree.SourceFile.{SourceFile}
use Rattle.krml_ast.specs.Names.{Signature, fun_named}
use Rattle.krml_syntax.specs.Types.{public, erased, int_ty, type_at, is_unit_in}
use Rattle.krml_ast.specs.IsType.{IsValue, AreArguments}
use Rattle.krml_ast.specs.Typing.{at, fields_at}
use Rattle.krml_ast.specs.FileTypes.{EachRole}
use Rattle.krml_ast.specs.WellTyped.{IsAnswer, WellTyped, AreWellTyped}
use Rattle.krml_meaning.specs.declared.value.Value.{Value, out-Value}
use Rattle.krml_meaning.specs.declared.value.Value.TheOpen.{Value-F}
use Rattle.krml_meaning.specs.declared.value.Value.TheVariants as v
use Rattle.krml_meaning.specs.State.{Block, SourceState, SourceRan}
use Rattle.krml_meaning.specs.Meaning.{Function, Passing, Passed, Start, buffer, buffer_for, passing, passings, params_over, start_of, start, has_entry, function_named, called_by_host, scalar_in, seen, enter, eval, env_of, ArgumentsFit}
use Rattle.krml_meaning.specs.Shape.{number_ty, HasShape, AllHaveShape, BlockTyped, MemoryTyped, Extends}
use Rattle.krml_trace.specs.After.{After}
use Rattle.krml_meaning.specs.Sound.{Fine, CanRun, EndsWith, RunsWell, TypedFilesRun}
use Rattle.krml_trace.proofs.Blocks.{get_right}
use Rattle.krml_meaning.proofs.Lists.{same_some, no_some, same_answer, each_append, map_length}
use Rattle.krml_syntax.proofs.Types.{at_bool, at_unit, at_int, at_buf, erased_bool, erased_unit, erased_int, erased_buf}
use Rattle.krml_meaning.proofs.Flat.{by_form, none_int}
use Rattle.krml_meaning.proofs.Memory.{push_extends}
use Rattle.krml_meaning.proofs.Shapes.{extends_same, extends_then, ShapeIn, shape_in, shape_on}
use Rattle.krml_meaning.proofs.Scopes.{Instance}
use Rattle.krml_meaning.proofs.Files.{facts, each_def}
use Rattle.krml_meaning.proofs.Levels.{entered, body_sound, enter_sound}
use Rattle.krml_meaning.proofs.Bodies.{bodies_run}

pub width_is : (w u : Width) → same_width w u ≡ true → w ≡ u
width_is W8 W8 e = refl
width_is W32 W32 e = refl
width_is W64 W64 e = refl
width_is W8 W32 e = absurd (cc)
width_is W8 W64 e = absurd (cc)
width_is W32 W8 e = absurd (cc)
width_is W32 W64 e = absurd (cc)
width_is W64 W8 e = absurd (cc)
width_is W64 W32 e = absurd (cc)

-- where there is a first argument and there are more
pub record OneMore {K : Type 0} (o : Option K) (os : Option (List K)) (ks : List K) : Type 0 where
  pub first : K
  pub rest : List K
  pub one : o ≡ Some first
  pub more : os ≡ Some rest
  pub all : first ∷ rest ≡ ks

pub one_more : {K : Type 0} (o : Option K) (os : Option (List K)) (ks : List K) → option_and_then (λ k. option_map (λ rest. k ∷ rest) os) o ≡ Some ks → OneMore o os ks
one_more (Some k) (Some rest) ks e = record { first = k; rest = rest; one = refl; more = refl; all = same_some (k ∷ rest) ks e }
one_more (Some k) None ks e = absurd (no_some ks e)
one_more None os ks e = absurd (no_some ks e)

module _ (defs : List Def) (vars : List (List ℕ)) where
  -- ---- an argument for a parameter of a type

  -- where an argument, as it is passed, leads from what came before
  pub record PassedOne (x : List ℕ) (a : Ty) (p q : Passed) : Type 0 where
    pub value : Value
    pub given : q.given ≡ (x, value) ∷ p.given
    pub shape : HasShape defs q.memory value (at vars [] a)
    pub extends : Extends p.memory q.memory
    pub memory : MemoryTyped defs q.memory

  pub closed_bool : at vars [] t.Bool ≡ t.Bool
  closed_bool = ap erased (at_bool vars []) ∙ erased_bool

  pub closed_int : (i : IntTy) → at vars [] (t.Int i) ≡ int_ty i
  closed_int i = ap erased (at_int vars [] i) ∙ erased_int i

  closed_buf : (i : IntTy) → at vars [] (t.Buf (t.Int i)) ≡ t.Buf (int_ty i)
  closed_buf i = ap erased (at_buf vars [] (t.Int i)) ∙ erased_buf (type_at vars [] (t.Int i)) ∙ ap (λ z. t.Buf z) (closed_int i)

  value_passed : (x : List ℕ) (a : Ty) (y : Value) (p : Passed) (k : Passing) → MemoryTyped defs p.memory → ((m : List Block) → HasShape defs m y (at vars [] a)) → Some (Plain (x, y)) ≡ Some k
      → PassedOne x a p (pass p k)
  value_passed x a y p k hm h e = subst (λ z. PassedOne x a p (pass p z)) (same_some (Plain (x, y)) k e)
      (record { value = y; given = refl; shape = h p.memory; extends = extends_same p.memory; memory = hm })

  items_typed : (i : IntTy) (nums : List ℕ) → list_all (fits_width i.width) nums ≡ true → AllByRecursion (λ x. HasShape defs [] x (erased (t.Int i))) (map (λ n. v.Num i.width n) nums)
  items_typed i [] h = tt
  items_typed i (n ∷ nums) h =
      let both = and_parts (fits_width i.width n) (list_all (fits_width i.width) nums) h in
      (subst (HasShape defs [] (v.Num i.width n)) (sym (erased_int i)) (HasShape.num (ltb-true n (2 ^ bits i.width) both.0)), items_typed i nums both.1)

  arg_block : IntTy → List ℕ → Block
  arg_block i nums = record { elem = t.Int i; len = length nums; live = true; items = map (λ n. v.Num i.width n) nums }

  buffer_passed : (x : List ℕ) (i : IntTy) (nums : List ℕ) (p : Passed) → MemoryTyped defs p.memory → list_all (fits_width i.width) nums ≡ true
      → PassedOne x (t.Buf (t.Int i)) p (pass p (buffer x i nums))
  unfolding arg_block
  buffer_passed x i nums p hm fit =
      let b = arg_block i nums in
      let n = length p.memory in
      let late : List Block = p.memory ++ b ∷ [] in
      let z : n + 0 ≡ n = omega arith in
      let there : slice_get late n ≡ Some b = ap (slice_get late) (sym z) ∙ get_right p.memory (b ∷ []) 0 in
      let full : length b.items ≡ length nums = map_length (λ k. v.Num i.width k) nums in
      record {
        value = v.Buf n 0 (length nums);
        given = refl;
        shape = subst (HasShape defs late (v.Buf n 0 (length nums))) (sym (closed_buf i))
            (HasShape.buf (record { is_open = record { block = b; there = there; elem = erased_int i; size = refl; live = refl }; full = full }) (omega arith));
        extends = push_extends p.memory (b ∷ []);
        memory = each_append (BlockTyped defs) p.memory (b ∷ []) hm
            (record { flat = record { value = rw (t.outs-Int i) refl; flat = none_int defs i }; few = omega (arith, full); items = items_typed i nums fit }, tt);
      }

  num_passed : (x : List ℕ) (w : Width) (n : ℕ) (i : IntTy) (p : Passed) (k : Passing) → MemoryTyped defs p.memory → n < 2 ^ bits w → (b : Bool) → same_width w i.width ≡ b
      → (if b then Some (Plain (x, v.Num w n)) else None) ≡ Some k → PassedOne x (t.Int i) p (pass p k)
  num_passed x w n i p k hm lt true s e =
      value_passed x (t.Int i) (v.Num w n) p k hm
      (λ m. subst (HasShape defs m (v.Num w n)) (ap number_ty (width_is w i.width s) ∙ sym (closed_int i)) (HasShape.num lt)) e
  num_passed x w n i p k hm lt false s e = absurd (no_some k e)

  nums_passed : (x : List ℕ) (w : Width) (nums : List ℕ) (i : IntTy) (p : Passed) (k : Passing) → MemoryTyped defs p.memory → list_all (fits_width w) nums ≡ true → (b : Bool)
      → same_width w i.width ≡ b → (if b then Some (buffer x i nums) else None) ≡ Some k → PassedOne x (t.Buf (t.Int i)) p (pass p k)
  nums_passed x w nums i p k hm fit true s e =
      subst (λ z. PassedOne x (t.Buf (t.Int i)) p (pass p z)) (same_some (buffer x i nums) k e)
      (buffer_passed x i nums p hm (subst (λ z. list_all (fits_width z) nums ≡ true) (width_is w i.width s) fit))
  nums_passed x w nums i p k hm fit false s e = absurd (no_some k e)

  module _ (x : List ℕ) (p : Passed) (k : Passing) (hm : MemoryTyped defs p.memory) where
    to_bool : (a : Arg) → passing x a Ty-F.Bool ≡ Some k → PassedOne x t.Bool p (pass p k)
    to_bool (arg.Bool b) e = value_passed x t.Bool (v.Bool b) p k hm (λ m. subst (HasShape defs m (v.Bool b)) (sym closed_bool) HasShape.bool) e
    to_bool (arg.Num w n) e = absurd (no_some k e)
    to_bool (arg.Buf w nums) e = absurd (no_some k e)

    to_int : (i : IntTy) (a : Arg) → fits a ≡ true → passing x a (Ty-F.Int i) ≡ Some k → PassedOne x (t.Int i) p (pass p k)
    to_int i (arg.Num w n) fit e = num_passed x w n i p k hm (ltb-true n (2 ^ bits w) fit) (same_width w i.width) refl e
    to_int i (arg.Bool b) fit e = absurd (no_some k e)
    to_int i (arg.Buf w nums) fit e = absurd (no_some k e)

    nums_to : (w : Width) (nums : List ℕ) → list_all (fits_width w) nums ≡ true → (b : Ty) → buffer_for x w nums (out-Ty b) ≡ Some k → PassedOne x (t.Buf b) p (pass p k)
    nums_to w nums fit = by_form (λ b. buffer_for x w nums (out-Ty b) ≡ Some k → PassedOne x (t.Buf b) p (pass p k))
        (λ e. absurd (no_some k (sym (ap (λ o. buffer_for x w nums o) t.outs-Bool) ∙ e)))
        (λ e. absurd (no_some k (sym (ap (λ o. buffer_for x w nums o) t.outs-Unit) ∙ e)))
        (λ i e. nums_passed x w nums i p k hm fit (same_width w i.width) refl (sym (ap (λ o. buffer_for x w nums o) (t.outs-Int i)) ∙ e))
        (λ a e. absurd (no_some k (sym (ap (λ o. buffer_for x w nums o) (t.outs-Buf a)) ∙ e)))
        (λ y e. absurd (no_some k (sym (ap (λ o. buffer_for x w nums o) (t.outs-Var y)) ∙ e)))
        (λ y args e. absurd (no_some k (sym (ap (λ o. buffer_for x w nums o) (t.outs-Named y args)) ∙ e)))

    to_buf : (b : Ty) (a : Arg) → fits a ≡ true → passing x a (Ty-F.Buf b) ≡ Some k → PassedOne x (t.Buf b) p (pass p k)
    to_buf b (arg.Buf w nums) fit e = nums_to w nums fit b e
    to_buf b (arg.Bool c) fit e = absurd (no_some k e)
    to_buf b (arg.Num w n) fit e = absurd (no_some k e)

    to_none : (o : Ty-F Ty) (a : Arg) → ((b : Bool) → passing x (arg.Bool b) o ≡ None) → ((w : Width) (n : ℕ) → passing x (arg.Num w n) o ≡ None)
        → ((w : Width) (nums : List ℕ) → passing x (arg.Buf w nums) o ≡ None) → passing x a o ≡ Some k → ⊥
    to_none o (arg.Bool b) f g h e = no_some k (sym (f b) ∙ e)
    to_none o (arg.Num w n) f g h e = no_some k (sym (g w n) ∙ e)
    to_none o (arg.Buf w nums) f g h e = no_some k (sym (h w nums) ∙ e)

    pub one_passed : (a : Arg) → fits a ≡ true → (b : Ty) → passing x a (out-Ty b) ≡ Some k → PassedOne x b p (pass p k)
    one_passed a fit = by_form (λ b. passing x a (out-Ty b) ≡ Some k → PassedOne x b p (pass p k))
        (λ e. to_bool a (sym (ap (λ o. passing x a o) t.outs-Bool) ∙ e))
        (λ e. absurd (to_none Ty-F.Unit a (λ c. refl) (λ w n. refl) (λ w nums. refl) (sym (ap (λ o. passing x a o) t.outs-Unit) ∙ e)))
        (λ i e. to_int i a fit (sym (ap (λ o. passing x a o) (t.outs-Int i)) ∙ e))
        (λ b e. to_buf b a fit (sym (ap (λ o. passing x a o) (t.outs-Buf b)) ∙ e))
        (λ y e. absurd (to_none (Ty-F.Var y) a (λ c. refl) (λ w n. refl) (λ w nums. refl) (sym (ap (λ o. passing x a o) (t.outs-Var y)) ∙ e)))
        (λ y args e. absurd (to_none (Ty-F.Named y args) a (λ c. refl) (λ w n. refl) (λ w nums. refl) (sym (ap (λ o. passing x a o) (t.outs-Named y args)) ∙ e)))

  -- ---- all of them

  pub record PassedAll (params : List Field) (p q : Passed) : Type 0 where
    pub values : List Value
    pub given : params_over params values p.given ≡ Some q.given
    pub shapes : AllHaveShape defs q.memory values (fields_at vars [] params)
    pub extends : Extends p.memory q.memory
    pub memory : MemoryTyped defs q.memory

  pub all_passed : (params : List Field) (args : List Arg) (p : Passed) (ks : List Passing) → list_all fits args ≡ true → MemoryTyped defs p.memory → passings params args ≡ Some ks
      → PassedAll params p (pass_all p ks)
  all_passed [] [] p ks fit hm e = subst (λ z. PassedAll [] p (pass_all p z)) (same_some [] ks e)
      (record { values = []; given = refl; shapes = AllHaveShape.none; extends = extends_same p.memory; memory = hm })
  all_passed [] (a ∷ args) p ks fit hm e = absurd (no_some ks e)
  all_passed (f ∷ params) [] p ks fit hm e = absurd (no_some ks e)
  all_passed (f ∷ params) (a ∷ args) p ks fit hm e =
      let both = and_parts (fits a) (list_all fits args) fit in
      let k = one_more (passing f.name a (out-Ty f.ty)) (passings params args) ks e in
      let first = one_passed f.name p k.first hm a both.0 f.ty k.one in
      let late : Passed = pass p k.first in
      let rest = all_passed params args late k.rest both.1 first.memory k.more in
      let q : Passed = pass_all late k.rest in
      subst (λ z. PassedAll (f ∷ params) p (pass_all p z)) k.all (record {
        values = first.value ∷ rest.values;
        given = ap (params_over params rest.values) (sym first.given) ∙ rest.given;
        shapes = AllHaveShape.one (shape_on defs late.memory q.memory first.value (at vars [] f.ty) rest.extends first.shape) rest.shapes;
        extends = extends_then p.memory late.memory q.memory first.extends rest.extends;
        memory = rest.memory;
      })

-- ---- entries

pub record EntryTyped (defs : List Def) (x : List ℕ) : Type 0 where
  pub function : Signature
  pub is : fun_named defs x ≡ Some function
  pub vars : function.vars ≡ []
  pub answer : IsAnswer function.result

abbrev pub EntryFits : List Def → Def → Type 0
EntryFits defs (d.Entry x) = EntryTyped defs x
EntryFits defs _ = Unit {0}

pub entry_fits : (defs before : List Def) (def : Def) → WellTyped defs before def → EntryFits defs def
entry_fits defs before def (WellTyped.entry {f = f} new is none outside answer) = record { function = f; is = is; vars = none; answer = answer }
entry_fits defs before def (WellTyped.struct new vs fs ok) = tt
entry_fits defs before def (WellTyped.sum new cs vs ok) = tt
entry_fits defs before def (WellTyped.table new ok) = tt
entry_fits defs before def (WellTyped.fun new vs ps ok r res b) = tt

pub entry_there : (defs ds : List Def) (x : List ℕ) → AllByRecursion (EntryFits defs) ds → has_entry ds x ≡ true → EntryTyped defs x
entry_there defs [] x h e = absurd (cc)
entry_there defs (d.Entry name ∷ ds) x h e = go (bytes_eq name x) refl e (entry_there defs ds x h.1)
  where
    go : (b : Bool) → bytes_eq name x ≡ b → (if b then true else has_entry ds x) ≡ true → (has_entry ds x ≡ true → EntryTyped defs x) → EntryTyped defs x
    go true q e' later = subst (EntryTyped defs) ((bytes_eq-Decides name x).0 q) h.0
    go false q e' later = later e'
entry_there defs (d.Struct name vars fields ∷ ds) x h e = entry_there defs ds x h.1 e
entry_there defs (d.Sum name vars cons ∷ ds) x h e = entry_there defs ds x h.1 e
entry_there defs (d.Table name ty nums ∷ ds) x h e = entry_there defs ds x h.1 e
entry_there defs (d.Fun name vars params result body ∷ ds) x h e = entry_there defs ds x h.1 e

-- ---- results

module _ (defs : List Def) (vars : List (List ℕ)) (m : List Block) where
  no_scalar : (o : Value-F Value) → ShapeIn defs m o Ty-F.Unit → IsSome (scalar_in o) → ⊥
  no_scalar Value-F.Unit h e = absurd (cc)
  no_scalar (Value-F.Bool b) h e = h
  no_scalar (Value-F.Num w n) h e = h
  no_scalar (Value-F.Struct names xs) h e = h
  no_scalar (Value-F.Con k xs) h e = h
  no_scalar (Value-F.Buf n off len) h e = h

  scalar_of_bool : (o : Value-F Value) → ShapeIn defs m o Ty-F.Bool → IsSome (scalar_in o)
  scalar_of_bool (Value-F.Bool true) h = refl
  scalar_of_bool (Value-F.Bool false) h = refl
  scalar_of_bool (Value-F.Num w n) h = absurd h
  scalar_of_bool Value-F.Unit h = absurd h
  scalar_of_bool (Value-F.Struct names xs) h = absurd h
  scalar_of_bool (Value-F.Con k xs) h = absurd h
  scalar_of_bool (Value-F.Buf n off len) h = absurd h

  scalar_of_int : (i : IntTy) (o : Value-F Value) → ShapeIn defs m o (Ty-F.Int i) → IsSome (scalar_in o)
  scalar_of_int i (Value-F.Num w n) h = refl
  scalar_of_int i (Value-F.Bool b) h = absurd h
  scalar_of_int i Value-F.Unit h = absurd h
  scalar_of_int i (Value-F.Struct names xs) h = absurd h
  scalar_of_int i (Value-F.Con k xs) h = absurd h
  scalar_of_int i (Value-F.Buf n off len) h = absurd h

  not_value : IsValue t.Unit → ⊥
  not_value h = let e = sym (ap is_unit_in t.outs-Unit) ∙ h in absurd (cc)

  pub shape_as : (y : Value) (a b : Ty) (o : Ty-F Ty) → a ≡ b → out-Ty b ≡ o → HasShape defs m y a → ShapeIn defs m (out-Value y) o
  shape_as y a b o e q h = subst (ShapeIn defs m (out-Value y)) q (shape_in defs m y b (subst (HasShape defs m y) e h))

  result_is : (y : Value) (a : Ty) → IsAnswer a → HasShape defs m y (at vars [] a) → IsSome (scalar_in (out-Value y)) ↔ IsValue a
  result_is y a IsAnswer.unit h =
      let s = shape_as y (at vars [] t.Unit) t.Unit Ty-F.Unit (ap erased (at_unit vars []) ∙ erased_unit) t.outs-Unit h in
      ((λ e. absurd (no_scalar (out-Value y) s e)), (λ k. absurd (not_value k)))
  result_is y a IsAnswer.bool h =
      let s = shape_as y (at vars [] t.Bool) t.Bool Ty-F.Bool (closed_bool defs vars) t.outs-Bool h in
      ((λ e. rw t.outs-Bool refl), (λ k. scalar_of_bool (out-Value y) s))
  result_is y a (IsAnswer.int i) h =
      let s = shape_as y (at vars [] (t.Int i)) (int_ty i) (Ty-F.Int (public i)) (closed_int defs vars i) (t.outs-Int (public i)) h in
      ((λ e. rw (t.outs-Int i) refl), (λ k. scalar_of_int (public i) (out-Value y) s))

ends_with : (defs : List Def) (vars : List (List ℕ)) (m : List Block) (a : Ty) (buffers : ℕ) (r : SourceRan Value) → IsAnswer a → After (Fine defs m (at vars [] a)) r
    → EndsWith a (outcome_of (done seen buffers) r)
ends_with defs vars m a buffers (Goes y s) ans h = result_is defs vars s.memory y a ans h.shape
ends_with defs vars m a buffers (Ends Spent es) ans h = tt
ends_with defs vars m a buffers (Ends Deep es) ans h = tt
ends_with defs vars m a buffers (Ends (Stuck c) es) ans h = tt
ends_with defs vars m a buffers (Ends Undefined es) ans h = h
ends_with defs vars m a buffers (Ends Trapped es) ans h = h

-- ---- starts

-- what a start is made of
pub record Started (defs : List Def) (entry : List ℕ) (items : List Arg) (b : Start) : Type 0 where
  pub named : has_entry defs entry ≡ true
  pub function : function_named defs entry ≡ Some b.function
  pub args : List Passing
  pub passing : passings b.function.params items ≡ Some args
  pub passed : host.passed args ≡ b.passed

-- what the arguments of a function's start are
record Passes (items : List Arg) (f : Function) (b : Start) : Type 0 where
  same : f ≡ b.function
  args : List Passing
  passing : passings f.params items ≡ Some args
  passed : host.passed args ≡ b.passed

of_function : (items : List Arg) (f : Function) (b : Start) → start_of items f ≡ Some b → Passes items f b
of_function items f b e = go (passings f.params items) refl e
  where
    go : (o : Option (List Passing)) → passings f.params items ≡ o → option_map (λ (ks : List Passing). record { function = f; passed = host.passed ks }) o ≡ Some b → Passes items f b
    go None q e' = absurd (no_some b e')
    go (Some ks) q e' =
        let same : record { function = f; passed = host.passed ks } ≡ b = same_some (record { function = f; passed = host.passed ks }) b e' in
        record { same = ap (λ (z : Start). z.function) same; args = ks; passing = q; passed = ap (λ (z : Start). z.passed) same }

pub started : (file : SourceFile) (entry : List ℕ) (items : List Arg) (b : Start) → start file entry items ≡ Some b → Started file.defs entry items b
started file entry items b e = go (has_entry file.defs entry) refl (function_named file.defs entry) refl e
  where
    go : (h : Bool) → has_entry file.defs entry ≡ h → (o : Option Function) → function_named file.defs entry ≡ o → (if h then option_and_then (start_of items) o else None) ≡ Some b
        → Started file.defs entry items b
    go true p (Some f) q e' =
        let k = of_function items f b e' in
        record {
          named = p;
          function = q ∙ ap Some k.same;
          args = k.args;
          passing = ap (λ (z : Function). passings z.params items) (sym k.same) ∙ k.passing;
          passed = k.passed;
        }
    go true p None q e' = absurd (no_some b e')
    go false p o q e' = absurd (no_some b e')

pub some_there : {A : Type 0} (o : Option A) → IsSome o → (a : A) × (o ≡ Some a)
some_there (Some a) h = (a, refl)
some_there None h = absurd (cc)

-- ---- runs

module _ (file : SourceFile) (typed : AreWellTyped file.defs) (can : EachRole (CanRun file.defs) file.defs) where
  -- the run from a start
  pub started_fine : (entry : List ℕ) (args : Arguments) (bound : Bound) (b : Start) → Started file.defs entry args.items b → (k : EntryTyped file.defs entry)
      → After (Fine file.defs b.passed.memory (at k.function.vars [] k.function.result)) (run_from (called_by_host file) bound b)
  started_fine entry args bound b st k =
      let f = k.function in
      let fs = facts file.defs typed in
      let fun = fs.function entry f k.is in
      let same : fun.body ≡ b.function = same_answer (function_named file.defs entry) fun.body b.function fun.is st.function in
      let params : b.function.params ≡ f.params = sym (ap (λ (z : Function). z.params) same) ∙ fun.params in
      let passing : passings f.params args.items ≡ Some st.args = ap (λ ps. passings ps args.items) (sym params) ∙ st.passing in
      let all = subst (PassedAll file.defs f.vars f.params host.nothing) st.passed (all_passed file.defs f.vars f.params args.items host.nothing st.args args.fit tt passing) in
      let m : List Block = b.passed.memory in
      let at_args : Instance file.defs = record { tvars = f.vars; targs = []; count = ap (λ z. length z) (sym k.vars); typed = AreArguments.none } in
      let into = entered file.defs at_args m f.params all.values [] fun.distinct all.shapes in
      let vars : into.vars ≡ b.passed.given = same_answer (params_over f.params all.values []) into.vars b.passed.given into.is all.given in
      let s : SourceState = begin bound b.passed in
      let runs = bodies_run file.defs typed can in
      let calls = enter file.defs bound.depth in
      let run = body_sound file.defs fs runs calls (enter_sound file.defs fs runs bound.depth) entry f k.is at_args refl into.vars s into.there all.memory in
      subst (λ (z : Function). After (Fine file.defs m (at f.vars [] f.result)) (eval file.defs calls z.body (env_of z [] b.passed.given) s)) same
      (subst (λ z. After (Fine file.defs m (at f.vars [] f.result)) (eval file.defs calls fun.body.body (env_of fun.body [] z) s)) vars run)

  started_run : (entry : List ℕ) (args : Arguments) (bound : Bound) (b : Start) → Started file.defs entry args.items b → (k : EntryTyped file.defs entry)
      → EndsWith k.function.result (outcome_of (done seen (length b.passed.memory)) (run_from (called_by_host file) bound b))
  started_run entry args bound b st k =
      let m : List Block = b.passed.memory in
      ends_with file.defs k.function.vars m k.function.result (length m) (run_from (called_by_host file) bound b) k.answer (started_fine entry args bound b st k)

  pub runs_well : (entry : List ℕ) (args : Arguments) (bound : Bound) → ArgumentsFit file entry args → RunsWell file entry args bound
  runs_well entry args bound fit =
      let b = some_there (start file entry args.items) fit in
      let st = started file entry args.items b.0 b.1 in
      let k = entry_there file.defs file.defs entry (each_def file.defs typed (EntryFits file.defs) (entry_fits file.defs)) st.named in
      record {
        function = k.function;
        is = k.is;
        ends = subst (λ o. EndsWith k.function.result (run_started seen (called_by_host file) bound o).outcome) (sym b.1) (started_run entry args bound b.0 st k);
      }

pub typed_runs : TypedFilesRun
typed_runs file entry args bound typed can fit = runs_well file typed can entry args bound fit
