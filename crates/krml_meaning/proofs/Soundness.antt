-- A run of a well typed expression is sound: by recursion on what says that it has its type.
use Rattle.std.proofs.Common.{◌≡◌, ℕ, false, List, [], ◌∷◌, map, length, slice_get, Some, refl, sym, ap, ◌∙◌, subst}
use Rattle.std.specs.List.{AllByRecursion}
use Rattle.krml_trace.specs.declared.width.Width.TheVariants.{W32}
use Rattle.krml_syntax.specs.declared.tree.IntTy.{IntTy}
use Rattle.krml_syntax.specs.declared.tree.Ty.{Ty}
use Rattle.krml_syntax.specs.declared.tree.Ty.TheVariants as t
use Rattle.krml_syntax.specs.declared.tree.Slot.{Slot}
use Rattle.krml_syntax.specs.declared.tree.Field.{Field}
use Rattle.krml_syntax.specs.declared.tree.Arm.{Arm}
use Rattle.krml_syntax.specs.declared.tree.Case.{Case}
use Rattle.krml_syntax.specs.declared.tree.Item.{Item}
use Rattle.krml_syntax.specs.declared.tree.Expr.{Expr}
use Rattle.krml_syntax.specs.declared.tree.Expr.TheVariants as e
use Rattle.krml_syntax.specs.declared.tree.Expr.TheOpen.{Expr-F}
use Rattle.krml_syntax.specs.declared.tree.Def.{Def}
use Rattle.krml_ast.specs.Names.{Constructor, field_here, field_named}
use Rattle.krml_ast.proofs.Named.{answer_of}
use Rattle.krml_trace.proofs.First.{answers}
use Rattle.krml_syntax.specs.Shape.{Part, Role, role}
use Rattle.krml_syntax.specs.Types.{erased, int_ty, u32, type_at}
use Rattle.krml_ast.specs.IsType.{IsFlat, IsType, AreArguments}
use Rattle.krml_ast.specs.Typing.{Scope, with_vars, in_loop, in_frame, fields_at, at, HasType, AllHaveType, ArmsHaveType, ItemsLead, CasesHaveType}
use Rattle.krml_ast.specs.Pieces.{pieces_of}
use Rattle.krml_ast.specs.FileTypes.{IsSlot, RoleIn}
use Rattle.krml_ast.proofs.Pieces.{last_holds}
use Rattle.krml_meaning.specs.Sound.{CanRun}
use Rattle.krml_meaning.specs.declared.value.Value.TheVariants as v
use Rattle.krml_meaning.specs.State.{Block, Env, Sem, closed}
use Rattle.krml_meaning.specs.Numbered.{Numbered}
use Rattle.krml_meaning.specs.Meaning as src
use Rattle.krml_meaning.specs.Shape.{HasShape}
use Rattle.krml_meaning.proofs.Lists.{map_length, each_so, each_get}
use Rattle.krml_meaning.proofs.Facts.{Facts, InSum}
use Rattle.krml_syntax.proofs.Types.{at_none}
use Rattle.krml_meaning.proofs.Closing.{close, close_written, close_bool, close_unit, close_int, close_buf, close_named, close_at, close_at_written, close_at_passed, all_are, fields_are, arguments_passed, arguments_written, result_closed}
use Rattle.krml_meaning.proofs.Scopes.{Instance}
use Rattle.krml_meaning.proofs.Forms.{CallsSound, var_sound, just_sound, binary_sound, shift_sound, compare_sound, opposite_sound, cast_sound, hide_sound, make_sound, get_sound, tab_sound, choose_sound, call_sound, while_sound}
use Rattle.krml_meaning.proofs.Buffers.{read_sound, write_sound, slice_sound}
use Rattle.krml_meaning.proofs.Branches.{ZeroAt, AreBools, con_sound, tag_is_sound, part_sound}
use Rattle.krml_meaning.proofs.Zeros.{HasZero, PartZeros}
use Rattle.krml_meaning.proofs.Runnable.{AllRun, PartsRun, run_parts, let_run, run_run, arm_run, case_run}
use Rattle.krml_meaning.proofs.Numbered.{At, SoundOf, SoundAllOf, on_ready, none_of, one_of, two_of, three_of, no_values_of, more_values_of, many_of, loop_of, for_of, frame_of, alloc_of, fill_of, BranchesOf, no_branches_of, more_branches_of, match_of, StepsOf, no_steps_of, bound_of, ran_of, block_of, CasesOf, no_cases_of, more_cases_of, cases_of}
use Rattle.krml_meaning.proofs.Evals as evals

module _ (defs : List Def) (facts : Facts defs) (at_args : Instance defs) (zeros : PartZeros defs) (calls : src.Calls) (hk : CallsSound defs calls) where
  abbrev here : Ty → Ty
  here a = close defs at_args a

  -- what an expression of a type means is sound
  abbrev pub Good : Scope → Expr → Ty → Type 0
  Good g x r = SoundOf defs at_args g (here r) (evals.means defs calls x)

  -- ---- the type that a form asks for

  as_type : (g : Scope) (a b : Ty) (n : Numbered Sem) → a ≡ b → SoundOf defs at_args g a n → SoundOf defs at_args g b n
  as_type g a b n e h = subst (λ z. SoundOf defs at_args g z n) e h

  of_bool : (g : Scope) (n : Numbered Sem) → SoundOf defs at_args g (here t.Bool) n → SoundOf defs at_args g t.Bool n
  of_bool g n h = as_type g (here t.Bool) t.Bool n (close_bool defs at_args) h

  of_unit : (g : Scope) (n : Numbered Sem) → SoundOf defs at_args g (here t.Unit) n → SoundOf defs at_args g t.Unit n
  of_unit g n h = as_type g (here t.Unit) t.Unit n (close_unit defs at_args) h

  of_int : (g : Scope) (i : IntTy) (n : Numbered Sem) → SoundOf defs at_args g (here (int_ty i)) n → SoundOf defs at_args g (int_ty i) n
  of_int g i n h = as_type g (here (int_ty i)) (int_ty i) n (close_int defs at_args i) h

  u32_is : here u32 ≡ u32
  u32_is = close_int defs at_args (record { width = W32; secret = false })

  of_u32 : (g : Scope) (n : Numbered Sem) → SoundOf defs at_args g (here u32) n → SoundOf defs at_args g u32 n
  of_u32 g n h = as_type g (here u32) u32 n u32_is h

  of_buf : (g : Scope) (a : Ty) (n : Numbered Sem) → SoundOf defs at_args g (here (t.Buf a)) n → SoundOf defs at_args g (t.Buf (here a)) n
  of_buf g a n h = as_type g (here (t.Buf a)) (t.Buf (here a)) n (close_buf defs at_args a) h

  of_named : (g : Scope) (x : List ℕ) (args : List Ty) (n : Numbered Sem) → SoundOf defs at_args g (here (t.Named x args)) n → SoundOf defs at_args g (t.Named x (map here args)) n
  of_named g x args n h = as_type g (here (t.Named x args)) (t.Named x (map here args)) n (close_named defs at_args x args) h

  all_as : (g : Scope) (types other : List Ty) (ns : List (Numbered Sem)) → types ≡ other → SoundAllOf defs at_args g types ns → SoundAllOf defs at_args g other ns
  all_as g types other ns e h = subst (λ z. SoundAllOf defs at_args g z ns) e h

  -- ---- types of parts

  types_of : (vars : List (List ℕ)) (types : List Ty) → AllByRecursion (λ a. IsType defs vars a × IsFlat defs a) types → AllByRecursion (IsType defs vars) types
  types_of vars types h = each_so (λ a. IsType defs vars a × IsFlat defs a) (IsType defs vars) types (λ a k. k.0) h

  con_types : (x : List ℕ) (c : Constructor) (i : InSum defs x c) → AllByRecursion (IsType defs c.vars) c.args
  con_types x c i = subst (λ z. AllByRecursion (IsType defs c.vars) z) i.args (types_of c.vars i.con.args (facts.cons c.sum c.vars i.cons i.k i.con i.is i.there))

  flat_slots : (slots : List Slot) → AllByRecursion (IsSlot defs) slots → AllByRecursion (λ (s : Slot). IsFlat defs s.ty) slots
  flat_slots slots h = each_so (IsSlot defs) (λ (s : Slot). IsFlat defs s.ty) slots (λ s k. k.flat) h

  same_passed : (g : Scope) (k : ℕ) (slots : List Slot) (args : List Ty) (m : List Block) (env : Env) → At defs at_args g k slots m env
      → map (closed env) args ≡ map (close_written defs at_args) args
  same_passed g k slots args m env r = ap (λ vs. map (type_at vs env.targs) args) r.tvars ∙ ap (λ types. map (type_at at_args.tvars types) args) r.targs

  -- the value of a part where it is of another constructor
  zero_at : (c : Constructor) (args : List Ty) (b : Ty) → c.vars ≡ [] → IsType defs c.vars b → HasZero defs b → ZeroAt defs c.vars args b
  zero_at c args b none ok z =
      let same : at c.vars args b ≡ erased b = ap (λ vs. at vs args b) none ∙ ap erased (at_none args b) in
      record { zero = z.zero; is = z.is; shape = subst (HasShape defs [] z.zero) (sym same) z.shape }

  -- a part of a list
  part_type : (vars : List (List ℕ)) (types : List Ty) (j : ℕ) (b : Ty) → AllByRecursion (IsType defs vars) types → slice_get types j ≡ Some b → IsType defs vars b
  part_type vars types j b h e = each_get (IsType defs vars) types j b h e

  field_type : (vars : List (List ℕ)) (fields : List Field) (y : List ℕ) (b : Ty) → AllByRecursion (λ f. IsType defs vars f.ty) fields → field_named fields y ≡ Some b → IsType defs vars b
  field_type vars fields y b h e =
      let a = answers (field_here y) fields b e in
      let k = answer_of a.item.name y a.item.ty b a.gives in
      subst (IsType defs vars) k.1 (each_get (λ f. IsType defs vars f.ty) fields a.place a.item h a.there)

  count_back : (args : List Ty) (vars : List (List ℕ)) → length (map here args) ≡ length vars → length args ≡ length vars
  count_back args vars n = sym (map_length here args) ∙ n

  all_bools : (tests : List Expr) → AreBools defs (map here (map (λ x. t.Bool) tests))
  all_bools [] = tt
  all_bools (x ∷ tests) = (close_bool defs at_args, all_bools tests)

  module _ (tvars_are : List (List ℕ)) (tvars_is : at_args.tvars ≡ tvars_are) where
    arguments : (args : List Ty) → AreArguments defs tvars_are args → AreArguments defs at_args.tvars args
    arguments args oks = subst (λ vs. AreArguments defs vs args) (sym tvars_is) oks

    mutual
      -- where each form in it can run
      pub sound : (g : Scope) (x : Expr) (r : Ty) (d : HasType defs tvars_are g x r) → AllRun defs (pieces_of x) → Good g x r
      sound g x r (HasType.var {x = y} h) can = rw (evals.var_is defs calls y) (none_of defs at_args g (here r) (src.var y) (λ k. var_sound defs at_args g k [] y r h))
      sound g x r HasType.unit can = rw (evals.unit_is defs calls, close_unit defs at_args)
          (none_of defs at_args g t.Unit (src.just v.Unit) (λ k. just_sound defs (At defs at_args g k []) (on_ready defs at_args g k []) v.Unit t.Unit (λ m. HasShape.unit)))
      sound g x r (HasType.bool {b = b}) can = rw (evals.bool_is defs calls b, close_bool defs at_args)
          (none_of defs at_args g t.Bool (src.just (v.Bool b)) (λ k. just_sound defs (At defs at_args g k []) (on_ready defs at_args g k []) (v.Bool b) t.Bool (λ m. HasShape.bool)))
      sound g x r (HasType.num {i = i} {n = n} lt) can = rw (evals.num_is defs calls i n, close_int defs at_args i)
          (none_of defs at_args g (int_ty i) (src.just (v.Num i.width n))
          (λ k. just_sound defs (At defs at_args g k []) (on_ready defs at_args g k []) (v.Num i.width n) (int_ty i) (λ m. HasShape.num lt)))
      sound g x r (HasType.bin {op = o} {i = i} {a = a} {b = b} da db) can =
          let hs = run_parts defs x (Expr-F.Bin o i a b) (e.outs-Bin o i a b) can in
          rw (evals.bin_is defs calls o i a b, close_int defs at_args i)
          (two_of defs at_args g (int_ty i) (int_ty i) (int_ty i) (evals.means defs calls a) (evals.means defs calls b) (src.binary o i)
          (of_int g i (evals.means defs calls a) (sound g a (int_ty i) da hs.0)) (of_int g i (evals.means defs calls b) (sound g b (int_ty i) db hs.1.0))
          (λ k ev ev' h h'. binary_sound defs _ (on_ready defs at_args g k _) o i ev ev' h h'))
      sound g x r (HasType.shift {left = left} {i = i} {a = a} {n = n} da dn) can =
          let hs = run_parts defs x (Expr-F.Shift left i a n) (e.outs-Shift left i a n) can in
          rw (evals.shift_is defs calls left i a n, close_int defs at_args i)
          (two_of defs at_args g (int_ty i) u32 (int_ty i) (evals.means defs calls a) (evals.means defs calls n) (src.shift left i)
          (of_int g i (evals.means defs calls a) (sound g a (int_ty i) da hs.0)) (of_u32 g (evals.means defs calls n) (sound g n u32 dn hs.1.0))
          (λ k ev ev' h h'. shift_sound defs _ (on_ready defs at_args g k _) left i ev ev' h h'))
      sound g x r (HasType.cmp {op = o} {i = i} {a = a} {b = b} da db) can =
          let hs = run_parts defs x (Expr-F.Cmp o i a b) (e.outs-Cmp o i a b) can in
          rw (evals.cmp_is defs calls o i a b, close_bool defs at_args)
          (two_of defs at_args g (int_ty i) (int_ty i) t.Bool (evals.means defs calls a) (evals.means defs calls b) (src.compare o i)
          (of_int g i (evals.means defs calls a) (sound g a (int_ty i) da hs.0)) (of_int g i (evals.means defs calls b) (sound g b (int_ty i) db hs.1.0))
          (λ k ev ev' h h'. compare_sound defs _ (on_ready defs at_args g k _) o i ev ev' h h'))
      sound g x r (HasType.not {a = a} da) can =
          let hs = run_parts defs x (Expr-F.Not a) (e.outs-Not a) can in
          rw (evals.not_is defs calls a, close_bool defs at_args)
          (one_of defs at_args g t.Bool t.Bool (evals.means defs calls a) src.opposite (of_bool g (evals.means defs calls a) (sound g a t.Bool da hs.0))
          (λ k ev h. opposite_sound defs _ (on_ready defs at_args g k _) ev h))
      sound g x r (HasType.cast {i = i} {j = j} {a = a} da) can =
          let hs = run_parts defs x (Expr-F.Cast i j a) (e.outs-Cast i j a) can in
          rw (evals.cast_is defs calls i j a, close_int defs at_args j)
          (one_of defs at_args g (int_ty i) (int_ty j) (evals.means defs calls a) (src.cast i j) (of_int g i (evals.means defs calls a) (sound g a (int_ty i) da hs.0))
          (λ k ev h. cast_sound defs _ (on_ready defs at_args g k _) i j ev h))
      sound g x r (HasType.hide {i = i} {a = a} da) can =
          let hs = run_parts defs x (Expr-F.Hide i a) (e.outs-Hide i a) can in
          rw (evals.hide_is defs calls i a, close_int defs at_args i)
          (one_of defs at_args g (int_ty i) (int_ty i) (evals.means defs calls a) (src.hide i) (of_int g i (evals.means defs calls a) (sound g a (int_ty i) da hs.0))
          (λ k ev h. hide_sound defs _ (on_ready defs at_args g k _) i ev h))
      sound g x r (HasType.make {x = y} {vars = vars} {fields = fields} {args = args} {es = es} is n oks ds) can =
          let hs = run_parts defs x (Expr-F.Make y args es) (e.outs-Make y args es) can in
          let inner : List Ty = map here (map erased args) in
          let types = fields_are defs at_args vars args inner fields (facts.fields y vars fields is) (close_at_written defs at_args vars args n) in
          rw (evals.make_is defs calls y args es, close_named defs at_args y (map erased args))
          (many_of defs at_args g (fields_at vars inner fields) (t.Named y inner) (map (evals.means defs calls) es) (src.make defs y)
          (all_as g (map here (fields_at vars args fields)) (fields_at vars inner fields) (map (evals.means defs calls) es) types (sound_all g es (fields_at vars args fields) ds hs))
          (λ k evs h. make_sound defs _ (on_ready defs at_args g k _) y vars fields inner evs is (map_length here (map erased args) ∙ map_length erased args ∙ n)
          (arguments_written defs at_args args (arguments args oks)) h))
      sound g x r (HasType.get {x = s} {y = y} {vars = vars} {fields = fields} args {a = a} {b = b} da is b_is) can =
          let hs = run_parts defs x (Expr-F.Get y a) (e.outs-Get y a) can in
          rw (evals.get_is defs calls y a)
          (one_of defs at_args g (t.Named s (map here args)) (here r) (evals.means defs calls a) (src.get y) (of_named g s args (evals.means defs calls a) (sound g a (t.Named s args) da hs.0))
          (λ k ev h. get_sound defs _ (on_ready defs at_args g k _) s y vars fields (map here args) b (here r) ev is b_is
          (λ n. sym (close_at defs at_args vars args (count_back args vars n) b (field_type vars fields y b (facts.fields s vars fields is) b_is))) h))
      sound g x r (HasType.con {x = y} {c = c} {args = args} {es = es} is n oks ds) can =
          let hs = run_parts defs x (Expr-F.Con y args es) (e.outs-Con y args es) can in
          let i = facts.con y c is in
          let inner : List Ty = map here (map erased args) in
          let types = all_are defs at_args c.vars args inner c.args (con_types y c i) (close_at_written defs at_args c.vars args n) in
          rw (evals.con_is defs calls y args es, close_named defs at_args c.sum (map erased args))
          (many_of defs at_args g (map (at c.vars inner) c.args) (t.Named c.sum inner) (map (evals.means defs calls) es) (src.con defs y)
          (all_as g (map here (map (at c.vars args) c.args)) (map (at c.vars inner) c.args) (map (evals.means defs calls) es) types (sound_all g es (map (at c.vars args) c.args) ds hs))
          (λ k evs h. con_sound defs _ (on_ready defs at_args g k _) y c inner evs i (map_length here (map erased args) ∙ map_length erased args ∙ n)
          (arguments_written defs at_args args (arguments args oks)) h))
      sound g x r (HasType.read {a = a} {i = i} {b = b} da di) can =
          let hs = run_parts defs x (Expr-F.Read a i) (e.outs-Read a i) can in
          rw (evals.read_is defs calls a i)
          (two_of defs at_args g (t.Buf (here r)) u32 (here r) (evals.means defs calls a) (evals.means defs calls i) src.read
          (of_buf g r (evals.means defs calls a) (sound g a (t.Buf r) da hs.0)) (of_u32 g (evals.means defs calls i) (sound g i u32 di hs.1.0))
          (λ k ev ev' h h'. read_sound defs facts _ (on_ready defs at_args g k _) (here r) ev ev' h h'))
      sound g x r (HasType.write {a = a} {i = i} {v = w} {b = b} da di dv) can =
          let hs = run_parts defs x (Expr-F.Write a i w) (e.outs-Write a i w) can in
          rw (evals.write_is defs calls a i w, close_unit defs at_args)
          (three_of defs at_args g (t.Buf (here b)) u32 (here b) t.Unit (evals.means defs calls a) (evals.means defs calls i) (evals.means defs calls w) src.write
          (of_buf g b (evals.means defs calls a) (sound g a (t.Buf b) da hs.0)) (of_u32 g (evals.means defs calls i) (sound g i u32 di hs.1.0)) (sound g w b dv hs.1.1.0)
          (λ k ev ev' ev'' h h' h''. write_sound defs facts _ (on_ready defs at_args g k _) (here b) ev ev' ev'' h h' h''))
      sound g x r (HasType.slice {a = a} {i = i} {n = n} b da di dn) can =
          let hs = run_parts defs x (Expr-F.Slice a i n) (e.outs-Slice a i n) can in
          rw (evals.slice_is defs calls a i n, close_buf defs at_args b)
          (three_of defs at_args g (t.Buf (here b)) u32 u32 (t.Buf (here b)) (evals.means defs calls a) (evals.means defs calls i) (evals.means defs calls n) src.slice
          (of_buf g b (evals.means defs calls a) (sound g a (t.Buf b) da hs.0)) (of_u32 g (evals.means defs calls i) (sound g i u32 di hs.1.0)) (of_u32 g (evals.means defs calls n) (sound g n u32 dn hs.1.1.0))
          (λ k ev ev' ev'' h h' h''. slice_sound defs facts _ (on_ready defs at_args g k _) (here b) ev ev' ev'' h h' h''))
      sound g x r (HasType.tab {x = y} {i = i} {a = a} is da) can =
          let hs = run_parts defs x (Expr-F.Tab y a) (e.outs-Tab y a) can in
          rw (evals.tab_is defs calls y a, close_int defs at_args i)
          (one_of defs at_args g u32 (int_ty i) (evals.means defs calls a) (src.tab defs y) (of_u32 g (evals.means defs calls a) (sound g a u32 da hs.0))
          (λ k ev h. tab_sound defs _ (on_ready defs at_args g k _) facts y i ev is h))
      sound g x r (HasType.choice {c = c} {a = a} {b = b} dc da db) can =
          let hs = run_parts defs x (Expr-F.If c a b) (e.outs-If c a b) can in
          rw (evals.choice_is defs calls c a b)
          (three_of defs at_args g t.Bool (here r) (here r) (here r) (evals.means defs calls c) (evals.means defs calls a) (evals.means defs calls b) src.choose
          (of_bool g (evals.means defs calls c) (sound g c t.Bool dc hs.0)) (sound g a r da hs.1.0) (sound g b r db hs.1.1.0)
          (λ k ev ev' ev'' h h' h''. choose_sound defs _ (on_ready defs at_args g k _) (here r) ev ev' ev'' h h' h''))
      sound g x r (HasType.match {a = a} {s = s} {x = y} {xs = xs} da nu ds) can =
          let hs = run_parts defs x (Expr-F.Match a (y ∷ xs)) (e.outs-Match a (y ∷ xs)) can in
          rw (evals.match_is defs calls a (y ∷ xs))
          (match_of defs at_args facts g (here s) (here r) (evals.means defs calls a) (map (evals.arm_means defs calls) (y ∷ xs)) (sound g a s da hs.0) (sound_arms g s (y ∷ xs) r ds hs.1))
      sound g x r (HasType.block {h = h} {items = items} {a = a} ds da) can =
          let hs = last_holds (RoleIn (CanRun defs)) (map Part.item items) a (run_parts defs x (Expr-F.Do items a) (e.outs-Do items a) can) in
          rw (evals.block_is defs calls items a)
          (block_of defs at_args g h (here r) (map (evals.item_means defs calls) items) (evals.means defs calls a) (sound_items g items h ds hs.0) (sound h a r da hs.1))
      sound g x r (HasType.frame {slots = slots} {a = a} da res) can =
          let hs = run_parts defs x (Expr-F.Frame slots a) (e.outs-Frame slots a) can in
          rw (evals.frame_is defs calls slots a)
          (frame_of defs at_args facts g slots (here r) (evals.means defs calls a) (flat_slots slots (subst (λ z. CanRun defs (role z)) (e.outs-Frame slots a) can.0)) (result_closed defs at_args r res) (sound (in_frame slots g) a r da hs.0))
      sound g x r (HasType.alloc {slots = slots} {b = b} {n = n} {a = a} is ok f least most da) can =
          let hs = run_parts defs x (Expr-F.Alloc b n a) (e.outs-Alloc b n a) can in
          rw (evals.alloc_is defs calls b n a, close_buf defs at_args (erased b))
          (alloc_of defs at_args facts g slots (record { ty = b; len = n }) (evals.means defs calls a) is f (sound g a (erased b) da hs.0))
      sound g x r (HasType.while {c = c} {a = a} dc da) can =
          let hs = run_parts defs x (Expr-F.While c a) (e.outs-While c a) can in
          rw (evals.while_is defs calls c a, close_unit defs at_args)
          (two_of defs at_args g t.Bool t.Unit t.Unit (evals.means defs calls c) (evals.means defs calls a) src.while
          (of_bool g (evals.means defs calls c) (loop_of defs at_args g (here t.Bool) (evals.means defs calls c) (sound (in_loop g) c t.Bool dc hs.0)))
          (of_unit g (evals.means defs calls a) (loop_of defs at_args g (here t.Unit) (evals.means defs calls a) (sound (in_loop g) a t.Unit da hs.1.0)))
          (λ k ev ev' h h'. while_sound defs _ (on_ready defs at_args g k _) ev ev' h h'))
      sound g x r (HasType.for {x = y} {a = a} {b = b} {c = c} da db dc) can =
          let hs = run_parts defs x (Expr-F.For y a b c) (e.outs-For y a b c) can in
          rw (evals.for_is defs calls y a b c, close_unit defs at_args)
          (for_of defs at_args facts g y (evals.means defs calls a) (evals.means defs calls b) (evals.means defs calls c) u32_is
          (of_u32 g (evals.means defs calls a) (sound g a u32 da hs.0)) (of_u32 g (evals.means defs calls b) (sound g b u32 db hs.1.0))
          (of_unit (with_vars ((y, u32) ∷ []) (in_loop g)) (evals.means defs calls c) (sound (with_vars ((y, u32) ∷ []) (in_loop g)) c t.Unit dc hs.1.1.0)))
      sound g x r (HasType.call {x = y} {f = f} {args = args} {es = es} is n oks ds) can =
          let hs = run_parts defs x (Expr-F.Call y args es) (e.outs-Call y args es) can in
          let fun = facts.function y f is in
          let inner : List Ty = map (close_written defs at_args) args in
          let types = fields_are defs at_args f.vars args inner f.params fun.each (close_at_passed defs at_args f.vars args n) in
          rw (evals.call_is defs calls y args es, close_at_passed defs at_args f.vars args n f.result fun.result)
          (many_of defs at_args g (fields_at f.vars inner f.params) (at f.vars inner f.result) (map (evals.means defs calls) es) (src.call calls y args)
          (all_as g (map here (fields_at f.vars args f.params)) (fields_at f.vars inner f.params) (map (evals.means defs calls) es) types (sound_all g es (fields_at f.vars args f.params) ds hs))
          (λ k evs h. call_sound defs _ (on_ready defs at_args g k _) calls hk y f args inner evs is (map_length (close_written defs at_args) args ∙ n)
          (arguments_passed defs at_args args (arguments args oks)) (λ m env z. same_passed g k _ args m env z) h))
      sound g x r (HasType.cases {x = y} {xs = xs} ds) can =
          let hs = run_parts defs x (Expr-F.Cases (y ∷ xs)) (e.outs-Cases (y ∷ xs)) can in
          rw (evals.cases_is defs calls (y ∷ xs))
          (cases_of defs at_args g (here r) (map (evals.case_means defs calls) (y ∷ xs)) (sound_cases g (y ∷ xs) r ds hs))
      sound g x r (HasType.tag_is {x = y} {c = c} args {a = a} is da) can =
          let hs = run_parts defs x (Expr-F.TagIs y a) (e.outs-TagIs y a) can in
          rw (evals.tag_is_is defs calls y a, close_bool defs at_args)
          (one_of defs at_args g (t.Named c.sum (map here args)) t.Bool (evals.means defs calls a) (src.tag_is defs y) (of_named g c.sum args (evals.means defs calls a) (sound g a (t.Named c.sum args) da hs.0))
          (λ k ev h. tag_is_sound defs _ (on_ready defs at_args g k _) y c (map here args) ev (facts.con y c is) h))
      sound g x r (HasType.part {x = y} {c = c} {j = j} args {a = a} {b = b} is da b_is) can =
          let hs = run_parts defs x (Expr-F.Part y j a) (e.outs-Part y j a) can in
          let asked : CanRun defs Role.part = subst (λ z. CanRun defs (role z)) (e.outs-Part y j a) can.0 in
          let z = zeros y c j b (facts.con y c is) b_is asked in
          let i = facts.con y c is in
          let ok = part_type c.vars c.args j b (con_types y c i) b_is in
          rw (evals.part_is defs calls y j a)
          (one_of defs at_args g (t.Named c.sum (map here args)) (here r) (evals.means defs calls a) (src.part defs y j) (of_named g c.sum args (evals.means defs calls a) (sound g a (t.Named c.sum args) da hs.0))
          (λ k ev h. part_sound defs _ (on_ready defs at_args g k _) y c j (map here args) b (here r) ev i b_is (zero_at c (map here args) b z.0 ok z.1)
          (λ n. sym (close_at defs at_args c.vars args (count_back args c.vars n) b ok)) h))
      sound g x r (HasType.fill {k = j} {slots = slots} {s = s} {a = a} is s_is da) can =
          let hs = run_parts defs x (Expr-F.Fill j a) (e.outs-Fill j a) can in
          rw (evals.fill_is defs calls j a, close_buf defs at_args (erased s.ty))
          (fill_of defs at_args facts g slots j s (evals.means defs calls a) is s_is (sound g a (erased s.ty) da hs.0))

      sound_all : (g : Scope) (es : List Expr) (rs : List Ty) (d : AllHaveType defs tvars_are g es rs) → PartsRun defs (map Part.expr es)
          → SoundAllOf defs at_args g (map here rs) (map (evals.means defs calls) es)
      sound_all g es rs AllHaveType.none can = no_values_of defs at_args g
      sound_all g es rs (AllHaveType.one {a = a} {es = more} {r = r} {rs = types} da ds) can =
          more_values_of defs at_args g (here r) (map here types) (evals.means defs calls a) (map (evals.means defs calls) more) (sound g a r da can.0) (sound_all g more types ds can.1)

      sound_arms : (g : Scope) (s : Ty) (xs : List Arm) (r : Ty) (d : ArmsHaveType defs tvars_are g s xs r) → PartsRun defs (map Part.arm xs)
          → BranchesOf defs at_args facts g (here s) (here r) (map (evals.arm_means defs calls) xs)
      sound_arms g s xs r ArmsHaveType.no_arms can = no_branches_of defs at_args facts g (here s) (here r)
      sound_arms g s xs r (ArmsHaveType.an_arm {q = q} {a = a} {xs = more} {vars = vars} ms di da ds) can = rw (evals.arm_is defs calls q a)
          (more_branches_of defs at_args facts g s (here r) q vars (evals.means defs calls a) (map (evals.arm_means defs calls) more) ms (sound (with_vars vars g) a r da (arm_run defs q a can.0))
          (sound_arms g s more r ds can.1))

      sound_items : (g : Scope) (items : List Item) (h : Scope) (d : ItemsLead defs tvars_are g items h) → PartsRun defs (map Part.item items)
          → StepsOf defs at_args g h (map (evals.item_means defs calls) items)
      sound_items g items h ItemsLead.no_items can = no_steps_of defs at_args g
      sound_items g items h (ItemsLead.bound {x = x} {b = b} {a = a} {items = more} ok nu da ds) can = rw (evals.bound_is defs calls x b a)
          (bound_of defs at_args g (with_vars ((x, erased b) ∷ []) g) h (here (erased b)) (evals.means defs calls a) (map (evals.item_means defs calls) more) (sound g a (erased b) da (let_run defs x b a can.0))
          (sound_items (with_vars ((x, erased b) ∷ []) g) more h ds can.1) x (erased b) refl refl)
      sound_items g items h (ItemsLead.ran {a = a} {items = more} da ds) can = rw (evals.ran_is defs calls a)
          (ran_of defs at_args g g h (here t.Unit) (evals.means defs calls a) (map (evals.item_means defs calls) more) (sound g a t.Unit da (run_run defs a can.0)) (sound_items g more h ds can.1) refl)

      sound_cases : (g : Scope) (xs : List Case) (r : Ty) (d : CasesHaveType defs tvars_are g xs r) → PartsRun defs (map Part.case_ xs)
          → CasesOf defs at_args g (here r) (map (evals.case_means defs calls) xs)
      sound_cases g xs r CasesHaveType.no_cases can = no_cases_of defs at_args g (here r)
      sound_cases g xs r (CasesHaveType.a_case {tests = tests} {a = a} {xs = more} dt da ds) can = rw (evals.case_is defs calls tests a)
          (more_cases_of defs at_args g (here r) (map here (map (λ x. t.Bool) tests)) (map (evals.means defs calls) tests) (evals.means defs calls a) (map (evals.case_means defs calls) more) (all_bools tests)
          (sound_all g tests (map (λ x. t.Bool) tests) dt (case_run defs tests a can.0).0) (sound g a r da (case_run defs tests a can.0).1) (sound_cases g more r ds can.1))
