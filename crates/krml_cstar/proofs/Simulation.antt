-- The translation of an expression does what the expression does: by recursion on what says that it has its type.
use Rattle.std.proofs.Common.{◌≡◌, ℕ, ◌+◌, true, false, List, [], ◌∷◌, map, length, None, refl, sym, ap, subst}
use Rattle.std.specs.List.{AllByRecursion}
use Rattle.krml_trace.specs.declared.width.Width.TheVariants.{W32}
use Rattle.krml_syntax.specs.declared.tree.Ty.{Ty}
use Rattle.krml_syntax.specs.declared.tree.Ty.TheVariants as t
use Rattle.krml_syntax.specs.declared.tree.Field.{Field}
use Rattle.krml_syntax.specs.declared.tree.Item.{Item}
use Rattle.krml_syntax.specs.declared.tree.Expr.{Expr}
use Rattle.krml_syntax.specs.declared.tree.Expr.TheVariants as e
use Rattle.krml_syntax.specs.declared.tree.Expr.TheOpen.{Expr-F}
use Rattle.krml_syntax.specs.declared.tree.Def.{Def}
use Rattle.krml_syntax.specs.Shape.{Part}
use Rattle.krml_syntax.specs.Types.{erased, int_ty, u32}
use Rattle.krml_ast.specs.IsType.{IsValue}
use Rattle.krml_ast.specs.Typing.{Vars, Scope, with_vars, in_loop, at, fields_at, HasType, AllHaveType, ItemsLead}
use Rattle.krml_ast.specs.WellTyped.{AreWellTyped}
use Rattle.krml_meaning.specs.State.{Sem}
use Rattle.krml_meaning.specs.Numbered.{each_from}
use Rattle.krml_meaning.specs.Meaning as src
use Rattle.krml_meaning.proofs.Flat.{value_erased}
use Rattle.krml_meaning.proofs.Files.{facts}
use Rattle.krml_meaning.proofs.Forms.{CallsSound}
use Rattle.krml_meaning.proofs.Evals as evals
use Rattle.krml_ctree.specs.declared.tree.CProgram.{CProgram}
use Rattle.krml_ctree.specs.Meaning as tgt
use Rattle.krml_cstar.specs.Built.{is_ty_built, AreBuilt}
use Rattle.krml_cstar.specs.Translation as code
use Rattle.krml_cstar.specs.Types.{is_unit}
use Rattle.krml_cstar.specs.Translation.{Comp, ItemComp, code_of}
use Rattle.krml_cstar.proofs.Lookups.{Lookups}
use Rattle.krml_cstar.proofs.Part.{FieldsBuilt, ExprBuilt, is_public_built, erased_built, at_built, StructBuilt, FunctionBuilt, struct_built, function_built, types_here}
use Rattle.krml_cstar.proofs.Typed.{each_value}
use Rattle.krml_cstar.proofs.PartTypes.{number_part, type_part}
use Rattle.krml_cstar.proofs.BuiltForms.{PartsBuilt, form_built, unbuilt, block_built, let_built, run_built}
use Rattle.krml_cstar.proofs.Codes as codes
use Rattle.krml_cstar.proofs.Fits.{IsPart, AreParts, param_types, CallsFit, Fits}
use Rattle.krml_cstar.proofs.Forms.{number_value, unit_fits, var_fits}
use Rattle.krml_cstar.proofs.Operators.{binary_fits, shift_fits, compare_fits, opposite_fits, cast_fits, num_fits, truth_fits}
use Rattle.krml_cstar.proofs.Choices.{choice_fits}
use Rattle.krml_cstar.proofs.Blocks.{FitItems, no_items_fit, bound_fits, ran_fits, block_fits}
use Rattle.krml_cstar.proofs.Structs.{field_among, FitsAll, none_fit, more_fit, make_fits, get_fits}
use Rattle.krml_cstar.proofs.Calls.{tab_fits, call_fits}
use Rattle.krml_cstar.proofs.Loops.{while_fits, for_fits}
use Rattle.krml_cstar.proofs.Levels.{BodiesFit}

module _ (defs : List Def) (typed : AreWellTyped defs) (built : AreBuilt defs) (p : CProgram) (lookups : Lookups defs p) where
  -- all are types of values
  abbrev AreValues : List Ty → Type 0
  AreValues types = AllByRecursion (λ a. is_unit a ≡ false) types

  module _ (source : src.Calls) (calls : tgt.Calls) (hk : CallsSound defs source) (kf : CallsFit defs source calls) where
    values_at : (vars : List (List ℕ)) (args : List Ty) (fields : List Field) → FieldsBuilt fields → AllByRecursion (λ f. IsValue f.ty) fields → AreValues (fields_at vars args fields)
    values_at vars args fields e h = subst AreValues (sym (types_here vars args fields e)) (each_value defs built fields h)

    -- ---- the type that a form asks for

    as_type : (vars : Vars) (a c : Ty) (ev : Sem) (co : Comp) → a ≡ c → Fits defs p calls vars a ev co → Fits defs p calls vars c ev co
    as_type vars a c ev co e h = subst (λ z. Fits defs p calls vars z ev co) e h

    all_as : (vars : Vars) (types other : List Ty) (evs : List Sem) (cos : List Comp) → types ≡ other → FitsAll defs p calls vars types evs cos → FitsAll defs p calls vars other evs cos
    all_as vars types other evs cos e h = subst (λ z. FitsAll defs p calls vars z evs cos) e h

    -- a call without type arguments
    call_as : (vars : Vars) (a : Ty) (x : List ℕ) (args : List Ty) (evs : List Sem) (co : Comp) → args ≡ [] → Fits defs p calls vars a (src.call source x [] evs) co
        → Fits defs p calls vars a (src.call source x args evs) co
    call_as vars a x args evs co e h = subst (λ z. Fits defs p calls vars a (src.call source x z evs) co) (sym e) h

    items_as : (vars inner : Vars) (x : List ℕ) (a c : Ty) (co : Comp) (items : List src.Step) (cos : List ItemComp) → a ≡ c
        → FitItems defs built p calls vars inner items (code.items (code.bound x a co ∷ cos)) → FitItems defs built p calls vars inner items (code.items (code.bound x c co ∷ cos))
    items_as vars inner x a c co items cos e h = subst (λ z. FitItems defs built p calls vars inner items (code.items (code.bound x z co ∷ cos))) e h

    -- ---- the recursion

    mutual
      -- an expression that is built
      pub fits : (g : Scope) (x : Expr) (r : Ty) → HasType defs [] g x r → ExprBuilt x → AreParts p g.vars → (k : ℕ)
          → Fits defs p calls g.vars r ((evals.means defs source x).from k) (code_of defs x)
      fits g x r (HasType.var {x = y} h) b parts k = rw (evals.var_is defs source y, codes.var_is defs y) (var_fits defs p calls g.vars y r parts h)
      fits g x r HasType.unit b parts k = rw (evals.unit_is defs source, codes.unit_is defs) (unit_fits defs p calls g.vars)
      fits g x r (HasType.bool {b = y}) b parts k = rw (evals.bool_is defs source y, codes.bool_is defs y) (truth_fits defs p calls g.vars y)
      fits g x r (HasType.num {i = i} {n = n} lt) b parts k = rw (evals.num_is defs source i n, codes.num_is defs i n) (num_fits defs p calls g.vars i n (is_public_built i (form_built x (Expr-F.Num i n) (e.outs-Num i n) b).types.0) lt)
      fits g x r (HasType.bin {op = o} {i = i} {a = a} {b = c} da dc) b parts k =
          let h = form_built x (Expr-F.Bin o i a c) (e.outs-Bin o i a c) b in
          rw (evals.bin_is defs source o i a c, codes.bin_is defs o i a c) (binary_fits defs p calls g.vars o i _ _ (code_of defs a) (code_of defs c) (is_public_built i h.types.0)
          (fits g a (int_ty i) da h.parts.0 parts k) (fits g c (int_ty i) dc h.parts.1.0 parts (k + length (evals.means defs source a).slots)))
      fits g x r (HasType.shift {left = left} {i = i} {a = a} {n = n} da dn) b parts k =
          let h = form_built x (Expr-F.Shift left i a n) (e.outs-Shift left i a n) b in
          rw (evals.shift_is defs source left i a n, codes.shift_is defs left i a n) (shift_fits defs p calls g.vars left i _ _ (code_of defs a) (code_of defs n) (is_public_built i h.types.0)
          (fits g a (int_ty i) da h.parts.0 parts k) (fits g n u32 dn h.parts.1.0 parts (k + length (evals.means defs source a).slots)))
      fits g x r (HasType.cmp {op = o} {i = i} {a = a} {b = c} da dc) b parts k =
          let h = form_built x (Expr-F.Cmp o i a c) (e.outs-Cmp o i a c) b in
          rw (evals.cmp_is defs source o i a c, codes.cmp_is defs o i a c) (compare_fits defs p calls g.vars o i _ _ (code_of defs a) (code_of defs c)
          (fits g a (int_ty i) da h.parts.0 parts k) (fits g c (int_ty i) dc h.parts.1.0 parts (k + length (evals.means defs source a).slots)))
      fits g x r (HasType.not {a = a} da) b parts k = rw (evals.not_is defs source a, codes.not_is defs a)
          (opposite_fits defs p calls g.vars _ (code_of defs a) (fits g a t.Bool da (form_built x (Expr-F.Not a) (e.outs-Not a) b).parts.0 parts k))
      fits g x r (HasType.cast {i = i} {j = j} {a = a} da) b parts k =
          let h = form_built x (Expr-F.Cast i j a) (e.outs-Cast i j a) b in
          rw (evals.cast_is defs source i j a, codes.cast_is defs i j a) (cast_fits defs p calls g.vars i j _ (code_of defs a) (is_public_built j h.types.1.0) (fits g a (int_ty i) da h.parts.0 parts k))
      fits g x r (HasType.make {x = y} {vars = vars} {fields = fields} {args = args} {es = es} is n oks ds) b parts k =
          let h = form_built x (Expr-F.Make y args es) (e.outs-Make y args es) b in
          let sb : StructBuilt vars fields = struct_built defs typed built y vars fields is in
          let hs = fits_all g es (fields_at vars args fields) ds h.parts (values_at vars args fields sb.types sb.values) parts k in
          rw (evals.make_is defs source y args es, codes.make_is defs y args es) (as_type g.vars (t.Named y []) (t.Named y (map erased args)) _ _ (ap (λ l. t.Named y (map erased l)) (sym h.arguments))
          (make_fits defs p calls typed built lookups g.vars y vars fields _ (map (code_of defs) es) is
          (all_as g.vars (fields_at vars args fields) (param_types fields) _ (map (code_of defs) es) (types_here vars args fields sb.types) hs)))
      fits g x r (HasType.get {x = s} {y = y} {vars = vars} {fields = fields} args {a = a} {b = c} da is c_is) b parts k =
          let bc = field_among (λ z. is_ty_built z ≡ true) fields y c (struct_built defs typed built s vars fields is).types c_is in
          rw (evals.get_is defs source y a, codes.get_is defs y a) (as_type g.vars c (at vars args c) _ _ (sym (at_built vars args c bc))
          (get_fits defs p calls typed built lookups g.vars s y args vars fields c _ (code_of defs a) is c_is (fits g a (t.Named s args) da (form_built x (Expr-F.Get y a) (e.outs-Get y a) b).parts.0 parts k)))
      fits g x r (HasType.tab {x = y} {i = i} {a = a} is da) b parts k = rw (evals.tab_is defs source y a, codes.tab_is defs y a)
          (tab_fits defs typed built p lookups calls g.vars y i _ (code_of defs a) is (fits g a u32 da (form_built x (Expr-F.Tab y a) (e.outs-Tab y a) b).parts.0 parts k))
      fits g x r (HasType.choice {c = c} {a = a} {b = a'} dc da da') b parts k =
          let h = form_built x (Expr-F.If c a a') (e.outs-If c a a') b in
          rw (evals.choice_is defs source c a a', codes.choice_is defs c a a') (choice_fits defs built p calls g.vars r _ _ _ (code_of defs c) (code_of defs a) (code_of defs a')
          (fits g c t.Bool dc h.parts.0 parts k) (fits g a r da h.parts.1.0 parts _) (fits g a' r da' h.parts.1.1.0 parts _))
      fits g x r (HasType.block {h = h} {items = items} {a = a} ds da) b parts k =
          let both = block_built items a (form_built x (Expr-F.Do items a) (e.outs-Do items a) b).parts in
          let hs = fits_items g items h ds both.0 parts in
          rw (evals.block_is defs source items a, codes.block_is defs items a) (block_fits defs built p calls g.vars h.vars r _ (map (codes.item_code defs) items) _ (code_of defs a)
          (hs.1 k) (fits h a r da both.1 hs.0 _))
      fits g x r (HasType.while {c = c} {a = a} dc da) b parts k =
          let h = form_built x (Expr-F.While c a) (e.outs-While c a) b in
          rw (evals.while_is defs source c a, codes.while_is defs c a) (while_fits defs p calls g.vars _ _ (code_of defs c) (code_of defs a)
          (fits (in_loop g) c t.Bool dc h.parts.0 parts k) (fits (in_loop g) a t.Unit da h.parts.1.0 parts _))
      fits g x r (HasType.for {x = y} {a = a} {b = a'} {c = c} da da' dc) b parts k =
          let h = form_built x (Expr-F.For y a a' c) (e.outs-For y a a' c) b in
          rw (evals.for_is defs source y a a' c, codes.for_is defs y a a' c) (for_fits defs typed built p calls g.vars y _ _ _ (code_of defs a) (code_of defs a') (code_of defs c)
          (fits g a u32 da h.parts.0 parts k) (fits g a' u32 da' h.parts.1.0 parts _)
          (fits (with_vars ((y, u32) ∷ []) (in_loop g)) c t.Unit dc h.parts.1.1.0 ((number_part p W32, number_value W32), parts) _))
      fits g x r (HasType.call {x = y} {f = f} {args = args} {es = es} is n oks ds) b parts k =
          let h = form_built x (Expr-F.Call y args es) (e.outs-Call y args es) b in
          let fun = (facts defs typed).function y f is in
          let fb : FunctionBuilt f fun.body.body = function_built defs typed built y f fun.body is fun.is in
          let hs = fits_all g es (fields_at f.vars args f.params) ds h.parts (values_at f.vars args f.params fb.types fb.values) parts k in
          rw (evals.call_is defs source y args es, codes.call_is defs y args es) (as_type g.vars f.result (at f.vars args f.result) _ _ (sym (at_built f.vars args f.result fb.result))
          (call_as g.vars f.result y args (each_from (map (evals.means defs source) es) k) _ h.arguments
          (call_fits defs typed built p lookups calls source hk kf g.vars y f _ (map (code_of defs) es) is
          (all_as g.vars (fields_at f.vars args f.params) (param_types f.params) _ (map (code_of defs) es) (types_here f.vars args f.params fb.types) hs))))
      fits g x r (HasType.hide {i = i} {a = a} da) b parts k = unbuilt x (Expr-F.Hide i a) (e.outs-Hide i a) refl b.0
      fits g x r (HasType.con {x = y} {args = args} {es = es} is n oks ds) b parts k = unbuilt x (Expr-F.Con y args es) (e.outs-Con y args es) refl b.0
      fits g x r (HasType.read {a = a} {i = i} da di) b parts k = unbuilt x (Expr-F.Read a i) (e.outs-Read a i) refl b.0
      fits g x r (HasType.write {a = a} {i = i} {v = w} da di dv) b parts k = unbuilt x (Expr-F.Write a i w) (e.outs-Write a i w) refl b.0
      fits g x r (HasType.slice {a = a} {i = i} {n = n} c da di dn) b parts k = unbuilt x (Expr-F.Slice a i n) (e.outs-Slice a i n) refl b.0
      fits g x r (HasType.match {a = a} {x = y} {xs = ys} da nu ds) b parts k = unbuilt x (Expr-F.Match a (y ∷ ys)) (e.outs-Match a (y ∷ ys)) refl b.0
      fits g x r (HasType.frame {slots = slots} {a = a} da res) b parts k = unbuilt x (Expr-F.Frame slots a) (e.outs-Frame slots a) refl b.0
      fits g x r (HasType.alloc {b = c} {n = n} {a = a} is ok f least most da) b parts k = unbuilt x (Expr-F.Alloc c n a) (e.outs-Alloc c n a) refl b.0
      fits g x r (HasType.cases {x = y} {xs = ys} ds) b parts k = unbuilt x (Expr-F.Cases (y ∷ ys)) (e.outs-Cases (y ∷ ys)) refl b.0
      fits g x r (HasType.tag_is {x = y} args {a = a} is da) b parts k = unbuilt x (Expr-F.TagIs y a) (e.outs-TagIs y a) refl b.0
      fits g x r (HasType.part {x = y} {j = j} args {a = a} is da b_is) b parts k = unbuilt x (Expr-F.Part y j a) (e.outs-Part y j a) refl b.0
      fits g x r (HasType.fill {k = j} {a = a} is s_is da) b parts k = unbuilt x (Expr-F.Fill j a) (e.outs-Fill j a) refl b.0

      -- operands
      fits_all : (g : Scope) (es : List Expr) (rs : List Ty) → AllHaveType defs [] g es rs → PartsBuilt (map Part.expr es) → AreValues rs → AreParts p g.vars → (k : ℕ)
          → FitsAll defs p calls g.vars rs (each_from (map (evals.means defs source) es) k) (map (code_of defs) es)
      fits_all g es rs AllHaveType.none b nu parts k = none_fit defs p calls g.vars
      fits_all g es rs (AllHaveType.one {a = a} {es = more} {r = r} {rs = types} da ds) b nu parts k =
          more_fit defs p calls g.vars r types _ _ (code_of defs a) (map (code_of defs) more) nu.0 (fits g a r da b.0 parts k) (fits_all g more types ds b.1 nu.1 parts _)

      -- what stands in a block, and the scope that it leads to
      fits_items : (g : Scope) (items : List Item) (h : Scope) → ItemsLead defs [] g items h → PartsBuilt (map Part.item items) → AreParts p g.vars
          → AreParts p h.vars × ((k : ℕ) → FitItems defs built p calls g.vars h.vars (each_from (map (evals.item_means defs source) items) k) (code.items (map (codes.item_code defs) items)))
      fits_items g items h ItemsLead.no_items b parts = (parts, λ k. no_items_fit defs built p calls g.vars)
      fits_items g items h (ItemsLead.bound {x = y} {b = c} {a = a} {items = more} ok nu da ds) b parts =
          let mine = let_built y c a b.0 in
          let same : erased c ≡ c = erased_built c mine.0 in
          let part : IsPart p (erased c) = subst (IsPart p) (sym same) (type_part p defs built lookups [] c ok mine.0) in
          let value : is_unit (erased c) ≡ false = value_erased c nu in
          let rest = fits_items (with_vars ((y, erased c) ∷ []) g) more h ds b.1 ((part, value), parts) in (
            rest.0,
            λ k. rw (evals.bound_is defs source y c a, codes.bound_is defs y c a)
                (items_as g.vars h.vars y (erased c) c (code_of defs a) _ (map (codes.item_code defs) more) same
                (bound_fits defs built p calls g.vars h.vars y (erased c) _ (code_of defs a) _ (map (codes.item_code defs) more) value (fits g a (erased c) da mine.1 parts k) (rest.1 _))),
          )
      fits_items g items h (ItemsLead.ran {a = a} {items = more} da ds) b parts =
          let rest = fits_items g more h ds b.1 parts in (
            rest.0,
            λ k. rw (evals.ran_is defs source a, codes.ran_is defs a)
                (ran_fits defs built p calls g.vars h.vars t.Unit _ (code_of defs a) _ (map (codes.item_code defs) more) (fits g a t.Unit da (run_built a b.0) parts k) (rest.1 _)),
          )

  -- the bodies of functions
  pub bodies_fit : BodiesFit defs p
  bodies_fit source calls hk kf vars x a parts d b = fits source calls hk kf (record { vars = vars; frame = None }) x a d b parts 0
