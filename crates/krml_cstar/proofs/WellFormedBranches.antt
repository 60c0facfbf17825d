-- The code of branches, blocks and loops is well formed, where that of their parts is.
use Rattle.std.proofs.Common.{◌≡◌, ℕ, ◌+◌, ◌<◌, ◌≤◌, ◌^◌, Bool, true, false, if◌then◌else◌, List, [], ◌∷◌, ◌++◌, Contains, refl, sym, ◌∙◌, subst, arith}
use Rattle.krml_trace.specs.declared.width.Width.TheVariants.{W8, W32}
use Rattle.krml_syntax.specs.declared.tree.Ty.{Ty}
use Rattle.krml_syntax.specs.declared.tree.Ty.TheVariants as t
use Rattle.krml_ast.specs.FileTypes as file
use Rattle.krml_syntax.specs.Types.{erased, u32}
use Rattle.krml_ast.specs.Typing.{Vars}
use Rattle.krml_ctree.specs.declared.tree.CType.{CType}
use Rattle.krml_ctree.specs.declared.tree.CType.TheVariants as ct
use Rattle.krml_ctree.specs.declared.tree.CVar.{CVar}
use Rattle.krml_ctree.specs.declared.tree.CBin.TheVariants as cop
use Rattle.krml_ctree.specs.declared.tree.CmpKind.TheVariants as ck
use Rattle.krml_ctree.specs.declared.tree.CExpr.TheVariants as c
use Rattle.krml_ctree.specs.declared.tree.CStatement.{CStatement}
use Rattle.krml_ctree.specs.declared.tree.CStatement.TheVariants as st
use Rattle.krml_ctree.specs.declared.tree.CProgram.{CProgram}
use Rattle.krml_ctree.specs.Shape.{ExprKeeps}
use Rattle.krml_ctree.specs.WellFormed.{Scope, of_var, IsArithmetic, IsPlainOperator, HasType}
use Rattle.krml_syntax.proofs.Types.{erased_unit, erased_int}
use Rattle.krml_cstar.specs.Types.{ctype, is_unit}
use Rattle.krml_cstar.specs.Variables.{plain, named, var, Known, KnownVars}
use Rattle.krml_cstar.specs.Translation.{Out, Comp, nothing, does, arm, into, stepped, if_unit, if_value, choice, ItemComp, bound, done, items, block, while, for}
use Rattle.krml_cstar.proofs.VariableNames.{number-named, number-plain}
use Rattle.krml_cstar.proofs.WellFormedNames.{plain_is, named_is}
use Rattle.krml_cstar.proofs.WellFormedCode.{Within, newest, before, typed_on, TypeFits, Laid, laid_none, laid_then, laid_decl, laid_blank, laid_set, laid_chain, laid_loop}
use Rattle.krml_cstar.proofs.WellFormedNumbers.{nothing_keeps, literal_keeps, width_fits}
use Rattle.krml_cstar.proofs.WellFormedForms.{unit_fits, as_u32, as_bool}
use Rattle.krml_cstar.proofs.WellFormedPlaces.{InScope, Scoped, scoped_on, scoped_values, Placed, Places, behind, ItemsPlace}
use Rattle.krml_cstar.proofs.TypesInC.{ctype_int, ctype_same, unit_is_unit, bool_is_value, unit_erased, int_is_value}

module _ (p : CProgram) where
  -- ---- branches

  -- statements that give nothing
  nothing_placed : (a b : Ty) (n m : ℕ) (g h : Scope) (code : List CStatement) → is_unit a ≡ true → erased b ≡ a → TypeFits p (ctype a) → Laid p n m g code h
      → Placed p a n g (record { code = code; value = nothing; ty = b; next = m })
  nothing_placed a b n m g h code none ty fits laid = record { after = h; laid = laid; keeps = nothing_keeps; ty = ty; fits = fits; typed = λ nu. absurd (cc) }

  if_unit_placed : (vars : Vars) (a : Ty) (ct ca cb : Comp) → is_unit a ≡ true → Places p vars t.Bool ct → Places p vars a ca → Places p vars a cb → (names : KnownVars) (n : ℕ) (g : Scope)
      → (if_unit ct ca cb names n).next ≤ 2 ^ 64 → Scoped p g names vars → Placed p a n g (if_unit ct ca cb names n)
  if_unit_placed vars a ct ca cb none ht ha hb names n g small s =
      let ot = ct.run names n in
      let oa = ca.run names ot.next in
      let ob = cb.run names oa.next in
      let ga = ha.grows names ot.next in
      let gb = hb.grows names oa.next in
      let pt = ht.placed names n g (omega (arith, ga, gb, small)) s in
      let s' = scoped_on p g pt.after pt.laid.more names vars s in
      let pa = ha.placed names ot.next pt.after (omega (arith, gb, small)) s' in
      let pb = hb.placed names oa.next pt.after small s' in
      let chain : CStatement = st.Chain (arm ot.value oa.code ∷ []) ob.code in
      nothing_placed a oa.ty n ob.next g pt.after (ot.code ++ chain ∷ []) none pa.ty pa.fits
      (laid_then p n ot.next ob.next g pt.after pt.after ot.code (chain ∷ []) pt.laid
      (laid_chain p ot.next oa.next ob.next pt.after pa.after pb.after ot.value oa.code ob.code pt.keeps (as_bool p pt.after ot.value (pt.typed bool_is_value)) pa.laid pb.laid))

  -- a branch, which sets the variable of the result to its value
  into_laid : (a : Ty) (ty : CType) (r n : ℕ) (g : Scope) (o : Out) → ctype a ≡ ty → is_unit a ≡ false → r < 2 ^ 64 → Contains g (of_var (var r ty)) → (po : Placed p a n g o)
      → Laid p n o.next g (into r o) po.after
  into_laid a ty r n g o e value small there po =
      laid_then p n o.next o.next g po.after po.after o.code (st.Set (plain r) o.value ∷ []) po.laid
      (laid_set p o.next po.after (var r ty) o.value (plain_is r small) (po.laid.more (of_var (var r ty)) there) po.keeps (subst (HasType p po.after o.value) e (po.typed value)))

  if_value_placed : (vars : Vars) (a : Ty) (ct ca cb : Comp) → is_unit a ≡ false → Places p vars t.Bool ct → Places p vars a ca → Places p vars a cb → (names : KnownVars) (n : ℕ) (g : Scope)
      → (if_value ct ca cb names n).next ≤ 2 ^ 64 → Scoped p g names vars → Placed p a n g (if_value ct ca cb names n)
  if_value_placed vars a ct ca cb value ht ha hb names n g small s =
      let ot = ct.run names n in
      let r = ot.next in
      let oa = ca.run names (r + 1) in
      let ob = cb.run names oa.next in
      let ga = ha.grows names (r + 1) in
      let gb = hb.grows names oa.next in
      let small_r : r < 2 ^ 64 = omega (arith, ga, gb, small) in
      let pt = ht.placed names n g (omega (arith, small_r)) s in
      let ty = ctype oa.ty in
      let v = var r ty in
      let h : Scope = of_var v ∷ pt.after in
      let wide : Within g h = λ w k. before (of_var v) pt.after w (pt.laid.more w k) in
      let s' = scoped_on p g h wide names vars s in
      let pa = ha.placed names (r + 1) h (omega (arith, gb, small)) s' in
      let pb = hb.placed names oa.next h small s' in
      let e : ctype a ≡ ty = sym (ctype_same oa.ty a pa.ty) in
      let blank : CStatement = st.Blank v in
      let chain : CStatement = st.Chain (arm ot.value (into r oa) ∷ []) (into r ob) in
      let there = newest (of_var v) pt.after in
      let test = as_bool p h ot.value (typed_on p pt.after h (before (of_var v) pt.after) ot.value (ctype t.Bool) (pt.typed bool_is_value)) in
      let laid : Laid p n ob.next g (ot.code ++ blank ∷ chain ∷ []) h =
      laid_then p n r ob.next g pt.after h ot.code (blank ∷ chain ∷ []) pt.laid
      (laid_then p r (r + 1) ob.next pt.after h h (blank ∷ []) (chain ∷ []) (laid_blank p r pt.after ty small_r (subst (TypeFits p) e pa.fits))
      (laid_chain p (r + 1) oa.next ob.next h pa.after pb.after ot.value (into r oa) (into r ob) pt.keeps test
      (into_laid a ty r (r + 1) h oa e value small_r there pa) (into_laid a ty r oa.next h ob e value small_r there pb))) in
      record {
        after = h;
        laid = laid;
        keeps = ExprKeeps.var (plain_is r small_r);
        ty = pa.ty;
        fits = pa.fits;
        typed = λ nu. subst (HasType p h (c.Var (plain r))) (sym e) (HasType.var (of_var v) there);
      }

  pub choice_placed : (vars : Vars) (a : Ty) (ct ca cb : Comp) → Places p vars t.Bool ct → Places p vars a ca → Places p vars a cb → Places p vars a (choice ct ca cb)
  choice_placed vars a ct ca cb ht ha hb = record {
    unit = ha.unit;
    grows = λ names n. grown names n ca.unit;
    placed = λ names n g small s. at names n g ca.unit (ha.unit (scoped_values p g names vars s)) small s;
  }
    where
      grown : (names : KnownVars) (n : ℕ) (b : Bool) → n ≤ (if b then if_unit ct ca cb names n else if_value ct ca cb names n).next
      grown names n true =
          let ot = ct.run names n in
          let gt = ht.grows names n in
          let ga = ha.grows names ot.next in
          let gb = hb.grows names (ca.run names ot.next).next in omega (arith, gt, ga, gb)
      grown names n false =
          let ot = ct.run names n in
          let gt = ht.grows names n in
          let ga = ha.grows names (ot.next + 1) in
          let gb = hb.grows names (ca.run names (ot.next + 1)).next in omega (arith, gt, ga, gb)

      at : (names : KnownVars) (n : ℕ) (g : Scope) (b : Bool) → b ≡ is_unit a → (if b then if_unit ct ca cb names n else if_value ct ca cb names n).next ≤ 2 ^ 64 → Scoped p g names vars
          → Placed p a n g (if b then if_unit ct ca cb names n else if_value ct ca cb names n)
      at names n g true e small s = if_unit_placed vars a ct ca cb (sym e) ht ha hb names n g small s
      at names n g false e small s = if_value_placed vars a ct ca cb (sym e) ht ha hb names n g small s

  -- ---- blocks

  pub no_items_place : (vars : Vars) → ItemsPlace p vars vars (items [])
  no_items_place vars = record {
    values = λ vs. vs;
    grows = λ names n. omega arith;
    placed = λ names n g small s. record { after = g; laid = laid_none p n g; scoped = s };
  }

  pub bound_place : (vars more : Vars) (x : List ℕ) (a : Ty) (e : Comp) (is : List ItemComp) → file.IsVariable x → is_unit a ≡ false → TypeFits p (ctype a) → Places p vars (erased a) e
      → ItemsPlace p ((x, erased a) ∷ vars) more (items is) → ItemsPlace p vars more (items (bound x a e ∷ is))
  bound_place vars more x a e is name value fits he his = record {
    values = λ vs. his.values (is_value, vs);
    grows = λ names n.
        let o = e.run names n in
        let ge = he.grows names n in
        let gs = his.grows (known names n ∷ names) (o.next + 1) in omega (arith, ge, gs);
    placed = λ names n g small s.
        let o = e.run names n in
        let k = known names n in
        let gs = his.grows (k ∷ names) (o.next + 1) in
        let small_o : o.next < 2 ^ 64 = omega (arith, gs, small) in
        let po = he.placed names n g (omega (arith, small_o)) s in
        let v : CVar = record { ty = ctype a; name = named o.next x } in
        let h : Scope = of_var v ∷ po.after in
        let wide : Within g h = λ w q. before (of_var v) po.after w (po.laid.more w q) in
        let typed = subst (HasType p po.after o.value) (sym same_type) (po.typed is_value) in
        let decl : Laid p o.next (o.next + 1) po.after (st.Decl v o.value ∷ []) h =
        laid_decl p o.next po.after v o.value (number-named o.next x small_o) (named_is o.next x small_o name) fits po.keeps typed in
        let entry : InScope p h k x (erased a) = record {
          name = refl;
          ty = refl;
          value = is_value;
          fits = subst (TypeFits p) same_type fits;
          shape = named_is o.next x small_o name;
          there = subst (λ z. Contains h (of_var (record { ty = z; name = named o.next x }))) same_type (newest (of_var v) po.after);
        } in
        let ps = his.placed (k ∷ names) (o.next + 1) h small (entry, scoped_on p g h wide names vars s) in
        let os = items is (k ∷ names) (o.next + 1) in
        let first = laid_then p n o.next (o.next + 1) g po.after h o.code (st.Decl v o.value ∷ []) po.laid decl in
        record { after = ps.after; laid = laid_then p n (o.next + 1) os.next g h ps.after (o.code ++ st.Decl v o.value ∷ []) os.code first ps.laid; scoped = ps.scoped };
  }
    where
      is_value : is_unit (erased a) ≡ false
      is_value = unit_erased a ∙ value

      same_type : ctype a ≡ ctype (erased a)
      same_type = ctype_same a (erased a) refl

      known : KnownVars → ℕ → Known
      known names n = record { name = x; emitted = named (e.run names n).next x; ty = a }

  pub ran_place : (vars more : Vars) (e : Comp) (is : List ItemComp) → Places p vars t.Unit e → ItemsPlace p vars more (items is) → ItemsPlace p vars more (items (done e ∷ is))
  ran_place vars more e is he his = record {
    values = his.values;
    grows = λ names n.
        let ge = he.grows names n in
        let gs = his.grows names (e.run names n).next in omega (arith, ge, gs);
    placed = λ names n g small s.
        let o = e.run names n in
        let gs = his.grows names o.next in
        let po = he.placed names n g (omega (arith, gs, small)) s in
        let ps = his.placed names o.next po.after small (scoped_on p g po.after po.laid.more names vars s) in
        let os = items is names o.next in
        record { after = ps.after; laid = laid_then p n o.next os.next g po.after ps.after o.code os.code po.laid ps.laid; scoped = ps.scoped };
  }

  pub block_placed : (vars more : Vars) (a : Ty) (is : List ItemComp) (e : Comp) → ItemsPlace p vars more (items is) → Places p more a e → Places p vars a (block is e)
  block_placed vars more a is e his he = record {
    unit = λ vs. he.unit (his.values vs);
    grows = λ names n.
        let oi = items is names n in
        let gi = his.grows names n in
        let ge = he.grows oi.names oi.next in omega (arith, gi, ge);
    placed = λ names n g small s.
        let oi = items is names n in
        let ge = he.grows oi.names oi.next in
        let pi = his.placed names n g (omega (arith, ge, small)) s in
        behind p a n oi.next g pi.after oi.code (e.run oi.names oi.next) pi.laid (he.placed oi.names oi.next pi.after small pi.scoped);
  }

  -- ---- loops

  pub while_placed : (vars : Vars) (ct ca : Comp) → Places p vars t.Bool ct → Places p vars t.Unit ca → Places p vars t.Unit (does (while ct ca))
  while_placed vars ct ca ht ha = record {
    unit = λ vs. sym unit_is_unit;
    grows = λ names n.
        let gt = ht.grows names n in
        let ga = ha.grows names (ct.run names n).next in omega (arith, gt, ga);
    placed = λ names n g small s.
        let ot = ct.run names n in
        let oa = ca.run names ot.next in
        let ga = ha.grows names ot.next in
        let pt = ht.placed names n g (omega (arith, ga, small)) s in
        let pa = ha.placed names ot.next pt.after small (scoped_on p g pt.after pt.laid.more names vars s) in
        nothing_placed t.Unit t.Unit n oa.next g g (st.Loop ot.code ot.value oa.code ∷ []) unit_is_unit erased_unit (unit_fits p)
        (laid_loop p n ot.next oa.next g pt.after pa.after ot.code ot.value oa.code pt.laid pt.keeps (as_bool p pt.after ot.value (pt.typed bool_is_value)) pa.laid);
  }

  pub for_placed : (vars : Vars) (x : List ℕ) (ca cb ce : Comp) → file.IsVariable x → Places p vars u32 ca → Places p vars u32 cb → Places p ((x, u32) ∷ vars) t.Unit ce
      → Places p vars t.Unit (does (for x ca cb ce))
  for_placed vars x ca cb ce name ha hb he = record {
    unit = λ vs. sym unit_is_unit;
    grows = λ names n.
        let oa = ca.run names n in
        let i = (cb.run names oa.next).next in
        let ga = ha.grows names n in
        let gb = hb.grows names oa.next in
        let ge = he.grows (known i ∷ names) (i + 2) in omega (arith, ga, gb, ge);
    placed = λ names n g small s.
        let oa = ca.run names n in
        let ob = cb.run names oa.next in
        let i = ob.next in
        let k = known i in
        let oe = ce.run (k ∷ names) (i + 2) in
        let gb = hb.grows names oa.next in
        let ge = he.grows (k ∷ names) (i + 2) in
        let lt : i < 2 ^ 64 = omega (arith, ge, small) in
        let lt' : i + 1 < 2 ^ 64 = omega (arith, ge, small) in
        let pa = ha.placed names n g (omega (arith, gb, lt)) s in
        let pb = hb.placed names oa.next pa.after (omega (arith, lt)) (scoped_on p g pa.after pa.laid.more names vars s) in
        let v : CVar = record { ty = ct.U32; name = named i x } in
        let u : CVar = var (i + 1) ct.U32 in
        let h : Scope = of_var v ∷ pb.after in
        let j : Scope = of_var u ∷ h in
        let shape = named_is i x lt name in
        let from : HasType p pb.after oa.value ct.U32 = as_u32 p pb.after oa.value (typed_on p pa.after pb.after pb.laid.more oa.value (ctype u32) (pa.typed u32_value)) in
        let to : HasType p h ob.value ct.U32 = as_u32 p h ob.value (typed_on p pb.after h (before (of_var v) pb.after) ob.value (ctype u32) (pb.typed u32_value)) in
        let start : Laid p i (i + 1) pb.after (st.Decl v oa.value ∷ []) h = laid_decl p i pb.after v oa.value (number-named i x lt) shape (width_fits p W32) pa.keeps from in
        let end : Laid p (i + 1) (i + 1 + 1) h (st.Decl u ob.value ∷ []) j = laid_decl p (i + 1) h u ob.value (number-plain (i + 1) lt') (plain_is (i + 1) lt') (width_fits p W32) pb.keeps to in
        let wide : Within g j = λ w q. before (of_var u) h w (before (of_var v) pb.after w (pb.laid.more w (pa.laid.more w q))) in
        let v_there : Contains j (of_var v) = before (of_var u) h (of_var v) (newest (of_var v) pb.after) in
        let u_there : Contains j (of_var u) = newest (of_var u) h in
        let entry : InScope p j k x u32 = record {
          name = refl;
          ty = u32_erased;
          value = u32_value;
          fits = subst (TypeFits p) (sym u32_ctype) (width_fits p W32);
          shape = shape;
          there = subst (λ z. Contains j (of_var (record { ty = z; name = named i x }))) (sym u32_ctype) v_there;
        } in
        let pe = he.placed (k ∷ names) (i + 2) j small (entry, scoped_on p g j wide names vars s) in
        let test = c.Cmp W8 ck.Lt (c.Var (named i x)) (c.Var (plain (i + 1))) in
        let body = oe.code ++ stepped (named i x) ∷ [] in
        let v_late = pe.laid.more (of_var v) v_there in
        let step : Laid p oe.next oe.next pe.after (stepped (named i x) ∷ []) pe.after =
        laid_set p oe.next pe.after v (c.Bin cop.Add (c.Var (named i x)) (c.Lit W32 1)) shape v_late (ExprKeeps.bin (ExprKeeps.var shape) (literal_keeps W32 1 (omega arith)))
        (HasType.bin IsPlainOperator.add IsArithmetic.short (HasType.var (of_var v) v_late) (HasType.lit W32 1)) in
        let loop : Laid p (i + 2) oe.next j (st.Loop [] test body ∷ []) j =
        laid_loop p (i + 2) (i + 2) oe.next j j pe.after [] test body (laid_none p (i + 2) j) (ExprKeeps.cmp (ExprKeeps.var shape) (ExprKeeps.var (plain_is (i + 1) lt')))
        (HasType.cmp W8 ct.U32 IsArithmetic.short (HasType.var (of_var v) v_there) (HasType.var (of_var u) u_there))
        (laid_then p (i + 2) oe.next oe.next j pe.after pe.after oe.code (stepped (named i x) ∷ []) pe.laid step) in
        let two : i + 1 + 1 ≡ i + 2 = omega arith in
        let end' : Laid p (i + 1) (i + 2) h (st.Decl u ob.value ∷ []) j = subst (λ m. Laid p (i + 1) m h (st.Decl u ob.value ∷ []) j) two end in
        let both = laid_then p n oa.next i g pa.after pb.after oa.code ob.code pa.laid pb.laid in
        let tail_of : Laid p i oe.next pb.after (st.Decl v oa.value ∷ st.Decl u ob.value ∷ st.Loop [] test body ∷ []) j =
        laid_then p i (i + 1) oe.next pb.after h j (st.Decl v oa.value ∷ []) (st.Decl u ob.value ∷ st.Loop [] test body ∷ []) start
        (laid_then p (i + 1) (i + 2) oe.next h j j (st.Decl u ob.value ∷ []) (st.Loop [] test body ∷ []) end' loop) in
        nothing_placed t.Unit t.Unit n oe.next g j _ unit_is_unit erased_unit (unit_fits p)
        (laid_then p n i oe.next g pb.after j (oa.code ++ ob.code) (st.Decl v oa.value ∷ st.Decl u ob.value ∷ st.Loop [] test body ∷ []) both tail_of);
  }
    where
      known : ℕ → Known
      known i = record { name = x; emitted = named i x; ty = u32 }

      u32_value : is_unit u32 ≡ false
      u32_value = int_is_value _

      u32_ctype : ctype u32 ≡ ct.U32
      u32_ctype = ctype_int _

      u32_erased : erased u32 ≡ u32
      u32_erased = erased_int _
