-- The code of structs, tables and calls is well formed, where that of their parts is.
use Rattle.std.proofs.Common.{◌≡◌, ℕ, suc, ◌+◌, ◌<◌, ◌^◌, Bool, true, false, if◌then◌else◌, List, [], ◌∷◌, map, Contains, Some, None, refl, sym, ap, ◌∙◌, subst, arith}
use Rattle.std.proofs.lemmas.Slice.Eq.{bytes_eq-Decides}
use Rattle.std.specs.Option.{option_or}
use Rattle.std.specs.List.{AllByRecursion}
use Rattle.std.specs.Str.{bytes_eq}
use Rattle.krml_syntax.specs.declared.tree.IntTy.{IntTy}
use Rattle.krml_syntax.specs.declared.tree.Ty.{Ty, out-Ty}
use Rattle.krml_syntax.specs.declared.tree.Ty.TheVariants as t
use Rattle.krml_syntax.specs.declared.tree.Field.{Field}
use Rattle.krml_syntax.specs.declared.tree.Def.{Def}
use Rattle.krml_ast.specs.Names.{Signature, Struct, type_named, struct_named, table_named, fun_named, field_named}
use Rattle.krml_syntax.specs.Types.{public, erased, int_ty, u32}
use Rattle.krml_ast.specs.Typing.{Vars, at, fields_at}
use Rattle.krml_ctree.specs.declared.tree.CType.{CType}
use Rattle.krml_ctree.specs.declared.tree.CType.TheVariants as ct
use Rattle.krml_ctree.specs.declared.tree.CVar.{CVar}
use Rattle.krml_ctree.specs.declared.tree.CExpr.{CExpr}
use Rattle.krml_ctree.specs.declared.tree.CExpr.TheVariants as c
use Rattle.krml_ctree.specs.declared.tree.CStatement.TheVariants as st
use Rattle.krml_ctree.specs.declared.tree.CProgram.{CProgram}
use Rattle.krml_ctree.specs.Text.{width_type}
use Rattle.krml_ctree.specs.Shape.{IsTable, IsField, IsFunction, IsPlain, TypeKeeps, ExprKeeps, ExprsKeep}
use Rattle.krml_ctree.specs.WellFormed.{Scope, of_var, IsKnown, HasType, HaveTypes}
use Rattle.krml_meaning.proofs.Lists.{same_some, no_some}
use Rattle.krml_syntax.proofs.Types.{erased_int, erased_named}
use Rattle.krml_cstar.specs.Types.{ctype, is_unit}
use Rattle.krml_cstar.specs.Variables.{plain, var}
use Rattle.krml_cstar.specs.Translation.{Comp, gives, does, value, operand, built, got, field_type, type_or_unit, looked_up, table_type, result_of, ran, called, call, params_from, cvars}
use Rattle.krml_cstar.specs.Translation as tr
use Rattle.krml_cstar.proofs.Lookups.{fields_of}
use Rattle.krml_cstar.proofs.WellFormedNames.{plain_is}
use Rattle.krml_cstar.proofs.WellFormedCode.{newest, typed_on, TypeFits, Laid, laid_none, laid_then, laid_tab, laid_call, laid_run}
use Rattle.krml_cstar.proofs.WellFormedNumbers.{nothing_keeps, width_fits}
use Rattle.krml_cstar.proofs.WellFormedForms.{int_fits, as_u32, Unary, operand_placed}
use Rattle.krml_cstar.proofs.WellFormedPlaces.{PartFits, FieldFits, HasStruct, HasTable, HasFunction, Holds, scoped_on, Places, value_placed, PlacesAll}
use Rattle.krml_cstar.proofs.TypesInC.{ctype_int, ctype_named, ctype_erased, ctype_same, int_is_value, named_is_value, unit_erased, named_out}

-- ---- the C types of fields and parameters

abbrev types_of : List Field → List CType
types_of fields = map (λ f. ctype f.ty) fields

fields_types : (fields : List Field) → map (λ v. v.ty) (fields_of fields) ≡ types_of fields
fields_types [] = refl
fields_types (f ∷ fields) = ap (λ z. ctype f.ty ∷ z) (fields_types fields)

params_types : (k : ℕ) (params : List Field) → map (λ v. v.ty) (cvars (params_from k params)) ≡ types_of params
params_types k [] = refl
params_types k (f ∷ params) = ap (λ z. ctype f.ty ∷ z) (params_types (suc k) params)

module _ (p : CProgram) where
  closed_types : (args : List Ty) (fields : List Field) → AllByRecursion (λ f. PartFits p f.ty) fields → types_of fields ≡ map ctype (fields_at [] args fields)
  closed_types args [] h = refl
  closed_types args (f ∷ fields) h =
      let same : ctype f.ty ≡ ctype (at [] args f.ty) = sym (ctype_erased f.ty) ∙ ap ctype (sym (h.0.closed args)) in
      ap (λ z. z ∷ types_of fields) same ∙ ap (λ z. ctype (at [] args f.ty) ∷ z) (closed_types args fields h.1)

  pub parts_of : (fields : List Field) → AllByRecursion (FieldFits p) fields → AllByRecursion (λ f. PartFits p f.ty) fields
  parts_of [] h = tt
  parts_of (f ∷ fields) h = (h.0.part, parts_of fields h.1)

  -- ---- lists

  -- all of these types have values
  abbrev pub AreValues : List Ty → Type 0
  AreValues types = AllByRecursion (λ a. is_unit a ≡ false) types

  pub closed_values : (args : List Ty) (fields : List Field) → AllByRecursion (λ f. PartFits p f.ty) fields → AreValues (fields_at [] args fields)
  closed_values args [] h = tt
  closed_values args (f ∷ fields) h = (ap is_unit (h.0.closed args) ∙ unit_erased f.ty ∙ h.0.value, closed_values args fields h.1)

  pub none_placed : (vars : Vars) → PlacesAll p vars [] []
  none_placed vars = record {
    grows = λ names n. omega arith;
    placed = λ names n g small s. record { after = g; laid = laid_none p n g; keep = ExprsKeep.no_expr; typed = λ vs e. none g vs e };
  }
    where
      none : (g : Scope) (vs : List CVar) → map (λ v. v.ty) vs ≡ [] → HaveTypes p g [] vs
      none g [] e = HaveTypes.no_value
      none g (v ∷ vs) e = absurd (cc)

  pub one_placed : (vars : Vars) (a : Ty) (types : List Ty) (co : Comp) (cs : List Comp) → is_unit a ≡ false → Places p vars a co → PlacesAll p vars types cs → PlacesAll p vars (a ∷ types) (co ∷ cs)
  one_placed vars a types co cs is ha hs = record {
    grows = λ names n.
        let ga = ha.grows names n in
        let gs = hs.grows names (co.run names n).next in omega (arith, ga, gs);
    placed = λ names n g small s.
        let o = co.run names n in
        let os = tr.all cs names o.next in
        let gs = hs.grows names o.next in
        let pa = ha.placed names n g (omega (arith, gs, small)) s in
        let ps = hs.placed names o.next pa.after small (scoped_on p g pa.after pa.laid.more names vars s) in
        record {
          after = ps.after;
          laid = laid_then p n o.next os.next g pa.after ps.after o.code os.code pa.laid ps.laid;
          keep = ExprsKeep.one_expr pa.keeps ps.keep;
          typed = λ vs e. both ps.after o.value os.values (typed_on p pa.after ps.after ps.laid.more o.value (ctype a) (pa.typed is)) ps.typed vs e;
        };
  }
    where
      both : (g : Scope) (x : CExpr) (xs : List CExpr) → HasType p g x (ctype a) → ((vs : List CVar) → map (λ v. v.ty) vs ≡ map ctype types → HaveTypes p g xs vs)
          → (vs : List CVar) → map (λ v. v.ty) vs ≡ ctype a ∷ map ctype types → HaveTypes p g (x ∷ xs) vs
      both g x xs h later [] e = absurd (cc)
      both g x xs h later (v ∷ vs) e =
          let here : ctype a ≡ v.ty = cc in
          let rest : map (λ w. w.ty) vs ≡ map ctype types = cc in
          HaveTypes.one_value (subst (HasType p g x) here h) (later vs rest)

  -- ---- structs

  pub make_placed : (vars : Vars) (x : List ℕ) (tvars : List (List ℕ)) (fields : List Field) (cs : List Comp) → HasStruct p x tvars fields → PlacesAll p vars (fields_at [] [] fields) cs
      → Places p vars (t.Named x []) (gives (built x cs))
  make_placed vars x tvars fields cs has hs = record {
    unit = λ vs. sym (named_is_value x []);
    grows = hs.grows;
    placed = λ names n g small s.
        let ps = hs.placed names n g small s in
        let fits : TypeFits p (ctype (t.Named x [])) =
        subst (TypeFits p) (sym (ctype_named x [])) (record { keeps = TypeKeeps.plain (IsPlain.struct has.shape); known = IsKnown.struct _ has.there }) in
        let typed = ps.typed (fields_of fields) (fields_types fields ∙ closed_types [] fields (parts_of fields has.each)) in
        record {
          after = ps.after;
          laid = ps.laid;
          keeps = ExprKeeps.build has.shape ps.keep;
          ty = erased_named x [];
          fits = fits;
          typed = λ nu. subst (HasType p ps.after (c.Build x (tr.all cs names n).values)) (sym (ctype_named x [])) (HasType.build (record { name = x; fields = fields_of fields }) has.there typed);
        };
  }

  -- a field that is found
  record FieldFound (fields : List Field) (y : List ℕ) (b : Ty) : Type 0 where
    there : Contains (fields_of fields) (record { ty = ctype b; name = y })
    part : PartFits p b
    shape : IsField y

  field_found : (fields : List Field) (y : List ℕ) (b : Ty) → AllByRecursion (FieldFits p) fields → field_named fields y ≡ Some b → FieldFound fields y b
  field_found [] y b h e = absurd (no_some b e)
  field_found (f ∷ fields) y b h e = go (bytes_eq f.name y) refl e (field_found fields y b h.1)
    where
      here : CVar
      here = record { ty = ctype f.ty; name = f.name }

      go : (d : Bool) → bytes_eq f.name y ≡ d → option_or (if d then Some f.ty else None) (field_named fields y) ≡ Some b → (field_named fields y ≡ Some b → FieldFound fields y b) → FieldFound (f ∷ fields) y b
      go true q k later =
          let name : f.name ≡ y = (bytes_eq-Decides f.name y).0 q in
          let ty : f.ty ≡ b = same_some f.ty b k in
          record {
            there = subst (λ z. Contains (here ∷ fields_of fields) (record { ty = ctype z; name = y })) ty (subst (λ z. Contains (here ∷ fields_of fields) (record { ty = ctype f.ty; name = z })) name (0, omega arith, refl));
            part = subst (PartFits p) ty h.0.part;
            shape = subst IsField name h.0.shape;
          }
      go false q k later = let l = later k in record { there = (suc l.there.0, let lt = l.there.1 in omega (arith, lt), l.there.2); part = l.part; shape = l.shape }

  module _ (defs : List Def) (holds : Holds p defs) where
    got_fits : (x y : List ℕ) (tvars : List (List ℕ)) (fields : List Field) (args : List Ty) (b : Ty) → type_named defs x ≡ Some (Struct tvars fields) → field_named fields y ≡ Some b
        → Unary p (t.Named x args) (at tvars args b) (got defs y)
    got_fits x y tvars fields args b is there = record {
      grows = λ o names n. omega arith;
      placed = λ o names n g small ty k h.
          let has = holds.struct x tvars fields is in
          let f = field_found fields y b has.each there in
          let out = named_out o.ty x args ty in
          let same : field_type defs y (out-Ty o.ty) ≡ b =
          ap (field_type defs y) out.is ∙ ap (λ z. tr.field_in z y) found ∙ ap type_or_unit there in
          let closed : at tvars args b ≡ erased b = ap (λ vs. at vs args b) has.none ∙ f.part.closed args in
          let a = at tvars args b in
          let c_same : ctype b ≡ ctype a = sym (ctype_erased b) ∙ ap ctype (sym closed) in
          let struct : HasType p g o.value (ct.Struct x) = subst (HasType p g o.value) (ctype_named x args) h in
          value_placed p a (field_type defs y (out-Ty o.ty)) (c.Field o.value y) names n g (ap erased same ∙ sym closed) (subst (TypeFits p) c_same f.part.fits) (ExprKeeps.field k f.shape)
          (λ nu. subst (HasType p g (c.Field o.value y)) c_same (HasType.field (record { name = x; fields = fields_of fields }) (record { ty = ctype b; name = y }) has.there f.there struct));
    }
      where
        found : struct_named defs x ≡ Some (tvars, fields)
        found = rw is refl

    field_value : (x y : List ℕ) (tvars : List (List ℕ)) (fields : List Field) (args : List Ty) (b : Ty) → type_named defs x ≡ Some (Struct tvars fields) → field_named fields y ≡ Some b
        → is_unit (at tvars args b) ≡ false
    field_value x y tvars fields args b is there =
        let has = holds.struct x tvars fields is in
        let f = field_found fields y b has.each there in
        ap is_unit (ap (λ vs. at vs args b) has.none ∙ f.part.closed args) ∙ unit_erased b ∙ f.part.value

    pub get_placed : (vars : Vars) (x y : List ℕ) (tvars : List (List ℕ)) (fields : List Field) (args : List Ty) (b : Ty) (ca : Comp) → type_named defs x ≡ Some (Struct tvars fields)
        → field_named fields y ≡ Some b → Places p vars (t.Named x args) ca → Places p vars (at tvars args b) (gives (operand ca (got defs y)))
    get_placed vars x y tvars fields args b ca is there ha = operand_placed p vars (t.Named x args) (at tvars args b) ca (got defs y) (named_is_value x args)
        (field_value x y tvars fields args b is there) ha (got_fits x y tvars fields args b is there)

    -- ---- tables

    -- the statement of a look-up, with the table's own name and type
    tab_laid : (n : ℕ) (g : Scope) (x : List ℕ) (i : IntTy) (ty : CType) (a : CExpr) → n < 2 ^ 64 → (has : HasTable p x i) → ty ≡ width_type i.width → ExprKeeps a → HasType p g a ct.U32
        → Laid p n (n + 1) g (st.Tab (var n ty) x a ∷ []) (of_var (var n ty) ∷ g)
    tab_laid n g x i ty a small has is k h =
        let table = has.table in
        let same : width_type table.width ≡ ty = ap width_type has.width ∙ sym is in
        let shape : IsTable table.name = subst IsTable (sym has.name) has.shape in
        subst (λ z. Laid p n (n + 1) g (st.Tab (var n z) x a ∷ []) (of_var (var n z) ∷ g)) same
        (subst (λ z. Laid p n (n + 1) g (st.Tab (var n (width_type table.width)) z a ∷ []) (of_var (var n (width_type table.width)) ∷ g)) has.name
        (laid_tab p n g table a small has.there shape (width_fits p table.width) k h))

    tab_fits : (x : List ℕ) (i : IntTy) → table_named defs x ≡ Some i → Unary p u32 (int_ty i) (looked_up defs x)
    tab_fits x i is = record {
      grows = λ o names n. omega arith;
      placed = λ o names n g small ty k h.
          let r = table_type (table_named defs x) in
          let same : r ≡ t.Int i = ap table_type is in
          let v = var n (ctype r) in
          let lt : n < 2 ^ 64 = omega (arith, small) in
          let r_int : erased r ≡ int_ty i = ap erased same ∙ erased_int i in
          let r_type : ctype r ≡ width_type i.width = ap ctype same ∙ ctype_int i in
          record {
            after = of_var v ∷ g;
            laid = tab_laid n g x i (ctype r) o.value lt (holds.table x i is) r_type k (as_u32 p g o.value h);
            keeps = ExprKeeps.var (plain_is n lt);
            ty = r_int;
            fits = int_fits p i;
            typed = λ nu. subst (HasType p (of_var v ∷ g) (c.Var (plain n))) (ctype_same r (int_ty i) r_int) (HasType.var (of_var v) (newest (of_var v) g));
          };
    }

    pub tab_placed : (vars : Vars) (x : List ℕ) (i : IntTy) (ca : Comp) → table_named defs x ≡ Some i → Places p vars u32 ca → Places p vars (int_ty i) (gives (operand ca (looked_up defs x)))
    tab_placed vars x i ca is ha = operand_placed p vars u32 (int_ty i) ca (looked_up defs x) (int_is_value _) (int_is_value (public i)) ha (tab_fits x i is)

    -- ---- calls

    pub call_placed : (vars : Vars) (x : List ℕ) (f : Signature) (cs : List Comp) → fun_named defs x ≡ Some f → PlacesAll p vars (fields_at [] [] f.params) cs
        → Places p vars (at f.vars [] f.result) (call defs x cs)
    call_placed vars x f cs is hs = subst (λ r. Places p vars (at f.vars [] f.result) (if is_unit r then does (ran r x cs) else gives (called r x cs))) (sym (ap result_of is)) (go (is_unit f.result) refl)
      where
        has : HasFunction p x f
        has = holds.function x f is

        r : Ty
        r = at f.vars [] f.result

        closed : erased f.result ≡ r
        closed = sym (ap (λ vs. at vs [] f.result) has.none ∙ has.closed [])

        same : ctype f.result ≡ ctype r
        same = ctype_same f.result r closed

        unit_same : is_unit r ≡ is_unit f.result
        unit_same = ap is_unit (sym closed) ∙ unit_erased f.result

        shape : IsFunction has.fun.name
        shape = subst IsFunction (sym has.name) has.shape

        types : map (λ v. v.ty) has.fun.params ≡ map ctype (fields_at [] [] f.params)
        types = ap (map (λ v. v.ty)) has.params ∙ params_types 0 f.params ∙ closed_types [] f.params has.each

        go : (b : Bool) → is_unit f.result ≡ b → Places p vars r (if b then does (ran f.result x cs) else gives (called f.result x cs))
        go true e = record {
          unit = λ vs. sym (unit_same ∙ e);
          grows = hs.grows;
          placed = λ names n g small s.
              let os = tr.all cs names n in
              let ps = hs.placed names n g small s in
              let none : has.fun.result ≡ None = has.result ∙ ap (λ (b : Bool). if b then None else Some (ctype f.result)) e in
              let run : Laid p os.next os.next ps.after (st.Run x os.values ∷ []) ps.after =
              subst (λ z. Laid p os.next os.next ps.after (st.Run z os.values ∷ []) ps.after) has.name (laid_run p os.next ps.after has.fun os.values has.there shape none ps.keep (ps.typed has.fun.params types)) in
              let nu : is_unit r ≡ true = unit_same ∙ e in
              record {
                after = ps.after;
                laid = laid_then p n os.next os.next g ps.after ps.after os.code (st.Run x os.values ∷ []) ps.laid run;
                keeps = nothing_keeps;
                ty = closed;
                fits = subst (TypeFits p) same has.gives;
                typed = λ no. absurd (cc);
              };
        }
        go false e = record {
          unit = λ vs. sym (unit_same ∙ e);
          grows = λ names n. let gs = hs.grows names n in omega (arith, gs);
          placed = λ names n g small s.
              let os = tr.all cs names n in
              let lt : os.next < 2 ^ 64 = omega (arith, small) in
              let ps = hs.placed names n g (omega (arith, lt)) s in
              let v = var os.next (ctype f.result) in
              let some : has.fun.result ≡ Some (ctype f.result) = has.result ∙ ap (λ (b : Bool). if b then None else Some (ctype f.result)) e in
              let run : Laid p os.next (os.next + 1) ps.after (st.Call v x os.values ∷ []) (of_var v ∷ ps.after) =
              subst (λ z. Laid p os.next (os.next + 1) ps.after (st.Call v z os.values ∷ []) (of_var v ∷ ps.after)) has.name
              (laid_call p os.next ps.after has.fun (ctype f.result) os.values lt has.there shape some has.gives ps.keep (ps.typed has.fun.params types)) in
              record {
                after = of_var v ∷ ps.after;
                laid = laid_then p n os.next (os.next + 1) g ps.after (of_var v ∷ ps.after) os.code (st.Call v x os.values ∷ []) ps.laid run;
                keeps = ExprKeeps.var (plain_is os.next lt);
                ty = closed;
                fits = subst (TypeFits p) same has.gives;
                typed = λ nu. subst (HasType p (of_var v ∷ ps.after) (c.Var (plain os.next))) same (HasType.var (of_var v) (newest (of_var v) ps.after));
              };
        }
