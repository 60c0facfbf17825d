-- The code of an expression is well formed: by recursion on what says that it has its type.
use Rattle.std.proofs.Common.{◌≡◌, ℕ, List, [], ◌∷◌, map, Some, refl, sym, ap, ◌∙◌, subst}
use Rattle.krml_syntax.specs.declared.tree.Ty.{Ty}
use Rattle.krml_syntax.specs.declared.tree.Ty.TheVariants as t
use Rattle.krml_syntax.specs.declared.tree.Field.{Field}
use Rattle.krml_syntax.specs.declared.tree.Item.{Item}
use Rattle.krml_syntax.specs.declared.tree.Item.TheVariants as item
use Rattle.krml_syntax.specs.declared.tree.Expr.{Expr}
use Rattle.krml_syntax.specs.declared.tree.Expr.TheVariants as e
use Rattle.krml_syntax.specs.declared.tree.Expr.TheOpen.{Expr-F}
use Rattle.krml_syntax.specs.declared.tree.Expr.TheFolds.{fold-Item, fold_out-Expr, fold_out-Item}
use Rattle.krml_syntax.specs.declared.tree.Def.{Def}
use Rattle.krml_ast.specs.Names.{Signature, fun_named}
use Rattle.krml_syntax.specs.Shape.{Part}
use Rattle.krml_syntax.specs.Types.{erased, int_ty, u32}
use Rattle.krml_ast.specs.Typing.{Vars, Scope, at, fields_at, HasType, AllHaveType, ItemsLead}
use Rattle.krml_ctree.specs.declared.tree.CProgram.{CProgram}
use Rattle.krml_cstar.specs.Translation.{Comp, ItemComp, gives, built, call, code_step, item_step, code_of, items}
use Rattle.krml_cstar.proofs.WellFormedPlaces.{HasStruct, Holds, Places, PlacesAll, ItemsPlace}
use Rattle.krml_cstar.proofs.BuiltForms.{no_arguments, unbuilt}
use Rattle.krml_cstar.proofs.WellFormedParts.{IsReady, AreReady, parts_ready, for_variable, block_ready, let_ready, run_ready}
use Rattle.krml_cstar.proofs.WellFormedForms.{unit_placed, bool_placed, num_placed, var_placed, bin_placed, shift_placed, cmp_placed, not_placed, cast_placed}
use Rattle.krml_cstar.proofs.WellFormedBranches.{choice_placed, no_items_place, bound_place, ran_place, block_placed, while_placed, for_placed}
use Rattle.krml_cstar.proofs.WellFormedCalls.{AreValues, closed_values, parts_of, none_placed, one_placed, make_placed, get_placed, tab_placed, call_placed}

module _ (p : CProgram) (defs : List Def) (holds : Holds p defs) where
  abbrev item_code : Item → ItemComp
  item_code = fold-Item Comp ItemComp (Unit {0}) (Unit {0}) (code_step defs) item_step (λ x. tt) (λ x. tt)

  -- the code of an expression of a type is well formed
  abbrev Good : Scope → Expr → Ty → Type 0
  Good g x a = Places p g.vars a (code_of defs x)

  -- a call whose type arguments are none
  call_at : (vars : Vars) (x : List ℕ) (f : Signature) (args : List Ty) (es : List Expr) → fun_named defs x ≡ Some f → args ≡ [] → PlacesAll p vars (fields_at [] [] f.params) (map (code_of defs) es)
      → Places p vars (at f.vars args f.result) (call defs x (map (code_of defs) es))
  call_at vars x f args es is none all = subst (λ as'. Places p vars (at f.vars as' f.result) (call defs x (map (code_of defs) es))) (sym none)
      (call_placed p defs holds vars x f (map (code_of defs) es) is all)

  -- a struct whose type arguments are none
  make_at : (vars : Vars) (x : List ℕ) (tvars : List (List ℕ)) (fields : List Field) (args : List Ty) (es : List Expr) → HasStruct p x tvars fields → args ≡ []
      → PlacesAll p vars (fields_at [] [] fields) (map (code_of defs) es) → Places p vars (t.Named x (map erased args)) (gives (built x (map (code_of defs) es)))
  make_at vars x tvars fields args es has none all = subst (λ as'. Places p vars (t.Named x (map erased as')) (gives (built x (map (code_of defs) es)))) (sym none)
      (make_placed p vars x tvars fields (map (code_of defs) es) has all)

  mutual
    pub placed : (g : Scope) (x : Expr) (a : Ty) → HasType defs [] g x a → IsReady x → Good g x a
    placed g x r (HasType.var {x = y} h) pt = rw (fold_out-Expr, e.outs-Var) (var_placed p g.vars y r h)
    placed g x r HasType.unit pt = rw (fold_out-Expr, e.outs-Unit) (unit_placed p g.vars)
    placed g x r (HasType.bool {b = b}) pt = rw (fold_out-Expr, e.outs-Bool) (bool_placed p g.vars b)
    placed g x r (HasType.num {i = i} {n = n} lt) pt = rw (fold_out-Expr, e.outs-Num) (num_placed p g.vars i n lt)
    placed g x r (HasType.bin {op = o} {i = i} {a = a} {b = b} da db) pt =
        let k = parts_ready x (Expr-F.Bin o i a b) (e.outs-Bin o i a b) pt in
        rw (fold_out-Expr, e.outs-Bin) (bin_placed p g.vars o i (code_of defs a) (code_of defs b) (placed g a (int_ty i) da k.0) (placed g b (int_ty i) db k.1.0))
    placed g x r (HasType.shift {left = left} {i = i} {a = a} {n = b} da db) pt =
        let k = parts_ready x (Expr-F.Shift left i a b) (e.outs-Shift left i a b) pt in
        rw (fold_out-Expr, e.outs-Shift) (shift_placed p g.vars left i (code_of defs a) (code_of defs b) (placed g a (int_ty i) da k.0) (placed g b u32 db k.1.0))
    placed g x r (HasType.cmp {op = o} {i = i} {a = a} {b = b} da db) pt =
        let k = parts_ready x (Expr-F.Cmp o i a b) (e.outs-Cmp o i a b) pt in
        rw (fold_out-Expr, e.outs-Cmp) (cmp_placed p g.vars o i (code_of defs a) (code_of defs b) (placed g a (int_ty i) da k.0) (placed g b (int_ty i) db k.1.0))
    placed g x r (HasType.not {a = a} da) pt = rw (fold_out-Expr, e.outs-Not) (not_placed p g.vars (code_of defs a) (placed g a t.Bool da (parts_ready x (Expr-F.Not a) (e.outs-Not a) pt).0))
    placed g x r (HasType.cast {i = i} {j = j} {a = a} da) pt =
        rw (fold_out-Expr, e.outs-Cast) (cast_placed p g.vars i j (code_of defs a) (placed g a (int_ty i) da (parts_ready x (Expr-F.Cast i j a) (e.outs-Cast i j a) pt).0))
    placed g x r (HasType.hide {i = i} {a = a} da) pt = unbuilt x (Expr-F.Hide i a) (e.outs-Hide i a) refl pt.0.built
    placed g x r (HasType.make {x = y} {vars = vars} {fields = fields} {args = args} {es = es} is n oks ds) pt =
        let none = no_arguments x (Expr-F.Make y args es) (e.outs-Make y args es) pt.0.built in
        let has = holds.struct y vars fields is in
        let types : fields_at vars args fields ≡ fields_at [] [] fields = ap (λ vs. fields_at vs args fields) has.none ∙ ap (λ as'. fields_at [] as' fields) none in
        let value = subst (AreValues p) (sym types) (closed_values p [] fields (parts_of p fields has.each)) in
        let all = subst (λ z. PlacesAll p g.vars z (map (code_of defs) es)) types (all_placed g es (fields_at vars args fields) ds (parts_ready x (Expr-F.Make y args es) (e.outs-Make y args es) pt) value) in
        rw (fold_out-Expr, e.outs-Make) (make_at g.vars y vars fields args es has none all)
    placed g x r (HasType.get {x = y} {y = z} {vars = vars} {fields = fields} args {a = a} {b = b} da is there) pt =
        rw (fold_out-Expr, e.outs-Get) (get_placed p defs holds g.vars y z vars fields args b (code_of defs a) is there (placed g a (t.Named y args) da (parts_ready x (Expr-F.Get z a) (e.outs-Get z a) pt).0))
    placed g x r (HasType.con {x = y} {args = args} {es = es} is n oks ds) pt = unbuilt x (Expr-F.Con y args es) (e.outs-Con y args es) refl pt.0.built
    placed g x r (HasType.read {a = a} {i = i} da di) pt = unbuilt x (Expr-F.Read a i) (e.outs-Read a i) refl pt.0.built
    placed g x r (HasType.write {a = a} {i = i} {v = v} da di dv) pt = unbuilt x (Expr-F.Write a i v) (e.outs-Write a i v) refl pt.0.built
    placed g x r (HasType.slice {a = a} {i = i} {n = n} b da di dn) pt = unbuilt x (Expr-F.Slice a i n) (e.outs-Slice a i n) refl pt.0.built
    placed g x r (HasType.tab {x = y} {i = i} {a = a} is da) pt =
        rw (fold_out-Expr, e.outs-Tab) (tab_placed p defs holds g.vars y i (code_of defs a) is (placed g a u32 da (parts_ready x (Expr-F.Tab y a) (e.outs-Tab y a) pt).0))
    placed g x r (HasType.choice {c = c} {a = a} {b = b} dc da db) pt =
        let k = parts_ready x (Expr-F.If c a b) (e.outs-If c a b) pt in
        rw (fold_out-Expr, e.outs-If) (choice_placed p g.vars r (code_of defs c) (code_of defs a) (code_of defs b) (placed g c t.Bool dc k.0) (placed g a r da k.1.0) (placed g b r db k.1.1.0))
    placed g x r (HasType.match {a = a} {x = arm} {xs = arms} da v ds) pt = unbuilt x (Expr-F.Match a (arm ∷ arms)) (e.outs-Match a (arm ∷ arms)) refl pt.0.built
    placed g x r (HasType.block {h = h} {items = is} {a = a} ds da) pt =
        let k = block_ready is a (parts_ready x (Expr-F.Do is a) (e.outs-Do is a) pt) in
        rw (fold_out-Expr, e.outs-Do) (block_placed p g.vars h.vars r (map item_code is) (code_of defs a) (items_placed g is h ds k.0) (placed h a r da k.1))
    placed g x r (HasType.frame {slots = slots} {a = a} da ok) pt = unbuilt x (Expr-F.Frame slots a) (e.outs-Frame slots a) refl pt.0.built
    placed g x r (HasType.alloc {b = b} {n = n} {a = a} fr ty flat some most da) pt = unbuilt x (Expr-F.Alloc b n a) (e.outs-Alloc b n a) refl pt.0.built
    placed g x r (HasType.while {c = c} {a = a} dc da) pt =
        let k = parts_ready x (Expr-F.While c a) (e.outs-While c a) pt in
        rw (fold_out-Expr, e.outs-While) (while_placed p g.vars (code_of defs c) (code_of defs a) (placed _ c t.Bool dc k.0) (placed _ a t.Unit da k.1.0))
    placed g x r (HasType.for {x = y} {a = a} {b = b} {c = c} da db dc) pt =
        let k = parts_ready x (Expr-F.For y a b c) (e.outs-For y a b c) pt in
        rw (fold_out-Expr, e.outs-For) (for_placed p g.vars y (code_of defs a) (code_of defs b) (code_of defs c) (for_variable y a b c pt)
        (placed g a u32 da k.0) (placed g b u32 db k.1.0) (placed _ c t.Unit dc k.1.1.0))
    placed g x r (HasType.call {x = y} {f = f} {args = args} {es = es} is n oks ds) pt =
        let none = no_arguments x (Expr-F.Call y args es) (e.outs-Call y args es) pt.0.built in
        let has = holds.function y f is in
        let types : fields_at f.vars args f.params ≡ fields_at [] [] f.params = ap (λ vs. fields_at vs args f.params) has.none ∙ ap (λ as'. fields_at [] as' f.params) none in
        let value = subst (AreValues p) (sym types) (closed_values p [] f.params has.each) in
        let all = subst (λ z. PlacesAll p g.vars z (map (code_of defs) es)) types (all_placed g es (fields_at f.vars args f.params) ds (parts_ready x (Expr-F.Call y args es) (e.outs-Call y args es) pt) value) in
        rw (fold_out-Expr, e.outs-Call) (call_at g.vars y f args es is none all)
    placed g x r (HasType.cases {x = c} {xs = cs} ds) pt = unbuilt x (Expr-F.Cases (c ∷ cs)) (e.outs-Cases (c ∷ cs)) refl pt.0.built
    placed g x r (HasType.tag_is {x = y} args {a = a} is da) pt = unbuilt x (Expr-F.TagIs y a) (e.outs-TagIs y a) refl pt.0.built
    placed g x r (HasType.part {x = y} {j = j} args {a = a} is da there) pt = unbuilt x (Expr-F.Part y j a) (e.outs-Part y j a) refl pt.0.built
    placed g x r (HasType.fill {k = k} {a = a} fr there da) pt = unbuilt x (Expr-F.Fill k a) (e.outs-Fill k a) refl pt.0.built

    all_placed : (g : Scope) (es : List Expr) (types : List Ty) → AllHaveType defs [] g es types → AreReady (map Part.expr es) → AreValues p types → PlacesAll p g.vars types (map (code_of defs) es)
    all_placed g es types AllHaveType.none pt vs = none_placed p g.vars
    all_placed g es types (AllHaveType.one {a = a} {es = more} {r = r} {rs = rs} da ds) pt vs =
        one_placed p g.vars r rs (code_of defs a) (map (code_of defs) more) vs.0 (placed g a r da pt.0) (all_placed g more rs ds pt.1 vs.1)

    items_placed : (g : Scope) (is : List Item) (h : Scope) → ItemsLead defs [] g is h → AreReady (map Part.item is) → ItemsPlace p g.vars h.vars (items (map item_code is))
    items_placed g is h ItemsLead.no_items pt = no_items_place p g.vars
    items_placed g is h (ItemsLead.bound {x = x} {b = b} {a = a} {items = more} ty value da ds) pt =
        let k = let_ready x b a pt.0 in
        rw (fold_out-Item, item.outs-Let) (bound_place p g.vars h.vars x b (code_of defs a) (map item_code more) k.name value (holds.type_fits b ty k.ty) (placed g a (erased b) da k.value) (items_placed _ more h ds pt.1))
    items_placed g is h (ItemsLead.ran {a = a} {items = more} da ds) pt =
        rw (fold_out-Item, item.outs-Run) (ran_place p g.vars h.vars (code_of defs a) (map item_code more) (placed g a t.Unit da (run_ready a pt.0)) (items_placed g more h ds pt.1))
