-- The labelled type of an expression is the type that the rules give it, when its labels are erased.
use Rattle.std.proofs.Common.{◌≡◌, ℕ, ◌<◌, ◌≤◌, length, slice_index_or, arith, Bool, true, false, List, [], ◌∷◌, ◌++◌, map, slice_get, Option, Some, None, option_map, refl, sym, ap, ◌∙◌, subst, append_assoc, append-nil}
use Rattle.std.specs.Str.{bytes_eq}
use Rattle.std.proofs.lemmas.List.{map-append}
use Rattle.krml_syntax.specs.declared.tree.Ty.{Ty, out-Ty}
use Rattle.krml_syntax.specs.declared.tree.Ty.TheVariants as t
use Rattle.krml_syntax.specs.declared.tree.Pat.{Pat}
use Rattle.krml_syntax.specs.declared.tree.Pat.TheFolds.{fold_out-Pat}
use Rattle.krml_syntax.specs.declared.tree.Pat.TheVariants as p
use Rattle.krml_syntax.specs.declared.tree.Field.{Field}
use Rattle.krml_syntax.specs.declared.tree.Slot.{Slot}
use Rattle.krml_syntax.specs.declared.tree.Arm.{Arm}
use Rattle.krml_syntax.specs.declared.tree.Case.{Case, out-Case}
use Rattle.krml_syntax.specs.declared.tree.Item.{Item}
use Rattle.krml_syntax.specs.declared.tree.Item.TheVariants as item
use Rattle.krml_syntax.specs.declared.tree.Expr.{Expr}
use Rattle.krml_syntax.specs.declared.tree.Expr.TheFolds.{fold_out-Expr, fold_out-Item, fold_out-Case, fold-roll-Arm, fold-roll-Case}
use Rattle.krml_syntax.specs.declared.tree.Expr.TheVariants as e
use Rattle.krml_syntax.specs.declared.tree.Def.{Def}
use Rattle.krml_syntax.specs.Read.{◌>>=◌}
use Rattle.krml_syntax.specs.Types.{erased, element_of}
use Rattle.krml_ast.specs.Typing.{Vars, look, Scope, with_vars, in_frame, Matches, MatchAll, HasType, ArmsHaveType, ItemsLead, CasesHaveType}
use Rattle.krml_ast.specs.Labelled.{hidden, parts_bind, binds, tab_type, fill_type, first_arm, first_case, items_bind, field_type, part_type, labelled_in, arm_labelled, item_binds, case_labelled, vars_of_fields, labelled_type, erased_vars, field_scope, IsTypedIn, IsLabelled}
use Rattle.krml_syntax.proofs.Types.{erased_bool, erased_unit, erased_int, erased_buf, erased_named}
use Rattle.krml_ast.proofs.LabelledTypes.{element_is, field_is, part_is, con_parts_are, make_parts_are}

-- something has a labelled type, which is this one when its labels are erased
abbrev pub Labels : Option Ty → Ty → Type 0
Labels o r = option_map erased o ≡ Some r

labels_then : (o : Option Ty) (f : Ty → Option Ty) (r s : Ty) → Labels o r → ((a : Ty) → erased a ≡ r → Labels (f a) s) → Labels (o >>= f) s
labels_then (Some a) f r s h go = go a (cc)
labels_then None f r s h go = absurd (cc)

-- ---- forms that are looked up, and forms that have several parts or none

pub tab_labelled : (defs : List Def) (x : List ℕ) (a : Expr) (g : Scope) → labelled_in defs (e.Tab x a) g ≡ tab_type defs x
tab_labelled defs x a g = rw (fold_out-Expr, e.outs-Tab) refl

pub no_cases_labelled : (defs : List Def) (cases : List Case) (g : Scope) → length cases < 1 → labelled_in defs (e.Cases cases) g ≡ None
no_cases_labelled defs [] g none = rw (fold_out-Expr, e.outs-Cases) refl
no_cases_labelled defs (c ∷ cases) g none = absurd (omega (arith, none))

-- cases have the type of the first
pub cases_labelled : (defs : List Def) (cases : List Case) (c : Case) (g : Scope) → 1 ≤ length cases → c ≡ slice_index_or cases 0 c
    → labelled_in defs (e.Cases cases) g ≡ labelled_in defs (out-Case c).body g
cases_labelled defs [] c g some is = absurd (omega (arith, some))
cases_labelled defs (x ∷ cases) c g some is = rw (is) (rw (fold_out-Expr, e.outs-Cases, fold_out-Case) refl)

labels_some : (a r : Ty) → erased a ≡ r → Labels (Some a) r
labels_some a r q = ap Some q

-- ---- scopes

-- a scope of labelled types for one of erased types; where it has a frame, that is the frame
pub record Scopes (h g : Scope) : Type 0 where
  pub vars : erased_vars h.vars ≡ g.vars
  pub frame : (slots : List Slot) → h.frame ≡ Some slots → g.frame ≡ Some slots

framed : (h g : Scope) (slots : List Slot) → Scopes h g → Scopes (in_frame slots h) (in_frame slots g)
framed h g slots k = record { vars = k.vars; frame = λ others q. q }

more_vars : (h g : Scope) (newer vars : Vars) → erased_vars newer ≡ vars → Scopes h g → Scopes (with_vars newer h) (with_vars vars g)
more_vars h g newer vars q k = record {
  vars = map-append (λ v. (v.0, erased v.1)) newer h.vars ∙ ap (λ z. z ++ erased_vars h.vars) q ∙ ap (λ z. vars ++ z) k.vars;
  frame = k.frame;
}

look_erased : (vars : Vars) (x : List ℕ) (r : Ty) → look (erased_vars vars) x ≡ Some r → Labels (look vars x) r
look_erased [] x r h = absurd (cc)
look_erased ((y, a) ∷ vars) x r h = go (bytes_eq y x) refl (look_erased vars x r) h
  where
    go : (b : Bool) → bytes_eq y x ≡ b → (look (erased_vars vars) x ≡ Some r → Labels (look vars x) r) → look (erased_vars ((y, a) ∷ vars)) x ≡ Some r
        → Labels (look ((y, a) ∷ vars) x) r
    go true q later k = rw q (subst (λ z. option_map erased (Some a) ≡ z) k (rw q refl))
    go false q later k = rw q (later (subst (λ z. z ≡ Some r) (rw q refl) k))

-- the buffer of a slot of the frame
fill_erased : (frame around : Option (List Slot)) (j : ℕ) (o : Option Ty) (slots : List Slot) (s : Slot) → ((others : List Slot) → frame ≡ Some others → around ≡ Some others)
    → around ≡ Some slots → slice_get slots j ≡ Some s → Labels o (erased s.ty) → Labels (fill_type frame j o) (t.Buf (erased s.ty))
fill_erased (Some others) around j o slots s is in_it s_is h =
    let both : Some others ≡ Some slots = sym (is others refl) ∙ in_it in
    let same : others ≡ slots = cc in
    let there : slice_get others j ≡ Some s = ap (λ z. slice_get z j) same ∙ s_is in
    rw there (labels_some (t.Buf s.ty) (t.Buf (erased s.ty)) (erased_buf s.ty))
fill_erased None around j o slots s is in_it s_is h =
    labels_then o (λ b. Some (t.Buf b)) (erased s.ty) (t.Buf (erased s.ty)) h (λ a q. labels_some (t.Buf a) (t.Buf (erased s.ty)) (erased_buf a ∙ ap t.Buf q))

module _ (defs : List Def) where
  -- ---- patterns

  mutual
    binds_erased : (q : Pat) (a s : Ty) (vars before : Vars) → erased a ≡ s → Matches defs s q vars → erased_vars (binds defs q a before) ≡ vars ++ erased_vars before
    binds_erased q a s vars before h Matches.any = rw (fold_out-Pat, p.outs-Any) refl
    binds_erased q a s vars before h (Matches.bind {x = x}) = rw (fold_out-Pat, p.outs-Bind) (ap (λ z. (x, z) ∷ erased_vars before) h)
    binds_erased q a s vars before h Matches.bool = rw (fold_out-Pat, p.outs-Bool) refl
    binds_erased q a s vars before h (Matches.num l) = rw (fold_out-Pat, p.outs-Num) refl
    binds_erased q a s vars before h (Matches.con {c = c} args {ps = ps} c_is ms) =
        rw (fold_out-Pat, p.outs-Con, c_is) (parts_erased ps _ _ vars before (con_parts_are c args a h) ms)
    binds_erased q a s vars before h (Matches.make {x = x} {tvars = tvars} {fields = fields} args {ps = ps} x_is ms) =
        rw (fold_out-Pat, p.outs-Make, x_is) (parts_erased ps _ _ vars before (make_parts_are x tvars fields args a h) ms)

    parts_erased : (qs : List Pat) (types others : List Ty) (vars before : Vars) → map erased types ≡ others → MatchAll defs others qs vars
        → erased_vars (parts_bind (map (binds defs) qs) types before) ≡ vars ++ erased_vars before
    parts_erased qs types others vars before h MatchAll.none = refl
    parts_erased qs [] others vars before h (MatchAll.one m ms) = absurd (cc)
    parts_erased qs (b ∷ types) others vars before h (MatchAll.one {a = a} {types = rest} {q = q} {ps = ps} {vars = one} {more = more} m ms) =
        let head : erased b ≡ a = cc in
        let tail : map erased types ≡ rest = cc in
        parts_erased ps types rest more (binds defs q b before) tail ms ∙ ap (λ z. more ++ z) (binds_erased q b a one before head m)
        ∙ sym (append_assoc more one (erased_vars before))

  module _ (tvars : List (List ℕ)) where
    -- ---- expressions

    items_erased : (h g m : Scope) (items : List Item) (vars : Vars) → Scopes (with_vars vars h) g → ItemsLead defs tvars g items m
        → Scopes (with_vars (items_bind (map (item_binds defs) items) vars) h) m
    items_erased h g m items vars k ItemsLead.no_items = k
    items_erased h g m items vars k (ItemsLead.bound {x = x} {b = b} {items = rest} ib val da ds) =
        rw (fold_out-Item, item.outs-Let) (items_erased h (with_vars ((x, erased b) ∷ []) g) m rest ((x, b) ∷ vars)
        (record { vars = ap (λ z. (x, erased b) ∷ z) k.vars; frame = k.frame }) ds)
    items_erased h g m items vars k (ItemsLead.ran {items = rest} da ds) = rw (fold_out-Item, item.outs-Run) (items_erased h g m rest vars k ds)

    mutual
      pub labelled_erased : (h g : Scope) → Scopes h g → (x : Expr) (r : Ty) → HasType defs tvars g x r → Labels (labelled_in defs x h) r
      labelled_erased h g k x r (HasType.var {x = y} q) = rw (fold_out-Expr, e.outs-Var) (look_erased h.vars y r (ap (λ z. look z y) k.vars ∙ q))
      labelled_erased h g k x r HasType.unit = rw (fold_out-Expr, e.outs-Unit) (ap Some erased_unit)
      labelled_erased h g k x r HasType.bool = rw (fold_out-Expr, e.outs-Bool) (ap Some erased_bool)
      labelled_erased h g k x r (HasType.num {i = i} l) = rw (fold_out-Expr, e.outs-Num) (ap Some (erased_int i))
      labelled_erased h g k x r (HasType.bin {i = i} da db) = rw (fold_out-Expr, e.outs-Bin) (ap Some (erased_int i))
      labelled_erased h g k x r (HasType.shift {i = i} da dn) = rw (fold_out-Expr, e.outs-Shift) (ap Some (erased_int i))
      labelled_erased h g k x r (HasType.cmp da db) = rw (fold_out-Expr, e.outs-Cmp) (ap Some erased_bool)
      labelled_erased h g k x r (HasType.not da) = rw (fold_out-Expr, e.outs-Not) (ap Some erased_bool)
      labelled_erased h g k x r (HasType.cast {j = j} da) = rw (fold_out-Expr, e.outs-Cast) (ap Some (erased_int j))
      labelled_erased h g k x r (HasType.hide {i = i} da) = rw (fold_out-Expr, e.outs-Hide) (ap Some (erased_int (hidden i)))
      labelled_erased h g k x r (HasType.make {x = y} {args = args} y_is q ok ds) = rw (fold_out-Expr, e.outs-Make) (ap Some (erased_named y args))
      labelled_erased h g k x r (HasType.get {x = y} {y = z} {vars = vars} {fields = fields} args {a = a} {b = b} da y_is z_is) = rw (fold_out-Expr, e.outs-Get)
          (labels_then (labelled_in defs a h) (field_type defs z) (t.Named y args) r (labelled_erased h g k a (t.Named y args) da)
          (λ s q. field_is defs z y vars fields args b s y_is z_is q))
      labelled_erased h g k x r (HasType.con {c = c} {args = args} c_is q ok ds) = rw (fold_out-Expr, e.outs-Con, c_is) (ap Some (erased_named c.sum args))
      labelled_erased h g k x r (HasType.read {a = a} da di) = rw (fold_out-Expr, e.outs-Read)
          (labels_then (labelled_in defs a h) (λ b. element_of (out-Ty b)) (t.Buf r) r (labelled_erased h g k a (t.Buf r) da) (λ s q. element_is s r q))
      labelled_erased h g k x r (HasType.write da di dv) = rw (fold_out-Expr, e.outs-Write) (ap Some erased_unit)
      labelled_erased h g k x r (HasType.slice {a = a} b da di dn) = rw (fold_out-Expr, e.outs-Slice) (labelled_erased h g k a (t.Buf b) da)
      labelled_erased h g k x r (HasType.tab {i = i} i_is da) = rw (fold_out-Expr, e.outs-Tab, i_is) (ap Some (erased_int i))
      labelled_erased h g k x r (HasType.choice {a = a} dc da db) = rw (fold_out-Expr, e.outs-If) (labelled_erased h g k a r da)
      labelled_erased h g k x r (HasType.match {a = a} {s = s} {x = y} {xs = xs} da val ds) = rw (fold_out-Expr, e.outs-Match)
          (labels_then (labelled_in defs a h) (λ b. first_arm (map (arm_labelled defs) (y ∷ xs)) b h) s r (labelled_erased h g k a s da) (λ b q. arm_erased h g k b s q y xs r ds))
      labelled_erased h g k x r (HasType.block {h = m} {items = items} {a = a} lead da) = rw (fold_out-Expr, e.outs-Do)
          (labelled_erased (with_vars (items_bind (map (item_binds defs) items) []) h) m (items_erased h g m items [] k lead) a r da)
      labelled_erased h g k x r (HasType.frame {slots = slots} {a = a} da res) = rw (fold_out-Expr, e.outs-Frame)
          (labelled_erased (in_frame slots h) (in_frame slots g) (framed h g slots k) a r da)
      labelled_erased h g k x r (HasType.alloc {b = b} in_it ib fb ge le da) = rw (fold_out-Expr, e.outs-Alloc) (ap Some (erased_buf b))
      labelled_erased h g k x r (HasType.while dc da) = rw (fold_out-Expr, e.outs-While) (ap Some erased_unit)
      labelled_erased h g k x r (HasType.for da db dc) = rw (fold_out-Expr, e.outs-For) (ap Some erased_unit)
      labelled_erased h g k x r (HasType.call f_is q ok ds) = rw (fold_out-Expr, e.outs-Call, f_is) refl
      labelled_erased h g k x r (HasType.cases {x = y} {xs = xs} ds) = rw (fold_out-Expr, e.outs-Cases) (case_erased h g k y xs r ds)
      labelled_erased h g k x r (HasType.tag_is args c_is da) = rw (fold_out-Expr, e.outs-TagIs) (ap Some erased_bool)
      labelled_erased h g k x r (HasType.part {x = y} {c = c} {j = j} args {a = a} {b = b} c_is da b_is) = rw (fold_out-Expr, e.outs-Part)
          (labels_then (labelled_in defs a h) (part_type defs y j) (t.Named c.sum args) r (labelled_erased h g k a (t.Named c.sum args) da)
          (λ s q. part_is defs y j c args b s c_is b_is q))
      labelled_erased h g k x r (HasType.fill {k = j} {slots = slots} {s = s} {a = a} in_it s_is da) = rw (fold_out-Expr, e.outs-Fill)
          (fill_erased h.frame g.frame j (labelled_in defs a h) slots s k.frame in_it s_is (labelled_erased h g k a (erased s.ty) da))

      arm_erased : (h g : Scope) → Scopes h g → (a s : Ty) → erased a ≡ s → (x : Arm) (xs : List Arm) (r : Ty) → ArmsHaveType defs tvars g s (x ∷ xs) r
          → Labels (first_arm (map (arm_labelled defs) (x ∷ xs)) a h) r
      arm_erased h g k a s q x xs r (ArmsHaveType.an_arm {q = y} {a = b} {vars = vars} m di da ds) =
          rw fold-roll-Arm (labelled_erased (with_vars (binds defs y a []) h) (with_vars vars g)
          (more_vars h g (binds defs y a []) vars (binds_erased y a s vars [] q m ∙ append-nil vars) k) b r da)

      case_erased : (h g : Scope) → Scopes h g → (x : Case) (xs : List Case) (r : Ty) → CasesHaveType defs tvars g (x ∷ xs) r
          → Labels (first_case (map (case_labelled defs) (x ∷ xs)) h) r
      case_erased h g k x xs r (CasesHaveType.a_case {a = a} dt da ds) = rw fold-roll-Case (labelled_erased h g k a r da)

  -- ---- in a scope whose variables are fields

  labels_field : (fields : List Field) (x : Expr) (tvars : List (List ℕ)) (frame : Option (List Slot)) (r : Ty)
      → HasType defs tvars (field_scope fields frame) x r → Labels (labelled_type defs fields x) r
  labels_field fields x tvars frame r d =
      labelled_erased tvars (record { vars = vars_of_fields fields; frame = None }) (field_scope fields frame) (record { vars = refl; frame = λ slots q. absurd (cc) }) x r d

  -- an expression that has a type has a labelled one
  pub labelled_some : (fields : List Field) (x : Expr) → IsTypedIn defs fields x → labelled_type defs fields x ≡ None → ⊥
  labelled_some fields x k none =
      let h : Labels None k.ty = subst (λ o. Labels o k.ty) none (labels_field fields x k.tvars k.frame k.ty k.has) in
      absurd (cc)

  -- which is each type that it has, when its labels are erased
  pub labelled_is : (fields : List Field) (x : Expr) (a : Ty) → labelled_type defs fields x ≡ Some a → IsLabelled defs fields x a
  labelled_is fields x a is tvars frame r d =
      let h : Labels (Some a) r = subst (λ o. Labels o r) is (labels_field fields x tvars frame r d) in
      cc
