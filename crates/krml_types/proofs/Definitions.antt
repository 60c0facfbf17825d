-- A definition is well typed exactly where it is computed to be.
use Rattle.std.proofs.Common.{◌≡◌, ℕ, ◌<◌, ◌^◌, nat_lt, Bool, true, false, not, ◌&&◌, ◌||◌, List, [], ◌∷◌, ◌++◌, inl, inr, Option, Some, None, refl, sym, ap, ◌∙◌, subst, Result, Ok, Err, IfOk}
use Rattle.std.specs.Bool.{Decides}
use Rattle.std.specs.List.{AllByRecursion, Contains, IsDistinct, flat_map}
use Rattle.std.specs.Str.{bytes_eq}
use Rattle.std.proofs.lemmas.Bool.{and_parts, and_from}
use Rattle.std.proofs.lemmas.Slice.Eq.{bytes_eq-Decides}
use Rattle.krml_trace.specs.Width.{bits}
use Rattle.krml_syntax.specs.declared.tree.IntTy.{IntTy}
use Rattle.krml_syntax.specs.declared.tree.Ty.{Ty, out-Ty, roll-Ty, roll-out-Ty}
use Rattle.krml_syntax.specs.declared.tree.Ty.TheOpen.{Ty-F}
use Rattle.krml_syntax.specs.declared.tree.Ty.TheVariants as t
use Rattle.krml_syntax.specs.declared.tree.Field.{Field}
use Rattle.krml_syntax.specs.declared.tree.Con.{Con}
use Rattle.krml_syntax.specs.declared.tree.Expr.{Expr}
use Rattle.krml_syntax.specs.declared.tree.Def.{Def}
use Rattle.krml_syntax.specs.declared.tree.Def.TheVariants as d
use Rattle.krml_ast.specs.Names.{Signature, fun_named, type_named}
use Rattle.krml_syntax.specs.Types.{erased, is_unit_in}
use Rattle.krml_ast.specs.IsType.{IsValue, IsFlat, IsType}
use Rattle.krml_ast.specs.Typing.{IsResult, HasType}
use Rattle.krml_ast.specs.WellTyped.{type_name, con_names, table_name, fun_name, entry_name, AreNew, names_of, IsOutside, IsAnswer, WellTyped}
use Rattle.krml_syntax.proofs.Only.{Only}
use Rattle.krml_ast.specs.declared.kind.NameKind.{NameKind}
use Rattle.krml_ast.specs.declared.kind.NameKind.TheVariants as n
use Rattle.krml_types.specs.Types.{is_flat, is_type_by, are_arguments_by}
use Rattle.krml_types.specs.Parts.{is_value}
use Rattle.krml_types.specs.Expressions.{is_result, type_of}
use Rattle.krml_ast.specs.Places.{is_among, cons_of, names_in}
use Rattle.krml_ast.proofs.Earlier.{Settled}
use Rattle.krml_types.specs.Definitions.{is_fresh, distinct_names, is_given, is_new, all_new, are_fields, are_cons, all_fit, body_scope, is_of, is_body, is_int_in, is_outside_in, are_outside, is_answer_in, no_vars, is_entry, fun_ok, well_typed}
use Rattle.krml_types.proofs.Parts.{value_is, value_again, below, below_again}
use Rattle.krml_types.proofs.Decided.{same_decides, flat_decides, type_by_decides, among_decides_name, known}
use Rattle.krml_types.proofs.Expressions.{unit_is, type_only, type_again}
use Rattle.krml_types.proofs.Earlier.{among_decides, among_flat}

-- ---- tests and what they decide

both_decide : {b c : Bool} {P Q : Type 0} → Decides b P → Decides c Q → Decides (b && c) (P × Q)
both_decide {b = b} {c = c} p q = ((λ h. let both = and_parts b c h in (p.0 both.0, q.0 both.1)), (λ k. and_from b c (p.1 k.0) (q.1 k.1)))

-- the second is known of where the first holds
then_decides : {b c : Bool} {P Q : Type 0} → Decides b P → (P → Decides c Q) → Decides (b && c) (P × Q)
then_decides {b = b} {c = c} p q = ((λ h. let both = and_parts b c h in let k = p.0 both.0 in (k, (q k).0 both.1)), (λ k. and_from b c (p.1 k.0) ((q k.0).1 k.1)))

decides_so : {b : Bool} {P Q : Type 0} → Decides b P → (P → Q) → (Q → P) → Decides b Q
decides_so p to from = ((λ h. to (p.0 h)), (λ k. p.1 (from k)))

not_decides : {b : Bool} {P : Type 0} → Decides b P → Decides (not b) (P → ⊥)
not_decides {b = true} p = ((λ h. absurd (cc)), (λ k. absurd (k (p.0 refl))))
not_decides {b = false} p = ((λ h k. let e = p.1 k in absurd (cc)), (λ k. refl))

off_decides : {b : Bool} {P : Type 0} → Decides b P → Decides (not b) (b ≡ false)
off_decides {b = true} p = ((λ h. absurd (cc)), (λ k. absurd (cc)))
off_decides {b = false} p = ((λ h. refl), (λ k. refl))

all_decide : {A : Type 0} (test : A → Bool) (P : A → Type 0) (all : List A → Bool) → all [] ≡ true → ((x : A) (xs : List A) → all (x ∷ xs) ≡ (test x && all xs))
    → ((x : A) → Decides (test x) (P x)) → (xs : List A) → Decides (all xs) (AllByRecursion P xs)
all_decide test P all none more each [] = ((λ h. tt), (λ k. none))
all_decide test P all none more each (x ∷ xs) =
    subst (λ b. Decides b (P x × AllByRecursion P xs)) (sym (more x xs)) (both_decide (each x) (all_decide test P all none more each xs))

-- ---- names

fresh_decides : (x : List ℕ) (names : List (List ℕ)) → Decides (is_fresh names x) (AllByRecursion (λ y. bytes_eq x y ≡ false) names)
fresh_decides x names = all_decide (λ y. not (bytes_eq x y)) (λ y. bytes_eq x y ≡ false) (λ ys. is_fresh ys x) refl (λ y ys. refl)
    (λ y. off_decides (bytes_eq-Decides x y)) names

pub distinct_decides : (names : List (List ℕ)) → Decides (distinct_names names) (IsDistinct bytes_eq names)
unfolding IsDistinct
distinct_decides [] = ((λ h. tt), (λ k. refl))
distinct_decides (x ∷ names) = both_decide (fresh_decides x names) (distinct_decides names)

among_more : (names more : List (List ℕ)) (x : List ℕ) → is_among (names ++ more) x ≡ (is_among names x || is_among more x)
among_more [] more x = refl
among_more (y ∷ names) more x = rw (among_more names more x) (go (bytes_eq y x))
  where
    go : (b : Bool) → (b || (is_among names x || is_among more x)) ≡ ((b || is_among names x) || is_among more x)
    go true = refl
    go false = refl

given_is : (names : Def → List (List ℕ)) (defs : List Def) (x : List ℕ) → is_given names defs x ≡ is_among (flat_map names defs) x
given_is names [] x = refl
given_is names (def ∷ defs) x = ap (λ b. is_among (names def) x || b) (given_is names defs x) ∙ sym (among_more (names def) (flat_map names defs) x)

new_decides : (kind : NameKind) (before : List Def) (x : List ℕ) → Decides (is_new kind before x) (Contains (flat_map (names_in kind) before) x → ⊥)
new_decides kind before x = not_decides (subst (λ b. Decides b (Contains (flat_map (names_in kind) before) x)) (sym (given_is (names_in kind) before x))
    (among_decides_name (flat_map (names_in kind) before) x))

all_new_decides : (kind : NameKind) (before : List Def) (more : List (List ℕ))
    → Decides (all_new kind before more) (AllByRecursion (λ x. Contains (flat_map (names_in kind) before) x → ⊥) more)
all_new_decides kind before more = all_decide (is_new kind before) (λ x. Contains (flat_map (names_in kind) before) x → ⊥) (all_new kind before) refl (λ x xs. refl) (new_decides kind before) more

-- a definition that gives one name
one_decides : (kind : NameKind) (before : List Def) (x : List ℕ)
    → Decides (is_new kind before x) (IsDistinct bytes_eq (x ∷ []) × AllByRecursion (λ y. Contains (flat_map (names_in kind) before) y → ⊥) (x ∷ []))
unfolding IsDistinct
one_decides kind before x = decides_so (new_decides kind before x) (λ k. ((tt, tt), (k, tt))) (λ k. k.1.0)

-- ---- types

value_decides : (a : Ty) → Decides (is_value a) (IsValue a)
value_decides a = (value_is a, value_again a)

fit_decides : (i : IntTy) (nums : List ℕ) → Decides (all_fit i nums) (AllByRecursion (λ n. n < 2 ^ bits i.width) nums)
fit_decides i nums = all_decide (λ n. nat_lt n (2 ^ bits i.width)) (λ n. n < 2 ^ bits i.width) (all_fit i) refl (λ n ns. refl)
    (λ n. (below n (2 ^ bits i.width), below_again n (2 ^ bits i.width))) nums

-- ---- functions

module _ (defs : List Def) (vars : List (List ℕ)) where
  params_decide : (params : List Field) → Decides (are_fields defs defs vars params) (AllByRecursion (λ p. IsType defs vars p.ty × IsValue p.ty) params)
  params_decide params = all_decide (λ p. is_type_by (type_named defs) (is_flat defs) vars p.ty && is_value p.ty) (λ p. IsType defs vars p.ty × IsValue p.ty) (are_fields defs defs vars) refl (λ p ps. refl)
      (λ p. both_decide (type_by_decides defs vars p.ty) (value_decides p.ty)) params

  result_decides : (a : Ty) → Decides (is_result defs a) (IsResult defs a)
  result_decides a = (only, again)
    where
      only : is_result defs a ≡ true → IsResult defs a
      only h = go (is_unit_in (out-Ty a)) refl h
        where
          go : (b : Bool) → is_unit_in (out-Ty a) ≡ b → (b || is_flat defs a) ≡ true → IsResult defs a
          go true u k = inl (unit_is a u)
          go false u k = inr ((flat_decides defs a).0 k)

      again : IsResult defs a → is_result defs a ≡ true
      again (inl q) = rw (q, t.outs-Unit) refl
      again (inr f) = rw (f.value) ((flat_decides defs a).1 f)

  body_decides : (params : List Field) (result : Ty) (body : Expr)
      → Decides (is_body defs vars params result body) (HasType defs vars (body_scope params) body (erased result))
  body_decides params result body = (go (type_of defs vars body (body_scope params)) (type_only defs vars (known defs vars) body (body_scope params)), again)
    where
      go : (o : Option Ty) → Only (HasType defs vars (body_scope params) body) o → is_of o (erased result) ≡ true → HasType defs vars (body_scope params) body (erased result)
      go (Some a) k h = subst (HasType defs vars (body_scope params) body) ((same_decides a (erased result)).0 h) (k.holds a refl)
      go None k h = absurd (cc)

      again : HasType defs vars (body_scope params) body (erased result) → is_body defs vars params result body ≡ true
      again k = rw (type_again defs vars (known defs vars) (body_scope params) body (erased result) k) ((same_decides (erased result) (erased result)).1 refl)

-- ---- entries

outside_only : (a : Ty) → is_outside_in (out-Ty a) ≡ true → IsOutside a
outside_only a h = subst IsOutside (roll-out-Ty a) (go (out-Ty a) h)
  where
    elem : (b : Ty) → is_int_in (out-Ty b) ≡ true → IsOutside (t.Buf b)
    elem b k = subst (λ z. IsOutside (t.Buf z)) (roll-out-Ty b) (of (out-Ty b) k)
      where
        of : (o : Ty-F Ty) → is_int_in o ≡ true → IsOutside (t.Buf (roll-Ty o))
        of (Ty-F.Int i) k = rw (t.rolls-Int i) (IsOutside.buf i)
        of _ k = absurd (cc)

    go : (o : Ty-F Ty) → is_outside_in o ≡ true → IsOutside (roll-Ty o)
    go Ty-F.Bool k = rw t.rolls-Bool IsOutside.bool
    go (Ty-F.Int i) k = rw (t.rolls-Int i) (IsOutside.int i)
    go (Ty-F.Buf b) k = rw (t.rolls-Buf b) (elem b k)
    go _ k = absurd (cc)

outside_again : (a : Ty) → IsOutside a → is_outside_in (out-Ty a) ≡ true
outside_again a IsOutside.bool = rw t.outs-Bool refl
outside_again a (IsOutside.int i) = rw t.outs-Int refl
outside_again a (IsOutside.buf i) = rw (t.outs-Buf, t.outs-Int) refl

answer_only : (a : Ty) → is_answer_in (out-Ty a) ≡ true → IsAnswer a
answer_only a h = subst IsAnswer (roll-out-Ty a) (go (out-Ty a) h)
  where
    go : (o : Ty-F Ty) → is_answer_in o ≡ true → IsAnswer (roll-Ty o)
    go Ty-F.Unit k = rw t.rolls-Unit IsAnswer.unit
    go Ty-F.Bool k = rw t.rolls-Bool IsAnswer.bool
    go (Ty-F.Int i) k = rw (t.rolls-Int i) (IsAnswer.int i)
    go _ k = absurd (cc)

answer_again : (a : Ty) → IsAnswer a → is_answer_in (out-Ty a) ≡ true
answer_again a IsAnswer.unit = rw t.outs-Unit refl
answer_again a IsAnswer.bool = rw t.outs-Bool refl
answer_again a (IsAnswer.int i) = rw t.outs-Int refl

outsides_decide : (params : List Field) → Decides (are_outside params) (AllByRecursion (λ p. IsOutside p.ty) params)
outsides_decide params = all_decide (λ p. is_outside_in (out-Ty p.ty)) (λ p. IsOutside p.ty) are_outside refl (λ p ps. refl) (λ p. (outside_only p.ty, outside_again p.ty)) params

no_vars_decides : (vars : List (List ℕ)) → Decides (no_vars vars) (vars ≡ [])
no_vars_decides [] = ((λ h. refl), (λ k. refl))
no_vars_decides (v ∷ vars) = ((λ h. absurd (cc)), (λ k. absurd (cc)))

abbrev IsEntry : Option Signature → Type 0
IsEntry o = (f : Signature) × (o ≡ Some f) × (f.vars ≡ []) × AllByRecursion (λ p. IsOutside p.ty) f.params × IsAnswer f.result

signature_decides : (f : Signature) → Decides (is_entry (Some f)) (((f.vars ≡ []) × AllByRecursion (λ p. IsOutside p.ty) f.params) × IsAnswer f.result)
signature_decides f = both_decide (both_decide (no_vars_decides f.vars) (outsides_decide f.params)) (answer_only f.result, answer_again f.result)

entry_decides : (o : Option Signature) → Decides (is_entry o) (IsEntry o)
entry_decides None = ((λ h. absurd (cc)), (λ k. let e = k.1 in absurd (cc)))
entry_decides (Some f) = ((λ h. let k = (signature_decides f).0 h in (f, refl, k.0.0, k.0.1, k.1)), again)
  where
    again : IsEntry (Some f) → is_entry (Some f) ≡ true
    again (g, e, none, ps, ans) = let same : f ≡ g = cc in subst (λ z. is_entry (Some z) ≡ true) (sym same) ((signature_decides g).1 ((none, ps), ans))

-- ---- definitions

pub fun_is : (defs before : List Def) (x : List ℕ) (vars : List (List ℕ)) (params : List Field) (result : Ty) (body : Expr) (def : Def)
    → def ≡ d.Fun x vars params result body → is_new n.Fun before x ≡ true → well_typed defs before def ≡ fun_ok defs vars params result body
fun_is defs before x vars params result body def e new = ap (well_typed defs before) e ∙ ap (λ b. b && fun_ok defs vars params result body) new

pub fun_answers : {E : Type 0} (r : Result Bool E) (defs before : List Def) (x : List ℕ) (vars ws : List (List ℕ)) (params qs : List Field) (result : Ty) (body : Expr) (def : Def)
    → def ≡ d.Fun x vars params result body → is_new n.Fun before x ≡ true → ws ≡ vars → qs ≡ params
    → IfOk r (λ b. b ≡ fun_ok defs ws qs result body) → IfOk r (λ b. b ≡ well_typed defs before def)
fun_answers (Ok b) defs before x vars ws params qs result body def e new v q h =
    h ∙ ap (λ us. fun_ok defs us qs result body) v ∙ ap (λ us. fun_ok defs vars us result body) q ∙ sym (fun_is defs before x vars params result body def e new)
fun_answers (Err f) defs before x vars ws params qs result body def e new v q h = tt

module _ (before after : List Def) (s : Settled before) where
  abbrev all : List Def
  all = before ++ after

  fields_decide : (vars : List (List ℕ)) (fields : List Field) → Decides (are_fields before all vars fields) (AllByRecursion (λ f. IsType before vars f.ty × IsValue f.ty) fields)
  fields_decide vars fields = all_decide (λ f. is_type_by (type_named before) (is_flat all) vars f.ty && is_value f.ty) (λ f. IsType before vars f.ty × IsValue f.ty) (are_fields before all vars) refl (λ f fs. refl)
      (λ f. both_decide (among_decides before after s vars f.ty) (value_decides f.ty)) fields

  args_decide : (vars : List (List ℕ)) (args : List Ty)
      → Decides (are_arguments_by (type_named before) (is_flat all) vars args) (AllByRecursion (λ a. IsType before vars a × IsFlat before a) args)
  args_decide vars args = all_decide (λ a. is_type_by (type_named before) (is_flat all) vars a && is_flat all a) (λ a. IsType before vars a × IsFlat before a)
      (are_arguments_by (type_named before) (is_flat all) vars) refl (λ a rest. refl)
      (λ a. then_decides (among_decides before after s vars a) (λ ok. among_flat before after s vars a ok)) args

  cons_decide : (vars : List (List ℕ)) (cons : List Con)
      → Decides (are_cons before all vars cons) (AllByRecursion (λ c. AllByRecursion (λ a. IsType before vars a × IsFlat before a) c.args) cons)
  cons_decide vars cons = all_decide (λ c. are_arguments_by (type_named before) (is_flat all) vars c.args) (λ c. AllByRecursion (λ a. IsType before vars a × IsFlat before a) c.args)
      (are_cons before all vars) refl (λ c cs. refl) (λ c. args_decide vars c.args) cons

  struct_decides : (x : List ℕ) (vars : List (List ℕ)) (fields : List Field) → Decides (well_typed all before (d.Struct x vars fields))
      (((AreNew type_name before (d.Struct x vars fields) × IsDistinct bytes_eq vars) × IsDistinct bytes_eq (names_of fields)) × AllByRecursion (λ f. IsType before vars f.ty × IsValue f.ty) fields)
  struct_decides x vars fields = both_decide (both_decide (both_decide (one_decides n.Type before x) (distinct_decides vars)) (distinct_decides (names_of fields)))
      (fields_decide vars fields)

  sum_decides : (x : List ℕ) (vars : List (List ℕ)) (cons : List Con) → Decides (well_typed all before (d.Sum x vars cons))
      (((AreNew type_name before (d.Sum x vars cons) × AreNew con_names before (d.Sum x vars cons)) × IsDistinct bytes_eq vars)
      × AllByRecursion (λ c. AllByRecursion (λ a. IsType before vars a × IsFlat before a) c.args) cons)
  sum_decides x vars cons = both_decide (both_decide (both_decide (one_decides n.Type before x) (both_decide (distinct_decides (cons_of cons)) (all_new_decides n.Con before (cons_of cons)))) (distinct_decides vars))
      (cons_decide vars cons)

  table_decides : (x : List ℕ) (i : IntTy) (nums : List ℕ) → Decides (well_typed all before (d.Table x i nums))
      (AreNew table_name before (d.Table x i nums) × AllByRecursion (λ n. n < 2 ^ bits i.width) nums)
  table_decides x i nums = both_decide (one_decides n.Table before x) (fit_decides i nums)

  fun_decides : (x : List ℕ) (vars : List (List ℕ)) (params : List Field) (result : Ty) (body : Expr) → Decides (well_typed all before (d.Fun x vars params result body))
      (AreNew fun_name before (d.Fun x vars params result body) × (((((IsDistinct bytes_eq vars × IsDistinct bytes_eq (names_of params))
      × AllByRecursion (λ p. IsType all vars p.ty × IsValue p.ty) params) × IsType all vars result) × IsResult all result) × HasType all vars (body_scope params) body (erased result)))
  fun_decides x vars params result body = both_decide (one_decides n.Fun before x)
      (both_decide (both_decide (both_decide (both_decide (both_decide (distinct_decides vars) (distinct_decides (names_of params))) (params_decide all vars params))
      (type_by_decides all vars result)) (result_decides all vars result)) (body_decides all vars params result body))

  one_entry_decides : (x : List ℕ) → Decides (well_typed all before (d.Entry x)) (AreNew entry_name before (d.Entry x) × IsEntry (fun_named all x))
  one_entry_decides x = both_decide (one_decides n.Entry before x) (entry_decides (fun_named all x))

  well_only : (def : Def) → well_typed all before def ≡ true → WellTyped all before def
  well_only (d.Struct x vars fields) h = let k = (struct_decides x vars fields).0 h in WellTyped.struct k.0.0.0 k.0.0.1 k.0.1 k.1
  well_only (d.Sum x vars cons) h = let k = (sum_decides x vars cons).0 h in WellTyped.sum k.0.0.0 k.0.0.1 k.0.1 k.1
  well_only (d.Table x i nums) h = let k = (table_decides x i nums).0 h in WellTyped.table k.0 k.1
  well_only (d.Fun x vars params result body) h =
      let k = (fun_decides x vars params result body).0 h in
      WellTyped.fun k.0 k.1.0.0.0.0.0 k.1.0.0.0.0.1 k.1.0.0.0.1 k.1.0.0.1 k.1.0.1 k.1.1
  well_only (d.Entry x) h = let k = (one_entry_decides x).0 h in WellTyped.entry k.0 k.1.1 k.1.2 k.1.3 k.1.4

  well_again : (def : Def) → WellTyped all before def → well_typed all before def ≡ true
  well_again def (WellTyped.struct {x = x} {vars = vars} {fields = fields} new vs fs ok) = (struct_decides x vars fields).1 (((new, vs), fs), ok)
  well_again def (WellTyped.sum {x = x} {vars = vars} {cons = cons} new cs vs ok) = (sum_decides x vars cons).1 (((new, cs), vs), ok)
  well_again def (WellTyped.table {x = x} {i = i} {nums = nums} new ok) = (table_decides x i nums).1 (new, ok)
  well_again def (WellTyped.fun {x = x} {vars = vars} {params = params} {result = result} {body = body} new vs ps ok r res b) =
      (fun_decides x vars params result body).1 (new, (((((vs, ps), ok), r), res), b))
  well_again def (WellTyped.entry {x = x} {f = f} new is none ps ans) = (one_entry_decides x).1 (new, (f, is, none, ps, ans))

  pub well_decides : (def : Def) → Decides (well_typed all before def) (WellTyped all before def)
  well_decides def = (well_only def, well_again def)
