-- The type that is computed of an expression is the one that the rules give it, both ways.
use Rattle.std.proofs.Common.{◌≡◌, ℕ, ◌^◌, nat_lt, nat_le, Bool, true, false, ◌&&◌, ◌||◌, List, [], ◌∷◌, map, slice_get, Option, Some, None, inl, inr, refl, sym, ap, ◌∙◌, subst, append-nil}
use Rattle.std.specs.List.{AllByRecursion}
use Rattle.std.proofs.lemmas.Bool.{and_parts}
use Rattle.krml_trace.specs.Width.{bits}
use Rattle.krml_syntax.specs.declared.tree.IntTy.{IntTy}
use Rattle.krml_syntax.specs.declared.tree.Ty.{Ty, out-Ty, roll-Ty, roll-out-Ty}
use Rattle.krml_syntax.specs.declared.tree.Ty.TheOpen.{Ty-F}
use Rattle.krml_syntax.specs.declared.tree.Ty.TheVariants as t
use Rattle.krml_syntax.specs.declared.tree.Pat.{Pat}
use Rattle.krml_syntax.specs.declared.tree.Slot.{Slot}
use Rattle.krml_syntax.specs.declared.tree.Arm.{Arm, roll-Arm}
use Rattle.krml_syntax.specs.declared.tree.Case.{Case, roll-Case}
use Rattle.krml_syntax.specs.declared.tree.Item.{Item, roll-Item}
use Rattle.krml_syntax.specs.declared.tree.Item.TheVariants as item
use Rattle.krml_syntax.specs.declared.tree.Expr.{Expr, roll-Expr, map-Expr}
use Rattle.krml_syntax.specs.declared.tree.Expr.TheOpen.{Expr-F, Arm-F, Item-F, Case-F}
use Rattle.krml_syntax.specs.declared.tree.Expr.TheFolds.{fold_out-Expr, fold_out-Item, fold-roll-Arm, fold-roll-Case, ind-Expr, map-Arm, map-Item, map-Case}
use Rattle.krml_syntax.specs.declared.tree.Expr.TheVariants as e
use Rattle.krml_syntax.specs.declared.tree.Def.{Def}
use Rattle.krml_ast.specs.Names.{table_named}
use Rattle.krml_syntax.specs.Types.{erased, int_ty, u32, is_unit_in}
use Rattle.krml_ast.specs.Typing.{Scope, with_vars, in_loop, in_frame, at, fields_at, IsResult, Matches, HasType, AllHaveType, ArmsHaveType, ItemsLead, CasesHaveType}
use Rattle.krml_intern.specs.Scope.{are_distinct}
use Rattle.krml_syntax.proofs.Only.{Only, only_none, only_some, only_then, only_more}
use Rattle.krml_types.specs.Types.{same_ty, is_flat, is_type}
use Rattle.krml_types.specs.Instances.{Instance}
use Rattle.krml_types.specs.Parts.{is_value}
use Rattle.krml_types.specs.Instances.{make_at, con_at, call_at}
use Rattle.krml_types.specs.Scopes.{is_framed, slot_type}
use Rattle.krml_types.specs.Patterns.{binds}
use Rattle.krml_types.specs.Expressions.{has, each_has, apply_type, are_tests, read_type, may_alloc, items_from, joined, arms_from, cases_from, one_type, two_type, is_result, type_of, item_of, arm_of, case_of}
use Rattle.krml_types.proofs.Known.{Known}
use Rattle.krml_types.proofs.Instances as inst
use Rattle.krml_types.proofs.Parts as is
use Rattle.krml_types.proofs.Parts.{only_demand, only_at}
use Rattle.krml_types.proofs.Patterns as pat

-- a type of which the layer is known
pub unit_is : (a : Ty) → is_unit_in (out-Ty a) ≡ true → a ≡ t.Unit
unit_is a h = go (out-Ty a) (λ q. sym (roll-out-Ty a) ∙ ap roll-Ty q ∙ t.rolls-Unit) h
  where
    go : (o : Ty-F Ty) → (o ≡ Ty-F.Unit → a ≡ t.Unit) → is_unit_in o ≡ true → a ≡ t.Unit
    go Ty-F.Unit is h = is refl
    go _ is h = absurd (cc)

frame_is : (frame : Option (List Slot)) → is_framed frame ≡ true → (slots : List Slot) × (frame ≡ Some slots)
frame_is (Some slots) h = (slots, refl)
frame_is None h = absurd (cc)

slot_only : (frame : Option (List Slot)) (j : ℕ) → Only (λ a. (slots : List Slot) × (s : Slot) × (frame ≡ Some slots) × (slice_get slots j ≡ Some s) × (a ≡ erased s.ty)) (slot_type frame j)
slot_only frame j = only_at frame (λ slots f. only_at (slice_get slots j) (λ s q. only_some (erased s.ty) (slots, s, f, q, refl)))

module _ (defs : List Def) (tvars : List (List ℕ)) (k : Known defs tvars) where
  same_again : (a : Ty) → same_ty a a ≡ true
  same_again = is.same_again k.same

  result_is : (a : Ty) → is_result defs a ≡ true → IsResult defs a
  result_is a h = go (is_unit_in (out-Ty a)) refl h
    where
      go : (b : Bool) → is_unit_in (out-Ty a) ≡ b → (b || is_flat defs a) ≡ true → IsResult defs a
      go true u h = inl (unit_is a u)
      go false u h = inr ((k.flat a).0 h)

  result_again : (a : Ty) → IsResult defs a → is_result defs a ≡ true
  result_again a (inl q) = rw (q, t.outs-Unit) refl
  result_again a (inr f) = rw (f.value, (k.flat a).1 f) refl

  abbrev P : Expr → Type 0
  P x = (g : Scope) → Only (HasType defs tvars g x) (type_of defs tvars x g)

  abbrev P' : Item → Type 0
  P' i = (g : Scope) → Only (λ m. (items : List Item) (h : Scope) → ItemsLead defs tvars m items h → ItemsLead defs tvars g (i ∷ items) h) (item_of defs tvars i g)

  abbrev P'' : Arm → Type 0
  P'' x = (s : Ty) (g : Scope) → Only (λ r. (xs : List Arm) → ArmsHaveType defs tvars g s xs r → ArmsHaveType defs tvars g s (x ∷ xs) r) (arm_of defs tvars x s g)

  abbrev P''' : Case → Type 0
  P''' x = (g : Scope) → Only (λ r. (xs : List Case) → CasesHaveType defs tvars g xs r → CasesHaveType defs tvars g (x ∷ xs) r) (case_of defs tvars x g)

  -- an expression of a type that is the other
  as_same : (x : Expr) (g : Scope) {a b : Ty} → same_ty a b ≡ true → HasType defs tvars g x a → HasType defs tvars g x b
  as_same x g {a = a} {b = b} h d = subst (λ z. HasType defs tvars g x z) (is.same_is k.same a b h) d

  -- ---- one operand, and two

  has_only : (c : Expr) (a : Ty) (g : Scope) → P c → Only (λ u. HasType defs tvars g c a) (has (type_of defs tvars c) a g)
  has_only c a g hc = only_then (type_of defs tvars c g) (hc g) (λ b db. is.only_test (same_ty b a) (λ h. as_same c g h db))

  one_only : {Q : Ty → Type 0} (c : Expr) (a r : Ty) (g : Scope) → P c → (HasType defs tvars g c a → Q r) → Only Q (one_type (type_of defs tvars c) a r g)
  one_only c a r g hc q = only_then (has (type_of defs tvars c) a g) (has_only c a g hc) (λ u da. only_some r (q da))

  two_only : {Q : Ty → Type 0} (c d : Expr) (a b r : Ty) (g : Scope) → P c → P d → (HasType defs tvars g c a → HasType defs tvars g d b → Q r)
      → Only Q (two_type (type_of defs tvars c) (type_of defs tvars d) a b r g)
  two_only c d a b r g hc hd q =
      only_then (has (type_of defs tvars c) a g) (has_only c a g hc) (λ u da. only_then (has (type_of defs tvars d) b g) (has_only d b g hd) (λ w db.
      only_some r (q da db)))

  -- ---- forms without lists

  num_only : (i : IntTy) (n : ℕ) → P (e.Num i n)
  num_only i n g = rw (fold_out-Expr, e.outs-Num) (only_demand (nat_lt n (2 ^ bits i.width)) (λ h u. only_some (int_ty i) (HasType.num (is.below n (2 ^ bits i.width) h))))

  read_only : (c i : Expr) (g : Scope) → P c → P i
      → Only (λ b. HasType defs tvars g c (t.Buf b) × HasType defs tvars g i u32) (read_type (type_of defs tvars c) (type_of defs tvars i) g)
  read_only c i g hc hi = only_then (type_of defs tvars c g) (hc g) (λ a da.
      only_then (has (type_of defs tvars i) u32 g) (has_only i u32 g hi) (λ u di. only_more (is.only_element a) (λ b a_is.
      (subst (λ z. HasType defs tvars g c z) a_is da, di))))

  write_only : (c i v : Expr) → P c → P i → P v → P (e.Write c i v)
  write_only c i v hc hi hv g = rw (fold_out-Expr, e.outs-Write) (only_then (read_type (type_of defs tvars c) (type_of defs tvars i) g)
      (read_only c i g hc hi) (λ b d. one_only v b t.Unit g hv (λ dv. HasType.write d.0 d.1 dv)))

  slice_only : (c i n : Expr) → P c → P i → P n → P (e.Slice c i n)
  slice_only c i n hc hi hn g = rw (fold_out-Expr, e.outs-Slice) (only_then (read_type (type_of defs tvars c) (type_of defs tvars i) g)
      (read_only c i g hc hi) (λ b d. one_only n u32 (t.Buf b) g hn (λ dn. HasType.slice b d.0 d.1 dn)))

  tab_only : (x : List ℕ) (c : Expr) → P c → P (e.Tab x c)
  tab_only x c hc g = rw (fold_out-Expr, e.outs-Tab) (only_at (table_named defs x) (λ i i_is. one_only c u32 (int_ty i) g hc (λ dc. HasType.tab i_is dc)))

  if_only : (c d f : Expr) → P c → P d → P f → P (e.If c d f)
  if_only c d f hc hd hf g = rw (fold_out-Expr, e.outs-If) (only_then (has (type_of defs tvars c) t.Bool g) (has_only c t.Bool g hc) (λ u dc.
      only_then (type_of defs tvars d g) (hd g) (λ r dr. one_only f r r g hf (λ df. HasType.choice dc dr df))))

  frame_only : (slots : List Slot) (c : Expr) → P c → P (e.Frame slots c)
  frame_only slots c hc g = rw (fold_out-Expr, e.outs-Frame) (only_then (type_of defs tvars c (in_frame slots g)) (hc (in_frame slots g)) (λ a da.
      only_demand (is_result defs a) (λ h u. only_some a (HasType.frame da (result_is a h)))))

  alloc_only : (b : Ty) (n : ℕ) (c : Expr) → P c → P (e.Alloc b n c)
  alloc_only b n c hc g = rw (fold_out-Expr, e.outs-Alloc) (only_demand (is_framed g.frame && may_alloc defs tvars b n) (λ h u.
      let h4 = and_parts (is_framed g.frame) (may_alloc defs tvars b n) h in
      let h3 = and_parts (is_type defs tvars b && is_flat defs b && nat_le 1 n) (nat_le n 65536) h4.1 in
      let h2 = and_parts (is_type defs tvars b && is_flat defs b) (nat_le 1 n) h3.0 in
      let h1 = and_parts (is_type defs tvars b) (is_flat defs b) h2.0 in
      let slots = frame_is g.frame h4.0 in
      one_only c (erased b) (t.Buf (erased b)) g hc (λ dc.
      HasType.alloc slots.1 ((k.type b).0 h1.0) ((k.flat b).0 h1.1) (is.at_most 1 n h2.1) (is.at_most n 65536 h3.1) dc)))

  for_only : (x : List ℕ) (c d f : Expr) → P c → P d → P f → P (e.For x c d f)
  for_only x c d f hc hd hf g =
      rw (fold_out-Expr, e.outs-For) (only_then (has (type_of defs tvars c) u32 g) (has_only c u32 g hc) (λ u dc.
      only_then (has (type_of defs tvars d) u32 g) (has_only d u32 g hd) (λ w dd.
      one_only f t.Unit t.Unit (with_vars ((x, u32) ∷ []) (in_loop g)) hf (λ df. HasType.for dc dd df))))

  fill_only : (j : ℕ) (c : Expr) → P c → P (e.Fill j c)
  fill_only j c hc g = rw (fold_out-Expr, e.outs-Fill) (only_then (slot_type g.frame j) (slot_only g.frame j) (λ a s.
      subst (λ z. Only (HasType defs tvars g (e.Fill j c)) (one_type (type_of defs tvars c) z (t.Buf z) g)) (sym s.4)
      (one_only c (erased s.1.ty) (t.Buf (erased s.1.ty)) g hc (λ dc. HasType.fill s.2 s.3 dc))))

  let_only : (x : List ℕ) (b : Ty) (c : Expr) → P c → P' (item.Let x b c)
  let_only x b c hc g = rw (fold_out-Item, item.outs-Let) (only_demand (is_type defs tvars b && is_value b) (λ h u.
      let both = and_parts (is_type defs tvars b) (is_value b) h in
      only_then (has (type_of defs tvars c) (erased b) g) (has_only c (erased b) g hc) (λ w dc.
      only_some (with_vars ((x, erased b) ∷ []) g) (λ items m lead. ItemsLead.bound ((k.type b).0 both.0) (is.value_is b both.1) dc lead))))

  run_only : (c : Expr) → P c → P' (item.Run c)
  run_only c hc g = rw (fold_out-Item, item.outs-Run) (only_then (has (type_of defs tvars c) t.Unit g) (has_only c t.Unit g hc) (λ u da.
      only_some g (λ items m lead. ItemsLead.ran da lead)))

  arm_only : (q : Pat) (c : Expr) → P c → P'' (roll-Arm (record { pat = q; body = c }))
  arm_only q c hc s g = rw fold-roll-Arm (only_then (binds defs q s []) (pat.binds_only defs k.same q s []) (λ vars m.
      only_demand (are_distinct vars) (λ h u. only_more (hc (with_vars vars g)) (λ r dr xs ds.
      let vars_are : m.0 ≡ vars = sym (append-nil m.0) ∙ sym m.1 in
      ArmsHaveType.an_arm (subst (λ z. Matches defs s q z) vars_are m.2) (is.distinct_is vars h) dr ds))))

  -- ---- lists

  joined_only : (a r : Ty) → Only (λ q. (q ≡ r) × (a ≡ r)) (joined (Some r) a)
  joined_only a r = only_demand (same_ty a r) (λ h u. only_some r (refl, is.same_is k.same a r h))

  module _ (X X' X'' X''' : Type 0) (v : X → Expr) (v' : X' → Item) (v'' : X'' → Arm) (v''' : X''' → Case)
      (h : (x : X) → P (v x)) (h' : (x : X') → P' (v' x)) (h'' : (x : X'') → P'' (v'' x)) (h''' : (x : X''') → P''' (v''' x)) where
    each_only : (es : List X) (types : List Ty) (g : Scope) → Only (λ u. AllHaveType defs tvars g (map v es) types) (each_has (map (type_of defs tvars) (map v es)) types g)
    each_only [] [] g = only_some tt AllHaveType.none
    each_only [] (a ∷ types) g = only_none
    each_only (x ∷ es) [] g = only_none
    each_only (x ∷ es) (a ∷ types) g = only_then (has (type_of defs tvars (v x)) a g) (has_only (v x) a g (h x)) (λ u da.
        only_more (each_only es types g) (λ w ds. AllHaveType.one da ds))

    apply_only : {Q : Ty → Type 0} (es : List X) (o : Option Instance) (g : Scope)
        → Only (λ i. AllHaveType defs tvars g (map v es) i.takes → Q i.gives) o → Only Q (apply_type (map (type_of defs tvars) (map v es)) o g)
    apply_only es o g q = only_then o q (λ i goes.
        only_then (each_has (map (type_of defs tvars) (map v es)) i.takes g) (each_only es i.takes g) (λ u ds. only_some i.gives (goes ds)))

    items_only : (items : List X') (g : Scope) → Only (ItemsLead defs tvars g (map v' items)) (items_from (map (item_of defs tvars) (map v' items)) g)
    items_only [] g = only_some g ItemsLead.no_items
    items_only (x ∷ items) g = only_then (item_of defs tvars (v' x) g) (h' x g) (λ m lead. only_more (items_only items m) (λ last d. lead (map v' items) last d))

    arms_more : (xs : List X'') (s r : Ty) (g : Scope)
        → Only (λ q. (q ≡ r) × ArmsHaveType defs tvars g s (map v'' xs) r) (arms_from (map (arm_of defs tvars) (map v'' xs)) s g (Some r))
    arms_more [] s r g = only_some r (refl, ArmsHaveType.no_arms)
    arms_more (x ∷ xs) s r g = only_then (arm_of defs tvars (v'' x) s g) (h'' x s g) (λ a da. only_then (joined (Some r) a) (joined_only a r) (λ q same.
        only_more (arms_more xs s q g) (λ last ds. (
          ds.0 ∙ same.0,
          subst (λ z. ArmsHaveType defs tvars g s (map v'' (x ∷ xs)) z) same.1
              (da (map v'' xs) (subst (λ z. ArmsHaveType defs tvars g s (map v'' xs) z) (same.0 ∙ sym same.1) ds.1)),
        ))))

    arms_first : (x : X'') (xs : List X'') (s : Ty) (g : Scope)
        → Only (ArmsHaveType defs tvars g s (map v'' (x ∷ xs))) (arms_from (map (arm_of defs tvars) (map v'' (x ∷ xs))) s g None)
    arms_first x xs s g = only_then (arm_of defs tvars (v'' x) s g) (h'' x s g) (λ a da. only_more (arms_more xs s a g) (λ r ds.
        subst (λ z. ArmsHaveType defs tvars g s (map v'' (x ∷ xs)) z) (sym ds.0) (da (map v'' xs) ds.1)))

    cases_more : (xs : List X''') (r : Ty) (g : Scope)
        → Only (λ q. (q ≡ r) × CasesHaveType defs tvars g (map v''' xs) r) (cases_from (map (case_of defs tvars) (map v''' xs)) g (Some r))
    cases_more [] r g = only_some r (refl, CasesHaveType.no_cases)
    cases_more (x ∷ xs) r g = only_then (case_of defs tvars (v''' x) g) (h''' x g) (λ a da. only_then (joined (Some r) a) (joined_only a r) (λ q same.
        only_more (cases_more xs q g) (λ last ds. (
          ds.0 ∙ same.0,
          subst (λ z. CasesHaveType defs tvars g (map v''' (x ∷ xs)) z) same.1
              (da (map v''' xs) (subst (λ z. CasesHaveType defs tvars g (map v''' xs) z) (same.0 ∙ sym same.1) ds.1)),
        ))))

    cases_first : (x : X''') (xs : List X''') (g : Scope)
        → Only (CasesHaveType defs tvars g (map v''' (x ∷ xs))) (cases_from (map (case_of defs tvars) (map v''' (x ∷ xs))) g None)
    cases_first x xs g = only_then (case_of defs tvars (v''' x) g) (h''' x g) (λ a da. only_more (cases_more xs a g) (λ r ds.
        subst (λ z. CasesHaveType defs tvars g (map v''' (x ∷ xs)) z) (sym ds.0) (da (map v''' xs) ds.1)))

    tests_only : (tests : List X) (g : Scope)
        → Only (λ u. AllHaveType defs tvars g (map v tests) (map (λ x. t.Bool) (map v tests))) (are_tests (map (type_of defs tvars) (map v tests)) g)
    tests_only [] g = only_some tt AllHaveType.none
    tests_only (x ∷ tests) g = only_then (has (type_of defs tvars (v x)) t.Bool g) (has_only (v x) t.Bool g (h x)) (λ u da.
        only_more (tests_only tests g) (λ w ds. AllHaveType.one da ds))

    case_only : (tests : List X) (c : Expr) → P c → P''' (roll-Case (record { tests = map v tests; body = c }))
    case_only tests c hc g = rw fold-roll-Case (only_then (are_tests (map (type_of defs tvars) (map v tests)) g) (tests_only tests g) (λ u ds.
        only_more (hc g) (λ r dr xs more. CasesHaveType.a_case ds dr more)))

    make_only : (x : List ℕ) (args : List Ty) (es : List X) → P (e.Make x args (map v es))
    make_only x args es g = rw (fold_out-Expr, e.outs-Make) (apply_only es (make_at defs tvars x args) g
        (only_more (inst.make_only defs tvars k.arguments x args) (λ i goes. goes (map v es) g)))

    con_only : (x : List ℕ) (args : List Ty) (es : List X) → P (e.Con x args (map v es))
    con_only x args es g = rw (fold_out-Expr, e.outs-Con) (apply_only es (con_at defs tvars x args) g
        (only_more (inst.con_only defs tvars k.arguments x args) (λ i goes. goes (map v es) g)))

    call_only : (x : List ℕ) (args : List Ty) (es : List X) → P (e.Call x args (map v es))
    call_only x args es g = rw (fold_out-Expr, e.outs-Call) (apply_only es (call_at defs tvars x args) g
        (only_more (inst.call_only defs tvars k.arguments x args) (λ i goes. goes (map v es) g)))

    match_only : (c : Expr) (xs : List X'') → P c → P (e.Match c (map v'' xs))
    match_only c [] hc g = rw (fold_out-Expr, e.outs-Match) (only_then (type_of defs tvars c g) (hc g) (λ s ds.
        only_demand (is_value s) (λ q u. only_none)))
    match_only c (x ∷ xs) hc g = rw (fold_out-Expr, e.outs-Match) (only_then (type_of defs tvars c g) (hc g) (λ s ds.
        only_demand (is_value s) (λ q u. only_more (arms_first x xs s g) (λ r dr.
        HasType.match ds (is.value_is s q) dr))))

    cases_only : (xs : List X''') → P (e.Cases (map v''' xs))
    cases_only [] g = rw (fold_out-Expr, e.outs-Cases) only_none
    cases_only (x ∷ xs) g = rw (fold_out-Expr, e.outs-Cases) (only_more (cases_first x xs g) (λ r dr. HasType.cases dr))

    block_only : (items : List X') (c : Expr) → P c → P (e.Do (map v' items) c)
    block_only items c hc g = rw (fold_out-Expr, e.outs-Do) (only_then (items_from (map (item_of defs tvars) (map v' items)) g) (items_only items g) (λ m d.
        only_more (hc m) (λ r dr. HasType.block d dr)))

    step : (y : Expr-F X X' X'' X''') → P (roll-Expr (map-Expr X X' X'' X''' Expr Item Arm Case v v' v'' v''' y))
    step (Expr-F.Var x) g = rw (e.rolls-Var x) (rw (fold_out-Expr, e.outs-Var) (record { holds = λ a q. HasType.var q }))
    step Expr-F.Unit g = rw e.rolls-Unit (rw (fold_out-Expr, e.outs-Unit) (only_some t.Unit HasType.unit))
    step (Expr-F.Bool b) g = rw (e.rolls-Bool b) (rw (fold_out-Expr, e.outs-Bool) (only_some t.Bool HasType.bool))
    step (Expr-F.Num i n) g = rw (e.rolls-Num i n) (num_only i n g)
    step (Expr-F.Bin op i a b) g = rw (e.rolls-Bin op i (v a) (v b)) (rw (fold_out-Expr, e.outs-Bin) (two_only (v a) (v b) (int_ty i) (int_ty i) (int_ty i) g (h a) (h b) (λ da db. HasType.bin da db)))
    step (Expr-F.Shift left i a n) g = rw (e.rolls-Shift left i (v a) (v n)) (rw (fold_out-Expr, e.outs-Shift) (two_only (v a) (v n) (int_ty i) u32 (int_ty i) g (h a) (h n) (λ da dn. HasType.shift da dn)))
    step (Expr-F.Cmp op i a b) g = rw (e.rolls-Cmp op i (v a) (v b)) (rw (fold_out-Expr, e.outs-Cmp) (two_only (v a) (v b) (int_ty i) (int_ty i) t.Bool g (h a) (h b) (λ da db. HasType.cmp da db)))
    step (Expr-F.Not a) g = rw (e.rolls-Not (v a)) (rw (fold_out-Expr, e.outs-Not) (one_only (v a) t.Bool t.Bool g (h a) (λ da. HasType.not da)))
    step (Expr-F.Cast i j a) g = rw (e.rolls-Cast i j (v a)) (rw (fold_out-Expr, e.outs-Cast) (one_only (v a) (int_ty i) (int_ty j) g (h a) (λ da. HasType.cast da)))
    step (Expr-F.Hide i a) g = rw (e.rolls-Hide i (v a)) (rw (fold_out-Expr, e.outs-Hide) (one_only (v a) (int_ty i) (int_ty i) g (h a) (λ da. HasType.hide da)))
    step (Expr-F.Make x args es) g = rw (e.rolls-Make x args (map v es)) (make_only x args es g)
    step (Expr-F.Get y a) g = rw (e.rolls-Get y (v a)) (rw (fold_out-Expr, e.outs-Get) (only_then (type_of defs tvars (v a) g) (h a g) (λ s ds. only_more (inst.field_only defs tvars y s) (λ r goes. goes (v a) g ds))))
    step (Expr-F.Con x args es) g = rw (e.rolls-Con x args (map v es)) (con_only x args es g)
    step (Expr-F.Read a i) g = rw (e.rolls-Read (v a) (v i)) (rw (fold_out-Expr, e.outs-Read) (only_more (read_only (v a) (v i) g (h a) (h i)) (λ b d. HasType.read d.0 d.1)))
    step (Expr-F.Write a i b) g = rw (e.rolls-Write (v a) (v i) (v b)) (write_only (v a) (v i) (v b) (h a) (h i) (h b) g)
    step (Expr-F.Slice a i n) g = rw (e.rolls-Slice (v a) (v i) (v n)) (slice_only (v a) (v i) (v n) (h a) (h i) (h n) g)
    step (Expr-F.Tab x a) g = rw (e.rolls-Tab x (v a)) (tab_only x (v a) (h a) g)
    step (Expr-F.If c a b) g = rw (e.rolls-If (v c) (v a) (v b)) (if_only (v c) (v a) (v b) (h c) (h a) (h b) g)
    step (Expr-F.Match a xs) g = rw (e.rolls-Match (v a) (map v'' xs)) (match_only (v a) xs (h a) g)
    step (Expr-F.Do items a) g = rw (e.rolls-Do (map v' items) (v a)) (block_only items (v a) (h a) g)
    step (Expr-F.Frame slots a) g = rw (e.rolls-Frame slots (v a)) (frame_only slots (v a) (h a) g)
    step (Expr-F.Alloc b n a) g = rw (e.rolls-Alloc b n (v a)) (alloc_only b n (v a) (h a) g)
    step (Expr-F.While c a) g = rw (e.rolls-While (v c) (v a)) (rw (fold_out-Expr, e.outs-While) (two_only (v c) (v a) t.Bool t.Unit t.Unit (in_loop g) (h c) (h a) (λ dc da. HasType.while dc da)))
    step (Expr-F.For x a b c) g = rw (e.rolls-For x (v a) (v b) (v c)) (for_only x (v a) (v b) (v c) (h a) (h b) (h c) g)
    step (Expr-F.Call x args es) g = rw (e.rolls-Call x args (map v es)) (call_only x args es g)
    step (Expr-F.Cases xs) g = rw (e.rolls-Cases (map v''' xs)) (cases_only xs g)
    step (Expr-F.TagIs x a) g = rw (e.rolls-TagIs x (v a)) (rw (fold_out-Expr, e.outs-TagIs) (only_then (type_of defs tvars (v a) g) (h a g) (λ s ds. only_more (inst.tag_only defs tvars x s) (λ r goes. goes (v a) g ds))))
    step (Expr-F.Part x j a) g = rw (e.rolls-Part x j (v a)) (rw (fold_out-Expr, e.outs-Part) (only_then (type_of defs tvars (v a) g) (h a g) (λ s ds. only_more (inst.part_only defs tvars x j s) (λ r goes. goes (v a) g ds))))
    step (Expr-F.Fill j a) g = rw (e.rolls-Fill j (v a)) (fill_only j (v a) (h a) g)

    item_step_only : (y : Item-F X X' X'' X''') → P' (roll-Item (map-Item X X' X'' X''' Expr Item Arm Case v v' v'' v''' y))
    item_step_only (Item-F.Let x b a) g = rw (item.rolls-Let x b (v a)) (let_only x b (v a) (h a) g)
    item_step_only (Item-F.Run a) g = rw (item.rolls-Run (v a)) (run_only (v a) (h a) g)

    arm_step_only : (y : Arm-F X X' X'' X''') → P'' (roll-Arm (map-Arm X X' X'' X''' Expr Item Arm Case v v' v'' v''' y))
    arm_step_only y = arm_only y.pat (v y.body) (h y.body)

    case_step_only : (y : Case-F X X' X'' X''') → P''' (roll-Case (map-Case X X' X'' X''' Expr Item Arm Case v v' v'' v''' y))
    case_step_only y = case_only y.tests (v y.body) (h y.body)

  -- what is computed is what the rules give
  pub type_only : (x : Expr) → P x
  type_only = ind-Expr P P' P'' P'''
      (λ x y eq. subst (λ z. P (roll-Expr z)) eq (step _ _ _ _ (λ p. p.0) (λ p. p.0) (λ p. p.0) (λ p. p.0) (λ p. p.1) (λ p. p.1) (λ p. p.1) (λ p. p.1) y))
      (λ x y eq. subst (λ z. P' (roll-Item z)) eq (item_step_only _ _ _ _ (λ p. p.0) (λ p. p.0) (λ p. p.0) (λ p. p.0) (λ p. p.1) (λ p. p.1) (λ p. p.1) (λ p. p.1) y))
      (λ x y eq. subst (λ z. P'' (roll-Arm z)) eq (arm_step_only _ _ _ _ (λ p. p.0) (λ p. p.0) (λ p. p.0) (λ p. p.0) (λ p. p.1) (λ p. p.1) (λ p. p.1) (λ p. p.1) y))
      (λ x y eq. subst (λ z. P''' (roll-Case z)) eq (case_step_only _ _ _ _ (λ p. p.0) (λ p. p.0) (λ p. p.0) (λ p. p.0) (λ p. p.1) (λ p. p.1) (λ p. p.1) (λ p. p.1) y))

  -- ---- and what the rules give is computed

  each_is : {X : Type 0} (xs : List X) → AllByRecursion (λ r. r ≡ t.Bool) (map (λ x. t.Bool) xs)
  each_is [] = tt
  each_is (x ∷ xs) = (refl, each_is xs)

  mutual
    pub type_again : (g : Scope) (x : Expr) (r : Ty) → HasType defs tvars g x r → type_of defs tvars x g ≡ Some r
    type_again g x r (HasType.var q) = rw (fold_out-Expr, e.outs-Var) q
    type_again g x r HasType.unit = rw (fold_out-Expr, e.outs-Unit) refl
    type_again g x r HasType.bool = rw (fold_out-Expr, e.outs-Bool) refl
    type_again g x r (HasType.num {i = i} {n = n} l) = rw (fold_out-Expr, e.outs-Num, is.below_again n (2 ^ bits i.width) l) refl
    type_again g x r (HasType.bin {i = i} {a = a} {b = b} da db) = rw (fold_out-Expr, e.outs-Bin, type_again g a (int_ty i) da, type_again g b (int_ty i) db, same_again (int_ty i)) refl
    type_again g x r (HasType.shift {i = i} {a = a} {n = n} da dn) = rw (fold_out-Expr, e.outs-Shift, type_again g a (int_ty i) da, type_again g n u32 dn, same_again (int_ty i), same_again u32) refl
    type_again g x r (HasType.cmp {i = i} {a = a} {b = b} da db) = rw (fold_out-Expr, e.outs-Cmp, type_again g a (int_ty i) da, type_again g b (int_ty i) db, same_again (int_ty i)) refl
    type_again g x r (HasType.not {a = a} da) = rw (fold_out-Expr, e.outs-Not, type_again g a t.Bool da, same_again t.Bool) refl
    type_again g x r (HasType.cast {i = i} {a = a} da) = rw (fold_out-Expr, e.outs-Cast, type_again g a (int_ty i) da, same_again (int_ty i)) refl
    type_again g x r (HasType.hide {i = i} {a = a} da) = rw (fold_out-Expr, e.outs-Hide, type_again g a (int_ty i) da, same_again (int_ty i)) refl
    type_again g x r (HasType.make {x = y} {vars = vars} {fields = fields} {args = args} {es = es} y_is q ok ds) =
        rw (fold_out-Expr, e.outs-Make, inst.make_again defs tvars k.arguments y vars fields args y_is q ok, each_again g es (fields_at vars args fields) ds) refl
    type_again g x r (HasType.get {x = y} {y = z} {vars = vars} {fields = fields} args {a = a} {b = b} da y_is z_is) =
        rw (fold_out-Expr, e.outs-Get, type_again g a (t.Named y args) da) (inst.field_again defs tvars y z vars fields args b y_is z_is)
    type_again g x r (HasType.con {x = y} {c = c} {args = args} {es = es} c_is q ok ds) =
        rw (fold_out-Expr, e.outs-Con, inst.con_again defs tvars k.arguments y c args c_is q ok, each_again g es (map (at c.vars args) c.args) ds) refl
    type_again g x r (HasType.read {a = a} {i = i} da di) = rw (fold_out-Expr, e.outs-Read, type_again g a (t.Buf r) da, type_again g i u32 di, same_again u32, t.outs-Buf r) refl
    type_again g x r (HasType.write {a = a} {i = i} {v = v} {b = b} da di dv) =
        rw (fold_out-Expr, e.outs-Write, type_again g a (t.Buf b) da, type_again g i u32 di, type_again g v b dv, t.outs-Buf b, same_again u32, same_again b) refl
    type_again g x r (HasType.slice {a = a} {i = i} {n = n} b da di dn) =
        rw (fold_out-Expr, e.outs-Slice, type_again g a (t.Buf b) da, type_again g i u32 di, type_again g n u32 dn, t.outs-Buf b, same_again u32) refl
    type_again g x r (HasType.tab {i = i} {a = a} i_is da) = rw (fold_out-Expr, e.outs-Tab, type_again g a u32 da, i_is, same_again u32) refl
    type_again g x r (HasType.choice {c = c} {a = a} {b = b} dc da db) =
        rw (fold_out-Expr, e.outs-If, type_again g c t.Bool dc, type_again g a r da, type_again g b r db, same_again t.Bool, same_again r) refl
    type_again g x r (HasType.match {a = a} {s = s} {x = y} {xs = xs} da val ds) =
        rw (fold_out-Expr, e.outs-Match, type_again g a s da, val) (arms_first_again g s y xs r ds)
    type_again g x r (HasType.block {h = h} {items = items} {a = a} lead da) = rw (fold_out-Expr, e.outs-Do, items_again g items h lead) (type_again h a r da)
    type_again g x r (HasType.frame {slots = slots} {a = a} da res) = rw (fold_out-Expr, e.outs-Frame, type_again (in_frame slots g) a r da, result_again r res) refl
    type_again g x r (HasType.alloc {b = b} {n = n} {a = a} in_it ib fb ge le da) =
        rw (fold_out-Expr, e.outs-Alloc, type_again g a (erased b) da, in_it, (k.type b).1 ib, (k.flat b).1 fb, is.at_most_again 1 n ge, is.at_most_again n 65536 le, same_again (erased b)) refl
    type_again g x r (HasType.while {c = c} {a = a} dc da) =
        rw (fold_out-Expr, e.outs-While, type_again (in_loop g) c t.Bool dc, type_again (in_loop g) a t.Unit da, same_again t.Bool, same_again t.Unit) refl
    type_again g x r (HasType.for {x = y} {a = a} {b = b} {c = c} da db dc) =
        rw (fold_out-Expr, e.outs-For, type_again g a u32 da, type_again g b u32 db, type_again (with_vars ((y, u32) ∷ []) (in_loop g)) c t.Unit dc, same_again u32, same_again t.Unit) refl
    type_again g x r (HasType.call {x = y} {f = f} {args = args} {es = es} f_is q ok ds) =
        rw (fold_out-Expr, e.outs-Call, inst.call_again defs tvars k.arguments y f args f_is q ok, each_again g es (fields_at f.vars args f.params) ds) refl
    type_again g x r (HasType.cases {x = y} {xs = xs} ds) = rw (fold_out-Expr, e.outs-Cases) (cases_first_again g y xs r ds)
    type_again g x r (HasType.tag_is {x = y} {c = c} args {a = a} c_is da) =
        rw (fold_out-Expr, e.outs-TagIs, type_again g a (t.Named c.sum args) da) (inst.tag_again defs tvars y c args c_is)
    type_again g x r (HasType.part {x = y} {c = c} {j = j} args {a = a} {b = b} c_is da b_is) =
        rw (fold_out-Expr, e.outs-Part, type_again g a (t.Named c.sum args) da) (inst.part_again defs tvars y j c args b c_is b_is)
    type_again g x r (HasType.fill {s = s} {a = a} in_it s_is da) = rw (fold_out-Expr, e.outs-Fill, type_again g a (erased s.ty) da, in_it, s_is, same_again (erased s.ty)) refl

    each_again : (g : Scope) (es : List Expr) (types : List Ty) → AllHaveType defs tvars g es types → each_has (map (type_of defs tvars) es) types g ≡ Some tt
    each_again g es types AllHaveType.none = refl
    each_again g es types (AllHaveType.one {a = a} {es = rest} {r = r} {rs = rs} d ds) = rw (type_again g a r d, same_again r) (each_again g rest rs ds)

    tests_again : (g : Scope) (tests : List Expr) (types : List Ty) → AllHaveType defs tvars g tests types
        → AllByRecursion (λ r. r ≡ t.Bool) types → are_tests (map (type_of defs tvars) tests) g ≡ Some tt
    tests_again g tests types AllHaveType.none each = refl
    tests_again g tests types (AllHaveType.one {a = x} {es = rest} {r = r} {rs = rs} d ds) each =
        rw (type_again g x r d, each.0, same_again t.Bool) (tests_again g rest rs ds each.1)

    items_again : (g : Scope) (items : List Item) (h : Scope) → ItemsLead defs tvars g items h → items_from (map (item_of defs tvars) items) g ≡ Some h
    items_again g items h ItemsLead.no_items = refl
    items_again g items h (ItemsLead.bound {x = x} {b = b} {a = a} {items = rest} ib val da ds) =
        rw (fold_out-Item, item.outs-Let, type_again g a (erased b) da, (k.type b).1 ib, val, same_again (erased b)) (items_again (with_vars ((x, erased b) ∷ []) g) rest h ds)
    items_again g items h (ItemsLead.ran {a = a} {items = rest} da ds) =
        rw (fold_out-Item, item.outs-Run, type_again g a t.Unit da, same_again t.Unit) (items_again g rest h ds)

    arms_first_again : (g : Scope) (s : Ty) (x : Arm) (xs : List Arm) (r : Ty) → ArmsHaveType defs tvars g s (x ∷ xs) r
        → arms_from (map (arm_of defs tvars) (x ∷ xs)) s g None ≡ Some r
    arms_first_again g s x xs r (ArmsHaveType.an_arm {q = q} {a = a} {vars = vars} m di da ds) =
        rw (fold-roll-Arm, pat.binds_again defs k.same s q vars m [], append-nil vars, is.distinct_again vars di, type_again (with_vars vars g) a r da) (arms_again g s xs r ds)

    arms_again : (g : Scope) (s : Ty) (xs : List Arm) (r : Ty) → ArmsHaveType defs tvars g s xs r → arms_from (map (arm_of defs tvars) xs) s g (Some r) ≡ Some r
    arms_again g s xs r ArmsHaveType.no_arms = refl
    arms_again g s xs r (ArmsHaveType.an_arm {q = q} {a = a} {xs = rest} {vars = vars} m di da ds) =
        rw (fold-roll-Arm, pat.binds_again defs k.same s q vars m [], append-nil vars, is.distinct_again vars di, type_again (with_vars vars g) a r da, same_again r) (arms_again g s rest r ds)

    cases_first_again : (g : Scope) (x : Case) (xs : List Case) (r : Ty) → CasesHaveType defs tvars g (x ∷ xs) r
        → cases_from (map (case_of defs tvars) (x ∷ xs)) g None ≡ Some r
    cases_first_again g x xs r (CasesHaveType.a_case {tests = tests} {a = a} dt da ds) =
        rw (fold-roll-Case, tests_again g tests (map (λ x. t.Bool) tests) dt (each_is tests), type_again g a r da) (cases_again g xs r ds)

    cases_again : (g : Scope) (xs : List Case) (r : Ty) → CasesHaveType defs tvars g xs r → cases_from (map (case_of defs tvars) xs) g (Some r) ≡ Some r
    cases_again g xs r CasesHaveType.no_cases = refl
    cases_again g xs r (CasesHaveType.a_case {tests = tests} {a = a} {xs = rest} dt da ds) =
        rw (fold-roll-Case, tests_again g tests (map (λ x. t.Bool) tests) dt (each_is tests), type_again g a r da, same_again r) (cases_again g rest r ds)
