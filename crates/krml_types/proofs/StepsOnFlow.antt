-- What branches, blocks, loops, cases and items compute, step by step, and where a failure is handed on.
use Rattle.std.proofs.Common.{◌≡◌, ℕ, ◌&&◌, List, [], ◌∷◌, map, Option, Some, None, Result, Ok, Err, OnOk, refl, sym, ap, subst, ◌∙◌}
use Rattle.krml_syntax.specs.declared.tree.Ty.{Ty}
use Rattle.krml_syntax.specs.declared.tree.Ty.TheVariants as ty
use Rattle.krml_syntax.specs.declared.tree.Def.{Def}
use Rattle.krml_syntax.specs.declared.tree.Item.{Item}
use Rattle.krml_syntax.specs.declared.tree.Item.TheVariants as item
use Rattle.krml_syntax.specs.declared.tree.Case.{Case, out-Case}
use Rattle.krml_syntax.specs.declared.tree.Expr.{Expr}
use Rattle.krml_syntax.specs.declared.tree.Expr.TheVariants as e
use Rattle.krml_syntax.specs.declared.tree.Expr.TheFolds.{fold_out-Item, fold_out-Case}
use Rattle.krml_syntax.specs.Read.{◌>>=◌}
use Rattle.krml_syntax.specs.Types.{erased, u32}
use Rattle.krml_ast.specs.Typing.{Scope, with_vars, in_loop}
use Rattle.krml_intern.specs.Table.{Table, Means, Grows}
use Rattle.krml_intern.specs.Unlabelled.{IsErased}
use Rattle.krml_intern.proofs.Erasing.{is_erased_still}
use Rattle.krml_intern.proofs.Puts.{grows_on}
use Rattle.krml_trace.specs.declared.missing.Missing.{Missing}
use Rattle.krml_trace.specs.declared.missing.Missing.TheVariants.{Absent, NoMemory}
use Rattle.krml_types.specs.Expressions.{Comp, has, one_type, are_tests, items_from, flow_step, loop_step, turn_type, let_type, layer_of, type_of, item_of, case_of}
use Rattle.krml_trace.specs.Gives.{Gives}
use Rattle.krml_types.specs.Judging.{Place, Leads, in_scope}
use Rattle.krml_types.specs.Parts.{demand, is_value}
use Rattle.krml_types.specs.Types.{is_type}
use Rattle.krml_types.proofs.LayersOfForms.{if_layer, do_layer, while_layer, for_layer}
use Rattle.krml_types.proofs.Moved.{same_has, same_type}

-- ---- the same expression at the same place

pub there_has : (p q : Place) (x y : Expr) (a : Ty) → p ≡ q → x ≡ y → has (type_of q.defs q.tvars y) a q.scope ≡ has (type_of p.defs p.tvars x) a p.scope
there_has p q x y a p_is x_is = sym (same_has p q x a p_is ∙ ap (λ z. has (type_of q.defs q.tvars z) a q.scope) x_is)

pub there_type : (p q : Place) (x y : Expr) → p ≡ q → x ≡ y → type_of q.defs q.tvars y q.scope ≡ type_of p.defs p.tvars x p.scope
there_type p q x y p_is x_is = sym (same_type p q x p_is ∙ ap (λ z. type_of q.defs q.tvars z q.scope) x_is)

pub there_bool : (p q : Place) (x y : Expr) → p ≡ q → x ≡ y → has (type_of q.defs q.tvars y) ty.Bool q.scope ≡ has (type_of p.defs p.tvars x) ty.Bool p.scope
there_bool p q x y p_is x_is = there_has p q x y ty.Bool p_is x_is

pub there_unit : (p q : Place) (x y : Expr) → p ≡ q → x ≡ y → has (type_of q.defs q.tvars y) ty.Unit q.scope ≡ has (type_of p.defs p.tvars x) ty.Unit p.scope
there_unit p q x y p_is x_is = there_has p q x y ty.Unit p_is x_is

pub there_u32 : (p q : Place) (x y : Expr) → p ≡ q → x ≡ y → has (type_of q.defs q.tvars y) u32 q.scope ≡ has (type_of p.defs p.tvars x) u32 p.scope
there_u32 p q x y p_is x_is = there_has p q x y u32 p_is x_is

pub there_turn : (p q : Place) (n : List ℕ) (x y : Expr) → p ≡ q → x ≡ y → turn_type n (type_of q.defs q.tvars y) q.scope ≡ turn_type n (type_of p.defs p.tvars x) p.scope
there_turn p q n x y p_is x_is = sym (ap (λ (p : Place). turn_type n (type_of p.defs p.tvars x) p.scope) p_is ∙ ap (λ z. turn_type n (type_of q.defs q.tvars z) q.scope) x_is)

-- ---- failures and successes

pub table_of : (s t : Table) (k : ℕ) (a : Ty) → t ≡ s → IsErased s k a → IsErased t k a
table_of s t k a is i = subst (λ (t : Table). IsErased t k a) (sym is) i

pub grows_from : (s t u : Table) → s ≡ t → Grows s u → Grows t u
grows_from s t u is g = subst (λ (t : Table). Grows t u) is g

pub grows_by : (s t u v : Table) → Grows s t → u ≡ t → Grows u v → Grows s v
grows_by s t u v g is h = grows_on s t v g (grows_from u t v is h)

pub unmet : (r q : Result (Unit {0}) Missing) (e : Missing) (o : Option (Unit {0})) (x : Option Scope) (old new : Place) → Gives r o → r ≡ Err e → q ≡ Err e → (o ≡ None → x ≡ None) → Leads q x old new
unmet r q Absent o x old new g r_is q_is none = subst (λ z. Leads z x old new) (sym q_is) (none (subst (λ z. Gives z o) r_is g))
unmet r q NoMemory o x old new g r_is q_is none = subst (λ z. Leads z x old new) (sym q_is) tt

pub on_any : {A E P : Type 0} (r : Result A E) → P → OnOk r P
on_any (Ok a) p = p
on_any (Err e) p = tt

module _ (defs : List Def) (tvars : List (List ℕ)) where
  abbrev T : Expr → Comp
  T = type_of defs tvars

  -- ---- branches

  module _ (x a b d : Expr) (is : x ≡ e.If a b d) (g : Scope) (tested : has (T a) ty.Bool g ≡ Some tt) where
    if_first : flow_step (layer_of defs tvars x) g ≡ (T b g >>= λ r. one_type (T d) r r g)
    if_first = ap (λ l. flow_step l g) (if_layer defs tvars x a b d is) ∙ ap (λ o. o >>= λ u. T b g >>= λ r. one_type (T d) r r g) tested

    pub if_none : T b g ≡ None → flow_step (layer_of defs tvars x) g ≡ None
    if_none none = if_first ∙ ap (λ o. o >>= λ r. one_type (T d) r r g) none

    module _ (r : Ty) (r_is : T b g ≡ Some r) where
      if_second : flow_step (layer_of defs tvars x) g ≡ (has (T d) r g >>= λ u. Some r)
      if_second = if_first ∙ ap (λ o. o >>= λ r. one_type (T d) r r g) r_is

      pub if_fails : has (T d) r g ≡ None → flow_step (layer_of defs tvars x) g ≡ None
      if_fails none = if_second ∙ ap (λ o. o >>= λ u. Some r) none

      pub if_gives : has (T d) r g ≡ Some tt → flow_step (layer_of defs tvars x) g ≡ Some r
      if_gives h = if_second ∙ ap (λ o. o >>= λ u. Some r) h

  -- ---- blocks

  pub do_at : (x : Expr) (items all : List Item) (a : Expr) → x ≡ e.Do items a → all ≡ items → (g h : Scope) → items_from (map (item_of defs tvars) all) g ≡ Some h → flow_step (layer_of defs tvars x) g ≡ T a h
  do_at x items all a is all_is g h led =
      ap (λ l. flow_step l g) (do_layer defs tvars x items a is) ∙ ap (λ o. o >>= λ h. T a h) (ap (λ xs. items_from (map (item_of defs tvars) xs) g) (sym all_is) ∙ led)

  -- ---- loops

  module _ (x a b : Expr) (is : x ≡ e.While a b) (g : Scope) where
    while_first : loop_step (layer_of defs tvars x) g ≡ (has (T a) ty.Bool (in_loop g) >>= λ u. one_type (T b) ty.Unit ty.Unit (in_loop g))
    while_first = ap (λ l. loop_step l g) (while_layer defs tvars x a b is)

    pub while_none : has (T a) ty.Bool (in_loop g) ≡ None → loop_step (layer_of defs tvars x) g ≡ None
    while_none none = while_first ∙ ap (λ o. o >>= λ u. one_type (T b) ty.Unit ty.Unit (in_loop g)) none

    module _ (tested : has (T a) ty.Bool (in_loop g) ≡ Some tt) where
      while_second : loop_step (layer_of defs tvars x) g ≡ (has (T b) ty.Unit (in_loop g) >>= λ u. Some ty.Unit)
      while_second = while_first ∙ ap (λ o. o >>= λ u. one_type (T b) ty.Unit ty.Unit (in_loop g)) tested

      pub while_fails : has (T b) ty.Unit (in_loop g) ≡ None → loop_step (layer_of defs tvars x) g ≡ None
      while_fails none = while_second ∙ ap (λ o. o >>= λ u. Some ty.Unit) none

      pub while_gives : has (T b) ty.Unit (in_loop g) ≡ Some tt → loop_step (layer_of defs tvars x) g ≡ Some ty.Unit
      while_gives h = while_second ∙ ap (λ o. o >>= λ u. Some ty.Unit) h

  module _ (x : Expr) (y : List ℕ) (a b d : Expr) (is : x ≡ e.For y a b d) (g : Scope) (first : has (T a) u32 g ≡ Some tt) where
    for_second : loop_step (layer_of defs tvars x) g ≡ (has (T b) u32 g >>= λ w. turn_type y (T d) g)
    for_second = ap (λ l. loop_step l g) (for_layer defs tvars x y a b d is) ∙ ap (λ o. o >>= λ u. has (T b) u32 g >>= λ w. turn_type y (T d) g) first

    pub for_fails : has (T b) u32 g ≡ None → loop_step (layer_of defs tvars x) g ≡ None
    for_fails none = for_second ∙ ap (λ o. o >>= λ w. turn_type y (T d) g) none

    pub for_at : has (T b) u32 g ≡ Some tt → loop_step (layer_of defs tvars x) g ≡ turn_type y (T d) g
    for_at h = for_second ∙ ap (λ o. o >>= λ w. turn_type y (T d) g) h

  -- ---- cases

  case_is : (x : Case) (g : Scope) → case_of defs tvars x g ≡ (are_tests (map T (out-Case x).tests) g >>= λ u. T (out-Case x).body g)
  case_is x g = rw fold_out-Case refl

  pub case_at : (x : Case) (tests : List Expr) (g : Scope) → tests ≡ (out-Case x).tests → are_tests (map T tests) g ≡ Some tt → case_of defs tvars x g ≡ T (out-Case x).body g
  case_at x tests g all_is tested = case_is x g ∙ ap (λ o. o >>= λ u. T (out-Case x).body g) (ap (λ xs. are_tests (map T xs) g) (sym all_is) ∙ tested)

  -- ---- items

  let_is : (y : List ℕ) (b : Ty) (a : Expr) (g : Scope) → item_of defs tvars (item.Let y b a) g ≡ let_type defs tvars y b (T a) g
  let_is y b a g = rw (fold_out-Item, item.outs-Let) refl

  module _ (x : Item) (y : List ℕ) (b : Ty) (a : Expr) (is : x ≡ item.Let y b a) (g : Scope) (ok : demand (is_type defs tvars b && is_value b) ≡ Some tt) where
    let_first : item_of defs tvars x g ≡ (has (T a) (erased b) g >>= λ w. Some (with_vars ((y, erased b) ∷ []) g))
    let_first = ap (λ z. item_of defs tvars z g) is ∙ let_is y b a g ∙ ap (λ o. o >>= λ u. has (T a) (erased b) g >>= λ w. Some (with_vars ((y, erased b) ∷ []) g)) ok

    pub let_fails : has (T a) (erased b) g ≡ None → item_of defs tvars x g ≡ None
    let_fails none = let_first ∙ ap (λ o. o >>= λ w. Some (with_vars ((y, erased b) ∷ []) g)) none

    pub let_gives : has (T a) (erased b) g ≡ Some tt → item_of defs tvars x g ≡ Some (with_vars ((y, erased b) ∷ []) g)
    let_gives h = let_first ∙ ap (λ o. o >>= λ w. Some (with_vars ((y, erased b) ∷ []) g)) h

-- the scope behind a new variable
pub let_leads : (o : Option Scope) (p q r : Place) (s t : Table) (y : List ℕ) (k : ℕ) (a : Ty) → o ≡ Some (with_vars ((y, a) ∷ []) p.scope) → q ≡ p → IsErased s k a → Grows s t
    → ((b : Ty) → Means t k b → r ≡ in_scope q (with_vars ((y, b) ∷ []) q.scope)) → Leads (Ok tt) o p r
let_leads o p q r s t y k a is q_is i g pushed =
    (with_vars ((y, a) ∷ []) p.scope, is, pushed a (is_erased_still s t g k a i).means ∙ ap (λ (q : Place). in_scope q (with_vars ((y, a) ∷ []) q.scope)) q_is)
