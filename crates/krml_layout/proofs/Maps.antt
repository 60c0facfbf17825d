-- A map of layouts, and one definition more.
use Rattle.std.proofs.Common.{◌≡◌, ℕ, suc, ◌+◌, ◌≤◌, ◌<◌, List, [], ◌∷◌, ◌++◌, length, take, drop, get_or, Option, Some, None, is_some, option_map, refl, sym, ap, ◌∙◌, subst, arith, append_assoc}
use Rattle.std.specs.List.{AllByRecursion}
use Rattle.std.specs.Option.{option_or, unwrap_or}
use Rattle.std.proofs.lemmas.List.{take_more, drop_more, take-append-drop}
use Rattle.krml_trace.proofs.First.{first_later}
use Rattle.krml_syntax.specs.declared.tree.Ty.{Ty, out-Ty}
use Rattle.krml_syntax.specs.declared.tree.Ty.TheOpen.{Ty-F}
use Rattle.krml_syntax.specs.declared.tree.Def.{Def}
use Rattle.krml_ast.specs.Names.{Composite, type_here, type_named}
use Rattle.krml_ast.specs.Leaves.{composite_of, leaves_within}
use Rattle.krml_ast.proofs.Earlier.{named_more}
use Rattle.krml_layout.specs.declared.layout.TypeLayout.{TypeLayout}
use Rattle.krml_layout.specs.Layout.{empty, layout_of, layout_in, layout_within, type_layout}
use Rattle.krml_layout.specs.Bounds.{max_bytes}
use Rattle.krml_layout.specs.Ordered.{types_of, AreInOrder}
use Rattle.krml_layout.specs.Found.{named_layout, layout_by, map_layout, put_def, AreAligned}
use Rattle.krml_layout.proofs.Sizes.{align_positive, bounded_of, bounded_within}
use Rattle.krml_layout.proofs.Split.{none_is, composite_here}
use Rattle.krml_layout.proofs.Same.{of_same, named_same}
use Rattle.krml_layout.proofs.InOrder.{are_made, order_front, named_before}

-- ---- what the map of a file's definitions says

named_is : (defs : List Def) (x : List ℕ)
    → unwrap_or (named_layout defs x) empty ≡ layout_of (layout_within (length defs) defs) (type_named defs x)
named_is defs x = go (type_named defs x)
  where
    go : (o : Option Composite)
        → unwrap_or (option_map (λ c. layout_of (layout_within (length defs) defs) (Some c)) o) empty
        ≡ layout_of (layout_within (length defs) defs) o
    go None = refl
    go (Some c) = refl

module _ (named : List ℕ → Option TypeLayout) (defs : List Def) (h : (x : List ℕ) → named x ≡ named_layout defs x) where
  pub map_is : (a : Ty) → map_layout named a ≡ type_layout defs a
  map_is a = go (out-Ty a)
    where
      go : (o : Ty-F Ty) → layout_by named o ≡ layout_in (layout_within (length defs) defs) defs o
      go Ty-F.Bool = refl
      go Ty-F.Unit = refl
      go (Ty-F.Int i) = refl
      go (Ty-F.Buf b) = refl
      go (Ty-F.Var x) = refl
      go (Ty-F.Named x args) = ap (λ o. unwrap_or o empty) (h x) ∙ named_is defs x

  pub map_aligned : AreAligned named
  map_aligned x =
      let b = bounded_of (layout_within (length defs) defs) (leaves_within (length defs) defs) (bounded_within (length defs) defs)
      (type_named defs x) in
      subst (λ (z : TypeLayout). 0 < z.align) (sym (ap (λ o. unwrap_or o empty) (h x) ∙ named_is defs x)) (align_positive _ b.align)

  pub members_by : (o : Option Composite) → layout_of (map_layout named) o ≡ layout_of (type_layout defs) o
  members_by o = of_same (map_layout named) (type_layout defs) o (each (types_of o))
    where
      each : (types : List Ty) → AllByRecursion (λ a. map_layout named a ≡ type_layout defs a) types
      each [] = tt
      each (a ∷ types) = (map_is a, each types)

  -- ---- a definition more

  pub put_is : (def : Def) → AreInOrder (defs ++ def ∷ []) → (x : List ℕ) → put_def named def x ≡ named_layout (defs ++ def ∷ []) x
  put_is def order x = go (type_here x def) refl
    where
      whole : List Def
      whole = defs ++ def ∷ []

      long : (before : List Def) → length (before ++ def ∷ []) ≡ suc (length before)
      long [] = refl
      long (other ∷ before) = ap suc (long before)

      by : Composite → TypeLayout
      by c = layout_of (layout_within (length whole) whole) (Some c)

      old : (o : Option Composite) → type_named defs x ≡ o → type_here x def ≡ None → named_layout defs x ≡ named_layout whole x
      old None e q =
          ap (option_map (λ c. layout_of (layout_within (length defs) defs) (Some c))) e
          ∙ sym (ap (option_map by) (first_later (type_here x) defs (def ∷ []) e ∙ ap (λ o. option_or o None) q))
      old (Some c) e q =
          let is = named_more defs (def ∷ []) x c e in
          let same =
          named_same defs (def ∷ []) (length whole) (are_made defs (order_front defs (def ∷ []) order)) (omega (arith, long defs)) x c e in
          ap (option_map (λ c. layout_of (layout_within (length defs) defs) (Some c))) e
          ∙ ap Some
          (ap (layout_of (layout_within (length defs) defs)) (sym e) ∙ sym same ∙ ap (layout_of (layout_within (length whole) whole)) is)
          ∙ sym (ap (option_map by) is)

      go : (o : Option Composite) → type_here x def ≡ o
          → option_or (option_map (λ c. layout_of (map_layout named) (Some c)) o) (named x) ≡ named_layout whole x
      go None q = h x ∙ old (type_named defs x) refl q
      go (Some c) q =
          let none = none_is (type_named defs x) ((order defs def [] refl).new x (ap is_some q)) in
          let is : type_named whole x ≡ Some c = first_later (type_here x) defs (def ∷ []) none ∙ ap (λ o. option_or o None) q in
          let here = composite_here x def c q in
          ap Some (members_by (Some c) ∙ ap (layout_of (type_layout defs)) (sym here)
          ∙ sym (named_before whole defs def [] x c refl order is here)
          ∙ ap (layout_of (layout_within (length whole) whole)) is)
          ∙ sym (ap (option_map by) is)

-- ---- the definition of a number

apart : (defs : List Def) (i : ℕ) (def : Def) → i < length defs → def ≡ get_or defs i def → take i defs ++ def ∷ drop (i + 1) defs ≡ defs
apart defs i def lt is = ap (λ z. take i defs ++ z ∷ drop (i + 1) defs) is ∙ ap (λ z. take i defs ++ z) (sym (drop_more defs i def lt))
    ∙ take-append-drop i defs

module _ (named : List ℕ → Option TypeLayout) (defs : List Def) (order : AreInOrder defs) (i : ℕ) (def : Def) (lt : i < length defs)
    (is : def ≡ get_or defs i def)
    (h : (x : List ℕ) → named x ≡ named_layout (take i defs) x) where
  pub next_small : (layout_of (map_layout named) (composite_of def)).size ≤ max_bytes
  next_small =
      subst (λ z. z.size ≤ max_bytes) (sym (members_by named (take i defs) h (composite_of def)))
      (order (take i defs) def (drop (i + 1) defs) (apart defs i def lt is)).small

  pub next_put : (x : List ℕ) → put_def named def x ≡ named_layout (take (i + 1) defs) x
  next_put x =
      let whole : (take i defs ++ def ∷ []) ++ drop (i + 1) defs ≡ defs =
      append_assoc (take i defs) (def ∷ []) (drop (i + 1) defs) ∙ apart defs i def lt is in
      let front : AreInOrder (take i defs ++ def ∷ []) =
      order_front (take i defs ++ def ∷ []) (drop (i + 1) defs) (subst AreInOrder (sym whole) order) in
      put_is named (take i defs) h def front x
      ∙ ap (λ z. named_layout z x) (ap (λ z. take i defs ++ z ∷ []) is ∙ sym (take_more defs i def lt))
