-- Looking for the definition of a name, from the last one back.
use Rattle.std.proofs.Common.{◌≡◌, ℕ, ◌+◌, ◌-◌, ◌≤◌, true, false, is_some, List, [], ◌∷◌, ◌++◌, length, take, get_or, Option, Some, None, refl, sym, ap, ◌∙◌, subst, arith, append_assoc}
use Rattle.std.specs.Option.{option_or}
use Rattle.std.proofs.lemmas.List.{take_more, take_all}
use Rattle.krml_trace.proofs.First.{or_none, first_more, first_later}
use Rattle.krml_syntax.specs.declared.tree.Def.{Def}
use Rattle.krml_ast.specs.Names.{Composite, type_here, type_named}
use Rattle.krml_ast.specs.Leaves.{composite_of}
use Rattle.krml_layout.specs.Layout.{layout_of, layout_within, type_layout}
use Rattle.krml_layout.specs.Ordered.{AreInOrder, Defines}
use Rattle.krml_layout.proofs.Split.{none_is, composite_here}
use Rattle.krml_layout.proofs.InOrder.{named_before}

-- a list, and its last element
pub last_apart : {A : Type 0} (xs : List A) (x : A) → 1 ≤ length xs → x ≡ get_or xs (length xs - 1) x
    → take (length xs - 1) xs ++ x ∷ [] ≡ xs
last_apart xs x l is =
    let all : length xs - 1 + 1 ≡ length xs = omega (arith, l) in
    ap (λ z. take (length xs - 1) xs ++ z ∷ []) is ∙ sym (take_more xs (length xs - 1) x (omega (arith, l))) ∙ ap (λ n. take n xs) all
    ∙ take_all (length xs) xs (omega arith)

-- what is left of a search behind a definition of another name
pub search_on : (defs left : List Def) (x : List ℕ) (def : Def) → 1 ≤ length left → def ≡ get_or left (length left - 1) def
    → is_some (type_here x def) ≡ false
    → (after : List Def) × (left ++ after ≡ defs) × (type_named left x ≡ type_named defs x)
    → (after : List Def) × (take (length left - 1) left ++ after ≡ defs) × (type_named (take (length left - 1) left) x ≡ type_named defs x)
search_on defs left x def l is other h =
    let before = take (length left - 1) left in
    let whole : before ++ def ∷ [] ≡ left = last_apart left def l is in
    let here : type_here x def ≡ None = none_is (type_here x def) other in
    let same : type_named (before ++ def ∷ []) x ≡ type_named before x =
    first_more (type_here x) before (def ∷ []) ∙ ap (λ o. option_or (type_named before x) (option_or o None)) here
    ∙ or_none (type_named before x) in (
      def ∷ h.0,
      sym (append_assoc before (def ∷ []) h.0) ∙ ap (λ z. z ++ h.0) whole ∙ h.1,
      sym same ∙ ap (λ z. type_named z x) whole ∙ h.2,
    )

-- what a search has found
pub search_found : (defs left : List Def) (x : List ℕ) (def : Def) → 1 ≤ length left → def ≡ get_or left (length left - 1) def
    → is_some (type_here x def) ≡ true
    → (after : List Def) × (left ++ after ≡ defs) × (type_named left x ≡ type_named defs x)
    → Defines defs x (take (length left - 1) left) def
search_found defs left x def l is here h =
    let before = take (length left - 1) left in
    record {
      here = here;
      after = h.0;
      is = sym (append_assoc before (def ∷ []) h.0) ∙ ap (λ z. z ++ h.0) (last_apart left def l is) ∙ h.1;
    }

-- what the definition that is found defines is what the name means
pub found_is : (defs : List Def) (x : List ℕ) (before : List Def) (def : Def) → AreInOrder defs → Defines defs x before def
    → layout_of (type_layout before) (composite_of def) ≡ layout_of (layout_within (length defs) defs) (type_named defs x)
found_is defs x before def order d = go (type_here x def) refl d.here
  where
    go : (o : Option Composite) → type_here x def ≡ o → is_some o ≡ true
        → layout_of (type_layout before) (composite_of def) ≡ layout_of (layout_within (length defs) defs) (type_named defs x)
    go None e h = absurd (cc)
    go (Some c) e h =
        let none = none_is (type_named before x) ((order before def d.after d.is).new x d.here) in
        let named : type_named defs x ≡ Some c =
        subst (λ z. type_named z x ≡ Some c) d.is
        (first_later (type_here x) before (def ∷ d.after) none ∙ ap (λ o. option_or o (type_named d.after x)) e) in
        sym (named_before defs before def d.after x c d.is order named (composite_here x def c e))
