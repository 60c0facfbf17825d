-- The layout of a type is the same among a file's first definitions, where it is one of theirs, and with more levels than they need.
use Rattle.std.proofs.Common.{◌≡◌, ℕ, zero, suc, ◌≤◌, ◌<◌, List, [], ◌∷◌, ◌++◌, length, Option, Some, None, refl, sym, ap, ◌∙◌, subst, arith, append_assoc}
use Rattle.std.specs.List.{AllByRecursion, fold}
use Rattle.krml_trace.proofs.Lists.{each_so}
use Rattle.krml_syntax.specs.declared.tree.Ty.{Ty, out-Ty}
use Rattle.krml_syntax.specs.declared.tree.Ty.TheOpen.{Ty-F}
use Rattle.krml_syntax.specs.declared.tree.Def.{Def}
use Rattle.krml_ast.specs.Names.{Composite, type_named}
use Rattle.krml_ast.specs.Leaves.{member_types, composite_of}
use Rattle.krml_ast.proofs.Earlier.{named_more}
use Rattle.krml_layout.specs.declared.layout.TypeLayout.{TypeLayout}
use Rattle.krml_layout.specs.Layout.{empty, with_member, layout_of, layout_in, layout_within, type_layout}
use Rattle.krml_layout.specs.Ordered.{KnownIn, IsKnown, types_of}
use Rattle.krml_layout.proofs.Split.{there_is, named_at, shorter, composite_here}

-- each struct and sum is made of earlier ones
abbrev pub AreMade : List Def → Type 0
AreMade defs =
    (before : List Def) (def : Def) (after : List Def) → before ++ def ∷ after ≡ defs
    → AllByRecursion (IsKnown before) (types_of (composite_of def))

pub longer_is : (before : List Def) (def : Def) (after front back : List Def) → before ++ def ∷ after ≡ front
    → before ++ def ∷ (after ++ back) ≡ front ++ back
longer_is before def after front back is = sym (append_assoc before (def ∷ after) back) ∙ ap (λ z. z ++ back) is

pub made_front : (front back : List Def) → AreMade (front ++ back) → AreMade front
made_front front back made before def after is = made before def (after ++ back) (longer_is before def after front back is)

-- ---- two ways to lay out the members of a definition

fold_same : (f g : Ty → TypeLayout) (b : TypeLayout) (types : List Ty) → AllByRecursion (λ a. f a ≡ g a) types
    → fold (λ before a. with_member before (f a)) b types ≡ fold (λ before a. with_member before (g a)) b types
fold_same f g b [] h = refl
fold_same f g b (a ∷ types) h =
    ap (λ z. fold (λ before a. with_member before (f a)) (with_member b z) types) h.0 ∙ fold_same f g (with_member b (g a)) types h.1

pub of_same : (f g : Ty → TypeLayout) (o : Option Composite) → AllByRecursion (λ a. f a ≡ g a) (types_of o) → layout_of f o ≡ layout_of g o
of_same f g None h = refl
of_same f g (Some c) h = fold_same f g empty (member_types c) h

-- ---- more definitions and more levels

-- what is to be shown of a type, and of the struct or sum of a name
abbrev IsSame : List Def → List Def → ℕ → Ty → Type 0
IsSame before after n a = layout_within n (before ++ after) a ≡ type_layout before a

abbrev IsSameNamed : List Def → List Def → ℕ → List ℕ → Type 0
IsSameNamed before after n x =
    layout_of (layout_within n (before ++ after)) (type_named (before ++ after) x)
    ≡ layout_of (layout_within (length before) before) (type_named before x)

-- it holds of types of fewer definitions
abbrev Earlier : List Def → Type 0
Earlier before =
    (front back : List Def) (n : ℕ) → length front < length before → AreMade front → length front < n
    → (a : Ty) → IsKnown front a → IsSame front back n a

same_named : (before after : List Def) (n : ℕ) → AreMade before → Earlier before → length before ≤ n → (x : List ℕ) (c : Composite)
    → type_named before x ≡ Some c → IsSameNamed before after n x
same_named before after n made earlier le x c is =
    let s = named_at before x c is in
    let l = shorter s.before s.def s.after before s.is in
    let front : AreMade s.before = made_front s.before (s.def ∷ s.after) (subst AreMade (sym s.is) made) in
    let f : Ty → TypeLayout = layout_within n (before ++ after) in
    let g : Ty → TypeLayout = layout_within (length before) before in
    let here : AllByRecursion (IsKnown s.before) (member_types c) =
    subst (λ o. AllByRecursion (IsKnown s.before) (types_of o)) (composite_here x s.def c s.here) (made s.before s.def s.after s.is) in
    let each : AllByRecursion (λ a. f a ≡ g a) (member_types c) = each_so (IsKnown s.before) (λ a. f a ≡ g a) (member_types c) (λ a h.
    subst (λ z. layout_within n z a ≡ type_layout s.before a) (longer_is s.before s.def s.after before after s.is)
    (earlier s.before (s.def ∷ (s.after ++ after)) n l front (omega (arith, l, le)) a h)
    ∙ sym (subst (λ z. layout_within (length before) z a ≡ type_layout s.before a) s.is
    (earlier s.before (s.def ∷ s.after) (length before) l front l a h))) here in
    ap (layout_of f) (named_more before after x c is) ∙ of_same f g (Some c) each ∙ sym (ap (layout_of g) is)

same_in : (before after : List Def) (n : ℕ) → AreMade before → Earlier before → length before ≤ n → (o : Ty-F Ty) → KnownIn before o
    → layout_in (layout_within n (before ++ after)) (before ++ after) o ≡ layout_in (layout_within (length before) before) before o
same_in before after n made earlier le Ty-F.Bool h = refl
same_in before after n made earlier le Ty-F.Unit h = refl
same_in before after n made earlier le (Ty-F.Int i) h = refl
same_in before after n made earlier le (Ty-F.Buf b) h = refl
same_in before after n made earlier le (Ty-F.Var x) h = refl
same_in before after n made earlier le (Ty-F.Named x args) h =
    let t = there_is (type_named before x) h in same_named before after n made earlier le x t.0 t.1

same_step : (before after : List Def) (n : ℕ) → AreMade before → Earlier before → length before < n → (a : Ty) → IsKnown before a
    → IsSame before after n a
same_step before after zero made earlier lt a h = absurd (omega (arith, lt))
same_step before after (suc n) made earlier lt a h = same_in before after n made earlier (omega (arith, lt)) (out-Ty a) h

same_within : (k : ℕ) (before after : List Def) (n : ℕ) → length before ≤ k → AreMade before → length before < n → (a : Ty)
    → IsKnown before a → IsSame before after n a
same_within zero before after n le made lt a h = same_step before after n made (λ front back m l. absurd (omega (arith, l, le))) lt a h
same_within (suc k) before after n le made lt a h =
    same_step before after n made (λ front back m l. same_within k front back m (omega (arith, l, le))) lt a h

-- a type of the first definitions
pub same_layout : (before after : List Def) (n : ℕ) → AreMade before → length before < n → (a : Ty) → IsKnown before a
    → layout_within n (before ++ after) a ≡ type_layout before a
same_layout before after n made lt a h = same_within (length before) before after n (omega arith) made lt a h

-- the struct or sum of a name of the first definitions
pub named_same : (before after : List Def) (n : ℕ) → AreMade before → length before ≤ n → (x : List ℕ) (c : Composite)
    → type_named before x ≡ Some c
    → layout_of (layout_within n (before ++ after)) (type_named (before ++ after) x) ≡ layout_of (layout_within (length before) before)
    (type_named before x)
named_same before after n made le x c is =
    same_named before after n made (λ front back m l. same_within (length front) front back m (omega arith)) le x c is
