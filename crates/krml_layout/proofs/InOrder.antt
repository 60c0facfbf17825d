-- The definitions of a well typed file are in order, and where none has more leaves than it may have, no type is large.
use Rattle.std.proofs.Common.{◌≡◌, ℕ, suc, ◌≤◌, ◌<◌, List, [], ◌∷◌, ◌++◌, map, length, take, slice_get, flat_map, Option, Some, None, is_some, Contains, refl, sym, ap, ◌∙◌, subst, arith}
use Rattle.std.specs.List.{AllByRecursion}
use Rattle.std.proofs.Math.Logic.{∥∥₁_elim}
use Rattle.krml_trace.specs.declared.width.Width.{Width}
use Rattle.krml_trace.specs.declared.width.Width.TheVariants.{W8, W32, W64}
use Rattle.krml_trace.proofs.Lists.{take_front, at_front, contains_first, contains_flat, each_append, each_right, each_so}
use Rattle.krml_syntax.specs.declared.tree.Ty.{Ty, out-Ty}
use Rattle.krml_syntax.specs.declared.tree.Ty.TheOpen.{Ty-F}
use Rattle.krml_syntax.specs.declared.tree.Ty.TheVariants as t
use Rattle.krml_syntax.specs.declared.tree.Field.{Field}
use Rattle.krml_syntax.specs.declared.tree.Con.{Con}
use Rattle.krml_syntax.specs.declared.tree.Def.{Def}
use Rattle.krml_syntax.specs.declared.tree.Def.TheVariants as d
use Rattle.krml_ast.specs.Names.{Composite, Struct, Sum, type_here, type_named}
use Rattle.krml_ast.specs.Leaves.{leaves, leaves_of_def, composite_of, max_leaves, AreNarrow}
use Rattle.krml_ast.specs.IsType.{IsValue, IsFlat, IsType}
use Rattle.krml_ast.specs.WellTyped.{type_name, AreNew, WellTyped, AreWellTyped}
use Rattle.krml_ast.specs.FileTypes.{IsPlain}
use Rattle.krml_syntax.specs.declared.tree.SourceFile.{SourceFile}
use Rattle.krml_ast.proofs.Named.{answer_of}
use Rattle.krml_layout.specs.Layout.{bytes_of, layout_of, layout_in, layout_within, type_layout}
use Rattle.krml_layout.specs.Bounds.{max_bytes}
use Rattle.krml_layout.specs.Ordered.{IsKnown, types_of, AreInOrder, AreSmall}
use Rattle.krml_layout.proofs.OneProof.{in_order_prop}
use Rattle.krml_layout.proofs.Sizes.{bounded_of, bounded_within}
use Rattle.krml_layout.proofs.Split.{there_is, named_at, shorter, composite_here}
use Rattle.krml_layout.proofs.Same.{AreMade, longer_is, made_front, of_same, same_layout}

-- ---- the members are of earlier types

known : (before : List Def) (vars : List (List ℕ)) (a : Ty) → IsType before vars a → IsKnown before a
known before vars a IsType.bool = rw t.outs-Bool tt
known before vars a IsType.unit = rw t.outs-Unit tt
known before vars a (IsType.int i) = rw t.outs-Int tt
known before vars a (IsType.buf b is f) = rw t.outs-Buf tt
known before vars a (IsType.var h) = rw t.outs-Var tt
known before vars a (IsType.named {c = c} is n ok) = rw t.outs-Named (ap is_some is)

known_fields : (before : List Def) (vars : List (List ℕ)) (fields : List Field)
    → AllByRecursion (λ f. IsType before vars f.ty × IsValue f.ty) fields
    → AllByRecursion (IsKnown before) (map (λ f. f.ty) fields)
known_fields before vars [] h = tt
known_fields before vars (f ∷ fields) h = (known before vars f.ty h.0.0, known_fields before vars fields h.1)

known_args : (before : List Def) (vars : List (List ℕ)) (cons : List Con)
    → AllByRecursion (λ c. AllByRecursion (λ a. IsType before vars a × IsFlat before a) c.args) cons
    → AllByRecursion (IsKnown before) (flat_map (λ c. c.args) cons)
known_args before vars [] h = tt
known_args before vars (c ∷ cons) h =
    each_append (IsKnown before) c.args (flat_map (λ c. c.args) cons)
    (each_so (λ a. IsType before vars a × IsFlat before a) (IsKnown before) c.args (λ a k. known before vars a k.0) h.0)
    (known_args before vars cons h.1)

made : (defs before : List Def) (def : Def) → WellTyped defs before def → AllByRecursion (IsKnown before) (types_of (composite_of def))
made defs before def (WellTyped.struct {vars = vars} {fields = fields} new vs fs ok) = known_fields before vars fields ok
made defs before def (WellTyped.sum {vars = vars} {cons = cons} new cs vs ok) = (rw t.outs-Int tt, known_args before vars cons ok)
made defs before def (WellTyped.table new ok) = tt
made defs before def (WellTyped.fun new vs ps params result is_result body) = tt
made defs before def (WellTyped.entry new is vs params answer) = tt

-- ---- the name is new

gives : (x : List ℕ) (def : Def) (c : Composite) → type_here x def ≡ Some c → type_name def ≡ x ∷ []
gives x (d.Struct name vars fields) c e = ap (λ z. z ∷ []) (answer_of name x (Struct vars fields) c e).0
gives x (d.Sum name vars cons) c e = ap (λ z. z ∷ []) (answer_of name x (Sum vars cons) c e).0
gives x (d.Table name ty nums) c e = absurd (cc)
gives x (d.Fun name vars params result body) c e = absurd (cc)
gives x (d.Entry name) c e = absurd (cc)

absent : (before : List Def) (x : List ℕ) → (Contains (flat_map type_name before) x → ⊥) → type_named before x ≡ None
absent before x never = go (type_named before x) refl
  where
    go : (o : Option Composite) → type_named before x ≡ o → type_named before x ≡ None
    go None e = e
    go (Some c) e =
        let s = named_at before x c e in
        absurd (never
        (contains_flat type_name before (length s.before) s.def x
        (subst (λ z. slice_get z (length s.before) ≡ Some s.def) s.is (at_front s.before s.def s.after))
        (subst (λ z. Contains z x) (sym (gives x s.def c s.here)) (contains_first x []))))

new_name : (before : List Def) (def : Def) (x : List ℕ) (c : Composite) → type_here x def ≡ Some c → AreNew type_name before def
    → type_named before x ≡ None
new_name before def x c e new =
    absent before x (subst (AllByRecursion (λ y. Contains (flat_map type_name before) y → ⊥)) (gives x def c e) new.1).0

is_new : (defs before : List Def) (def : Def) → WellTyped defs before def → (x : List ℕ) (c : Composite) → type_here x def ≡ Some c
    → type_named before x ≡ None
is_new defs before def (WellTyped.struct {x = y} {vars = vars} {fields = fields} new vs fs ok) x c e =
    new_name before (d.Struct y vars fields) x c e new
is_new defs before def (WellTyped.sum {x = y} {vars = vars} {cons = cons} new cs vs ok) x c e =
    new_name before (d.Sum y vars cons) x c e new
is_new defs before def (WellTyped.table new ok) x c e = absurd (cc)
is_new defs before def (WellTyped.fun new vs ps params result is_result body) x c e = absurd (cc)
is_new defs before def (WellTyped.entry new is vs params answer) x c e = absurd (cc)

-- ---- it is not large

-- the members of a definition are laid out by the definitions before it as by the whole file
pub members_same : (defs before : List Def) (def : Def) (after : List Def) (n : ℕ) → before ++ def ∷ after ≡ defs → AreMade defs
    → length before < n
    → layout_of (layout_within n defs) (composite_of def) ≡ layout_of (type_layout before) (composite_of def)
members_same defs before def after n is m lt =
    let front : AreMade before = made_front before (def ∷ after) (subst AreMade (sym is) m) in
    of_same (layout_within n defs) (type_layout before) (composite_of def)
    (each_so (IsKnown before) (λ a. layout_within n defs a ≡ type_layout before a) (types_of (composite_of def))
    (λ a h. subst (λ z. layout_within n z a ≡ type_layout before a) is (same_layout before (def ∷ after) n front lt a h))
    (m before def after is))

small : (defs before : List Def) (def : Def) (after : List Def) → before ++ def ∷ after ≡ defs → AreMade defs → AreNarrow defs
    → (layout_of (type_layout before) (composite_of def)).size ≤ max_bytes
small defs before def after is m narrow =
    let l = shorter before def after defs is in
    let n : leaves_of_def defs def ≤ max_leaves =
    (each_right (λ def. leaves_of_def defs def ≤ max_leaves) before (def ∷ after)
    (subst (AllByRecursion (λ def. leaves_of_def defs def ≤ max_leaves)) (sym is) narrow)).0 in
    let b = (bounded_of (type_layout defs) (leaves defs) (bounded_within (suc (length defs)) defs) (composite_of def)).size in
    subst (λ z. z.size ≤ max_bytes) (members_same defs before def after (suc (length defs)) is m (omega (arith, l))) (omega (arith, b, n))

-- ---- the file

at_place : (defs before : List Def) (def : Def) (after : List Def) → before ++ def ∷ after ≡ defs → AreWellTyped defs
    → WellTyped defs before def
at_place defs before def after is typed =
    subst (λ z. WellTyped defs z def) (ap (take (length before)) (sym is) ∙ take_front before (def ∷ after))
    (typed (length before) def (subst (λ z. slice_get z (length before) ≡ Some def) is (at_front before def after)))

pub are_in_order : (defs : List Def) → AreWellTyped defs → AreNarrow defs → AreInOrder defs
are_in_order defs typed narrow before def after is = record {
  new = λ x e.
      let t = there_is (type_here x def) e in
      ap is_some (is_new defs before def (at_place defs before def after is typed) x t.0 t.1);
  made = made defs before def (at_place defs before def after is typed);
  small = small defs before def after is (λ front other back e. made defs front other (at_place defs front other back e typed)) narrow;
}

pub plain_in_order : (file : SourceFile) → ∥ IsPlain file ∥₁ → AreInOrder file.defs
plain_in_order file form = ∥∥₁_elim form (in_order_prop file.defs) (λ p. are_in_order file.defs p.regular.typed p.narrow)

pub are_made : (defs : List Def) → AreInOrder defs → AreMade defs
are_made defs order before def after is = (order before def after is).made

pub order_front : (front back : List Def) → AreInOrder (front ++ back) → AreInOrder front
order_front front back order before def after is = order before def (after ++ back) (longer_is before def after front back is)

-- the struct or sum of a name is that of the definition that has it, by the definitions before it
pub named_before : (defs before : List Def) (def : Def) (after : List Def) (x : List ℕ) (c : Composite) → before ++ def ∷ after ≡ defs
    → AreInOrder defs → type_named defs x ≡ Some c → composite_of def ≡ Some c
    → layout_of (layout_within (length defs) defs) (type_named defs x) ≡ layout_of (type_layout before) (composite_of def)
named_before defs before def after x c is order named here =
    ap (layout_of (layout_within (length defs) defs)) (named ∙ sym here)
    ∙ members_same defs before def after (length defs) is (are_made defs order) (shorter before def after defs is)

pub are_small : (defs : List Def) → AreInOrder defs → AreSmall defs
are_small defs order a = go (out-Ty a)
  where
    of_name : (x : List ℕ) (o : Option Composite) → type_named defs x ≡ o
        → (layout_of (layout_within (length defs) defs) (type_named defs x)).size ≤ max_bytes
    of_name x None e = rw e (omega arith)
    of_name x (Some c) e =
        let s = named_at defs x c e in
        subst (λ z. z.size ≤ max_bytes) (sym (named_before defs s.before s.def s.after x c s.is order e (composite_here x s.def c s.here)))
        (order s.before s.def s.after s.is).small

    width : (w : Width) → bytes_of w ≤ max_bytes
    width W8 = omega arith
    width W32 = omega arith
    width W64 = omega arith

    go : (o : Ty-F Ty) → (layout_in (layout_within (length defs) defs) defs o).size ≤ max_bytes
    go Ty-F.Bool = omega arith
    go Ty-F.Unit = omega arith
    go (Ty-F.Int i) = width i.width
    go (Ty-F.Buf b) = omega arith
    go (Ty-F.Var x) = omega arith
    go (Ty-F.Named x args) = of_name x (type_named defs x) refl
