-- Leaves that are counted once for each definition are the leaves of types.
use Rattle.std.proofs.Common.{◌≡◌, ℕ, zero, suc, ◌+◌, ◌<◌, List, [], ◌∷◌, map, flat_map, take, length, slice_get, Some, option_map, refl, sym, ap, ◌∙◌, arith}
use Rattle.std.specs.List.{AllByRecursion, sum_by}
use Rattle.std.proofs.lemmas.List.Sums.{sum_by-append, sum_by-cons}
use Rattle.std.proofs.lemmas.Option.{slice_get-map, slice_get_within}
use Rattle.krml_syntax.specs.declared.tree.Ty.{Ty}
use Rattle.krml_syntax.specs.declared.tree.Ty.TheVariants as t
use Rattle.krml_syntax.specs.declared.tree.Field.{Field}
use Rattle.krml_syntax.specs.declared.tree.Con.{Con}
use Rattle.krml_syntax.specs.declared.tree.Def.{Def}
use Rattle.krml_ast.specs.Names.{type_named}
use Rattle.krml_ast.specs.IsType.{IsValue, IsFlat, IsType}
use Rattle.krml_ast.specs.WellTyped.{WellTyped, AreWellTyped}
use Rattle.krml_ast.specs.Leaves.{tag_type, leaves_of, leaves_in, leaves_within, leaves, composite_of, leaves_of_def}
use Rattle.krml_match.specs.Counted.{or_zero, count_at, counted_in, counted}
use Rattle.krml_match.proofs.Standing.{standing}

-- ---- what a definition defines

-- two counts that agree on the types of earlier definitions agree on what a definition defines
module _ (count count' : Ty → ℕ) (defs before : List Def)
    (agree : (a : Ty) (vars : List (List ℕ)) → IsType before vars a → count a ≡ count' a) where
  types_agree : (vars : List (List ℕ)) (types : List Ty) → AllByRecursion (λ a. IsType before vars a × IsFlat before a) types
      → sum_by count types ≡ sum_by count' types
  types_agree vars [] h = refl
  types_agree vars (a ∷ types) h = sum_by-cons count a types ∙ ap (λ z. z + sum_by count types) (agree a vars h.0.0)
      ∙ ap (λ z. count' a + z) (types_agree vars types h.1) ∙ sym (sum_by-cons count' a types)

  fields_agree : (vars : List (List ℕ)) (fields : List Field) → AllByRecursion (λ f. IsType before vars f.ty × IsValue f.ty) fields
      → sum_by count (map (λ f. f.ty) fields) ≡ sum_by count' (map (λ f. f.ty) fields)
  fields_agree vars [] h = refl
  fields_agree vars (f ∷ fields) h = sum_by-cons count f.ty (map (λ f. f.ty) fields)
      ∙ ap (λ z. z + sum_by count (map (λ f. f.ty) fields)) (agree f.ty vars h.0.0)
      ∙ ap (λ z. count' f.ty + z) (fields_agree vars fields h.1) ∙ sym (sum_by-cons count' f.ty (map (λ f. f.ty) fields))

  cons_agree : (vars : List (List ℕ)) (cons : List Con)
      → AllByRecursion (λ c. AllByRecursion (λ a. IsType before vars a × IsFlat before a) c.args) cons
      → sum_by count (flat_map (λ c. c.args) cons) ≡ sum_by count' (flat_map (λ c. c.args) cons)
  cons_agree vars [] h = refl
  cons_agree vars (c ∷ cons) h = sum_by-append count c.args (flat_map (λ c. c.args) cons)
      ∙ ap (λ z. z + sum_by count (flat_map (λ c. c.args) cons)) (types_agree vars c.args h.0)
      ∙ ap (λ z. sum_by count' c.args + z) (cons_agree vars cons h.1)
      ∙ sym (sum_by-append count' c.args (flat_map (λ c. c.args) cons))

  pub def_agrees : (def : Def) → WellTyped defs before def → leaves_of count (composite_of def) ≡ leaves_of count' (composite_of def)
  def_agrees def (WellTyped.struct {vars = vars} {fields = fields} new distinct names each) = fields_agree vars fields each
  def_agrees def (WellTyped.sum {vars = vars} {cons = cons} new new_cons distinct each) =
      sum_by-cons count tag_type (flat_map (λ c. c.args) cons)
      ∙ ap (λ z. z + sum_by count (flat_map (λ c. c.args) cons)) (agree tag_type vars (IsType.int _))
      ∙ ap (λ z. count' tag_type + z) (cons_agree vars cons each)
      ∙ sym (sum_by-cons count' tag_type (flat_map (λ c. c.args) cons))
  def_agrees def (WellTyped.table new fit) = refl
  def_agrees def (WellTyped.fun new distinct names each ok gives typed) = refl
  def_agrees def (WellTyped.entry new is none each answer) = refl

-- ---- the leaves of a type

module _ (defs : List Def) (typed : AreWellTyped defs) where
  -- the leaves of a definition, from so many levels
  abbrev at_level : ℕ → Def → ℕ
  at_level n def = leaves_of (leaves_within n defs) (composite_of def)

  named_level : (n : ℕ) (x : List ℕ) (args : List Ty)
      → leaves_within (suc n) defs (t.Named x args) ≡ leaves_of (leaves_within n defs) (type_named defs x)
  named_level n x args = ap (leaves_in (leaves_within n defs) defs) (t.outs-Named x args)

  -- as many levels as definitions before it and one more are enough
  levels_agree : (b j n m : ℕ) (def : Def) → j < b → slice_get defs j ≡ Some def → j < n → j < m
      → at_level n def ≡ at_level m def
  levels_agree zero j n m def lb there ln lm = absurd (omega (arith, lb))
  levels_agree (suc b) j zero m def lb there ln lm = absurd (omega (arith, ln))
  levels_agree (suc b) j (suc n) zero def lb there ln lm = absurd (omega (arith, lm))
  levels_agree (suc b) j (suc n) (suc m) def lb there ln lm =
      def_agrees (leaves_within (suc n) defs) (leaves_within (suc m) defs) defs (take j defs) (types (levels_agree b)) def
      (typed j def there)
    where
      types : ((j n m : ℕ) (def : Def) → j < b → slice_get defs j ≡ Some def → j < n → j < m → at_level n def ≡ at_level m def)
          → (a : Ty) (vars : List (List ℕ)) → IsType (take j defs) vars a → leaves_within (suc n) defs a ≡ leaves_within (suc m) defs a
      types less a vars IsType.bool = rw t.outs-Bool refl
      types less a vars IsType.unit = rw t.outs-Unit refl
      types less a vars (IsType.int i) = rw (t.outs-Int i) refl
      types less a vars (IsType.buf b ok flat) = rw (t.outs-Buf b) refl
      types less a vars (IsType.var {x = x} h) = rw (t.outs-Var x) refl
      types less a vars (IsType.named {x = x} {c = c} {args = args} is count oks) =
          let s = standing defs j x c is in
          let early = s.early in
          let here : type_named defs x ≡ composite_of s.def = s.named ∙ sym s.is in
          named_level n x args ∙ ap (leaves_of (leaves_within n defs)) here
          ∙ less s.place n m s.def (omega (arith, early, lb)) s.there (omega (arith, early, ln)) (omega (arith, early, lm))
          ∙ sym (named_level m x args ∙ ap (leaves_of (leaves_within m defs)) here)

  -- ---- counts

  module _ (counts : List ℕ) (n : ℕ) (are : counts ≡ map (leaves_of_def defs) (take n defs)) where
    counted_is : (a : Ty) (vars : List (List ℕ)) → IsType (take n defs) vars a → counted counts defs a ≡ leaves defs a
    counted_is a vars IsType.bool = rw t.outs-Bool refl
    counted_is a vars IsType.unit = rw t.outs-Unit refl
    counted_is a vars (IsType.int i) = rw (t.outs-Int i) refl
    counted_is a vars (IsType.buf b ok flat) = rw (t.outs-Buf b) refl
    counted_is a vars (IsType.var {x = x} h) = rw (t.outs-Var x) refl
    counted_is a vars (IsType.named {x = x} {c = c} {args = args} is count oks) =
        let s = standing defs n x c is in
        let within = slice_get_within defs s.place s.def s.there in
        let got : slice_get counts s.place ≡ Some (leaves_of_def defs s.def) =
        ap (λ z. slice_get z s.place) are ∙ slice_get-map (leaves_of_def defs) (take n defs) s.place
        ∙ ap (option_map (leaves_of_def defs)) s.front in
        ap (counted_in counts defs) (t.outs-Named x args) ∙ ap (count_at counts) s.found ∙ ap or_zero got
        ∙ levels_agree (suc s.place) s.place (suc (length defs)) (length defs) s.def (omega arith) s.there
        (omega (arith, within)) within
        ∙ ap (leaves_of (leaves_within (length defs) defs)) (s.is ∙ sym s.named)
        ∙ sym (named_level (length defs) x args)

    -- what is counted from those of the definitions before it are the leaves of a definition
    pub def_counted : (def : Def) → slice_get defs n ≡ Some def
        → leaves_of (counted counts defs) (composite_of def) ≡ leaves_of_def defs def
    def_counted def there = def_agrees (counted counts defs) (leaves defs) defs (take n defs) counted_is def (typed n def there)

-- the number of a constructor is one leaf
pub sum_counted : (counts : List ℕ) (defs : List Def) (types : List Ty)
    → sum_by (counted counts defs) (tag_type ∷ types) ≡ 1 + sum_by (counted counts defs) types
sum_counted counts defs types = sum_by-cons (counted counts defs) tag_type types
    ∙ ap (λ z. z + sum_by (counted counts defs) types) (ap (counted_in counts defs) (t.outs-Int _))
