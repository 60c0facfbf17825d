-- Types of files without type variables have zero values.
use Rattle.std.proofs.Common.{◌≡◌, ℕ, zero, suc, ◌≤◌, false, List, [], ◌∷◌, ◌++◌, map, length, flat_map, Option, Some, option_map, option_and_then, ◌⊎◌, inl, inr, refl, sym, ap, ◌∙◌, subst, arith, append_assoc, pow_pos, slice_get}
use Rattle.std.specs.List.{AllByRecursion}
use Rattle.krml_trace.specs.Width.{bits}
use Rattle.krml_syntax.specs.declared.tree.IntTy.{IntTy}
use Rattle.krml_syntax.specs.declared.tree.Ty.{Ty}
use Rattle.krml_syntax.specs.declared.tree.Ty.TheVariants as t
use Rattle.krml_syntax.specs.declared.tree.Field.{Field}
use Rattle.krml_syntax.specs.declared.tree.Con.{Con}
use Rattle.krml_syntax.specs.declared.tree.Def.{Def}
use Rattle.krml_syntax.specs.declared.tree.Def.TheVariants as d
use Rattle.krml_ast.specs.Names.{Composite, Struct, Sum, vars_of, type_here, type_named, Constructor}
use Rattle.krml_syntax.specs.Types.{erased, type_at}
use Rattle.krml_syntax.specs.Shape.{Role}
use Rattle.krml_ast.specs.IsType.{HoldsBuffer, IsFlat, IsType, AreArguments}
use Rattle.krml_ast.specs.Typing.{at, fields_at}
use Rattle.krml_ast.specs.WellTyped.{names_of, WellTyped, AreWellTyped}
use Rattle.krml_ast.specs.FileTypes.{HasSize, listed_vars}
use Rattle.krml_ast.proofs.Earlier.{named_more, named_last}
use Rattle.krml_ast.proofs.Named.{is_struct, is_sum, struct_stands, sum_stands}
use Rattle.krml_meaning.specs.declared.value.Value.{Value}
use Rattle.krml_meaning.specs.declared.value.Value.TheVariants as v
use Rattle.krml_meaning.specs.Meaning.{zero_value, all_some, zero_of, zero_in, zero_within}
use Rattle.krml_meaning.specs.Shape.{HasShape, AllHaveShape}
use Rattle.krml_meaning.proofs.Lists.{each_get, no_some, each_so, each_among, each_contains}
use Rattle.krml_meaning.specs.Sound.{CanRun}
use Rattle.krml_meaning.proofs.Facts.{InSum}
use Rattle.krml_syntax.proofs.Types.{erased_bool, erased_unit, erased_int, erased_named, at_none}
use Rattle.krml_meaning.proofs.Earlier.{Settled, none_settled, flat_more}
use Rattle.krml_meaning.proofs.Files.{through, new_fields, new_cons, settled_more}

abbrev pub NoVars : Def → Type 0
NoVars def = listed_vars def ≡ []

pub no_vars : (defs : List Def) → flat_map listed_vars defs ≡ [] → AllByRecursion NoVars defs
no_vars [] e = tt
no_vars (def ∷ defs) e = let both = apart (listed_vars def) (flat_map listed_vars defs) e in (both.0, no_vars defs both.1)
  where
    apart : (xs ys : List (List ℕ)) → xs ++ ys ≡ [] → (xs ≡ []) × (ys ≡ [])
    apart [] ys q = (refl, q)
    apart (x ∷ xs) ys q = absurd (cc)

module _ (defs : List Def) where
  -- a type has a zero value
  pub record HasZero (a : Ty) : Type 0 where
    pub zero : Value
    pub is : zero_value defs a ≡ Some zero
    pub shape : HasShape defs [] zero (erased a)

  -- an argument of a constructor has a zero value, where what runs take of asking for it holds
  abbrev pub PartZeros : Type 0
  PartZeros = (x : List ℕ) (c : Constructor) (j : ℕ) (b : Ty) → InSum defs x c → slice_get c.args j ≡ Some b → CanRun defs Role.part → (c.vars ≡ []) × HasZero b

  -- a zero value with so many levels
  pub record ZeroWithin (n : ℕ) (a : Ty) : Type 0 where
    pub zero : Value
    pub is : zero_within n defs a ≡ Some zero
    pub shape : HasShape defs [] zero (erased a)

  -- the types of these have zero values, with one level a definition
  abbrev Zeros : List Def → Type 0
  Zeros before = (a : Ty) → IsType before [] a → (HoldsBuffer defs a → ⊥) → (n : ℕ) → length before ≤ n → ZeroWithin (suc n) a

  zero_bool : (n : ℕ) → ZeroWithin (suc n) t.Bool
  zero_bool n = record {
    zero = v.Bool false;
    is = ap (zero_in (zero_within n defs) defs) t.outs-Bool;
    shape = subst (HasShape defs [] (v.Bool false)) (sym erased_bool) HasShape.bool;
  }

  zero_unit : (n : ℕ) → ZeroWithin (suc n) t.Unit
  zero_unit n = record { zero = v.Unit; is = ap (zero_in (zero_within n defs) defs) t.outs-Unit; shape = subst (HasShape defs [] v.Unit) (sym erased_unit) HasShape.unit }

  zero_int : (i : IntTy) (n : ℕ) → ZeroWithin (suc n) (t.Int i)
  zero_int i n = record {
    zero = v.Num i.width 0;
    is = ap (zero_in (zero_within n defs) defs) (t.outs-Int i);
    shape = subst (HasShape defs [] (v.Num i.width 0)) (sym (erased_int i)) (HasShape.num (pow_pos (bits i.width)));
  }

  zero_named : (x : List ℕ) (args : List Ty) (n : ℕ) → zero_within (suc n) defs (t.Named x args) ≡ zero_of (zero_within n defs) args (type_named defs x)
  zero_named x args n = ap (zero_in (zero_within n defs) defs) (t.outs-Named x args)

  -- ---- the values of a list

  pub record AllZero (options : List (Option Value)) (types : List Ty) : Type 0 where
    pub zeros : List Value
    pub is : all_some options ≡ Some zeros
    pub shapes : AllHaveShape defs [] zeros types

  no_zero : AllZero [] []
  no_zero = record { zeros = []; is = refl; shapes = AllHaveShape.none }

  one_zero : (o : Option Value) (a : Ty) (options : List (Option Value)) (types : List Ty) (x : Value) → o ≡ Some x → HasShape defs [] x a → AllZero options types
      → AllZero (o ∷ options) (a ∷ types)
  one_zero o a options types x o_is h all = record {
    zeros = x ∷ all.zeros;
    is = ap (λ z. option_and_then (λ y. option_map (λ more. y ∷ more) (all_some options)) z) o_is ∙ ap (option_map (λ more. x ∷ more)) all.is;
    shapes = AllHaveShape.one h all.shapes;
  }

  -- a part of a definition without type variables, which is made of earlier ones
  module _ (before : List Def) (zeros : Zeros before) (n : ℕ) (le : length before ≤ n) where
    part_zero : (b : Ty) → IsType before [] b → (HoldsBuffer defs b → ⊥) → (x : Value) × (zero_within (suc n) defs (type_at [] [] b) ≡ Some x) × HasShape defs [] x (at [] [] b)
    part_zero b ok none =
        let z = zeros b ok none n le in
        let same = at_none [] b in
        (z.zero, ap (zero_within (suc n) defs) same ∙ z.is, subst (λ w. HasShape defs [] z.zero (erased w)) (sym same) z.shape)

    fields_zero : (fields : List Field) → AllByRecursion (λ f. IsType before [] f.ty × (HoldsBuffer defs f.ty → ⊥)) fields
        → AllZero (map (λ f. zero_within (suc n) defs (type_at [] [] f.ty)) fields) (fields_at [] [] fields)
    fields_zero [] h = no_zero
    fields_zero (f ∷ fields) h =
        let z = part_zero f.ty h.0.0 h.0.1 in
        one_zero (zero_within (suc n) defs (type_at [] [] f.ty)) (at [] [] f.ty) (map (λ f. zero_within (suc n) defs (type_at [] [] f.ty)) fields) (fields_at [] [] fields)
        z.0 z.1 z.2 (fields_zero fields h.1)

    args_zero : (types : List Ty) → AllByRecursion (λ a. IsType before [] a × (HoldsBuffer defs a → ⊥)) types
        → AllZero (map (λ a. zero_within (suc n) defs (type_at [] [] a)) types) (map (at [] []) types)
    args_zero [] h = no_zero
    args_zero (a ∷ types) h =
        let z = part_zero a h.0.0 h.0.1 in
        one_zero (zero_within (suc n) defs (type_at [] [] a)) (at [] [] a) (map (λ b. zero_within (suc n) defs (type_at [] [] b)) types) (map (at [] []) types)
        z.0 z.1 z.2 (args_zero types h.1)

    -- ---- a definition more

    module _ (x : List ℕ) where
      struct_zero : (fields : List Field) → type_named defs x ≡ Some (Struct [] fields) → AllByRecursion (λ f. IsType before [] f.ty) fields
          → (HoldsBuffer defs (t.Named x []) → ⊥) → ZeroWithin (suc (suc n)) (t.Named x [])
      struct_zero fields is oks none =
          let P : Field → Type 0 = λ f. IsType before [] f.ty × (HoldsBuffer defs f.ty → ⊥) in
          let each : AllByRecursion P fields = each_among P fields (λ f has. (each_contains (λ f. IsType before [] f.ty) fields f oks has, λ h. none (HoldsBuffer.field [] is has h))) in
          let all = fields_zero fields each in
          record {
            zero = v.Struct (names_of fields) all.zeros;
            is = zero_named x [] (suc n) ∙ ap (zero_of (zero_within (suc n) defs) []) is ∙ ap (option_map (λ xs. v.Struct (names_of fields) xs)) all.is;
            shape = subst (HasShape defs [] (v.Struct (names_of fields) all.zeros)) (sym (erased_named x [])) (HasShape.struct is refl AreArguments.none all.shapes);
          }

      sum_zero : (c : Con) (cons : List Con) → type_named defs x ≡ Some (Sum [] (c ∷ cons)) → AllByRecursion (λ a. IsType before [] a × (HoldsBuffer defs a → ⊥)) c.args
          → ZeroWithin (suc (suc n)) (t.Named x [])
      sum_zero c cons is each =
          let all = args_zero c.args each in
          record {
            zero = v.Con 0 all.zeros;
            is = zero_named x [] (suc n) ∙ ap (zero_of (zero_within (suc n) defs) []) is ∙ ap (option_map (λ xs. v.Con 0 xs)) all.is;
            shape = subst (HasShape defs [] (v.Con 0 all.zeros)) (sym (erased_named x [])) (HasShape.con is refl AreArguments.none refl all.shapes);
          }

pub vars_gone : (defs : List Def) (x : List ℕ) (c : Composite) → AllByRecursion NoVars defs → type_named defs x ≡ Some c → vars_of c ≡ []
vars_gone defs x (Struct vars fields) h e = let s = struct_stands defs x vars fields e in each_get NoVars defs s.0 (d.Struct x vars fields) h s.1
vars_gone defs x (Sum vars cons) h e = let s = sum_stands defs x vars cons e in each_get NoVars defs s.0 (d.Sum x vars cons) h s.1

empty : {A : Type 0} (xs : List A) → length xs ≡ 0 → xs ≡ []
empty [] e = refl
empty (x ∷ xs) e = absurd (omega (arith, e))

module _ (defs : List Def) (typed : AreWellTyped defs) (gone : AllByRecursion NoVars defs) (sizes : AllByRecursion HasSize defs) where
  module _ (before rest : List Def) (def : Def) (place : before ++ def ∷ rest ≡ defs) (s : Settled before) (w : WellTyped defs before def) (zeros : Zeros defs before) where
    named_whole : (x : List ℕ) (c : Composite) → type_named (before ++ def ∷ []) x ≡ Some c → type_named defs x ≡ Some c
    named_whole x c e = subst (λ z. type_named z x ≡ Some c) (append_assoc before (def ∷ []) rest ∙ place) (named_more (before ++ def ∷ []) rest x c e)

    size : HasSize def
    size = at before defs place sizes
      where
        at : (before ds : List Def) → before ++ def ∷ rest ≡ ds → AllByRecursion HasSize ds → HasSize def
        at before ds e h = first before (subst (AllByRecursion HasSize) (sym e) h)
          where
            first : (before : List Def) → AllByRecursion HasSize (before ++ def ∷ rest) → HasSize def
            first [] k = k.0
            first (other ∷ before) k = first before k.1

    flat_whole : (a : Ty) → IsType before [] a → IsFlat before a → HoldsBuffer defs a → ⊥
    flat_whole a ok f h = (flat_more before (def ∷ rest) s a [] ok f).flat (subst (λ z. HoldsBuffer z a) (sym place) h)

    last_zero : (x : List ℕ) (c : Composite) → type_here x def ≡ Some c → type_named defs x ≡ Some c → vars_of c ≡ [] → (HoldsBuffer defs (t.Named x []) → ⊥) → (n : ℕ)
        → length before ≤ n → ZeroWithin defs (suc (suc n)) (t.Named x [])
    last_zero x (Struct vars fields) q is none_vars none n le =
        struct_zero defs before zeros n le x fields (is ∙ ap (λ z. Some (Struct z fields)) none_vars)
        (subst (λ z. AllByRecursion (λ f. IsType before z f.ty) fields) none_vars (new_fields defs before x vars fields (subst (WellTyped defs before) (is_struct x vars fields def q) w))) none
    last_zero x (Sum vars []) q is none_vars none n le = absurd (let l = (subst HasSize (is_sum x vars [] def q) size).0 in omega (arith, l))
    last_zero x (Sum vars (c ∷ cons)) q is none_vars none n le =
        let oks = (new_cons defs before x vars (c ∷ cons) (subst (WellTyped defs before) (is_sum x vars (c ∷ cons) def q) w)).0 in
        let mine : AllByRecursion (λ a. IsType before [] a × IsFlat before a) c.args = subst (λ z. AllByRecursion (λ a. IsType before z a × IsFlat before a) c.args) none_vars oks in
        sum_zero defs before zeros n le x c cons (is ∙ ap (λ z. Some (Sum z (c ∷ cons))) none_vars)
        (each_so (λ a. IsType before [] a × IsFlat before a) (λ a. IsType before [] a × (HoldsBuffer defs a → ⊥)) c.args (λ a k. (k.0, flat_whole a k.0 k.1)) mine)

    zeros_more : Zeros defs (before ++ def ∷ [])
    zeros_more a IsType.bool none n le = zero_bool defs n
    zeros_more a IsType.unit none n le = zero_unit defs n
    zeros_more a (IsType.int i) none n le = zero_int defs i n
    zeros_more a (IsType.buf b ok f) none n le = absurd (none (HoldsBuffer.buffer b))
    zeros_more a (IsType.var (k, l, q)) none n le = absurd (omega (arith, l))
    zeros_more a (IsType.named {x = x} {c = c} {args = args} is m oks) none n le =
        let whole = named_whole x c is in
        let none_vars = vars_gone defs x c gone whole in
        let no_args : args ≡ [] = empty args (m ∙ ap (λ z. length z) none_vars) in
        subst (λ z. ZeroWithin defs (suc n) (t.Named x z)) (sym no_args)
        (go (named_last before def x c is) whole none_vars (subst (λ z. HoldsBuffer defs (t.Named x z) → ⊥) no_args none) n le)
      where
        more : (before : List Def) → length (before ++ def ∷ []) ≡ suc (length before)
        more [] = refl
        more (other ∷ before) = ap suc (more before)

        go : (type_named before x ≡ Some c) ⊎ (type_here x def ≡ Some c) → type_named defs x ≡ Some c → vars_of c ≡ [] → (HoldsBuffer defs (t.Named x []) → ⊥) → (n : ℕ)
            → length (before ++ def ∷ []) ≤ n → ZeroWithin defs (suc n) (t.Named x [])
        go (inl q) whole none_vars none n le =
            let longer = more before in
            zeros (t.Named x []) (IsType.named q (ap (λ z. length z) (sym none_vars)) AreArguments.none) none n (omega (arith, le, longer))
        go (inr q) whole none_vars none zero le = absurd (let longer = more before in omega (arith, le, longer))
        go (inr q) whole none_vars none (suc n) le = let longer = more before in last_zero x c q whole none_vars none n (omega (arith, le, longer))

  all_zeros : Zeros defs defs
  all_zeros = (through defs typed (λ before. Settled before × Zeros defs before)
      (λ before rest def place k w. (settled_more defs before def k.0 w, zeros_more before rest def place k.0 w k.1)) [] defs refl (none_settled, no_zeros)).1
    where
      no_zeros : Zeros defs []
      no_zeros a IsType.bool none n le = zero_bool defs n
      no_zeros a IsType.unit none n le = zero_unit defs n
      no_zeros a (IsType.int i) none n le = zero_int defs i n
      no_zeros a (IsType.buf b ok f) none n le = absurd (none (HoldsBuffer.buffer b))
      no_zeros a (IsType.var (k, l, q)) none n le = absurd (omega (arith, l))
      no_zeros a (IsType.named {c = c} is m oks) none n le = absurd (no_some c is)

  -- each closed type without buffers has one
  pub has_zero : (a : Ty) → IsType defs [] a → (HoldsBuffer defs a → ⊥) → HasZero defs a
  has_zero a ok none = let z = all_zeros a ok none (length defs) (omega arith) in record { zero = z.zero; is = z.is; shape = z.shape }
