-- The first wide type of a file, definition by definition.
use Rattle.std.proofs.Common.{◌≡◌, ℕ, suc, ◌+◌, ◌<◌, ◌≤◌, nat_lt, Bool, true, false, if◌then◌else◌, List, [], ◌∷◌, ◌++◌, map, take, length, get_or, slice_get, Option, Some, None, is_some, refl, sym, ap, ◌∙◌, subst, arith}
use Rattle.std.specs.List.{AllByRecursion}
use Rattle.std.specs.Option.{option_or}
use Rattle.std.proofs.Math.Seq.{take-suc}
use Rattle.std.proofs.lemmas.Bool.{ltb-false}
use Rattle.std.proofs.lemmas.Option.{slice_get-get_or}
use Rattle.std.proofs.lemmas.List.{map-append}
use Rattle.krml_trace.specs.First.{first}
use Rattle.krml_trace.proofs.First.{first_more}
use Rattle.krml_syntax.specs.declared.tree.Def.{Def}
use Rattle.krml_syntax.specs.declared.tree.Def.TheVariants as d
use Rattle.krml_ast.specs.WellTyped.{AreWellTyped}
use Rattle.krml_ast.specs.Instances.{source_name}
use Rattle.krml_ast.specs.Leaves.{max_leaves, leaves_of, composite_of, leaves_of_def, AreNarrow}
use Rattle.krml_match.specs.Wide.{if_wide, wide_def, first_wide}
use Rattle.krml_match.specs.Counted.{counted, wide_at}
use Rattle.krml_match.proofs.Counted.{def_counted}
use Rattle.krml_match.proofs.Standing.{first_front}

-- ---- one definition

wide_here : (defs : List Def) (def : Def) → wide_def defs def ≡ wide_at (leaves_of_def defs def) def
wide_here defs (d.Struct x vars fields) = refl
wide_here defs (d.Sum x vars cons) = refl
wide_here defs (d.Table x i nums) = refl
wide_here defs (d.Fun x vars params result body) = refl
wide_here defs (d.Entry x) = refl

not_wide : (x : List ℕ) (n : ℕ) → if_wide x n ≡ None → n ≤ max_leaves
not_wide x n e = ltb-false max_leaves n (go (nat_lt max_leaves n) (source_name x, n) e)
  where
    go : (b : Bool) (found : List ℕ × ℕ) → (if b then Some found else None) ≡ None → b ≡ false
    go true found q = absurd (cc)
    go false found q = refl

narrow_here : (defs : List Def) (def : Def) → wide_def defs def ≡ None → leaves_of_def defs def ≤ max_leaves
narrow_here defs (d.Struct x vars fields) e = not_wide x (leaves_of_def defs (d.Struct x vars fields)) e
narrow_here defs (d.Sum x vars cons) e = not_wide x (leaves_of_def defs (d.Sum x vars cons)) e
narrow_here defs (d.Table x i nums) e = omega arith
narrow_here defs (d.Fun x vars params result body) e = omega arith
narrow_here defs (d.Entry x) e = omega arith

-- a file without a wide type is narrow
pub none_wide : (defs : List Def) → first_wide defs ≡ None → AreNarrow defs
none_wide defs e = each defs e
  where
    each : (ds : List Def) → first (wide_def defs) ds ≡ None → AllByRecursion (λ def. leaves_of_def defs def ≤ max_leaves) ds
    each [] q = tt
    each (def ∷ ds) q = go (wide_def defs def) refl q (each ds)
      where
        go : (o : Option (List ℕ × ℕ)) → wide_def defs def ≡ o → option_or o (first (wide_def defs) ds) ≡ None
            → (first (wide_def defs) ds ≡ None → AllByRecursion (λ def. leaves_of_def defs def ≤ max_leaves) ds)
            → AllByRecursion (λ def. leaves_of_def defs def ≤ max_leaves) (def ∷ ds)
        go (Some w) is r later = absurd (cc)
        go None is r later = (narrow_here defs def is, later r)

-- ---- definition by definition

-- The leaves of the first n definitions are counted, and none of these is wide.
pub record Walked (defs : List Def) (n : ℕ) (counts : List ℕ) : Type 0 where
  pub are : counts ≡ map (leaves_of_def defs) (take n defs)
  pub none : first (wide_def defs) (take n defs) ≡ None

pub walk_begins : (defs : List Def) → Walked defs 0 []
walk_begins defs = record { are = refl; none = refl }

-- the walk is through
pub walk_through : (defs : List Def) (counts : List ℕ) → Walked defs (length defs) counts → first_wide defs ≡ None
walk_through defs counts w = sym (ap (first (wide_def defs)) (whole defs)) ∙ w.none
  where
    whole : (ds : List Def) → take (length ds) ds ≡ ds
    whole [] = refl
    whole (def ∷ ds) = ap (λ z. def ∷ z) (whole ds)

module _ (defs : List Def) (typed : AreWellTyped defs) (n : ℕ) (counts : List ℕ) (def : Def) (within : n < length defs)
    (here : def ≡ get_or defs n def) (w : Walked defs n counts) where
  there : slice_get defs n ≡ Some def
  there = slice_get-get_or defs n def within ∙ ap Some (sym here)

  -- what is counted for the definition
  abbrev number : ℕ
  number = leaves_of (counted counts defs) (composite_of def)

  right : number ≡ leaves_of_def defs def
  right = def_counted defs typed counts n w.are def there

  wide_is : wide_at number def ≡ wide_def defs def
  wide_is = ap (λ z. wide_at z def) right ∙ sym (wide_here defs def)

  cut : take (n + 1) defs ≡ take n defs ++ def ∷ []
  cut = let next : n + 1 ≡ suc n = omega arith in
      ap (λ z. take z defs) next ∙ take-suc defs n def within ∙ ap (λ z. take n defs ++ z ∷ []) (sym here)

  pub walk_on : wide_at number def ≡ None → Walked defs (n + 1) (counts ++ number ∷ [])
  walk_on narrow = record {
    are = ap (λ z. z ++ number ∷ []) w.are ∙ ap (λ z. map (leaves_of_def defs) (take n defs) ++ z ∷ []) right
        ∙ sym (ap (map (leaves_of_def defs)) cut ∙ map-append (leaves_of_def defs) (take n defs) (def ∷ []));
    none = ap (first (wide_def defs)) cut ∙ first_more (wide_def defs) (take n defs) (def ∷ [])
        ∙ ap (λ o. option_or o (first (wide_def defs) (def ∷ []))) w.none ∙ ap (λ o. option_or o None) (sym wide_is ∙ narrow);
  }

  pub walk_ends : (found : List ℕ × ℕ) → wide_at number def ≡ Some found → first_wide defs ≡ Some found
  walk_ends found wide = first_front (wide_def defs) defs (n + 1) found
      (ap (first (wide_def defs)) cut ∙ first_more (wide_def defs) (take n defs) (def ∷ [])
      ∙ ap (λ o. option_or o (first (wide_def defs) (def ∷ []))) w.none ∙ ap (λ o. option_or o None) (sym wide_is ∙ wide))

  -- the same of an answer of the code
  module _ (leaves : ℕ) (answer : Option (List ℕ × ℕ)) (counted_so : leaves ≡ number) (wide_so : answer ≡ wide_at leaves def) where
    answer_is : wide_at number def ≡ answer
    answer_is = ap (λ z. wide_at z def) (sym counted_so) ∙ sym wide_so

    pub stops : is_some answer ≡ true → answer ≡ first_wide defs
    stops is = go answer is answer_is
      where
        go : (o : Option (List ℕ × ℕ)) → is_some o ≡ true → wide_at number def ≡ o → o ≡ first_wide defs
        go (Some found) q e = sym (walk_ends found e)
        go None q e = absurd (cc)

    pub goes : is_some answer ≡ false → Walked defs (n + 1) (counts ++ leaves ∷ [])
    goes is = subst (λ z. Walked defs (n + 1) (counts ++ z ∷ [])) (sym counted_so) (walk_on (go answer is answer_is))
      where
        go : (o : Option (List ℕ × ℕ)) → is_some o ≡ false → wide_at number def ≡ o → wide_at number def ≡ None
        go (Some found) q e = absurd (cc)
        go None q e = e
