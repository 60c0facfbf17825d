-- Patterns under new names: they take the images of the values that they took, and bind the images of what they bound.
use Rattle.std.proofs.Common.{◌≡◌, ℕ, ◌==◌, ◌&&◌, Bool, true, false, if◌then◌else◌, List, [], ◌∷◌, ◌++◌, map, Option, Some, None, option_map, option_and_then, refl, sym, ap, ◌∙◌, subst}
use Rattle.std.proofs.lemmas.List.{map-append}
use Rattle.krml_trace.specs.Width.{same_width}
use Rattle.krml_syntax.specs.declared.tree.IntTy.{IntTy}
use Rattle.krml_syntax.specs.declared.tree.Ty.{Ty}
use Rattle.krml_syntax.specs.declared.tree.Pat.{Pat, roll-Pat, map-Pat}
use Rattle.krml_syntax.specs.declared.tree.Pat.TheOpen.{Pat-F}
use Rattle.krml_syntax.specs.declared.tree.Pat.TheViews.{out-roll-Pat}
use Rattle.krml_syntax.specs.declared.tree.Pat.TheFolds.{fold_out-Pat, fold-roll-Pat, ind-Pat}
use Rattle.krml_syntax.specs.declared.tree.Expr.{Expr}
use Rattle.krml_syntax.specs.declared.tree.Def.{Def}
use Rattle.krml_syntax.specs.Spelling.{Each}
use Rattle.krml_meaning.specs.declared.value.Value.{Value, out-Value}
use Rattle.krml_meaning.specs.declared.value.Value.TheOpen.{Value-F}
use Rattle.krml_meaning.specs.State.{Variables}
use Rattle.krml_meaning.specs.Meaning as src
use Rattle.krml_passing.specs.Images.{value_under, vars_image}
use Rattle.krml_passing.specs.Naming.{Naming, TellsNamesApart, pat_under, images_of}
use Rattle.krml_passing.proofs.Lookups.{place_under, to, con_place_under}

module _ (n : Naming) (ok : TellsNamesApart n) where
  abbrev pub vars_under : Variables → Variables
  vars_under = vars_image (images_of n ok)

  -- It takes the same values, and binds the same variables.
  pub record SameTaking (f f' : src.Taking) : Type 0 where
    pub run : (x : Value) → f' (n.value x) ≡ option_map vars_under (f x)

  take_all_under : (fs fs' : List src.Taking) → Each SameTaking fs fs' → (xs : List Value) → src.take_all fs' (map n.value xs)
      ≡ option_map vars_under (src.take_all fs xs)
  take_all_under fs fs' Each.none [] = refl
  take_all_under fs fs' Each.none (x ∷ xs) = refl
  take_all_under fs fs' (Each.one h hs) [] = refl
  take_all_under fs fs' (Each.one {x = f} {xs = more} {ys = more'} h hs) (x ∷ xs) = rw (h.run x, take_all_under more more' hs xs)
      (go (f x) (src.take_all more xs))
    where
      go : (o later : Option Variables) → option_and_then (λ vars. option_map (λ rest. rest ++ vars) (option_map vars_under later))
          (option_map vars_under o)
          ≡ option_map vars_under (option_and_then (λ vars. option_map (λ rest. rest ++ vars) later) o)
      go None later = refl
      go (Some vars) None = refl
      go (Some vars) (Some rest) = ap Some (sym (map-append (λ q. (q.0, n.value q.1)) rest vars))

  where_true_under : (b : Bool) → src.where_true b ≡ option_map vars_under (src.where_true b)
  where_true_under true = refl
  where_true_under false = refl

  module _ (body : Expr → Expr) (defs : List Def) where
    -- what one layer of a pattern takes, by the shape of the value
    abbrev TakesLayer : Pat-F src.Taking → Pat-F src.Taking → Type 0
    TakesLayer q q' = (o : Value-F Value) → src.taking (to n ok body defs) q' (value_under n.value n.field o)
        ≡ option_map vars_under (src.taking defs q o)

    by_shape : (q q' : Pat-F src.Taking) → TakesLayer q q' → (x : Value) → src.taking (to n ok body defs) q' (out-Value (n.value x))
        ≡ option_map vars_under (src.taking defs q (out-Value x))
    by_shape q q' k x = ap (src.taking (to n ok body defs) q') (ok.out_value x) ∙ k (out-Value x)

    bool_taking : (b : Bool) → TakesLayer (Pat-F.Bool b) (Pat-F.Bool b)
    bool_taking b (Value-F.Bool c) = where_true_under (src.same_truth b c)
    bool_taking b _ = refl

    num_taking : (i : IntTy) (m : ℕ) → TakesLayer (Pat-F.Num i m) (Pat-F.Num i m)
    num_taking i m (Value-F.Num w k) = where_true_under (same_width i.width w && m == k)
    num_taking i m _ = refl

    con_taking : (x : List ℕ) (fs fs' : List src.Taking) → Each SameTaking fs fs' → TakesLayer (Pat-F.Con x fs) (Pat-F.Con (n.con x) fs')
    con_taking x fs fs' hs (Value-F.Con k xs) = rw (con_place_under n ok body defs x) (go (src.con_place defs x))
      where
        at : (b : Bool) → (if b then src.take_all fs' (map n.value xs) else None)
            ≡ option_map vars_under (if b then src.take_all fs xs else None)
        at true = take_all_under fs fs' hs xs
        at false = refl

        go : (o : Option (ℕ × List Ty)) → option_and_then (λ q. if q.0 == k then src.take_all fs' (map n.value xs) else None)
            (option_map (place_under n ok) o)
            ≡ option_map vars_under (option_and_then (λ q. if q.0 == k then src.take_all fs xs else None) o)
        go None = refl
        go (Some q) = at (q.0 == k)
    con_taking x fs fs' hs _ = refl

    make_taking : (x : List ℕ) (fs fs' : List src.Taking) → Each SameTaking fs fs'
        → TakesLayer (Pat-F.Make x fs) (Pat-F.Make (n.named x) fs')
    make_taking x fs fs' hs (Value-F.Struct names xs) = take_all_under fs fs' hs xs
    make_taking x fs fs' hs _ = refl

    abbrev TakesSame : Pat → Type 0
    TakesSame q = SameTaking (src.takes defs q) (src.takes (to n ok body defs) (n.pat q))

    -- a pattern and the one under the new names, each by what it is made of
    by_layers : (o : Pat-F Pat) → SameTaking (src.taking_of defs (map-Pat Pat src.Taking (src.takes defs) o))
        (src.taking_of (to n ok body defs) (map-Pat Pat src.Taking (src.takes (to n ok body defs)) (pat_under n.pat n.con n.named o)))
        → TakesSame (roll-Pat o)
    by_layers o h =
        let old : src.takes defs (roll-Pat o) ≡ src.taking_of defs (map-Pat Pat src.Taking (src.takes defs) o) = fold-roll-Pat src.Taking
        (src.taking_of defs) o in
        let new : src.takes (to n ok body defs) (n.pat (roll-Pat o))
        ≡ src.taking_of (to n ok body defs) (map-Pat Pat src.Taking (src.takes (to n ok body defs)) (pat_under n.pat n.con n.named o)) =
        fold_out-Pat src.Taking (src.taking_of (to n ok body defs)) (n.pat (roll-Pat o))
        ∙ ap (λ z. src.taking_of (to n ok body defs) (map-Pat Pat src.Taking (src.takes (to n ok body defs)) z)) (ok.out_pat (roll-Pat o)
        ∙ ap (pat_under n.pat n.con n.named) (out-roll-Pat o)) in
        subst (λ z. SameTaking z (src.takes (to n ok body defs) (n.pat (roll-Pat o)))) (sym old)
        (subst (SameTaking (src.taking_of defs (map-Pat Pat src.Taking (src.takes defs) o))) (sym new) h)

    module _ (X : Type 0) (w : X → Pat) (h : (x : X) → TakesSame (w x)) where
      each_takes : (xs : List X) → Each SameTaking (map (src.takes defs) (map w xs)) (map (src.takes (to n ok body defs))
          (map n.pat (map w xs)))
      each_takes [] = Each.none
      each_takes (x ∷ xs) = Each.one (h x) (each_takes xs)

      step_takes : (y : Pat-F X) → TakesSame (roll-Pat (map-Pat X Pat w y))
      step_takes Pat-F.Any = by_layers Pat-F.Any (record { run = λ z. refl })
      step_takes (Pat-F.Bind x) = by_layers (Pat-F.Bind x) (record { run = λ z. refl })
      step_takes (Pat-F.Bool b) = by_layers (Pat-F.Bool b) (record { run = by_shape (Pat-F.Bool b) (Pat-F.Bool b) (bool_taking b) })
      step_takes (Pat-F.Num i k) = by_layers (Pat-F.Num i k) (record { run = by_shape (Pat-F.Num i k) (Pat-F.Num i k) (num_taking i k) })
      step_takes (Pat-F.Con x xs) =
          let fs = map (src.takes defs) (map w xs) in
          let fs' = map (src.takes (to n ok body defs)) (map n.pat (map w xs)) in
          by_layers (Pat-F.Con x (map w xs)) (record {
            run = by_shape (Pat-F.Con x fs) (Pat-F.Con (n.con x) fs')
                (con_taking x fs fs' (each_takes xs));
          })
      step_takes (Pat-F.Make x xs) =
          let fs = map (src.takes defs) (map w xs) in
          let fs' = map (src.takes (to n ok body defs)) (map n.pat (map w xs)) in
          by_layers (Pat-F.Make x (map w xs)) (record {
            run = by_shape (Pat-F.Make x fs) (Pat-F.Make (n.named x) fs')
                (make_taking x fs fs' (each_takes xs));
          })

    -- a pattern under the new names takes the same values
    pub takes_under : (q : Pat) → TakesSame q
    takes_under = ind-Pat TakesSame (λ x y eq. subst (λ z. TakesSame (roll-Pat z)) eq (step_takes _ (λ q. q.0) (λ q. q.1) y))
