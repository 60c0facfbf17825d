-- Turns of loops over lists.
use Rattle.std.proofs.Common.{◌≡◌, ℕ, suc, ◌+◌, ◌<◌, List, [], ◌∷◌, ◌++◌, map, length, take, get_or, Option, Some, None, option_map, sym, ap, ◌∙◌, arith}
use Rattle.std.specs.Option.{option_or}
use Rattle.std.proofs.Math.Seq.{take-suc}
use Rattle.std.proofs.lemmas.List.{map-append, take-map}
use Rattle.std.proofs.lemmas.Option.{slice_get-map, slice_get-get_or}
use Rattle.krml_trace.specs.First.{first}
use Rattle.krml_trace.proofs.First.{first_more, same_item}
use Rattle.krml_syntax.specs.declared.tree.Def.{Def}
use Rattle.krml_hoist.specs.declared.refusal.HoistRefusal.{HoistRefusal}
use Rattle.krml_hoist.specs.declared.refusal.HoistRefusal.TheVariants.{FrameTooLarge, NoMemory}
use Rattle.krml_hoist.specs.Refusing.{Refuses}

-- one more of a list
pub one_more : {A : Type 0} (xs : List A) (i : ℕ) (x : A) → i < length xs → x ≡ get_or xs i x → take (i + 1) xs ≡ take i xs ++ x ∷ []
one_more xs i x within here =
    let one : i + 1 ≡ suc i = omega arith in
    ap (λ k. take k xs) one ∙ take-suc xs i x within ∙ ap (λ y. take i xs ++ y ∷ []) (sym here)

module _ (give : Def → Option (List ℕ × ℕ)) (f : Def → Def) (defs : List Def) (i : ℕ) (x : Def) (within : i < length defs) (here : x ≡ get_or defs i x) where
  -- a definition that is not blamed
  pub one_def : (done next : List Def) (v : Def) → done ≡ map f (take i defs) → first give done ≡ None → v ≡ f x → give (f x) ≡ None
      → next ≡ done ++ v ∷ [] → (next ≡ map f (take (i + 1) defs)) × (first give next ≡ None)
  one_def done next v made small v_is none pushed =
      let next_is : next ≡ done ++ f x ∷ [] = pushed ∙ ap (λ z. done ++ z ∷ []) v_is in (
        next_is ∙ ap (λ z. z ++ f x ∷ []) made ∙ sym (map-append f (take i defs) (x ∷ [])) ∙ ap (map f) (sym (one_more defs i x within here)),
        ap (first give) next_is ∙ first_more give done (f x ∷ []) ∙ ap (λ o. option_or o (option_or (give (f x)) None)) small
            ∙ ap (λ o. option_or o None) none,
      )

  -- the first one that is blamed
  pub first_blamed : first give (map f (take i defs)) ≡ None → (e : HoistRefusal) → Refuses (give (f x)) e
      → Refuses (first give (map f defs)) e
  first_blamed none (FrameTooLarge fun bytes) says = same_item give give (λ def o. o) (map f defs) (fun, bytes) (record {
    place = i;
    item = f x;
    there = slice_get-map f defs i ∙ ap (option_map f) (slice_get-get_or defs i x within ∙ ap Some (sym here));
    gives = says;
    earlier = ap (first give) (take-map f i defs) ∙ none;
  }) (fun, bytes) says
  first_blamed none NoMemory says = tt
