-- The new names are of the shapes that C's names have, and as new and as distinct as the old ones.
use Rattle.std.proofs.Common.{◌≡◌, ℕ, false, List, [], ◌∷◌, ◌++◌, map, flat_map, Contains, bytes_eq, refl, sym, ap, ◌∙◌, subst}
use Rattle.std.specs.List.{AllByRecursion, IsDistinct}
use Rattle.std.proofs.lemmas.List.{map-append, map-id}
use Rattle.std.proofs.lemmas.Slice.Eq.{bytes_eq-Decides}
use Rattle.krml_syntax.specs.declared.tree.Field.{Field}
use Rattle.krml_syntax.specs.declared.tree.Con.{Con}
use Rattle.krml_syntax.specs.declared.tree.Def.{Def}
use Rattle.krml_syntax.specs.declared.tree.Def.TheVariants as d
use Rattle.krml_ast.specs.WellTyped.{AreNew, type_name, con_names, table_name, fun_name, entry_name, names_of}
use Rattle.krml_ast.specs.FileTypes.{field_names, listed_vars}
use Rattle.krml_passing.proofs.RenamedTypes.{contained_before}
use Rattle.krml_passing.specs.Naming.{param_under, con_under, def_renamed, Naming, TellsNamesApart}
use Rattle.krml_passing.proofs.Lookups.{names_under}

module _ (nm : Naming) (apart : TellsNamesApart nm) where
  -- ---- lists of names

  pub each_map : {A B : Type 0} (f : A → B) (P : A → Type 0) (Q : B → Type 0) (xs : List A) → ((x : A) → P x → Q (f x)) → AllByRecursion P xs → AllByRecursion Q (map f xs)
  each_map f P Q [] k h = tt
  each_map f P Q (x ∷ xs) k h = (k x h.0, each_map f P Q xs k h.1)

  -- the names that definitions give, where each gives its names under f
  pub given_under : (names : Def → List (List ℕ)) (f : List ℕ → List ℕ) → ((def : Def) → names (def_renamed nm def) ≡ map f (names def)) → (defs : List Def)
      → flat_map names (map (def_renamed nm) defs) ≡ map f (flat_map names defs)
  given_under names f h [] = refl
  given_under names f h (def ∷ defs) = ap (λ z. z ++ flat_map names (map (def_renamed nm) defs)) (h def) ∙ ap (λ z. map f (names def) ++ z) (given_under names f h defs)
      ∙ sym (map-append f (names def) (flat_map names defs))

  pub type_name_under : (def : Def) → type_name (def_renamed nm def) ≡ map nm.named (type_name def)
  type_name_under (d.Struct x vars fields) = refl
  type_name_under (d.Sum x vars cons) = refl
  type_name_under _ = refl

  con_names_same : (cons : List Con) → map (λ c. c.name) (map (con_under nm) cons) ≡ map nm.con (map (λ c. c.name) cons)
  con_names_same [] = refl
  con_names_same (c ∷ cons) = ap (λ z. nm.con c.name ∷ z) (con_names_same cons)

  pub con_names_under : (def : Def) → con_names (def_renamed nm def) ≡ map nm.con (con_names def)
  con_names_under (d.Sum x vars cons) = con_names_same cons
  con_names_under _ = refl

  pub table_name_under : (def : Def) → table_name (def_renamed nm def) ≡ map nm.table (table_name def)
  table_name_under (d.Table x i nums) = refl
  table_name_under _ = refl

  pub fun_name_under : (def : Def) → fun_name (def_renamed nm def) ≡ map nm.fun (fun_name def)
  fun_name_under (d.Fun x vars params result body) = refl
  fun_name_under _ = refl

  pub entry_name_under : (def : Def) → entry_name (def_renamed nm def) ≡ map nm.fun (entry_name def)
  entry_name_under (d.Entry x) = refl
  entry_name_under _ = refl

  pub field_names_under : (def : Def) → field_names (def_renamed nm def) ≡ map nm.field (field_names def)
  field_names_under (d.Struct x vars fields) = names_under nm apart fields
  field_names_under _ = refl

  -- parameters keep their names
  pub params_under : (params : List Field) → names_of (map (param_under nm) params) ≡ names_of params
  params_under [] = refl
  params_under (p ∷ params) = ap (λ z. p.name ∷ z) (params_under params)

  pub listed_vars_under : (def : Def) → listed_vars (def_renamed nm def) ≡ map (λ x. x) (listed_vars def)
  listed_vars_under def = go def ∙ sym (map-id (listed_vars def))
    where
      go : (def : Def) → listed_vars (def_renamed nm def) ≡ listed_vars def
      go (d.Struct x vars fields) = refl
      go (d.Sum x vars cons) = refl
      go (d.Fun x vars params result body) = refl
      go _ = refl

  -- ---- names that are new and distinct

  module _ (f : List ℕ → List ℕ) (different : (x y : List ℕ) → bytes_eq (f x) (f y) ≡ bytes_eq x y) where
    unlike_kept : (x : List ℕ) (xs : List (List ℕ)) → AllByRecursion (λ y. bytes_eq x y ≡ false) xs → AllByRecursion (λ y. bytes_eq (f x) y ≡ false) (map f xs)
    unlike_kept x xs h = each_map f (λ y. bytes_eq x y ≡ false) (λ y. bytes_eq (f x) y ≡ false) xs (λ y k. different x y ∙ k) h

    pub distinct_names_kept : (xs : List (List ℕ)) → IsDistinct bytes_eq xs → IsDistinct bytes_eq (map f xs)
    unfolding IsDistinct
    distinct_names_kept [] h = tt
    distinct_names_kept (x ∷ xs) h = (unlike_kept x xs h.0, distinct_names_kept xs h.1)

    same_before : (x y : List ℕ) → f x ≡ f y → x ≡ y
    same_before x y e = (bytes_eq-Decides x y).0 (sym (different x y) ∙ (bytes_eq-Decides (f x) (f y)).1 e)

    absent_kept : (xs : List (List ℕ)) (x : List ℕ) → (Contains xs x → ⊥) → Contains (map f xs) (f x) → ⊥
    absent_kept xs x h k = let r = contained_before nm apart f xs (f x) k in h (subst (λ z. Contains xs z) (sym (same_before x r.0 r.2)) r.1)

    pub new_kept : (names : Def → List (List ℕ)) → ((def : Def) → names (def_renamed nm def) ≡ map f (names def)) → (before : List Def) (def : Def)
        → AreNew names before def → AreNew names (map (def_renamed nm) before) (def_renamed nm def)
    new_kept names under before def h = (
      subst (IsDistinct bytes_eq) (sym (under def)) (distinct_names_kept (names def) h.0),
      subst (λ z. AllByRecursion (λ x. Contains (flat_map names (map (def_renamed nm) before)) x → ⊥) z) (sym (under def))
          (each_map f (λ x. Contains (flat_map names before) x → ⊥) (λ x. Contains (flat_map names (map (def_renamed nm) before)) x → ⊥) (names def)
          (λ x k has. absent_kept (flat_map names before) x k (subst (λ z. Contains z (f x)) (given_under names f under before) has)) h.1),
    )
