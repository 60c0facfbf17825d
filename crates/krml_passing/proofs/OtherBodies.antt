-- A file whose functions have other bodies: names mean in it what they meant, and it is well typed where the bodies are.
use Rattle.std.proofs.Common.{◌≡◌, ℕ, List, [], ◌∷◌, ◌++◌, map, take, flat_map, Option, Some, None, option_map, inl, inr, slice_get, refl, sym, ap, ◌∙◌, subst}
use Rattle.std.proofs.lemmas.List.{take-map}
use Rattle.std.proofs.lemmas.Option.{slice_get-map}
use Rattle.krml_trace.specs.First.{first}
use Rattle.krml_trace.proofs.First.{first_map, first_same}
use Rattle.krml_trace.proofs.Lists.{each_so}
use Rattle.krml_syntax.specs.declared.tree.Ty.{Ty}
use Rattle.krml_syntax.specs.declared.tree.Field.{Field}
use Rattle.krml_syntax.specs.declared.tree.Pat.{Pat}
use Rattle.krml_syntax.specs.declared.tree.Expr.{Expr}
use Rattle.krml_syntax.specs.declared.tree.Def.{Def}
use Rattle.krml_syntax.specs.declared.tree.Def.TheVariants as d
use Rattle.krml_ast.specs.Names.{type_here, type_named, con_here, con_named, table_here, table_named, fun_here, fun_named}
use Rattle.krml_ast.specs.IsType.{HoldsBuffer, IsFlat, IsType, AreArguments}
use Rattle.krml_ast.specs.Typing.{Vars, IsResult, Matches, MatchAll, HasType}
use Rattle.krml_ast.specs.WellTyped.{AreNew, type_name, con_names, table_name, fun_name, entry_name, WellTyped, AreWellTyped}
use Rattle.krml_rename.specs.Pass.{def_with}

-- names of each kind mean the same
pub record SameNames (defs defs' : List Def) : Type 0 where
  pub types : (x : List ℕ) → type_named defs' x ≡ type_named defs x
  pub cons : (x : List ℕ) → con_named defs' x ≡ con_named defs x
  pub tables : (x : List ℕ) → table_named defs' x ≡ table_named defs x
  pub funs : (x : List ℕ) → fun_named defs' x ≡ fun_named defs x

-- ---- types

module _ (defs defs' : List Def) (same : SameNames defs defs') where
  holds_before : {a : Ty} → HoldsBuffer defs' a → HoldsBuffer defs a
  holds_before (HoldsBuffer.buffer b) = HoldsBuffer.buffer b
  holds_before (HoldsBuffer.field {x = x} args is has h) = HoldsBuffer.field args (sym (same.types x) ∙ is) has (holds_before h)

  pub flat_kept : {a : Ty} → IsFlat defs a → IsFlat defs' a
  flat_kept f = record { value = f.value; flat = λ h. f.flat (holds_before h) }

  pub result_kept : {a : Ty} → IsResult defs a → IsResult defs' a
  result_kept (inl e) = inl e
  result_kept (inr f) = inr (flat_kept f)

  mutual
    pub type_kept : {tvars : List (List ℕ)} {a : Ty} → IsType defs tvars a → IsType defs' tvars a
    type_kept IsType.bool = IsType.bool
    type_kept IsType.unit = IsType.unit
    type_kept (IsType.int i) = IsType.int i
    type_kept (IsType.buf b ok f) = IsType.buf b (type_kept ok) (flat_kept f)
    type_kept (IsType.var h) = IsType.var h
    type_kept (IsType.named {x = x} is n oks) = IsType.named (same.types x ∙ is) n (arguments_kept oks)

    pub arguments_kept : {tvars : List (List ℕ)} {args : List Ty} → AreArguments defs tvars args → AreArguments defs' tvars args
    arguments_kept AreArguments.none = AreArguments.none
    arguments_kept (AreArguments.one ok f oks) = AreArguments.one (type_kept ok) (flat_kept f) (arguments_kept oks)

  mutual
    pub matches_kept : {a : Ty} {q : Pat} {vars : Vars} → Matches defs a q vars → Matches defs' a q vars
    matches_kept Matches.any = Matches.any
    matches_kept Matches.bind = Matches.bind
    matches_kept Matches.bool = Matches.bool
    matches_kept (Matches.num lt) = Matches.num lt
    matches_kept (Matches.con {x = x} args is ms) = Matches.con args (same.cons x ∙ is) (match_all_kept ms)
    matches_kept (Matches.make {x = x} args is ms) = Matches.make args (same.types x ∙ is) (match_all_kept ms)

    match_all_kept : {types : List Ty} {ps : List Pat} {vars : Vars} → MatchAll defs types ps vars → MatchAll defs' types ps vars
    match_all_kept MatchAll.none = MatchAll.none
    match_all_kept (MatchAll.one m ms) = MatchAll.one (matches_kept m) (match_all_kept ms)

-- ---- other bodies

-- what is read off a definition rests on no body
abbrev pub RestsOnNoBody : {A : Type 0} → (Def → A) → Type 0
RestsOnNoBody f = (x : List ℕ) (vars : List (List ℕ)) (params : List Field) (result : Ty) (a b : Expr)
    → f (d.Fun x vars params result a) ≡ f (d.Fun x vars params result b)

module _ (body : Expr → Expr) where
  abbrev pub with_bodies : List Def → List Def
  with_bodies defs = map (def_with body) defs

  same_with : {A : Type 0} (f : Def → A) → RestsOnNoBody f → (def : Def) → f (def_with body def) ≡ f def
  same_with f rests (d.Fun x vars params result a) = rests x vars params result (body a) a
  same_with f rests _ = refl

  first_with : {A : Type 0} (f : Def → Option A) → RestsOnNoBody f → (defs : List Def) → first f (with_bodies defs) ≡ first f defs
  first_with f rests defs = first_map f (def_with body) defs ∙ first_same (λ def. f (def_with body def)) f defs (same_with f rests)

  pub listed_with : {A : Type 0} (f : Def → List A) → RestsOnNoBody f → (defs : List Def) → flat_map f (with_bodies defs) ≡ flat_map f defs
  listed_with f rests [] = refl
  listed_with f rests (def ∷ defs) = ap (λ z. z ++ flat_map f (with_bodies defs)) (same_with f rests def)
      ∙ ap (λ z. f def ++ z) (listed_with f rests defs)

  pub names_with : (defs : List Def) → SameNames defs (with_bodies defs)
  names_with defs = record {
    types = λ x. first_with (type_here x) (λ y v p r a b. refl) defs;
    cons = λ x. first_with (con_here x) (λ y v p r a b. refl) defs;
    tables = λ x. first_with (table_here x) (λ y v p r a b. refl) defs;
    funs = λ x. first_with (fun_here x) (λ y v p r a b. refl) defs;
  }

  new_with : (names : Def → List (List ℕ)) → RestsOnNoBody names → (before : List Def) (def : Def) → AreNew names before def
      → AreNew names (with_bodies before) (def_with body def)
  new_with names rests before def h = rw (same_with names rests def) (rw (listed_with names rests before) h)

  -- Each body has outside of frames the type that the old one has.
  abbrev pub BodiesTyped : List Def → Type 0
  BodiesTyped defs = (tvars : List (List ℕ)) (vars : Vars) (x : Expr) (r : Ty)
      → HasType defs tvars (record { vars = vars; frame = None }) x r
      → HasType (with_bodies defs) tvars (record { vars = vars; frame = None }) (body x) r

  module _ (defs : List Def) (typed : BodiesTyped defs) where
    def_kept : (before : List Def) (def : Def) → WellTyped defs before def
        → WellTyped (with_bodies defs) (with_bodies before) (def_with body def)
    def_kept before def (WellTyped.struct new distinct names each) =
        let s = names_with before in
        WellTyped.struct (new_with type_name (λ y v p r a b. refl) before def new) distinct names
        (each_so _ _ _ (λ f k. (type_kept before (with_bodies before) s k.0, k.1)) each)
    def_kept before def (WellTyped.sum new new_cons distinct each) =
        let s = names_with before in
        WellTyped.sum (new_with type_name (λ y v p r a b. refl) before def new)
        (new_with con_names (λ y v p r a b. refl) before def new_cons) distinct
        (each_so _ _ _ (λ c k. each_so _ _ c.args
        (λ a h. (type_kept before (with_bodies before) s h.0, flat_kept before (with_bodies before) s h.1)) k) each)
    def_kept before def (WellTyped.table new fit) = WellTyped.table (new_with table_name (λ y v p r a b. refl) before def new) fit
    def_kept before def (WellTyped.fun new distinct names each ok gives h) =
        let s = names_with defs in
        WellTyped.fun (new_with fun_name (λ y v p r a b. refl) before def new) distinct names
        (each_so _ _ _ (λ p k. (type_kept defs (with_bodies defs) s k.0, k.1)) each)
        (type_kept defs (with_bodies defs) s ok) (result_kept defs (with_bodies defs) s gives) (typed _ _ _ _ h)
    def_kept before def (WellTyped.entry {x = x} new is none each answer) =
        WellTyped.entry (new_with entry_name (λ y v p r a b. refl) before def new) ((names_with defs).funs x ∙ is) none each answer

    old_def : (o : Option Def) (new : Def) → option_map (def_with body) o ≡ Some new
        → (def : Def) × (o ≡ Some def) × (def_with body def ≡ new)
    old_def (Some def) new h = (def, refl, cc)
    old_def None new h = absurd (cc)

    pub well_typed_with : AreWellTyped defs → AreWellTyped (with_bodies defs)
    well_typed_with h k new is =
        let o = old_def (slice_get defs k) new (sym (slice_get-map (def_with body) defs k) ∙ is) in
        subst (WellTyped (with_bodies defs) (take k (with_bodies defs))) o.2
        (subst (λ z. WellTyped (with_bodies defs) z (def_with body o.0)) (sym (take-map (def_with body) k defs))
        (def_kept (take k defs) o.0 (h k o.0 o.1)))
