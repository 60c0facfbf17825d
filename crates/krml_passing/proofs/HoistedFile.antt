-- A plain file becomes a hoisted file.
use Rattle.std.proofs.Common.{◌≡◌, ℕ, List, [], ◌∷◌, ◌++◌, map, length, flat_map, refl, sym, ap, ◌∙◌, subst, arith}
use Rattle.std.specs.List.{AllByRecursion}
use Rattle.krml_trace.proofs.Lists.{each_append, each_left, each_right, each_so, each_both}
use Rattle.krml_syntax.specs.declared.tree.Ty.{Ty, out-Ty, roll-Ty, roll-out-Ty, map-Ty}
use Rattle.krml_syntax.specs.declared.tree.Ty.TheVariants as t
use Rattle.krml_syntax.specs.declared.tree.Ty.TheOpen.{Ty-F}
use Rattle.krml_syntax.specs.declared.tree.Ty.TheFolds.{para-Ty, para-roll-Ty}
use Rattle.krml_syntax.specs.declared.tree.Slot.{Slot}
use Rattle.krml_syntax.specs.declared.tree.Expr.{Expr, roll-Expr}
use Rattle.krml_syntax.specs.declared.tree.Expr.TheOpen.{Expr-F}
use Rattle.krml_syntax.specs.declared.tree.Expr.TheViews.{out-roll-Expr}
use Rattle.krml_syntax.specs.declared.tree.Def.{Def}
use Rattle.krml_syntax.specs.declared.tree.Def.TheVariants as d
use Rattle.krml_syntax.specs.declared.tree.SourceFile.{SourceFile}
use Rattle.krml_syntax.specs.Shape.{Role, role, type_arguments}
use Rattle.krml_ast.specs.IsType.{IsType}
use Rattle.krml_ast.specs.Pieces.{Piece, Value, pieces_of_ty, pieces_in, inside_level_ty, own_pieces}
use Rattle.krml_ast.specs.FileTypes.{role_of, HasSize, IsSlot, HasSlots, SlotsIn, IsVariable, field_names, bound_name, listed_vars, IsClosedTy, ClosedIn, HasNoTag, TestsIn, IsPlain, IsHoisted}
use Rattle.krml_meaning.proofs.Zeros.{no_vars, vars_gone}
use Rattle.krml_ast.specs.WellTyped.{type_name, con_names, table_name, fun_name}
use Rattle.krml_rename.specs.Pass.{Layer, def_with}
use Rattle.krml_passing.specs.Hoisted.{hoisted, body_hoisted, file_hoisted}
use Rattle.krml_passing.proofs.HoistedNarrow.{narrow_hoisted}
use Rattle.krml_passing.proofs.HoistedPieces.{LayersKept, pieces_hoisted}
use Rattle.krml_passing.proofs.HoistedRoles.{RolesHoisted, layer_hoisted, no_alloc_hoisted, no_match_hoisted}
use Rattle.krml_passing.proofs.HoistedTests.{test_hoisted}
use Rattle.krml_passing.proofs.HoistedTyping.{IsAllowed, typed, body_typed}
use Rattle.krml_passing.proofs.OtherBodies.{SameNames, type_kept, flat_kept, names_with, listed_with, RestsOnNoBody, with_bodies, well_typed_with}
use Rattle.krml_passing.proofs.TypedParts.{IsTyped, layer_typed, bodies_typed}

-- ---- what holds of each piece

-- What is said of single pieces, of a plain file as of a hoisted one.
record Fits (defs : List Def) (x : Piece) : Type 0 where
  pub closed : ClosedIn x
  pub tested : TestsIn x
  pub slots : SlotsIn defs x
  pub bound : AllByRecursion IsVariable (bound_name x)

nothing : {A : Type 0} (xs : List A) → length xs ≡ 0 → xs ≡ []
nothing [] e = refl
nothing (x ∷ xs) e = absurd (cc)

-- a form stands at the type arguments that it stood at
arguments_same : (o : Layer) (k : ℕ) → type_arguments ((layer_hoisted o).from k) ≡ type_arguments o
arguments_same (Expr-F.Var x) k = refl
arguments_same _ k = refl

no_tag : RolesHoisted HasNoTag HasNoTag
no_tag (Expr-F.TagIs x a) k h = h
no_tag _ k h = tt

module _ (defs : List Def) (vars : flat_map listed_vars defs ≡ []) where
  abbrev defs' : List Def
  defs' = with_bodies body_hoisted defs

  abbrev same : SameNames defs defs'
  same = names_with body_hoisted defs

  abbrev AllFit : List Piece → Type 0
  AllFit pieces = AllByRecursion (Fits defs') pieces

  -- ---- types of slots, which have neither type variables nor type arguments

  abbrev in_ty : Ty → List Piece
  in_ty a = para-Ty (List Piece) inside_level_ty a

  inside_of_ty : (a : Ty) (o : Ty-F Ty) → out-Ty a ≡ o → in_ty a ≡ inside_level_ty (map-Ty Ty (Ty × List Piece) (λ a. (a, in_ty a)) o)
  inside_of_ty a o is = ap in_ty (sym (roll-out-Ty a) ∙ ap roll-Ty is) ∙ para-roll-Ty (List Piece) inside_level_ty o

  made_of : (a : Ty) (o : Ty-F Ty) → out-Ty a ≡ o → IsClosedTy o
      → AllFit (inside_level_ty (map-Ty Ty (Ty × List Piece) (λ a. (a, in_ty a)) o))
      → AllFit (pieces_of_ty a)
  made_of a o is c h = (
    record { closed = subst IsClosedTy (sym is) c; tested = tt; slots = tt; bound = tt },
    subst AllFit (sym (inside_of_ty a o is)) h,
  )

  type_fits : (a : Ty) → IsType defs [] a → AllFit (pieces_of_ty a)
  type_fits a IsType.bool = made_of t.Bool Ty-F.Bool t.outs-Bool tt tt
  type_fits a IsType.unit = made_of t.Unit Ty-F.Unit t.outs-Unit tt tt
  type_fits a (IsType.int i) = made_of (t.Int i) (Ty-F.Int i) (t.outs-Int i) tt tt
  type_fits a (IsType.buf b ok f) = made_of (t.Buf b) (Ty-F.Buf b) (t.outs-Buf b) tt (type_fits b ok)
  type_fits a (IsType.var h) = absurd (omega (arith, h.1))
  type_fits a (IsType.named {x = x} {c = c} {args = args} is n oks) =
      let gone = vars_gone defs x c (no_vars defs vars) is in
      let e = nothing args (n ∙ ap length gone) in
      subst (λ z. AllFit (pieces_of_ty (t.Named x z))) (sym e) (made_of (t.Named x []) (Ty-F.Named x []) (t.outs-Named x []) refl tt)

  types_fit : (slots : List Slot) → AllByRecursion (IsSlot defs) slots → AllFit (flat_map pieces_of_ty (map (λ (s : Slot). s.ty) slots))
  types_fit [] h = tt
  types_fit (s ∷ slots) h = each_append (Fits defs') (pieces_of_ty s.ty) (flat_map pieces_of_ty (map (λ (s : Slot). s.ty) slots))
      (type_fits s.ty h.0.typed) (types_fit slots h.1)

  -- ---- slots

  slot_kept : (s : Slot) → IsSlot defs s → IsSlot defs' s
  slot_kept s h = record { typed = type_kept defs defs' same h.typed; flat = flat_kept defs defs' same h.flat; size = h.size }

  -- those of the `alloc` forms of an expression
  slots_of : (a : Expr) → IsTyped defs [] a → AllByRecursion (IsSlot defs) (hoisted a).slots
  slots_of a (g, r, h) = each_so (IsAllowed defs defs' same [] g.frame) (IsSlot defs) (hoisted a).slots
      (λ s w. record { typed = w.typed; flat = w.flat; size = w.size }) (typed defs defs' same [] h).slots

  -- those that a form lists once it is hoisted
  listed : (o : Layer) (k : ℕ) → IsTyped defs [] (roll-Expr o) → HasSlots defs (role o) → HasSlots defs (role ((layer_hoisted o).from k))
  listed (Expr-F.Frame slots a) k w h =
      each_append (IsSlot defs) slots (hoisted a).slots h (slots_of a (layer_typed defs [] (Expr-F.Frame slots a) w).0)
  listed _ k w h = tt

  role_kept : (r : Role) → HasSlots defs r → HasSlots defs' r
  role_kept (Role.frame slots) h = each_so (IsSlot defs) (IsSlot defs') slots slot_kept h
  role_kept _ h = tt

  slots_kept : (x : Piece) → SlotsIn defs x → SlotsIn defs' x
  slots_kept (Value x) h = role_kept (role_of x) h
  slots_kept _ h = tt

  -- ---- pieces

  so : (x : Piece) → Fits defs x → Fits defs' x
  so x h = record { closed = h.closed; tested = h.tested; slots = slots_kept x h.slots; bound = h.bound }

  own_kept : (o : Layer) (k : ℕ) → HasSlots defs (role ((layer_hoisted o).from k)) → AllByRecursion (Fits defs) (own_pieces o)
      → AllFit (own_pieces ((layer_hoisted o).from k))
  own_kept (Expr-F.Frame slots a) k s h =
      let all = slots ++ (hoisted a).slots in
      each_append (Fits defs') (flat_map pieces_of_ty (map (λ (s : Slot). s.ty) all)) [] (types_fit all s) tt
  own_kept (Expr-F.Alloc b n a) k s h = tt
  own_kept o k s h = each_so (Fits defs) (Fits defs') (own_pieces o) so h

  layers : LayersKept defs [] (Fits defs) (Fits defs')
  layers o k w v own =
      let z = (layer_hoisted o).from k in
      let s = listed o k w (subst (λ y. HasSlots defs (role y)) (out-roll-Expr o) v.slots) in (
        record {
          closed = ap type_arguments (out-roll-Expr z) ∙ arguments_same o k ∙ ap type_arguments (sym (out-roll-Expr o)) ∙ v.closed;
          tested = subst (λ y. HasNoTag (role y)) (sym (out-roll-Expr z))
              (no_tag o k (subst (λ y. HasNoTag (role y)) (out-roll-Expr o) v.tested));
          slots = subst (λ y. HasSlots defs' (role y)) (sym (out-roll-Expr z)) (role_kept (role z) s);
          bound = tt;
        },
        own_kept o k s own,
      )

-- ---- names and sizes

module _ {A B : Type 0} (P : B → Type 0) (f : A → List B) where
  each_of_flat : (xs : List A) → AllByRecursion P (flat_map f xs) → AllByRecursion (λ x. AllByRecursion P (f x)) xs
  each_of_flat [] h = tt
  each_of_flat (x ∷ xs) h = (each_left P (f x) (flat_map f xs) h, each_of_flat xs (each_right P (f x) (flat_map f xs) h))

  flat_of_each : (xs : List A) → AllByRecursion (λ x. AllByRecursion P (f x)) xs → AllByRecursion P (flat_map f xs)
  flat_of_each [] h = tt
  flat_of_each (x ∷ xs) h = each_append P (f x) (flat_map f xs) h.0 (flat_of_each xs h.1)

module _ (body : Expr → Expr) where
  size_kept : (def : Def) → HasSize def → HasSize (def_with body def)
  size_kept (d.Entry x) h = h
  size_kept _ h = h

  sizes_kept : (defs : List Def) → AllByRecursion HasSize defs → AllByRecursion HasSize (with_bodies body defs)
  sizes_kept [] h = tt
  sizes_kept (def ∷ defs) h = (size_kept def h.0, sizes_kept defs h.1)

  names_kept : (P : List ℕ → Type 0) (names : Def → List (List ℕ)) → RestsOnNoBody names → (defs : List Def)
      → AllByRecursion P (flat_map names defs) → AllByRecursion P (flat_map names (with_bodies body defs))
  names_kept P names rests defs h = subst (AllByRecursion P) (sym (listed_with body names rests defs)) h

-- ---- the file

module _ (file : SourceFile) (plain : IsPlain file) where
  abbrev old : List Def
  old = file.defs

  abbrev new : List Def
  new = (file_hoisted file).defs

  abbrev vars_none : flat_map listed_vars old ≡ []
  vars_none = plain.monomorphic.vars

  pieces_fit : AllByRecursion (Fits old) (pieces_in old)
  pieces_fit =
      let bound = each_of_flat IsVariable bound_name (pieces_in old) plain.named.vars in
      each_both (λ x. ClosedIn x × TestsIn x) (λ x. SlotsIn old x × AllByRecursion IsVariable (bound_name x)) (Fits old) (pieces_in old)
      (λ x h k. record { closed = h.0; tested = h.1; slots = k.0; bound = k.1 })
      (each_both ClosedIn TestsIn _ (pieces_in old) (λ x h k. (h, k)) plain.monomorphic.pieces plain.tests)
      (each_both (SlotsIn old) _ _ (pieces_in old) (λ x h k. (h, k)) plain.regular.slots bound)

  hoisted_fit : AllByRecursion (Fits new) (pieces_in new)
  hoisted_fit = pieces_hoisted old [] (Fits old) (Fits new) (so old vars_none) (λ x h. test_hoisted x h.tested) (layers old vars_none)
      old (bodies_typed old plain.regular.typed vars_none) pieces_fit

  each_is : (P : Piece → Type 0) → ((x : Piece) → Fits new x → P x) → AllByRecursion P (pieces_in new)
  each_is P so = each_so (Fits new) P (pieces_in new) so hoisted_fit

  pub is_hoisted : IsHoisted (file_hoisted file)
  is_hoisted = record {
    listed = record {
      regular = record {
        typed = well_typed_with body_hoisted old (λ tvars vars x r. body_typed old new (names_with body_hoisted old) tvars)
            plain.regular.typed;
        sizes = sizes_kept body_hoisted old plain.regular.sizes;
        slots = each_is (SlotsIn new) (λ x h. h.slots);
      };
      monomorphic = record {
        vars = listed_with body_hoisted listed_vars (λ y v p r a b. refl) old ∙ vars_none;
        pieces = each_is ClosedIn (λ x h. h.closed);
      };
      matches = no_match_hoisted file plain.matches;
      tests = each_is TestsIn (λ x h. h.tested);
      allocs = no_alloc_hoisted file;
      narrow = narrow_hoisted file plain.narrow;
    };
    named = record {
      types = names_kept body_hoisted _ type_name (λ y v p r a b. refl) old plain.named.types;
      cons = names_kept body_hoisted _ con_names (λ y v p r a b. refl) old plain.named.cons;
      tables = names_kept body_hoisted _ table_name (λ y v p r a b. refl) old plain.named.tables;
      funs = names_kept body_hoisted _ fun_name (λ y v p r a b. refl) old plain.named.funs;
      fields = names_kept body_hoisted _ field_names (λ y v p r a b. refl) old plain.named.fields;
      vars = flat_of_each IsVariable bound_name (pieces_in new) (each_is (λ x. AllByRecursion IsVariable (bound_name x)) (λ x h. h.bound));
    };
  }
