-- What every file keeps, and what the passes took away and brought, stays so under the new names, piece by piece.
use Rattle.std.proofs.Common.{◌≡◌, List, [], ◌∷◌, map, flat_map, refl, sym, ap, ◌∙◌, subst}
use Rattle.std.specs.List.{AllByRecursion}
use Rattle.krml_syntax.specs.declared.tree.CmpOp.TheVariants.{Eq}
use Rattle.krml_syntax.specs.declared.tree.Ty.{Ty, out-Ty}
use Rattle.krml_syntax.specs.declared.tree.Ty.TheOpen.{Ty-F}
use Rattle.krml_syntax.specs.declared.tree.Slot.{Slot}
use Rattle.krml_syntax.specs.declared.tree.Item.{Item}
use Rattle.krml_syntax.specs.declared.tree.Arm.{Arm}
use Rattle.krml_syntax.specs.declared.tree.Case.{Case}
use Rattle.krml_syntax.specs.declared.tree.Expr.{Expr, out-Expr}
use Rattle.krml_syntax.specs.declared.tree.Expr.TheVariants as e
use Rattle.krml_syntax.specs.declared.tree.Expr.TheOpen.{Expr-F}
use Rattle.krml_syntax.specs.declared.tree.Def.{Def}
use Rattle.krml_syntax.specs.declared.tree.Def.TheVariants as d
use Rattle.krml_syntax.specs.Shape.{Role, role, type_arguments}
use Rattle.krml_ast.specs.Pieces.{Piece, Value, Test, Pattern, Written, Bound, pieces_in}
use Rattle.krml_ast.specs.FileTypes.{role_of, HasSize, IsSlot, HasSlots, SlotsIn, IsRegular, listed_vars, bound_name, IsClosedTy, ClosedIn, IsMonomorphic, HasNoMatch, HasNoAlloc, IsPlace, IsTest, HasNoTag, TestsIn, RoleIn, EachRole, HasSlotsListed}
use Rattle.krml_meaning.proofs.Lists.{map_length}
use Rattle.krml_passing.proofs.RenamedTypes.{flat_kept, type_kept}
use Rattle.krml_passing.proofs.RenamedNames.{each_map, given_under, listed_vars_under}
use Rattle.krml_passing.proofs.RenamedPieces.{piece_under, file_pieces}
use Rattle.krml_passing.proofs.RenamedDefs.{defs_kept}
use Rattle.krml_passing.proofs.RenamedNarrow.{narrow_under}
use Rattle.krml_passing.specs.Naming.{ty_under, field_under, con_under, slot_under, expr_under, def_renamed, Naming, TellsNamesApart, renaming_of}
use Rattle.krml_passing.proofs.RenamedLayers.{form_under, out_under}
use Rattle.krml_rename.proofs.Equations as eq
use Rattle.krml_rename.specs.Renaming.{Renaming}

module _ (nm : Naming) (apart : TellsNamesApart nm) where
  abbrev rn : Renaming
  rn = renaming_of nm

  -- ---- each piece

  -- what holds of each piece holds of each under the new names, where a piece keeps it
  pub pieces_kept : (P Q : Piece → Type 0) (defs : List Def) → ((x : Piece) → P x → Q (piece_under nm apart x)) → AllByRecursion P (pieces_in defs) → AllByRecursion Q (pieces_in (map (def_renamed nm) defs))
  pieces_kept P Q defs k h = subst (AllByRecursion Q) (sym (file_pieces nm apart defs)) (each_map nm apart (piece_under nm apart) P Q (pieces_in defs) k h)

  -- a form keeps its role, with the slots under the new names
  abbrev role_under : Role → Role
  role_under (Role.frame slots) = Role.frame (map (slot_under nm) slots)
  role_under r = r

  role_kept : (x : Expr) → role_of (expr_under nm x) ≡ role_under (role_of x)
  role_kept x = ap role (out_under nm x) ∙ go (out-Expr x)
    where
      go : (o : Expr-F Expr Item Arm Case) → role (form_under nm o) ≡ role_under (role o)
      go (Expr-F.Var x) = refl
      go _ = refl

  -- what holds of each role holds under the new names, where a role keeps it
  role_in_kept : (P Q : Role → Type 0) → ((r : Role) → P r → Q (role_under r)) → (x : Piece) → RoleIn P x → RoleIn Q (piece_under nm apart x)
  role_in_kept P Q k (Value x) h = subst Q (sym (role_kept x)) (k (role_of x) h)
  role_in_kept P Q k (Test x) h = subst Q (sym (role_kept x)) (k (role_of x) h)
  role_in_kept P Q k (Pattern q) h = tt
  role_in_kept P Q k (Written a) h = tt
  role_in_kept P Q k (Bound x) h = tt

  pub roles_kept : (P Q : Role → Type 0) (defs : List Def) → ((r : Role) → P r → Q (role_under r)) → EachRole P defs → EachRole Q (map (def_renamed nm) defs)
  roles_kept P Q defs k h = pieces_kept (RoleIn P) (RoleIn Q) defs (role_in_kept P Q k) h

  -- ---- sizes

  size_kept : (def : Def) → HasSize def → HasSize (def_renamed nm def)
  size_kept (d.Struct x vars fields) h = rw (map_length (field_under nm) fields) h
  size_kept (d.Sum x vars cons) h = rw (map_length (con_under nm) cons) h
  size_kept (d.Table x i nums) h = h
  size_kept (d.Fun x vars params result body) h = tt
  size_kept (d.Entry x) h = tt

  -- ---- slots

  module _ (defs : List Def) where
    abbrev defs' : List Def
    defs' = map (def_renamed nm) defs

    slot_kept : (s : Slot) → IsSlot defs s → IsSlot defs' (slot_under nm s)
    slot_kept s h = record { typed = type_kept nm apart defs [] s.ty h.typed; flat = flat_kept nm apart defs s.ty h.flat; size = h.size }

    slots_kept : (r : Role) → HasSlots defs r → HasSlots defs' (role_under r)
    slots_kept (Role.frame slots) h = each_map nm apart (slot_under nm) (IsSlot defs) (IsSlot defs') slots slot_kept h
    slots_kept _ h = tt

    slots_in_kept : (x : Piece) → SlotsIn defs x → SlotsIn defs' (piece_under nm apart x)
    slots_in_kept (Value x) h = subst (HasSlots defs') (sym (role_kept x)) (slots_kept (role_of x) h)
    slots_in_kept (Test x) h = tt
    slots_in_kept (Pattern q) h = tt
    slots_in_kept (Written a) h = tt
    slots_in_kept (Bound x) h = tt

    pub regular_kept : IsRegular defs → IsRegular defs'
    regular_kept r = record {
      typed = defs_kept nm apart defs r.typed;
      sizes = each_map nm apart (def_renamed nm) HasSize HasSize defs size_kept r.sizes;
      slots = pieces_kept (SlotsIn defs) (SlotsIn defs') defs slots_in_kept r.slots;
    }

  -- ---- type arguments

  arguments_kept : (x : Expr) → type_arguments (out-Expr (expr_under nm x)) ≡ map nm.ty (type_arguments (out-Expr x))
  arguments_kept x = ap type_arguments (out_under nm x) ∙ go (out-Expr x)
    where
      go : (o : Expr-F Expr Item Arm Case) → type_arguments (form_under nm o) ≡ map nm.ty (type_arguments o)
      go (Expr-F.Var x) = refl
      go _ = refl

  closed_under : (o : Ty-F Ty) → IsClosedTy o → IsClosedTy ((ty_under nm.ty nm.named) o)
  closed_under (Ty-F.Var x) h = h
  closed_under (Ty-F.Named x args) h = ap (map nm.ty) h
  closed_under _ h = tt

  closed_kept : (x : Piece) → ClosedIn x → ClosedIn (piece_under nm apart x)
  closed_kept (Value x) h = arguments_kept x ∙ ap (map nm.ty) h
  closed_kept (Test x) h = arguments_kept x ∙ ap (map nm.ty) h
  closed_kept (Written a) h = subst IsClosedTy (sym (apart.out_ty a)) (closed_under (out-Ty a) h)
  closed_kept (Pattern q) h = tt
  closed_kept (Bound x) h = tt

  pub monomorphic_kept : (defs : List Def) → IsMonomorphic defs → IsMonomorphic (map (def_renamed nm) defs)
  monomorphic_kept defs m = record {
    vars = given_under nm apart listed_vars (λ x. x) (listed_vars_under nm apart) defs ∙ ap (map (λ x. x)) m.vars;
    pieces = pieces_kept ClosedIn ClosedIn defs closed_kept m.pieces;
  }

  -- ---- matches, tests and `alloc`

  no_match_kept : (r : Role) → HasNoMatch r → HasNoMatch (role_under r)
  no_match_kept Role.match h = h
  no_match_kept _ h = tt

  no_alloc_kept : (r : Role) → HasNoAlloc r → HasNoAlloc (role_under r)
  no_alloc_kept Role.alloc h = h
  no_alloc_kept _ h = tt

  no_tag_kept : (r : Role) → HasNoTag r → HasNoTag (role_under r)
  no_tag_kept Role.tag_is h = h
  no_tag_kept _ h = tt

  place_kept : (x : Expr) → IsPlace x → IsPlace (expr_under nm x)
  place_kept x (IsPlace.var y) = rw (eq.var_is rn y) (IsPlace.var y)
  place_kept x (IsPlace.get y a h) = rw (eq.get_is rn y a) (IsPlace.get (nm.field y) (expr_under nm a) (place_kept a h))
  place_kept x (IsPlace.part y j a h) = rw (eq.part_is rn y j a) (IsPlace.part (nm.con y) j (expr_under nm a) (place_kept a h))

  test_kept : (x : Expr) → IsTest x → IsTest (expr_under nm x)
  test_kept x (IsTest.tag y a h) = rw (eq.tag_is_is rn y a) (IsTest.tag (nm.con y) (expr_under nm a) (place_kept a h))
  test_kept x (IsTest.literal i n a h) = rw (eq.cmp_is rn Eq i a (e.Num i n), eq.num_is rn i n) (IsTest.literal i n (expr_under nm a) (place_kept a h))
  test_kept x (IsTest.place a h) = IsTest.place (expr_under nm a) (place_kept a h)
  test_kept x (IsTest.opposite a h) = rw (eq.not_is rn a) (IsTest.opposite (expr_under nm a) (place_kept a h))

  tests_in_kept : (x : Piece) → TestsIn x → TestsIn (piece_under nm apart x)
  tests_in_kept (Value x) h = subst HasNoTag (sym (role_kept x)) (no_tag_kept (role_of x) h)
  tests_in_kept (Test x) h = test_kept x h
  tests_in_kept (Pattern q) h = tt
  tests_in_kept (Written a) h = tt
  tests_in_kept (Bound x) h = tt

  -- ---- a file with its slots listed

  pub listed_kept : (defs : List Def) → HasSlotsListed defs → HasSlotsListed (map (def_renamed nm) defs)
  listed_kept defs l = record {
    regular = regular_kept defs l.regular;
    monomorphic = monomorphic_kept defs l.monomorphic;
    matches = roles_kept HasNoMatch HasNoMatch defs no_match_kept l.matches;
    tests = pieces_kept TestsIn TestsIn defs tests_in_kept l.tests;
    allocs = roles_kept HasNoAlloc HasNoAlloc defs no_alloc_kept l.allocs;
    narrow = narrow_under nm apart (expr_under nm) defs l.narrow;
  }

  -- ---- variables

  -- variables keep their names
  bound_kept : (pieces : List Piece) → flat_map bound_name (map (piece_under nm apart) pieces) ≡ flat_map bound_name pieces
  bound_kept [] = refl
  bound_kept (Value x ∷ pieces) = bound_kept pieces
  bound_kept (Test x ∷ pieces) = bound_kept pieces
  bound_kept (Pattern q ∷ pieces) = bound_kept pieces
  bound_kept (Written a ∷ pieces) = bound_kept pieces
  bound_kept (Bound x ∷ pieces) = ap (λ z. x ∷ z) (bound_kept pieces)

  pub vars_kept : (defs : List Def) → flat_map bound_name (pieces_in (map (def_renamed nm) defs)) ≡ flat_map bound_name (pieces_in defs)
  vars_kept defs = ap (flat_map bound_name) (file_pieces nm apart defs) ∙ bound_kept (pieces_in defs)
