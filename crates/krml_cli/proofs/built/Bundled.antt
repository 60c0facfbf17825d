-- Definitions that are built are built under new names, and so under those of C.
use Rattle.std.proofs.Common.{◌≡◌, ◌==◌, false, not, ◌&&◌, List, [], ◌∷◌, map, refl, ap, ◌∙◌}
use Rattle.std.specs.List.{list_all}
use Rattle.std.proofs.lemmas.List.{length-map}
use Rattle.krml_syntax.specs.declared.tree.Ty.{Ty, out-Ty}
use Rattle.krml_syntax.specs.declared.tree.Ty.TheOpen.{Ty-F}
use Rattle.krml_syntax.specs.declared.tree.Expr.{Expr, out-Expr}
use Rattle.krml_syntax.specs.declared.tree.Item.{Item}
use Rattle.krml_syntax.specs.declared.tree.Arm.{Arm}
use Rattle.krml_syntax.specs.declared.tree.Case.{Case}
use Rattle.krml_syntax.specs.declared.tree.Expr.TheOpen.{Expr-F}
use Rattle.krml_syntax.specs.declared.tree.Def.{Def}
use Rattle.krml_syntax.specs.declared.tree.Def.TheVariants as d
use Rattle.krml_ast.specs.Pieces.{Piece, Value, Test, Pattern, Written, Bound, pieces_of_def}
use Rattle.krml_ast.specs.FileTypes.{listed_vars}
use Rattle.krml_passing.specs.Naming.{Naming, TellsNamesApart, ty_under, def_renamed}
use Rattle.krml_passing.proofs.RenamedLayers.{form_under, out_under}
use Rattle.krml_passing.proofs.RenamedPieces.{piece_under, def_pieces}
use Rattle.krml_bundle.specs.Bundled.{c_names, def_bundled}
use Rattle.krml_bundle.proofs.Runs.{c_names_apart}
use Rattle.krml_cstar.specs.Built.{is_empty, level_ty_built, is_form_within, is_piece_within, is_sum, is_built, AreBuilt}

module _ (nm : Naming) (ok : TellsNamesApart nm) where
  no_more : (args : List Ty) → is_empty (map nm.ty args) ≡ is_empty args
  no_more args = ap (λ n. n == 0) (length-map args nm.ty)

  form_same : (o : Expr-F Expr Item Arm Case) → is_form_within false (form_under nm o) ≡ is_form_within false o
  form_same (Expr-F.Make x args es) = no_more args
  form_same (Expr-F.Call x args es) = no_more args
  form_same _ = refl

  ty_same : (o : Ty-F Ty) → level_ty_built (ty_under nm.ty nm.named o) ≡ level_ty_built o
  ty_same (Ty-F.Named x args) = no_more args
  ty_same _ = refl

  piece_same : (x : Piece) → is_piece_within false (piece_under nm ok x) ≡ is_piece_within false x
  piece_same (Value x) = ap (is_form_within false) (out_under nm x) ∙ form_same (out-Expr x)
  piece_same (Test x) = refl
  piece_same (Pattern q) = refl
  piece_same (Written a) = ap level_ty_built (ok.out_ty a) ∙ ty_same (out-Ty a)
  piece_same (Bound x) = refl

  pieces_same : (pieces : List Piece) → list_all (is_piece_within false) (map (piece_under nm ok) pieces) ≡ list_all (is_piece_within false) pieces
  pieces_same [] = refl
  pieces_same (x ∷ pieces) = rw (piece_same x, pieces_same pieces) refl

  head_same : (def : Def)
      → (not (is_sum (def_renamed nm def)) && is_empty (listed_vars (def_renamed nm def))) ≡ (not (is_sum def) && is_empty (listed_vars def))
  head_same (d.Sum x vars cons) = refl
  head_same _ = refl

  def_same : (def : Def) → is_built (def_renamed nm def) ≡ is_built def
  def_same def = rw (def_pieces nm ok def, pieces_same (pieces_of_def def), head_same def) refl

  built_renamed : (defs : List Def) → AreBuilt defs → AreBuilt (map (def_renamed nm) defs)
  built_renamed [] h = tt
  built_renamed (def ∷ defs) h = (def_same def ∙ h.0, built_renamed defs h.1)

pub built_bundled : (defs : List Def) → AreBuilt defs → AreBuilt (map def_bundled defs)
built_bundled defs h = built_renamed c_names c_names_apart defs h
