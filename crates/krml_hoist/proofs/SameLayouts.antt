-- In a file whose functions have other bodies, types lie in memory as before, and frames that take too many bytes are the same.
use Rattle.std.proofs.Common.{◌≡◌, ℕ, zero, suc, ◌*◌, List, map, length, option_map, refl, ap, ◌∙◌}
use Rattle.std.specs.Int.{next_multiple_of}
use Rattle.std.specs.List.{sum_by}
use Rattle.std.proofs.lemmas.List.{length-map}
use mathlib.Core.Path.{fun_ext}
use Rattle.krml_trace.specs.First.{first}
use Rattle.krml_trace.proofs.First.{first_same}
use Rattle.krml_syntax.specs.declared.tree.Ty.{Ty, out-Ty}
use Rattle.krml_syntax.specs.declared.tree.Ty.TheOpen.{Ty-F}
use Rattle.krml_syntax.specs.declared.tree.Slot.{Slot}
use Rattle.krml_syntax.specs.declared.tree.Expr.{Expr}
use Rattle.krml_syntax.specs.declared.tree.Def.{Def}
use Rattle.krml_syntax.specs.declared.tree.Def.TheVariants as d
use Rattle.krml_syntax.specs.Shape.{Role}
use Rattle.krml_ast.specs.Pieces.{Piece, Value, Test, Pattern, pieces_of}
use Rattle.krml_ast.specs.FileTypes.{role_of}
use Rattle.krml_ast.specs.Instances.{source_name}
use Rattle.krml_layout.specs.declared.layout.TypeLayout.{TypeLayout}
use Rattle.krml_layout.specs.Layout.{layout_of, layout_in, layout_within, type_layout, stride, slot_bytes, frame_bytes}
use Rattle.krml_rename.specs.Pass.{def_with}
use Rattle.krml_passing.proofs.OtherBodies.{names_with}
use Rattle.krml_hoist.specs.Large.{if_large, large_role, large_piece, large_def, first_large}

module _ (body : Expr → Expr) (defs : List Def) where
  abbrev to : List Def
  to = map (def_with body) defs

  in_same : (layout : Ty → TypeLayout) (y : Ty-F Ty) → layout_in layout to y ≡ layout_in layout defs y
  in_same layout Ty-F.Bool = refl
  in_same layout (Ty-F.Named x args) = ap (layout_of layout) ((names_with body defs).types x)
  in_same layout _ = refl

  within_same : (n : ℕ) (a : Ty) → layout_within n to a ≡ layout_within n defs a
  within_same zero a = refl
  within_same (suc n) a = ap (λ f. layout_in f to (out-Ty a)) (fun_ext (within_same n)) ∙ in_same (layout_within n defs) (out-Ty a)

  type_same : (a : Ty) → type_layout to a ≡ type_layout defs a
  type_same a = ap (λ n. layout_within (suc n) to a) (length-map defs (def_with body)) ∙ within_same (suc (length defs)) a

  slot_same : (s : Slot) → slot_bytes to s ≡ slot_bytes defs s
  slot_same s = ap (λ l. next_multiple_of (s.len * stride l) 8) (type_same s.ty)

  frame_same : (slots : List Slot) → frame_bytes to slots ≡ frame_bytes defs slots
  frame_same slots = ap (λ f. sum_by f slots) (fun_ext slot_same)

  role_same : (r : Role) → large_role to r ≡ large_role defs r
  role_same Role.ordinary = refl
  role_same (Role.frame slots) = ap if_large (frame_same slots)
  role_same _ = refl

  piece_same : (p : Piece) → large_piece to p ≡ large_piece defs p
  piece_same (Value x) = role_same (role_of x)
  piece_same (Test x) = role_same (role_of x)
  piece_same (Pattern q) = refl
  piece_same _ = refl

  def_same : (def : Def) → large_def to def ≡ large_def defs def
  def_same (d.Fun x vars params result e) =
      ap (option_map (λ n. (source_name x, n))) (first_same (large_piece to) (large_piece defs) (pieces_of e) piece_same)
  def_same (d.Struct x vars fields) = refl
  def_same (d.Sum x vars cons) = refl
  def_same (d.Table x i nums) = refl
  def_same (d.Entry x) = refl

  pub large_same : first_large to ≡ first (large_def defs) to
  large_same = first_same (large_def to) (large_def defs) to def_same
