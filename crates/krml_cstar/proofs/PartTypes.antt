-- Types of the part that is built, as C has them.
use Rattle.std.proofs.Common.{◌≡◌, ℕ, Bool, true, false, List, [], Some, refl, sym, ap, ◌∙◌}
use Rattle.krml_trace.specs.declared.width.Width.{Width}
use Rattle.krml_trace.specs.declared.width.Width.TheVariants.{W8, W32, W64}
use Rattle.krml_syntax.specs.declared.tree.IntTy.{IntTy}
use Rattle.krml_syntax.specs.declared.tree.Ty.{Ty}
use Rattle.krml_syntax.specs.declared.tree.Ty.TheVariants as t
use Rattle.krml_syntax.specs.declared.tree.Def.{Def}
use Rattle.krml_ast.specs.Names.{Composite, Struct, Sum, type_named}
use Rattle.krml_ast.specs.IsType.{IsType}
use Rattle.krml_meaning.specs.Shape.{number_ty}
use Rattle.krml_ctree.specs.declared.tree.CType.TheVariants as ct
use Rattle.krml_ctree.specs.declared.tree.CType.TheFolds.{fold_out-CType}
use Rattle.krml_ctree.specs.declared.tree.CProgram.{CProgram}
use Rattle.krml_ctree.specs.Text.{width_type}
use Rattle.krml_ctree.specs.Parts.{struct_named, is_there, is_known_in, is_known}
use Rattle.krml_cstar.specs.Built.{level_ty_built, is_ty_built, AreBuilt}
use Rattle.krml_cstar.proofs.Lookups.{Lookups}
use Rattle.krml_cstar.proofs.Part.{no_sum}
use Rattle.krml_cstar.proofs.TypesInC.{ctype_bool, ctype_unit, ctype_int, ctype_named}
use Rattle.krml_cstar.proofs.Fits.{IsPart}

module _ (p : CProgram) where
  -- ---- types that a program has

  known_byte : is_known p ct.U8 ≡ true
  known_byte = rw (fold_out-CType Bool (is_known_in p) ct.U8, ct.outs-U8) refl

  pub known_width : (w : Width) → is_known p (width_type w) ≡ true
  known_width W8 = known_byte
  known_width W32 = rw (fold_out-CType Bool (is_known_in p) ct.U32, ct.outs-U32) refl
  known_width W64 = rw (fold_out-CType Bool (is_known_in p) ct.U64, ct.outs-U64) refl

  known_struct : (x : List ℕ) → is_there (struct_named p x) ≡ true → is_known p (ct.Struct x) ≡ true
  known_struct x h = rw (fold_out-CType Bool (is_known_in p) (ct.Struct x), ct.outs-Struct x) h

  -- ---- types of expressions

  pub unit_part : IsPart p t.Unit
  unit_part = record { built = ap level_ty_built t.outs-Unit; known = rw ctype_unit known_byte }

  pub bool_part : IsPart p t.Bool
  bool_part = record { built = ap level_ty_built t.outs-Bool; known = rw ctype_bool known_byte }

  pub number_part : (w : Width) → IsPart p (number_ty w)
  number_part w = let i : IntTy = record { width = w; secret = false } in record { built = ap level_ty_built (t.outs-Int i); known = rw (ctype_int i) (known_width w) }

  module _ (defs : List Def) (built : AreBuilt defs) (lookups : Lookups defs p) where
    pub struct_part : (x : List ℕ) (c : Composite) → type_named defs x ≡ Some c → IsPart p (t.Named x [])
    struct_part x (Struct vars fields) is = record {
      built = ap level_ty_built (t.outs-Named x []);
      known = rw (ctype_named x []) (known_struct x (ap is_there (lookups.struct x vars fields is)));
    }
    struct_part x (Sum vars cons) is = absurd (no_sum defs built x vars cons is)

    -- a well formed type that is built
    pub type_part : (vars : List (List ℕ)) (a : Ty) → IsType defs vars a → is_ty_built a ≡ true → IsPart p a
    type_part vars a IsType.bool h = bool_part
    type_part vars a IsType.unit h = unit_part
    type_part vars a (IsType.int i) h = record { built = h; known = rw (ctype_int i) (known_width i.width) }
    type_part vars a (IsType.buf b ok f) h = absurd (off (sym (ap level_ty_built (t.outs-Buf b)) ∙ h))
      where
        off : false ≡ true → ⊥
        off e = cc
    type_part vars a (IsType.var {x = x} has) h = absurd (off (sym (ap level_ty_built (t.outs-Var x)) ∙ h))
      where
        off : false ≡ true → ⊥
        off e = cc
    type_part vars a (IsType.named {x = x} {c = c} {args = args} is n oks) h = record { built = h; known = rw (ctype_named x args) (known_composite x c is) }
      where
        known_composite : (x : List ℕ) (c : Composite) → type_named defs x ≡ Some c → is_known p (ct.Struct x) ≡ true
        known_composite x (Struct vs fields) e = known_struct x (ap is_there (lookups.struct x vs fields e))
        known_composite x (Sum vs cons) e = absurd (no_sum defs built x vs cons e)
