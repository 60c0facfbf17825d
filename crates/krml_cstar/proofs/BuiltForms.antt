-- What it takes an expression to be built: its form is one that no pass takes away, at no type arguments, and the types that it
-- writes and its parts are built.
use Rattle.std.proofs.Common.{◌≡◌, ℕ, Bool, true, false, List, [], ◌∷◌, ◌++◌, map, flat_map, refl, sym, ap, ◌∙◌, subst}
use Rattle.std.specs.List.{AllByRecursion}
use Rattle.krml_syntax.specs.declared.tree.Ty.{Ty}
use Rattle.krml_syntax.specs.declared.tree.Item.{Item}
use Rattle.krml_syntax.specs.declared.tree.Item.TheVariants as item
use Rattle.krml_syntax.specs.declared.tree.Arm.{Arm}
use Rattle.krml_syntax.specs.declared.tree.Case.{Case}
use Rattle.krml_syntax.specs.declared.tree.Expr.{Expr, out-Expr}
use Rattle.krml_syntax.specs.declared.tree.Expr.TheOpen.{Expr-F}
use Rattle.krml_syntax.specs.Shape.{Part, parts_of, type_arguments, Role, role}
use Rattle.krml_trace.proofs.Lists.{each_left, each_right}
use Rattle.krml_ast.specs.Pieces.{Bound, pieces_of, pieces_of_ty, written_types, bound_variables}
use Rattle.krml_ast.specs.FileTypes.{HasNoMatch}
use Rattle.krml_ast.proofs.Pieces.{Parts, HoldsIn, inside_item, parts_hold, own_hold, last_holds, let_inside, run_inside}
use Rattle.krml_cstar.specs.Built.{is_ty_built, is_form_within}
use Rattle.krml_cstar.proofs.Part.{nothing_listed, PieceBuilt, AllBuilt, ExprBuilt, types_built}

-- ---- forms

module _ {E I A C : Type 0} where
  pub ordinary_built : (o : Expr-F E I A C) → is_form_within false o ≡ true → role o ≡ Role.ordinary
  ordinary_built (Expr-F.Match a arms) h = absurd (cc)
  ordinary_built (Expr-F.Frame slots a) h = absurd (cc)
  ordinary_built (Expr-F.Alloc b n a) h = absurd (cc)
  ordinary_built (Expr-F.Cases cases) h = absurd (cc)
  ordinary_built (Expr-F.TagIs x a) h = absurd (cc)
  ordinary_built (Expr-F.Part x j a) h = absurd (cc)
  ordinary_built (Expr-F.Fill k a) h = absurd (cc)
  ordinary_built _ h = refl

  module _ (buffers : Bool) where
    -- with buffers or without
    pub arguments_within : (o : Expr-F E I A C) → is_form_within buffers o ≡ true → type_arguments o ≡ []
    arguments_within (Expr-F.Make x args es) h = nothing_listed args h
    arguments_within (Expr-F.Con x args es) h = absurd (cc)
    arguments_within (Expr-F.Call x args es) h = nothing_listed args h
    arguments_within _ h = refl

    pub no_match_within : (o : Expr-F E I A C) → is_form_within buffers o ≡ true → HasNoMatch (role o)
    no_match_within (Expr-F.Match a arms) h = absurd (cc)
    no_match_within _ h = tt

abbrev pub PartsBuilt : Parts → Type 0
PartsBuilt parts = HoldsIn PieceBuilt parts

pub no_arguments : (x : Expr) (o : Expr-F Expr Item Arm Case) → out-Expr x ≡ o → is_form_within false (out-Expr x) ≡ true → type_arguments o ≡ []
no_arguments x o is h = arguments_within false o (sym (ap (is_form_within false) is) ∙ h)

pub record FormBuilt (o : Expr-F Expr Item Arm Case) : Type 0 where
  pub arguments : type_arguments o ≡ []
  pub types : AllByRecursion (λ a. is_ty_built a ≡ true) (written_types o)
  pub parts : PartsBuilt (parts_of o)

-- an expression of a form that is built
pub form_built : (x : Expr) (o : Expr-F Expr Item Arm Case) → out-Expr x ≡ o → ExprBuilt x → FormBuilt o
form_built x o is h = record {
  arguments = no_arguments x o is h.0;
  types = types_built (λ (a : Ty). a) (written_types o)
      (each_left PieceBuilt (flat_map pieces_of_ty (written_types o)) (map Bound (bound_variables o)) (own_hold PieceBuilt x o is h.1));
  parts = parts_hold PieceBuilt x o is h.1;
}

-- no expression is built whose form is not
pub unbuilt : {X : Type 0} (x : Expr) (o : Expr-F Expr Item Arm Case) → out-Expr x ≡ o → is_form_within false o ≡ false
    → is_form_within false (out-Expr x) ≡ true → X
unbuilt x o is not h = let no : false ≡ true = sym not ∙ sym (ap (is_form_within false) is) ∙ h in absurd (cc)

-- ---- blocks

pub block_built : (items : List Item) (a : Expr)
    → PartsBuilt (map Part.item items ++ Part.expr a ∷ []) → PartsBuilt (map Part.item items) × ExprBuilt a
block_built items a h = last_holds PieceBuilt (map Part.item items) a h

pub let_built : (x : List ℕ) (b : Ty) (a : Expr) → AllBuilt (inside_item (item.Let x b a)) → (is_ty_built b ≡ true) × ExprBuilt a
let_built x b a h =
    let pieces = each_left PieceBuilt (pieces_of_ty b ++ pieces_of a) (Bound x ∷ []) (subst AllBuilt (let_inside x b a) h) in
    (pieces.0, each_right PieceBuilt (pieces_of_ty b) (pieces_of a) pieces)

pub run_built : (a : Expr) → AllBuilt (inside_item (item.Run a)) → ExprBuilt a
run_built a h = subst AllBuilt (run_inside a) h
