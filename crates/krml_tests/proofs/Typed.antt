-- The expressions of the tests have types.
use Rattle.std.proofs.Common.{◌≡◌, ℕ, true, List, [], ◌∷◌, Some, None, refl}
use Rattle.std.specs.Str.{bytes_eq}
use Rattle.std.proofs.lemmas.Slice.Eq.{bytes_eq-Decides}
use Rattle.krml_syntax.specs.declared.tree.IntTy.{IntTy}
use Rattle.krml_syntax.specs.declared.tree.Ty.TheVariants as t
use Rattle.krml_syntax.specs.declared.tree.Field.{Field}
use Rattle.krml_syntax.specs.declared.tree.Expr.TheVariants as e
use Rattle.krml_syntax.specs.declared.tree.Def.{Def}
use Rattle.krml_syntax.specs.Types.{public}
use Rattle.krml_ast.specs.Typing.{look, HasType}
use Rattle.krml_ast.specs.Labelled.{vars_of_fields, erased_vars, IsTypedIn}
use Rattle.krml_syntax.proofs.Types.{erased_int}

abbrev pub int_field : List ℕ → IntTy → Field
int_field x i = record { name = x; ty = t.Int i }

same : (x : List ℕ) → bytes_eq x x ≡ true
same x = (bytes_eq-Decides x x).1 refl

-- a variable of an integer type, hidden
pub hidden_typed : (defs : List Def) (x : List ℕ) (i : IntTy) → IsTypedIn defs (int_field x i ∷ []) (e.Hide i (e.Var x))
hidden_typed defs x i =
    let found : look (erased_vars (vars_of_fields (int_field x i ∷ []))) x ≡ Some (t.Int (public i)) = rw (same x, erased_int i) refl in
    record { tvars = []; frame = None; ty = t.Int (public i); has = HasType.hide (HasType.var found) }

-- the second variable of a name
pub last_typed : (defs : List Def) (x : List ℕ) (i j : IntTy) → IsTypedIn defs (int_field x i ∷ int_field x j ∷ []) (e.Var x)
last_typed defs x i j =
    let found : look (erased_vars (vars_of_fields (int_field x i ∷ int_field x j ∷ []))) x ≡ Some (t.Int (public j)) = rw (same x, erased_int j) refl in
    record { tvars = []; frame = None; ty = t.Int (public j); has = HasType.var found }
