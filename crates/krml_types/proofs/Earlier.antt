-- Whether a type is well formed, and holds a buffer, is decided among a file's first definitions as in the whole file.
use Rattle.std.proofs.Common.{◌≡◌, ℕ, List, ◌++◌, sym, subst}
use Rattle.std.specs.Bool.{Decides}
use Rattle.std.proofs.lemmas.Bool.Decides.{same_from_decides}
use Rattle.krml_syntax.specs.declared.tree.Ty.{Ty}
use Rattle.krml_syntax.specs.declared.tree.Def.{Def}
use Rattle.krml_ast.specs.Names.{type_named}
use Rattle.krml_ast.specs.IsType.{IsFlat, IsType}
use Rattle.krml_ast.proofs.Earlier.{Settled, flat_less, flat_more}
use Rattle.krml_types.specs.Types.{is_flat, is_type_by}
use Rattle.krml_types.proofs.Decided.{flat_decides, type_by_decides, types_same}

module _ (before after : List Def) (s : Settled before) where
  flat_same : (a : Ty) (tvars : List (List ℕ)) → IsType before tvars a → is_flat (before ++ after) a ≡ is_flat before a
  flat_same a tvars ok =
      let all = flat_decides (before ++ after) a in
      let now = flat_decides before a in
      let both : Decides (is_flat before a) (IsFlat (before ++ after) a) = ((λ e. flat_more before after s a tvars ok (now.0 e)), (λ f. now.1 (flat_less before after a f))) in
      same_from_decides (is_flat (before ++ after) a) (is_flat before a) all both

  -- well formed among the first definitions, with buffers held as in the whole file
  pub among_decides : (tvars : List (List ℕ)) (a : Ty) → Decides (is_type_by (type_named before) (is_flat (before ++ after)) tvars a) (IsType before tvars a)
  among_decides tvars a =
      let same = types_same (type_named before) (is_flat (before ++ after)) (is_flat before) tvars (λ b e. flat_same b tvars ((type_by_decides before tvars b).0 e)) a in
      subst (λ b. Decides b (IsType before tvars a)) (sym same) (type_by_decides before tvars a)

  pub among_flat : (tvars : List (List ℕ)) (a : Ty) → IsType before tvars a → Decides (is_flat (before ++ after) a) (IsFlat before a)
  among_flat tvars a ok = subst (λ b. Decides b (IsFlat before a)) (sym (flat_same a tvars ok)) (flat_decides before a)
