-- Structs and sums of a file's first definitions, whose own types are well formed, are so in the whole file.
use Rattle.std.proofs.Common.{◌≡◌, ℕ, List, [], ◌++◌, Some}
use Rattle.std.specs.List.{AllByRecursion}
use Rattle.krml_syntax.specs.declared.tree.Ty.{Ty}
use Rattle.krml_syntax.specs.declared.tree.Field.{Field}
use Rattle.krml_syntax.specs.declared.tree.Con.{Con}
use Rattle.krml_syntax.specs.declared.tree.Def.{Def}
use Rattle.krml_ast.specs.Names.{Struct, Sum, type_named}
use Rattle.krml_ast.specs.IsType.{IsFlat, IsType}
use Rattle.krml_ast.proofs.Earlier as earlier
use Rattle.krml_meaning.proofs.Lists.{each_contains, each_so}

-- the types in these structs and sums are well formed, those in sums flat
pub record Settled (defs : List Def) : Type 0 where
  pub fields : (x : List ℕ) (vars : List (List ℕ)) (fields : List Field) → type_named defs x ≡ Some (Struct vars fields) → AllByRecursion (λ f. IsType defs vars f.ty) fields
  pub cons : (x : List ℕ) (vars : List (List ℕ)) (cons : List Con) → type_named defs x ≡ Some (Sum vars cons)
      → AllByRecursion (λ c. AllByRecursion (λ a. IsType defs vars a × IsFlat defs a) c.args) cons

pub none_settled : Settled []
none_settled = record { fields = λ x vars fields is. absurd (cc); cons = λ x vars cons is. absurd (cc) }

structs_settled : (defs : List Def) → Settled defs → earlier.Settled defs
structs_settled defs s = record { fields = λ x vars fields f is has. each_contains (λ g. IsType defs vars g.ty) fields f (s.fields x vars fields is) has }

module _ (before after : List Def) (s : Settled before) where
  type_more : (a : Ty) (tvars : List (List ℕ)) → IsType before tvars a → IsType (before ++ after) tvars a
  type_more = earlier.type_more before after (structs_settled before s)

  pub flat_more : (a : Ty) (tvars : List (List ℕ)) → IsType before tvars a → IsFlat before a → IsFlat (before ++ after) a
  flat_more = earlier.flat_more before after (structs_settled before s)

  pub fields_more : (vars : List (List ℕ)) (fields : List Field) → AllByRecursion (λ f. IsType before vars f.ty) fields → AllByRecursion (λ f. IsType (before ++ after) vars f.ty) fields
  fields_more vars fields h = each_so (λ f. IsType before vars f.ty) (λ f. IsType (before ++ after) vars f.ty) fields (λ f ok. type_more f.ty vars ok) h

  args_more : (vars : List (List ℕ)) (types : List Ty) → AllByRecursion (λ a. IsType before vars a × IsFlat before a) types
      → AllByRecursion (λ a. IsType (before ++ after) vars a × IsFlat (before ++ after) a) types
  args_more vars types h = each_so (λ a. IsType before vars a × IsFlat before a) (λ a. IsType (before ++ after) vars a × IsFlat (before ++ after) a) types
      (λ a k. (type_more a vars k.0, flat_more a vars k.0 k.1)) h

  pub cons_more : (vars : List (List ℕ)) (cons : List Con) → AllByRecursion (λ c. AllByRecursion (λ a. IsType before vars a × IsFlat before a) c.args) cons
      → AllByRecursion (λ c. AllByRecursion (λ a. IsType (before ++ after) vars a × IsFlat (before ++ after) a) c.args) cons
  cons_more vars cons h = each_so (λ c. AllByRecursion (λ a. IsType before vars a × IsFlat before a) c.args)
      (λ c. AllByRecursion (λ a. IsType (before ++ after) vars a × IsFlat (before ++ after) a) c.args) cons (λ c k. args_more vars c.args k) h
