-- A file without type variables and without matches, no type of which is wide, has the form of one with cases in the place of
-- matches.
use Rattle.std.proofs.Common.{◌≡◌, ℕ, true, List, [], Option, Some, None, is_some, bytes_eq, inl, refl, ap, ◌∙◌}
use Rattle.std.proofs.Math.Bool.{Bool-set}
use Rattle.std.proofs.Math.Logic.{∥∥₁_elim}
use Rattle.std.proofs.Math.Nat.{ℕ_set}
use Rattle.std.proofs.lemmas.Slice.Eq.{bytes_eq-Decides}
use Rattle.std.specs.List.{flat_map}
use Rattle.krml_trace.proofs.Lists.{each_so, each_both}
use Rattle.krml_syntax.specs.declared.tree.SourceFile.{SourceFile}
use Rattle.krml_syntax.specs.Name.{IsName}
use Rattle.krml_syntax.specs.Shape.{Role}
use Rattle.krml_ast.specs.Pieces.{Piece, Value, Test, Pattern, Written, Bound, pieces_in}
use Rattle.krml_ast.specs.WellTyped.{AreWellTyped}
use Rattle.krml_ast.specs.FileTypes.{role_of, IsVariable, bound_name, HasNoCases, HasNoMatch, HasNoTag, TestsIn, RoleIn, EachRole, IsMono, IsPlain}
use Rattle.krml_match.specs.Wide.{first_wide}
use Rattle.krml_match.proofs.NoTests.{IsNoTest, no_tests}
use Rattle.krml_match.proofs.Walk.{none_wide}

no_tag : (r : Role) → HasNoCases r → HasNoTag r
no_tag Role.tag_is h = h
no_tag _ h = tt

tests_in : (x : Piece) → RoleIn HasNoCases x → IsNoTest x → TestsIn x
tests_in (Value x) h none = no_tag (role_of x) h
tests_in (Test x) h none = absurd none
tests_in (Pattern q) h none = tt
tests_in (Written a) h none = tt
tests_in (Bound x) h none = tt

pub is_plain : (file : SourceFile) → EachRole HasNoMatch file.defs → first_wide file.defs ≡ None → IsMono file → IsPlain file
is_plain file no_match none m = record {
  regular = m.regular;
  named = record {
    types = m.named.types;
    cons = m.named.cons;
    tables = m.named.tables;
    funs = m.named.funs;
    fields = m.named.fields;
    vars = each_so IsName IsVariable (flat_map bound_name (pieces_in file.defs)) (λ x h. inl h) m.named.vars;
  };
  monomorphic = m.monomorphic;
  matches = no_match;
  tests = each_both (RoleIn HasNoCases) IsNoTest TestsIn (pieces_in file.defs) tests_in m.cases (no_tests file.defs m.cases);
  slots = m.slots;
  narrow = none_wide file.defs none;
}

-- ---- behind a truncation

abbrev name_in : Option (List ℕ × ℕ) → List ℕ
name_in (Some found) = found.0
name_in None = []

abbrev number_in : Option (List ℕ × ℕ) → ℕ
number_in (Some found) = found.1
number_in None = 0

same_found : (a b : Option (List ℕ × ℕ)) → is_some a ≡ is_some b → bytes_eq (name_in a) (name_in b) ≡ true
    → number_in a ≡ number_in b → a ≡ b
same_found (Some p) (Some q) some name number =
    ap (λ z. Some (z, p.1)) ((bytes_eq-Decides p.0 q.0).0 name) ∙ ap (λ z. Some (q.0, z)) number
same_found (Some p) None some name number = absurd (cc)
same_found None (Some q) some name number = absurd (cc)
same_found None None some name number = refl

-- what the first wide type is in a well typed file, it is in a file of which we know only that it has some proof of its form
pub first_is : (file : SourceFile) → ∥ IsMono file ∥₁ → (found : Option (List ℕ × ℕ))
    → (AreWellTyped file.defs → first_wide file.defs ≡ found) → first_wide file.defs ≡ found
first_is file form found is =
    let typed : IsMono file → first_wide file.defs ≡ found = λ m. is m.regular.typed in
    same_found (first_wide file.defs) found
    (∥∥₁_elim form (Bool-set (is_some (first_wide file.defs)) (is_some found)) (λ m. ap is_some (typed m)))
    (∥∥₁_elim form (Bool-set (bytes_eq (name_in (first_wide file.defs)) (name_in found)) true)
    (λ m. (bytes_eq-Decides (name_in (first_wide file.defs)) (name_in found)).1 (ap name_in (typed m))))
    (∥∥₁_elim form (ℕ_set (number_in (first_wide file.defs)) (number_in found)) (λ m. ap number_in (typed m)))
