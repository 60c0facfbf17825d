-- Branches of a match, whose pattern adds its variables to those in scope.
use Rattle.std.proofs.Common.{◌≡◌, ℕ, ◌-◌, List, [], ◌++◌, length, take, Option, Some, None, Result, Err, refl, sym, ap, subst, ◌∙◌, append-nil, arith}
use Rattle.std.proofs.Math.Seq.{take-append_seam}
use Rattle.std.proofs.lemmas.List.{length-append}
use Rattle.krml_syntax.specs.declared.tree.Ty.{Ty}
use Rattle.krml_syntax.specs.declared.tree.Pat.{Pat}
use Rattle.krml_syntax.specs.declared.tree.Arm.{Arm}
use Rattle.krml_syntax.specs.declared.tree.Expr.TheFolds.{fold_out-Arm}
use Rattle.krml_syntax.specs.declared.tree.Def.{Def}
use Rattle.krml_syntax.specs.Read.{◌>>=◌}
use Rattle.krml_ast.specs.Typing.{Vars, Scope, with_vars}
use Rattle.krml_intern.specs.Scope.{are_distinct}
use Rattle.krml_intern.specs.Table.{Table}
use Rattle.krml_trace.specs.declared.missing.Missing.{Missing}
use Rattle.krml_trace.specs.declared.missing.Missing.TheVariants.{Absent, NoMemory}
use Rattle.krml_types.specs.Expressions.{arm_type, type_of, arm_of}
use Rattle.krml_types.specs.Judging.{Place, GivesNumber, Binds}
use Rattle.krml_types.specs.Parts.{demand}
use Rattle.krml_types.specs.Patterns.{binds}
use Rattle.krml_types.proofs.Decided.{same_decides}
use Rattle.krml_types.proofs.Patterns as pat

-- what a pattern adds to a scope is what it binds
pub arm_binds : (defs : List Def) (q : Pat) (s : Ty) (g vars : Vars) → binds defs q s g ≡ Some vars → (more : Vars) × (vars ≡ more ++ g) × (binds defs q s [] ≡ Some more)
arm_binds defs q s g vars is =
    let m = (pat.binds_only defs same_decides q s g).holds vars is in
    (m.0, m.1, pat.binds_again defs same_decides s q m.0 m.2 [] ∙ ap Some (append-nil m.0))

pub arm_unbound : (defs : List Def) (q : Pat) (s : Ty) (g : Vars) → binds defs q s g ≡ None → binds defs q s [] ≡ None
arm_unbound defs q s g none = go (binds defs q s []) refl
  where
    go : (o : Option Vars) → binds defs q s [] ≡ o → o ≡ None
    go None is = refl
    go (Some more) is =
        let m = (pat.binds_only defs same_decides q s []).holds more is in
        let there : Some (m.0 ++ g) ≡ None = sym (pat.binds_again defs same_decides s q m.0 m.2 g) ∙ none in
        absurd (cc)

-- the newest variables are those that were added
pub newest_are : (more g : Vars) → take (length (more ++ g) - length g) (more ++ g) ≡ more
newest_are more g =
    let n_is : length (more ++ g) - length g ≡ length more = let sum = length-append more g in omega (arith, sum) in
    ap (λ n. take n (more ++ g)) n_is ∙ take-append_seam more g

pub distinct_added : (new : Vars) (n : ℕ) (more g : Vars) → new ≡ more ++ g → n ≡ length g → are_distinct (take (length new - n) new) ≡ are_distinct more
distinct_added new n more g e l =
    ap (λ v. are_distinct (take (length v - n) v)) e ∙ ap (λ m. are_distinct (take (length (more ++ g) - m) (more ++ g))) l ∙ ap are_distinct (newest_are more g)

module _ (defs : List Def) (tvars : List (List ℕ)) (x : Arm) (s : Ty) (g : Scope) where
  arm_is : arm_of defs tvars x s g ≡ arm_type defs x.pat (type_of defs tvars x.body) s g
  arm_is = rw fold_out-Arm refl

  pub arm_at : (more : Vars) → binds defs x.pat s [] ≡ Some more
      → arm_of defs tvars x s g ≡ (demand (are_distinct more) >>= λ u. type_of defs tvars x.body (with_vars more g))
  arm_at more is = arm_is ∙ ap (λ o. o >>= λ vars. demand (are_distinct vars) >>= λ u. type_of defs tvars x.body (with_vars vars g)) is

  pub arm_none : binds defs x.pat s g.vars ≡ None → arm_of defs tvars x s g ≡ None
  arm_none is = arm_is ∙ ap (λ o. o >>= λ vars. demand (are_distinct vars) >>= λ u. type_of defs tvars x.body (with_vars vars g)) (arm_unbound defs x.pat s g.vars is)

-- a pattern that does not match hands its failure on
pub unbound : (t : Table) (r : Result (Unit {0}) Missing) (q : Result ℕ Missing) (e : Missing) (o : Option Vars) (x : Option Ty) (old new : Place) → Binds r o old new → r ≡ Err e → q ≡ Err e → (o ≡ None → x ≡ None) → GivesNumber t q x
unbound t r q Absent o x old new b r_is q_is none = subst (λ z. GivesNumber t z x) (sym q_is) (none (subst (λ z. Binds z o old new) r_is b))
unbound t r q NoMemory o x old new b r_is q_is none = subst (λ z. GivesNumber t z x) (sym q_is) tt
