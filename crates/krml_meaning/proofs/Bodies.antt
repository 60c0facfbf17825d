-- A file whose forms can run: each body keeps what a run takes of the forms in it.
use Rattle.std.proofs.Common.{◌≡◌, ℕ, Bool, true, false, if◌then◌else◌, List, [], ◌∷◌, ◌++◌, map, Some, None, subst}
use Rattle.std.specs.Option.{option_or}
use Rattle.std.specs.List.{AllByRecursion}
use Rattle.std.specs.Str.{bytes_eq}
use Rattle.krml_syntax.specs.declared.tree.Field.{Field}
use Rattle.krml_syntax.specs.declared.tree.Def.{Def}
use Rattle.krml_syntax.specs.declared.tree.Def.TheVariants as d
use Rattle.krml_ast.specs.Names.{Sum}
use Rattle.krml_ast.specs.IsType.{IsFlat, IsType}
use Rattle.krml_ast.specs.Pieces.{Piece, Bound, pieces_of, pieces_of_ty, pieces_of_def, pieces_in, field_types}
use Rattle.krml_ast.specs.FileTypes.{EachRole}
use Rattle.krml_ast.specs.WellTyped.{AreWellTyped}
use Rattle.krml_meaning.specs.Meaning.{Function, function_named}
use Rattle.krml_meaning.specs.Sound.{CanRun}
use Rattle.krml_meaning.proofs.Lists.{same_some, no_some, each_get}
use Rattle.krml_meaning.proofs.Files.{facts}
use Rattle.krml_meaning.proofs.Levels.{BodiesRun}
use Rattle.krml_meaning.proofs.Runnable.{AllRun, left_run, right_run}
use Rattle.krml_meaning.proofs.Zeros.{PartZeros, no_vars, vars_gone, has_zero}

module _ (defs : List Def) (typed : AreWellTyped defs) where
  -- the argument of a constructor has a zero value
  part_zeros : PartZeros defs
  part_zeros x c j b i b_is can =
      let gone = no_vars defs can.0 in
      let none : c.vars ≡ [] = vars_gone defs c.sum (Sum c.vars i.cons) gone i.is in
      let all = (facts defs typed).cons c.sum c.vars i.cons i.k i.con i.is i.there in
      let mine : AllByRecursion (λ a. IsType defs c.vars a × IsFlat defs a) c.args = subst (λ z. AllByRecursion (λ a. IsType defs c.vars a × IsFlat defs a) z) i.args all in
      let k = each_get (λ a. IsType defs c.vars a × IsFlat defs a) c.args j b mine b_is in
      (none, has_zero defs typed gone can.1 b (subst (λ z. IsType defs z b) none k.0) k.1.flat)

  -- ---- bodies

  body_runs : (ds : List Def) (x : List ℕ) (f : Function) → AllRun defs (pieces_in ds) → function_named ds x ≡ Some f → AllRun defs (pieces_of f.body)
  body_runs [] x f h q = absurd (no_some f q)
  body_runs (d.Fun name vars params result body ∷ ds) x f h q =
      go (bytes_eq name x) q (body_runs ds x f (right_run defs (pieces_of_def (d.Fun name vars params result body)) (pieces_in ds) h))
    where
      mine : AllRun defs (pieces_of body)
      mine =
          let here = left_run defs (pieces_of_def (d.Fun name vars params result body)) (pieces_in ds) h in
          let names : List Piece = map (λ (z : Field). Bound z.name) params in
          right_run defs (field_types params ++ names ++ pieces_of_ty result) (pieces_of body) here

      go : (b : Bool) → option_or (if b then Some (record { tvars = vars; params = params; body = body }) else None) (function_named ds x) ≡ Some f
          → (function_named ds x ≡ Some f → AllRun defs (pieces_of f.body)) → AllRun defs (pieces_of f.body)
      go true q' later = subst (λ (z : Function). AllRun defs (pieces_of z.body)) (same_some (record { tvars = vars; params = params; body = body }) f q') mine
      go false q' later = later q'
  body_runs (d.Struct name vars fields ∷ ds) x f h q = body_runs ds x f (right_run defs (pieces_of_def (d.Struct name vars fields)) (pieces_in ds) h) q
  body_runs (d.Sum name vars cons ∷ ds) x f h q = body_runs ds x f (right_run defs (pieces_of_def (d.Sum name vars cons)) (pieces_in ds) h) q
  body_runs (d.Table name ty nums ∷ ds) x f h q = body_runs ds x f (right_run defs (pieces_of_def (d.Table name ty nums)) (pieces_in ds) h) q
  body_runs (d.Entry name ∷ ds) x f h q = body_runs ds x f h q

  pub bodies_run : EachRole (CanRun defs) defs → BodiesRun defs (facts defs typed)
  bodies_run can = record {
    body = λ x f q. let fun = (facts defs typed).function x f q in body_runs defs x fun.body can fun.is;
    zeros = part_zeros;
  }
