-- Files whose functions have other bodies that mean the same: they run as before, and take the same arguments.
use Rattle.std.proofs.Common.{◌≡◌, List, refl, sym, ap, ◌∙◌, subst}
use Rattle.std.proofs.lemmas.List.{map-id}
use mathlib.Core.Path.{fun_ext}
use Rattle.krml_syntax.specs.declared.tree.Expr.{Expr}
use Rattle.krml_syntax.specs.declared.tree.Def.{Def}
use Rattle.krml_syntax.specs.declared.tree.SourceFile.{SourceFile}
use Rattle.krml_meaning.specs.Meaning as src
use Rattle.krml_passing.specs.Alike.{Same}
use Rattle.krml_passing.specs.RunsAs.{RunsAs, FitsAs}
use Rattle.krml_passing.specs.Naming.{unchanged, renaming_of}
use Rattle.krml_rename.specs.Pass.{file_with}
use Rattle.krml_rename.specs.Renaming.{itself, expr_renamed}
use Rattle.krml_rename.proofs.Itself.{expr_itself}
use Rattle.krml_passing.proofs.Renamed.{renamed_same}
use Rattle.krml_passing.proofs.Lookups.{to}
use Rattle.krml_passing.proofs.Naming.{unchanged_apart}
use Rattle.krml_passing.proofs.Named.{BodiesSame, scopes_under, names_under, pats_under, runs_under, fits_under}
use Rattle.krml_passing.proofs.Changing.{im, ren, I, file_itself, run_itself}

-- names as they are rename nothing
unchanged_itself : renaming_of unchanged ≡ itself
unchanged_itself = ap (λ at_args. record {
  struct = at_args;
  con = at_args;
  fun = at_args;
  tag = λ x. x;
  table = λ x. x;
  field = λ y. y;
  ty = λ a. a;
  pat = λ q. q;
}) (fun_ext (λ x. fun_ext (λ args. ap (λ z. (x, z)) (map-id args))))

expr_unchanged : (x : Expr) → expr_renamed ren x ≡ x
expr_unchanged x = ap (λ n. expr_renamed n x) unchanged_itself ∙ expr_itself x

module _ (body : Expr → Expr) where
  -- Each body means what it meant, whatever the file, and whatever calls mean.
  abbrev pub BodiesMeanTheSame : Type 0
  BodiesMeanTheSame = (defs : List Def) (calls : src.Calls) (x : Expr) → src.eval defs calls (body x) ≡ src.eval defs calls x

  bodies_same : BodiesMeanTheSame → (defs : List Def) → BodiesSame unchanged unchanged_apart body defs
  bodies_same same defs calls calls' k x =
      subst (Same im I (src.eval defs calls x))
      (ap (src.eval (to unchanged unchanged_apart body defs) calls') (expr_unchanged x)
      ∙ sym (same (to unchanged unchanged_apart body defs) calls' x))
      ((renamed_same im ren I (scopes_under unchanged unchanged_apart) (λ y. refl) defs (to unchanged unchanged_apart body defs)
      calls calls' (names_under unchanged unchanged_apart body defs calls calls' k)
      (pats_under unchanged unchanged_apart body defs calls calls' k) x).from 0)

  pub runs_with : BodiesMeanTheSame → (file : SourceFile) → RunsAs (λ x. x) (λ e. e) file (file_with body file)
  runs_with same file entry args bound = ap (λ z. src.source_run z entry args bound) (sym (file_itself body file))
      ∙ runs_under unchanged unchanged_apart body file (bodies_same same file.defs) entry args bound
      ∙ run_itself (src.source_run file entry args bound)

  -- whatever bodies mean
  pub fits_with : (file : SourceFile) → FitsAs (λ x. x) file (file_with body file)
  fits_with file = subst (FitsAs (λ x. x) file) (file_itself body file) (fits_under unchanged unchanged_apart body file)
