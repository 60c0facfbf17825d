use Rattle.std.proofs.Common.{rules, ◌≡◌, map, sym, subst}
use Rattle.std.specs.List.{flat_map}
use Rattle.std.proofs.Math.Logic.{∥∥₁_map}
use Rattle.krml_ast.specs.FileTypes.{IsBundled}
use Rattle.krml_bundle.specs.Bundled.{def_bundled, names_of_def, names_of, bundled, RunsAsBundled, FitAsBundled, NamesEntries}
use Rattle.krml_bundle.proofs.Form.{is_bundled, entries_named}
use Rattle.krml_bundle.proofs.Runs.{runs_bundled, fits_bundled}
use Rattle.krml_bundle.proofs.pass.bundle.Goals as goal

pub of-requires : goal.of-requires
of-requires c =
    let defs_is : c.in_ok-defs.defs ≡ map def_bundled c.args.file.now.defs = search rules in
    let names_is : c.in_ok-names.names ≡ flat_map names_of_def c.args.file.now.defs = search rules in
    rw (defs_is, names_is) (∥∥₁_map c.file-file.ensures.form (is_bundled c.args.file.now))

pub returns-clause-form : goal.returns-clause-form
returns-clause-form c =
    let to_is : c.of.result ≡ (bundled c.args.file.now, names_of c.args.file.now) = search rules in
    λ hoisted. subst (λ r. IsBundled r.0 r.1) (sym to_is) (is_bundled c.args.file.now hoisted)

pub returns-clause-names : goal.returns-clause-names
returns-clause-names c =
    let names_is : c.of.result.1 ≡ names_of c.args.file.now = search rules in
    subst (NamesEntries c.args.file.now) (sym names_is) (entries_named c.args.file.now.defs)

pub returns-clause-fits : goal.returns-clause-fits
returns-clause-fits c =
    let to_is : c.of.result.0 ≡ bundled c.args.file.now = search rules in
    subst (FitAsBundled c.args.file.now) (sym to_is) (fits_bundled c.args.file.now)

pub returns-clause-runs : goal.returns-clause-runs
returns-clause-runs c =
    let to_is : c.of.result.0 ≡ bundled c.args.file.now = search rules in
    subst (RunsAsBundled c.args.file.now) (sym to_is) (runs_bundled c.args.file.now)
