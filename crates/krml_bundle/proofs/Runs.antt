-- Bundling keeps what a file means: each run under the new names is the run under the old ones, with new names in its events.
use Rattle.std.proofs.Common.{refl}
use Rattle.krml_syntax.specs.declared.tree.SourceFile.{SourceFile}
use Rattle.krml_passing.specs.Naming.{TellsNamesApart}
use Rattle.krml_passing.proofs.Naming.{naming_apart}
use Rattle.krml_passing.proofs.Named.{runs_renamed, fits_under}
use Rattle.krml_bundle.specs.Emitted.{emitted_fun, emitted_type, emitted_table, emitted_field}
use Rattle.krml_bundle.specs.Bundled.{c_names, expr_bundled, bundled, RunsAsBundled, FitAsBundled}
use Rattle.krml_bundle.proofs.Names.{fun_as_different, type_as_different, table_as_different, field_as_different}

-- the names that C has are told apart
pub c_names_apart : TellsNamesApart c_names
c_names_apart = naming_apart emitted_type (λ x. x) emitted_fun emitted_table emitted_field type_as_different (λ x y. refl) fun_as_different table_as_different field_as_different

pub runs_bundled : (file : SourceFile) → RunsAsBundled file (bundled file)
runs_bundled = runs_renamed c_names c_names_apart

pub fits_bundled : (file : SourceFile) → FitAsBundled file (bundled file)
fits_bundled = fits_under c_names c_names_apart expr_bundled
