-- A file whose functions have other bodies, as a hoisted one, has types with as many leaves as before.
use Rattle.std.proofs.Common.{subst}
use Rattle.krml_syntax.specs.declared.tree.Expr.{Expr}
use Rattle.krml_syntax.specs.declared.tree.SourceFile.{SourceFile}
use Rattle.krml_ast.specs.Leaves.{AreNarrow}
use Rattle.krml_rename.specs.Pass.{file_with}
use Rattle.krml_passing.specs.Naming.{unchanged}
use Rattle.krml_passing.specs.Hoisted.{body_hoisted, file_hoisted}
use Rattle.krml_passing.proofs.Naming.{unchanged_apart}
use Rattle.krml_passing.proofs.Changing.{file_itself}
use Rattle.krml_passing.proofs.RenamedNarrow.{narrow_under}

-- a narrow file stays so, whatever bodies become
pub narrow_with : (body : Expr → Expr) (file : SourceFile) → AreNarrow file.defs → AreNarrow (file_with body file).defs
narrow_with body file h = subst (λ f. AreNarrow f.defs) (file_itself body file) (narrow_under unchanged unchanged_apart body file.defs h)

pub narrow_hoisted : (file : SourceFile) → AreNarrow file.defs → AreNarrow (file_hoisted file).defs
narrow_hoisted = narrow_with body_hoisted
