use Rattle.std.proofs.Common.{true, sym, subst}
use Rattle.krml_syntax.specs.declared.tree.SourceFile.{SourceFile}
use Rattle.krml_cstar.specs.Built.{AreWithin}
use Rattle.krml_cli.proofs.built.Unbuilt.{all_within}
use Rattle.krml_cli.proofs.tests.hoisted.Goals as goal

pub plain-requires : goal.plain-requires
plain-requires c = record {
  within = subst (λ (f : SourceFile). AreWithin true f.defs) c.file.ensures.value (all_within true c.file.result.now.defs (sym c.in-None.ensures));
}
