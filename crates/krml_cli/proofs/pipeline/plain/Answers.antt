use Rattle.std.proofs.Common.{◌≡◌, sym, subst, ◌∙◌}
use Rattle.std.proofs.Math.Logic.{∥∥₁_map}
use Rattle.krml_syntax.specs.declared.tree.SourceFile.{SourceFile}
use Rattle.krml_ast.specs.FileTypes.{IsTypedFile, IsChecked}
use Rattle.krml_cstar.specs.Built.{AreWithin}
use Rattle.krml_cli.proofs.Compiled.{form_by}
use Rattle.krml_cli.proofs.pipeline.plain.Goals as goal

-- no pass before matches has anything to do
pub of-checked-requires : goal.of-checked-requires
of-checked-requires c = ∥∥₁_map c.into_file.ensures.form (λ form. c.built_files.ensures.checked c.into_file.result (subst IsTypedFile (sym c.into_file.ensures.value) form))

pub of-mono-requires : goal.of-mono-requires
of-mono-requires c =
    let same : c.into_file-2.result ≡ c.args.typed = c.into_file-2.ensures.value ∙ c.of-checked.ensures ∙ c.into_file.ensures.value in
    ∥∥₁_map c.into_file-2.ensures.form (λ form. c.built_files.ensures.mono c.args.buffers c.into_file-2.result (subst IsChecked (sym c.into_file-2.ensures.value) form)
    (subst (λ (f : SourceFile). AreWithin c.args.buffers f.defs) (sym same) c.requires.within))

pub compile_matches-requires : goal.compile_matches-requires
compile_matches-requires c =
    let same : c.of-mono.result ≡ c.args.typed = c.of-mono.ensures ∙ c.into_file-2.ensures.value ∙ c.of-checked.ensures ∙ c.into_file.ensures.value in
    record { no_match = c.built_files.ensures.matches c.args.buffers c.of-mono.result (subst (λ (f : SourceFile). AreWithin c.args.buffers f.defs) (sym same) c.requires.within) }

pub returns-clause-form : goal.returns-clause-form
returns-clause-form c =
    let same : c.of-mono.result ≡ c.args.typed = c.of-mono.ensures ∙ c.into_file-2.ensures.value ∙ c.of-checked.ensures ∙ c.into_file.ensures.value in
    let law = c.built_files.ensures in
    form_by c.args.typed c.of-mono.result c.compile_matches.result same (λ typed. law.mono c.args.buffers c.args.typed (law.checked c.args.typed typed) c.requires.within) c.compile_matches.ensures.form
