use Rattle.std.proofs.Common.{rules, ◌≡◌, Some, None, sym, ◌∙◌, subst}
use Rattle.std.proofs.Math.Logic.{∥∥₁_map}
use Rattle.krml_ast.specs.WellTyped.{AreWellTyped}
use Rattle.krml_ast.specs.FileTypes.{IsPlain}
use Rattle.krml_match.specs.Wide.{first_wide}
use Rattle.krml_match.proofs.Plain.{is_plain, first_is}
use Rattle.krml_match.proofs.pass.compile_matches.Goals as goal

pub of-requires : goal.of-requires
of-requires c =
    let copy : c.in_ok-plain-in-None.plain ≡ c.args.file.now = search rules in
    let found : AreWellTyped c.args.file.now.defs → c.in_ok-name.field-0 ≡ first_wide c.args.file.now.defs = search rules in
    let none : first_wide c.args.file.now.defs ≡ None =
    first_is c.args.file.now c.file-file.ensures.form None (λ typed. sym (found typed) ∙ c.in-None.is) in
    subst (λ z. ∥ IsPlain z ∥₁) (sym copy) (∥∥₁_map c.file-file.ensures.form (is_plain c.args.file.now c.requires.no_match none))

pub returns-in-Some-clause-refused : goal.returns-in-Some-clause-refused
returns-in-Some-clause-refused c =
    let found : AreWellTyped c.args.file.now.defs → c.in_ok-name.field-0 ≡ first_wide c.args.file.now.defs = search rules in
    first_is c.args.file.now c.file-file.ensures.form (Some (c.in-Some.name, c.in-Some.leaves))
    (λ typed. sym (found typed) ∙ c.in-Some.is)

pub returns-in_ok-plain-in-None-clause-form : goal.returns-in_ok-plain-in-None-clause-form
returns-in_ok-plain-in-None-clause-form c =
    let same : c.of.result ≡ c.args.file.now = search rules in
    let found : AreWellTyped c.args.file.now.defs → c.in_ok-name.field-0 ≡ first_wide c.args.file.now.defs = search rules in
    λ mono. subst IsPlain (sym same) (is_plain c.args.file.now c.requires.no_match (sym (found mono.regular.typed) ∙ c.in-None.is) mono)

pub returns-in_ok-plain-in-None-clause-narrow : goal.returns-in_ok-plain-in-None-clause-narrow
returns-in_ok-plain-in-None-clause-narrow c =
    let found : AreWellTyped c.args.file.now.defs → c.in_ok-name.field-0 ≡ first_wide c.args.file.now.defs = search rules in
    first_is c.args.file.now c.file-file.ensures.form None (λ typed. sym (found typed) ∙ c.in-None.is)
