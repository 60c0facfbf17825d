use Rattle.std.proofs.Common.{rules, ◌≡◌, Some, None, subst}
use Rattle.std.proofs.Math.Logic.{∥∥₁_map}
use Rattle.krml_ast.specs.WellTyped.{AreWellTyped}
use Rattle.krml_types.specs.Check.{first_fault}
use Rattle.krml_types.proofs.Faults.{IsAnswer, first_is}
use Rattle.krml_types.proofs.check.check_types.Goals as goal

-- what a text spells, and whose definitions are well typed, is a typed file
pub new-requires-clause-form : goal.new-requires-clause-form
new-requires-clause-form c =
    let none : first_fault c.args.file.defs ≡ None = search rules in
    let typed : AreWellTyped c.args.file.defs = subst (IsAnswer c.args.file.defs) none (first_is c.args.file.defs) in
    ∥∥₁_map c.requires.spelled (λ spelled. record { spelled = spelled; typed = typed })

pub returns-in-None-clause-answer : goal.returns-in-None-clause-answer
returns-in-None-clause-answer c =
    let none : first_fault c.args.file.defs ≡ None = search rules in
    subst (IsAnswer c.args.file.defs) none (first_is c.args.file.defs)

pub returns-in-Ok-clause-answer : goal.returns-in-Ok-clause-answer
returns-in-Ok-clause-answer c =
    let some : first_fault c.args.file.defs ≡ Some c.in-Ok.def = search rules in
    subst (IsAnswer c.args.file.defs) some (first_is c.args.file.defs)
