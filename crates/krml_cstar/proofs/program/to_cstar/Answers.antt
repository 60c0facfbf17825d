use Rattle.std.proofs.Common.{rules, ◌≡◌, sym, subst}
use Rattle.krml_ctree.specs.WellFormed.{WellFormed}
use Rattle.krml_cstar.specs.Count.{HaveFewVariables}
use Rattle.krml_cstar.specs.Theorem.{DoesTheSame}
use Rattle.krml_cstar.specs.Translation.{program_of}
use Rattle.krml_cstar.proofs.Runs.{does_the_same}
use Rattle.krml_cstar.proofs.WellFormedProgram.{well_formed}
use Rattle.krml_cstar.proofs.program.to_cstar.Goals as goal

pub returns-clause-well_formed : goal.returns-clause-well_formed
returns-clause-well_formed c =
    let is : c.in_ok-program.program ≡ program_of c.args.file.now.0 = search rules in
    let few : HaveFewVariables c.args.file.now.0.defs = search rules in
    λ form. subst WellFormed (sym is) (well_formed c.args.file.now.0 c.args.file.now.1 form c.requires.built few)

pub returns-clause-runs : goal.returns-clause-runs
returns-clause-runs c =
    let is : c.in_ok-program.program ≡ program_of c.args.file.now.0 = search rules in
    let few : HaveFewVariables c.args.file.now.0.defs = search rules in
    λ form. subst (DoesTheSame c.args.file.now.0) (sym is) (does_the_same c.args.file.now.0 form.listed.regular.typed c.requires.built few)
