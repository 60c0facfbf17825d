use Rattle.std.proofs.Common.{◌≡◌, ◌↔◌, sym, subst}
use Rattle.krml_ctree.specs.Spelling.{SpellsProgram}
use Rattle.krml_cprint.proofs.program.print_c.Goals as goal

pub returns-clause-alone : goal.returns-clause-alone
returns-clause-alone c = λ well q. subst (λ text. SpellsProgram text q ↔ (q ≡ c.args.program.now)) (sym c.in_ok-text.ensures) (c.spelled_alone.ensures c.args.program.now q well)
