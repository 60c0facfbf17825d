use Rattle.std.proofs.Common.{rules, ◌≡◌, sym, subst}
use Rattle.std.specs.Option.{ok_or}
use Rattle.krml_ast.specs.Typing.{look}
use Rattle.krml_intern.specs.Scope.{look as look_number}
use Rattle.krml_trace.specs.declared.missing.Missing.TheVariants.{Absent}
use Rattle.krml_types.specs.Judging.{Around, GivesNumber, typed}
use Rattle.krml_types.proofs.Judged.{looked_up}
use Rattle.krml_types.proofs.Judges.{number_or_fault}
use Rattle.krml_types.proofs.judge.Judge.look.Goals as goal

pub returns : goal.returns
returns c =
    let by : c.ok_or.result ≡ ok_or (look_number c.self.inside.scope c.args.x.now) Absent = search rules in
    subst (λ (s : Around). GivesNumber s.table c.ok_or.result (look s.place.scope.vars c.args.x.now)) c.self.view_is
    (subst (λ r. GivesNumber c.self.inside.types r (look (typed c.self.inside.types c.self.inside.scope) c.args.x.now)) (sym by)
    (number_or_fault c.self.inside.types (look_number c.self.inside.scope c.args.x.now) (look (typed c.self.inside.types c.self.inside.scope) c.args.x.now)
    (looked_up c.self.inside.types c.self.inside.scope c.args.x.now c.self.invariant.scope)))
