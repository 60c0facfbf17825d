use Rattle.std.proofs.Common.{rules, ◌≡◌, sym, subst}
use Rattle.std.specs.Option.{ok_or}
use Rattle.krml_syntax.specs.declared.tree.Ty.{out-Ty}
use Rattle.krml_syntax.specs.Types.{element_of}
use Rattle.krml_intern.specs.Table.{Means}
use Rattle.krml_trace.specs.declared.missing.Missing.TheVariants.{Absent}
use Rattle.krml_types.specs.Judging.{Around, GivesNumber}
use Rattle.krml_types.proofs.Judges.{number_or_fault, element_number}
use Rattle.krml_types.proofs.judge.Judge.element.Goals as goal

pub returns : goal.returns
returns c = λ a e.
    let by : c.ok_or.result ≡ ok_or c.element.result Absent = search rules in
    let means : Means c.self.inside.types c.args.k a = subst (λ (s : Around). Means s.table c.args.k a) (sym c.self.view_is) e.means in
    subst (λ (s : Around). GivesNumber s.table c.ok_or.result (element_of (out-Ty a))) c.self.view_is
    (subst (λ r. GivesNumber c.self.inside.types r (element_of (out-Ty a))) (sym by)
    (number_or_fault c.self.inside.types c.element.result (element_of (out-Ty a)) (element_number c.self.inside.types c.element.result a e.plain (c.element.ensures a means))))
