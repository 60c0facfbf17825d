-- The type of an argument of a constructor.
use Rattle.std.proofs.Common.{ap}
use Rattle.krml_types.specs.Judging.{Place}
use Rattle.krml_types.proofs.InstanceNumbers.{part_type_gives}
use Rattle.krml_types.proofs.judge.Judge.part_type.Goals as goal

pub component-requires : goal.component-requires
component-requires c = let are = (c.in_ok-k.ensures.value c.requires.type c.requires.is).2 in record { name = are.name; args = are.args; is = are.is }

pub returns-clause-value : goal.returns-clause-value
returns-clause-value c = λ a e.
    part_type_gives c.con_parts.new.self.table c.component.new.self.table c.args.self.now.place.defs c.con_parts.new.self.place.defs c.args.x.now c.in_ok-k.k c.args.j a c.component.result
    (ap (λ (p : Place). p.defs) c.in_ok-k.ensures.place) (c.in_ok-k.ensures.value a e) c.component.ensures.value
