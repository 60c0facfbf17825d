use Rattle.std.proofs.Common.{◌-◌, length, take, ap, ◌∙◌}
use Rattle.krml_intern.specs.Scope.{are_distinct}
use Rattle.krml_types.specs.Judging.{Around}
use Rattle.krml_types.proofs.Judged.{distinct_newest}
use Rattle.krml_types.proofs.judge.Judge.are_distinct.Goals as goal

pub returns : goal.returns
returns c =
    c.are_distinct.ensures ∙ distinct_newest c.self.inside.types c.self.inside.scope c.args.len
    ∙ ap (λ (s : Around). are_distinct (take (length s.place.scope.vars - c.args.len) s.place.scope.vars)) c.self.view_is
