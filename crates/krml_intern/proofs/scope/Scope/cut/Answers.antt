use Rattle.std.proofs.Common.{rules, ◌<◌, length, ap, ◌∙◌}
use Rattle.krml_intern.specs.Scope.{cut}
use Rattle.krml_intern.proofs.Scopes.{cut_pop}
use Rattle.krml_intern.proofs.scope.Scope.cut.Goals as goal

pub loop-self-preserved : goal.loop-self-preserved
loop-self-preserved c =
    let more : c.args.len < length c.loop-self.self = search rules in
    ap (cut c.args.len) c.pop.ensures ∙ cut_pop c.args.len c.loop-self.self more ∙ c.loop-self.invariant
