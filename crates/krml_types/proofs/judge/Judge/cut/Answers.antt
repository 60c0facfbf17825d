use Rattle.std.proofs.Common.{ap, ◌∙◌}
use Rattle.std.specs.Option.{option_copied}
use Rattle.krml_types.specs.Judging.{Around, in_scope}
use Rattle.krml_types.specs.Scopes.{cut_scope}
use Rattle.krml_types.proofs.Judged.{seen_at, typed_cut}
use Rattle.krml_types.proofs.judge.Judge.cut.Goals as goal

pub returns-clause-place : goal.returns-clause-place
returns-clause-place c =
    ap (λ vs. seen_at c.self.inside.index.now c.self.inside.tvars.now c.self.inside.types vs c.self.inside.frame) c.cut.ensures
    ∙ ap (λ vars. record { defs = c.self.inside.index.now; tvars = c.self.inside.tvars.now; scope = record { vars = vars; frame = option_copied c.self.inside.frame } }) (typed_cut c.self.inside.types c.args.len c.self.inside.scope)
    ∙ ap (λ (s : Around). in_scope s.place (cut_scope c.args.len s.place.scope)) c.self.view_is
