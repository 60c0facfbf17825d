use Rattle.std.proofs.Common.{map, reverse, sym, ap, ◌∙◌}
use Rattle.krml_intern.specs.Scope as places
use Rattle.krml_cstar.specs.Scopes.{known, placed}
use Rattle.krml_cstar.proofs.Scopes.{kept_images, places_kept}
use Rattle.krml_cstar.proofs.locals.Locals.cut.Goals as goal

pub returns : goal.returns
returns c = rw (← c.self.view_is, c.truncate.ensures.items) (kept_images known c.args.len c.self.inside.items.items)

pub invariant_of-self : goal.invariant_of-self
invariant_of-self c =
    c.cut.ensures ∙ ap (places.cut c.args.len) c.self.invariant ∙ places_kept c.self.inside.items.items c.args.len
    ∙ sym (ap (λ ls. placed (reverse (map known ls))) c.truncate.ensures.items)
