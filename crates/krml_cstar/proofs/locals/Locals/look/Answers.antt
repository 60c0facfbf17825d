use Rattle.std.proofs.Common.{rules, ◌≡◌, map, reverse, slice_get, Some, None, sym, ap, ◌∙◌}
use Rattle.std.proofs.lemmas.List.{reverse-reverse}
use Rattle.krml_intern.specs.Scope as places
use Rattle.krml_cstar.specs.Variables.{KnownVars, look}
use Rattle.krml_cstar.specs.Scopes.{known}
use Rattle.krml_cstar.proofs.Scopes.{no_place, look_at, got_known}
use Rattle.krml_cstar.proofs.locals.Locals.look.Goals as goal

pub returns-in_err-k : goal.returns-in_err-k
returns-in_err-k c =
    let names : KnownVars = reverse (map known c.self.inside.items.items) in
    let none : places.look c.self.inside.places c.args.x.now ≡ None = search rules in
    let lacks : look c.args.self.now c.args.x.now ≡ None
    = ap (λ ks. look ks c.args.x.now) (sym c.self.view_is) ∙ no_place names c.args.x.now (ap (λ vars. places.look vars c.args.x.now) (sym c.self.invariant) ∙ none) in
    rw lacks (search rules)

pub returns : goal.returns
returns c =
    let names : KnownVars = reverse (map known c.self.inside.items.items) in
    let some : places.look c.self.inside.places c.args.x.now ≡ Some c.in_ok-k.k = search rules in
    got_known c.get.result c.deref.result.now c.in_ok-k.k c.get.ensures.lookup.0 c.get.ensures.lookup.1
    ∙ ap (λ ls. slice_get (map known ls) c.in_ok-k.k) c.deref.ensures.value ∙ ap (λ ks. slice_get ks c.in_ok-k.k) (sym (reverse-reverse (map known c.self.inside.items.items)))
    ∙ sym (look_at names c.args.x.now c.in_ok-k.k (ap (λ vars. places.look vars c.args.x.now) (sym c.self.invariant) ∙ some))
    ∙ ap (λ ks. look ks c.args.x.now) c.self.view_is
