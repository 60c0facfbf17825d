use Rattle.std.proofs.Common.{rules, ◌≡◌, reverse, slice_get, Some, None, sym, subst, ◌∙◌}
use Rattle.krml_intern.specs.Scope.{look, has}
use Rattle.krml_intern.proofs.Scopes.{looked, look_at, look_there}
use Rattle.krml_intern.proofs.scope.Scope.look.Goals as goal

pub returns-in_default : goal.returns-in_default
returns-in_default c =
    let none : has c.self.inside.places c.args.x.now ≡ None = search rules in
    subst (λ vars. None ≡ look vars c.args.x.now) c.self.view_is (sym (looked (reverse c.self.inside.items.items) c.args.x.now (sym (c.self.invariant.at c.args.x.now) ∙ none)))

pub returns-in_default-entry_at : goal.returns-in_default-entry_at
returns-in_default-entry_at c =
    let there : has c.self.inside.places c.args.x.now ≡ Some c.in-Some.k = search rules in
    let none : slice_get c.self.inside.items.items c.in-Some.k ≡ None = search rules in
    absurd (look_there c.self.inside.items.items c.args.x.now c.in-Some.k (sym (c.self.invariant.at c.args.x.now) ∙ there) none)

pub returns : goal.returns
returns c =
    let there : has c.self.inside.places c.args.x.now ≡ Some c.in-Some.k = search rules in
    let at : slice_get c.self.inside.items.items c.in-Some.k ≡ Some c.in-Some-entry_at.entry = search rules in
    subst (λ vars. Some c.in-Some-entry_at.entry.value ≡ look vars c.args.x.now) c.self.view_is
    (sym (look_at c.self.inside.items.items c.args.x.now c.in-Some.k c.in-Some-entry_at.entry (sym (c.self.invariant.at c.args.x.now) ∙ there) at))
