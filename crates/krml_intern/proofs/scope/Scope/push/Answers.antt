use Rattle.std.proofs.Common.{rules, ◌≡◌, [], ◌∷◌, length, reverse, Some, sym, ap, subst, ◌∙◌}
use Rattle.std.specs.BTreeMap.{Updates}
use Rattle.std.specs.Cmp.Lexicographic.{slice_cmp}
use Rattle.std.specs.Ordering.{nat_cmp}
use Rattle.std.proofs.lemmas.List.{reverse-append, length-reverse}
use Rattle.krml_intern.specs.declared.entry.Entry.{Entry}
use Rattle.krml_intern.specs.Scope.{IsScope}
use Rattle.krml_intern.proofs.Scopes.{scope_more}
use Rattle.krml_intern.proofs.scope.Scope.push.Goals as goal

pub invariant_of-self-in-Ok : goal.invariant_of-self-in-Ok
invariant_of-self-in-Ok c =
    let a : Entry = record { name = c.args.name; value = c.args.value; hidden = c.copied-hidden.result } in
    let long : c.len-n.result ≡ length c.self.inside.items.items = search rules in
    let put : Updates (λ x y. slice_cmp nat_cmp x.now y.now) c.self.inside.places c.insert.new.self c.args.name (Some (length (reverse c.self.inside.items.items)))
    = rw (long, ← length-reverse c.self.inside.items.items) at c.in-Ok.ensures.updates in
    let back : reverse c.push.new.self.items ≡ a ∷ reverse c.self.inside.items.items = ap reverse c.in_ok-push.ensures.items ∙ reverse-append c.self.inside.items.items (a ∷ []) in
    subst (λ es. IsScope es c.insert.new.self) (sym back)
    (scope_more (reverse c.self.inside.items.items) a c.self.inside.places c.insert.new.self c.self.invariant (c.copied-hidden.ensures ∙ c.get.ensures.value) put)
