use Rattle.std.proofs.Common.{rules, ◌≡◌, [], ◌∷◌, ◌++◌, reverse, sym, ap, subst, ◌∙◌}
use Rattle.std.specs.BTreeMap.{UpdatesBy}
use Rattle.std.specs.Cmp.Lexicographic.{slice_cmp}
use Rattle.std.specs.Ordering.{nat_cmp}
use Rattle.std.proofs.lemmas.List.{reverse-append}
use Rattle.krml_intern.specs.Scope.{IsScope}
use Rattle.krml_intern.proofs.Scopes.{scope_less, on_result, still_there}
use Rattle.krml_intern.proofs.scope.Scope.pop.Goals as goal

pub invariant_of-self-in-None : goal.invariant_of-self-in-None
invariant_of-self-in-None c =
    let grown : c.self.inside.items.items ≡ c.pop.new.self.items ++ c.in-Some.entry ∷ [] = search rules in
    let back : reverse c.self.inside.items.items ≡ c.in-Some.entry ∷ reverse c.pop.new.self.items = ap reverse grown ∙ reverse-append c.pop.new.self.items (c.in-Some.entry ∷ []) in
    scope_less (reverse c.pop.new.self.items) c.in-Some.entry c.self.inside.places c.remove.new.self (subst (λ es. IsScope es c.self.inside.places) back c.self.invariant)
    (subst (λ o. UpdatesBy (λ x y. slice_cmp nat_cmp x.now y.now) (λ k. slice_cmp nat_cmp c.in-Some.entry.name.now k.now) c.self.inside.places c.remove.new.self o) (sym c.in-None.is) c.remove.ensures.updates)

pub invariant_of-self-in-Some-hidden : goal.invariant_of-self-in-Some-hidden
invariant_of-self-in-Some-hidden c =
    let grown : c.self.inside.items.items ≡ c.pop.new.self.items ++ c.in-Some.entry ∷ [] = search rules in
    let back : reverse c.self.inside.items.items ≡ c.in-Some.entry ∷ reverse c.pop.new.self.items = ap reverse grown ∙ reverse-append c.pop.new.self.items (c.in-Some.entry ∷ []) in
    let ok : IsScope (c.in-Some.entry ∷ reverse c.pop.new.self.items) c.self.inside.places = subst (λ es. IsScope es c.self.inside.places) back c.self.invariant in
    let put = on_result c.insert.result c.insert.ensures.updates c.insert.ensures.absent (λ none. absurd (still_there (reverse c.pop.new.self.items) c.in-Some.entry c.self.inside.places ok none)) in
    scope_less (reverse c.pop.new.self.items) c.in-Some.entry c.self.inside.places c.insert.new.self ok
    (subst (λ o. UpdatesBy (λ x y. slice_cmp nat_cmp x.now y.now) (λ k. slice_cmp nat_cmp c.in-Some.entry.name.now k.now) c.self.inside.places c.insert.new.self o) (sym c.in-Some-hidden.is) put)
