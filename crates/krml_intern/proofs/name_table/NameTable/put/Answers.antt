use Rattle.std.proofs.Common.{rules, ◌≡◌, ℕ, List, [], ◌∷◌, ◌++◌, length, map, Some, None, Bor, sym, ap, subst, ◌∙◌}
use Rattle.std.specs.BTreeMap.{Updates, UpdatesBy}
use Rattle.std.specs.Cmp.Lexicographic.{slice_cmp}
use Rattle.std.specs.Ordering.{nat_cmp}
use Rattle.std.proofs.lemmas.List.{map-append, length-map}
use Rattle.krml_intern.specs.Scope.{has}
use Rattle.krml_intern.proofs.Lasts.{cut_off}
use Rattle.krml_intern.proofs.Tables.{puts_found, puts_added, names_more, names_same}
use Rattle.krml_intern.proofs.name_table.NameTable.put.Goals as goal

abbrev shown : List (Bor (List ℕ)) → List (List ℕ)
shown xs = map (λ x. x.now) xs

pub returns-in-Some-clause-ok : goal.returns-in-Some-clause-ok
returns-in-Some-clause-ok c = puts_found (shown c.self.inside.items.items) c.args.self.now (has c.self.inside.places) c.self.invariant c.self.view_is c.args.x.now c.in-Some.n (search rules)

pub invariant_of-self-in-Err : goal.invariant_of-self-in-Err
invariant_of-self-in-Err c =
    let long : c.len-n.result ≡ length c.self.inside.items.items = search rules in
    let same : c.truncate.new.self.items ≡ c.self.inside.items.items
    = cut_off c.self.inside.items.items c.push.new.self.items c.truncate.new.self.items c.args.x c.len-n.result long c.in_ok-push.ensures.items c.truncate.ensures.items in
    names_same (shown c.self.inside.items.items) (shown c.truncate.new.self.items) c.self.inside.places c.insert.new.self c.self.invariant (ap shown same) c.in-Err.ensures.err

pub returns-in-Err-clause-err : goal.returns-in-Err-clause-err
returns-in-Err-clause-err c =
    let long : c.len-n.result ≡ length c.self.inside.items.items = search rules in
    ap shown (cut_off c.self.inside.items.items c.push.new.self.items c.truncate.new.self.items c.args.x c.len-n.result long c.in_ok-push.ensures.items c.truncate.ensures.items) ∙ c.self.view_is

pub invariant_of-self-in-Ok : goal.invariant_of-self-in-Ok
invariant_of-self-in-Ok c =
    let long : c.len-n.result ≡ length c.self.inside.items.items = search rules in
    let absent : has c.self.inside.places c.args.x.now ≡ None = search rules in
    let grown : shown c.push.new.self.items ≡ shown c.self.inside.items.items ++ c.args.x.now ∷ [] = ap shown c.in_ok-push.ensures.items ∙ map-append (λ (x : Bor (List ℕ)). x.now) c.self.inside.items.items (c.args.x ∷ []) in
    let put : Updates (λ x y. slice_cmp nat_cmp x.now y.now) c.self.inside.places c.insert.new.self c.as_bytes-2.result (Some (length (shown c.self.inside.items.items)))
    = rw (long, ← length-map c.self.inside.items.items (λ (x : Bor (List ℕ)). x.now)) at c.in-Ok.ensures.updates in
    let there = subst (λ y. UpdatesBy (λ x y. slice_cmp nat_cmp x.now y.now) (λ k. slice_cmp nat_cmp y k.now) c.self.inside.places c.insert.new.self (Some (length (shown c.self.inside.items.items)))) c.as_bytes-2.ensures put in
    rw grown (names_more (shown c.self.inside.items.items) c.args.x.now c.self.inside.places c.insert.new.self c.self.invariant absent there)

pub returns-in-Ok-clause-ok : goal.returns-in-Ok-clause-ok
returns-in-Ok-clause-ok c =
    let long : c.len-n.result ≡ length c.self.inside.items.items = search rules in
    let absent : has c.self.inside.places c.args.x.now ≡ None = search rules in
    let grown : shown c.push.new.self.items ≡ shown c.self.inside.items.items ++ c.args.x.now ∷ [] = ap shown c.in_ok-push.ensures.items ∙ map-append (λ (x : Bor (List ℕ)). x.now) c.self.inside.items.items (c.args.x ∷ []) in
    puts_added (shown c.self.inside.items.items) c.args.self.now (shown c.push.new.self.items) (has c.self.inside.places) c.self.invariant c.self.view_is c.args.x.now c.len-n.result absent (long ∙ sym (length-map c.self.inside.items.items (λ (x : Bor (List ℕ)). x.now))) grown
