use Rattle.std.proofs.Common.{rules, ◌≡◌, ℕ, ◌<◌, List, [], ◌∷◌, ◌++◌, Option, None, map, length, take, get_or, sym, ap, ◌∙◌}
use Rattle.krml_trace.specs.First.{first}
use Rattle.krml_syntax.specs.declared.tree.Def.{Def}
use Rattle.krml_rename.specs.Pass.{def_with}
use Rattle.krml_passing.specs.Hoisted.{body_hoisted}
use Rattle.krml_hoist.specs.declared.refusal.HoistRefusal.{HoistRefusal}
use Rattle.krml_hoist.specs.Large.{large_def}
use Rattle.krml_hoist.specs.Refusing.{Refuses}
use Rattle.krml_hoist.proofs.Turns.{one_def, first_blamed}
use Rattle.krml_hoist.proofs.definitions.defs_hoisted.Goals as goal

pub returns-in_err-def_hoisted-clause-refused : goal.returns-in_err-def_hoisted-clause-refused
returns-in_err-def_hoisted-clause-refused c =
    let ds : List Def = c.args.defs.now in
    let i : ℕ = c.loop-def.def-index in
    let x : Def = c.def-item.result in
    let give : Def → Option (List ℕ × ℕ) = large_def c.args.layouts.now in
    let within : i < length ds = search rules in
    let here : x ≡ get_or ds i x = search rules in
    let none : first give (map (def_with body_hoisted) (take i ds)) ≡ None =
    ap (first give) (sym c.loop-def.invariant.made) ∙ c.loop-def.invariant.small in
    let e : HoistRefusal = c.in_err-def_hoisted.field-0.0 in
    let says : Refuses (give (def_with body_hoisted x)) e = search rules in
    let told : Refuses (first give (map (def_with body_hoisted) ds)) e = first_blamed give (def_with body_hoisted) ds i x within here none e says in
    search rules

pub loop-def-preserved : goal.loop-def-preserved
loop-def-preserved c =
    let ds : List Def = c.args.defs.now in
    let i : ℕ = c.loop-def.def-index in
    let x : Def = c.def-item.result in
    let v : Def = c.in_ok-def_hoisted.field-0 in
    let give : Def → Option (List ℕ × ℕ) = large_def c.args.layouts.now in
    let within : i < length ds = search rules in
    let here : x ≡ get_or ds i x = search rules in
    let v_is : v ≡ def_with body_hoisted x = search rules in
    let none : give (def_with body_hoisted x) ≡ None = search rules in
    let pushed : c.push.new.self ≡ c.loop-def.all ++ v ∷ [] = search rules in
    let next = one_def give (def_with body_hoisted) ds i x within here c.loop-def.all c.push.new.self v
    c.loop-def.invariant.made c.loop-def.invariant.small v_is none pushed in
    record { made = next.0; small = next.1 }
