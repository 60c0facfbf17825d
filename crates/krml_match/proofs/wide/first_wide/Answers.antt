use Rattle.std.proofs.Common.{rules, ◌≡◌, ◌+◌, ◌<◌, true, false, length, [], ◌∷◌, ◌++◌, get_or, is_some, sym, subst}
use Rattle.krml_ast.specs.Leaves.{leaves_of, composite_of}
use Rattle.krml_match.specs.Counted.{counted, wide_at}
use Rattle.krml_match.proofs.Walk.{Walked, stops, goes, walk_through}
use Rattle.krml_match.proofs.wide.first_wide.Goals as goal

pub returns-then-is_some : goal.returns-then-is_some
returns-then-is_some c = λ typed.
    let def = c.def-item.result in
    let within : c.loop-def.def-index < length c.args.defs.now = search rules in
    let here : def ≡ get_or c.args.defs.now c.loop-def.def-index def = search rules in
    let leaves_so : c.in_ok-leaves.leaves ≡ leaves_of (counted c.loop-def.counts c.args.defs.now) (composite_of def) = search rules in
    let wide_so : c.in_ok-wide.wide ≡ wide_at c.in_ok-leaves.leaves def = search rules in
    let is : is_some c.in_ok-wide.wide ≡ true = search rules in
    stops c.args.defs.now typed c.loop-def.def-index c.loop-def.counts def within here (c.loop-def.invariant typed)
    c.in_ok-leaves.leaves c.in_ok-wide.wide leaves_so wide_so is

pub loop-def-preserved : goal.loop-def-preserved
loop-def-preserved c = λ typed.
    let def = c.def-item.result in
    let within : c.loop-def.def-index < length c.args.defs.now = search rules in
    let here : def ≡ get_or c.args.defs.now c.loop-def.def-index def = search rules in
    let leaves_so : c.in_ok-leaves.leaves ≡ leaves_of (counted c.loop-def.counts c.args.defs.now) (composite_of def) = search rules in
    let wide_so : c.in_ok-wide.wide ≡ wide_at c.in_ok-leaves.leaves def = search rules in
    let is : is_some c.in_ok-wide.wide ≡ false = search rules in
    let more : c.push.new.self ≡ c.loop-def.counts ++ c.in_ok-leaves.leaves ∷ [] = search rules in
    subst (Walked c.args.defs.now (c.loop-def.def-index + 1)) (sym more)
    (goes c.args.defs.now typed c.loop-def.def-index c.loop-def.counts def within here (c.loop-def.invariant typed)
    c.in_ok-leaves.leaves c.in_ok-wide.wide leaves_so wide_so is)

pub returns : goal.returns
returns c = λ typed.
    let ended : c.loop-def.def-index ≡ length c.args.defs.now = search rules in
    sym (walk_through c.args.defs.now c.loop-def.counts
    (subst (λ n. Walked c.args.defs.now n c.loop-def.counts) ended (c.loop-def.invariant typed)))
