use Rattle.std.proofs.Common.{rules, map, take, Some, subst, sym, ap, ◌∙◌}
use Rattle.std.proofs.lemmas.Result.{IfOk-weaker}
use Rattle.krml_syntax.specs.declared.tree.Ty.TheVariants as ty
use Rattle.krml_syntax.specs.Types.{type_at}
use Rattle.krml_intern.specs.Labels.{labelled}
use Rattle.krml_intern.specs.Table.{Means}
use Rattle.krml_intern.proofs.Puts.{grows_on, all_still, known_still}
use Rattle.krml_intern.proofs.Labels.{put_named, take_more}
use Rattle.krml_intern.proofs.type_table.TypeTable.+put_at.Goals as goal

pub put_at-returns-in-Named-clause-value : goal.put_at-returns-in-Named-clause-value
put_at-returns-in-Named-clause-value t c = IfOk-weaker c.named_at.result _ _ (λ n h types all.
    h types all
    ∙ ap (λ ts. Some (ty.Named c.in-Named.x (map (type_at c.args.vars.now types) (map (labelled c.args.labels) ts)))) c.as_slice.ensures
    ∙ ap Some (put_named c.args.labels c.args.vars.now types c.in-Named.x c.in-Named.types ∙ ap (λ b. type_at c.args.vars.now types (labelled c.args.labels b)) (sym c.in-Named.is))) c.named_at.ensures.value

pub named_at-app-requires : goal.named_at-app-requires
named_at-app-requires t c =
    let all = all_still c.args.self.now c.loop-a.self c.loop-a.invariant.0 c.args.args.now c.requires.types c.requires.mean in
    let f = c.in_ok-k.ensures.grows.types _ _ (c.loop-a.invariant.2 c.requires.types c.requires.mean) in
    (c.args.x.now, _, _, f, c.in_ok-k.ensures.value c.requires.types all)

pub named_at-loop-a-preserved : goal.named_at-loop-a-preserved
named_at-loop-a-preserved t c =
    let grown = grows_on c.args.self.now c.loop-a.self c.put_at.new.self c.loop-a.invariant.0 c.in_ok-k.ensures.grows in (
      grows_on c.args.self.now c.put_at.new.self c.app.new.self grown c.in_ok-f-2.ensures.grows,
      known_still c.loop-a.self c.app.new.self (grows_on c.loop-a.self c.put_at.new.self c.app.new.self c.in_ok-k.ensures.grows c.in_ok-f-2.ensures.grows) c.args.args.now c.loop-a.invariant.1,
      λ all m.
          let there = all_still c.args.self.now c.loop-a.self c.loop-a.invariant.0 c.args.args.now all m in
          let f = c.in_ok-k.ensures.grows.types _ _ (c.loop-a.invariant.2 all m) in
          let more = take_more c.args.labels c.args.vars.now all c.args.types.now c.loop-a.a-index c.a-item.result (search rules) (search rules) in
          subst (λ ts. Means c.app.new.self c.in_ok-f-2.f (ty.Named c.args.x.now ts)) (sym more)
          (c.in_ok-f-2.ensures.value c.args.x.now (map (type_at c.args.vars.now all) (map (labelled c.args.labels) (take c.loop-a.a-index c.args.types.now))) (type_at c.args.vars.now all (labelled c.args.labels c.a-item.result)) f (c.in_ok-k.ensures.value all there)),
    )
