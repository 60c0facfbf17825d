use Rattle.std.proofs.Common.{◌++◌, take, ◌∙◌}
use Rattle.krml_cli.proofs.Known.{appends_more, prefix_more}
use Rattle.krml_cli.proofs.output.write_all.Goals as goal

pub loop-rest-preserved : goal.loop-rest-preserved
loop-rest-preserved g c =
    let before = c.loop-rest.invariant in
    let rest = c.loop-rest.rest.now in
    let n = c.in_ok-n.n in
    record {
      prefix = before.prefix ++ take n rest;
      is = prefix_more c.args.piece.now before.prefix rest n before.is;
      appended = appends_more _ _ _ before.prefix (take n rest) before.appended c.in_ok-n.ensures.appended;
      quiet = c.in_ok-n.ensures.quiet ∙ before.quiet;
    }
