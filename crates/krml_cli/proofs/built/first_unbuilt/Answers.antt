use Rattle.std.proofs.Common.{◌∙◌, rules, tests}
use Rattle.std.proofs.lemmas.Iterator.{YieldsList-from_slice}
use Rattle.std.proofs.lemmas.Iterator.Search.{position_from_yields_List}
use Rattle.krml_cli.proofs.built.Pieces.{def_same}
use Rattle.krml_cli.proofs.built.first_unbuilt.Goals as goal

pub returns : goal.returns
returns c =
    let items = YieldsList-from_slice c.args.file.now.defs (c.iter.ensures.rest ∙ c.as_slice-defs.ensures) in
    position_from_yields_List _ _ _ _ c.position.ensures.ran items (λ x b q k. search (rules, tests, def_same c.args.buffers))
