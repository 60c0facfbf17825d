use Rattle.krml_ast.proofs.Scopes.{kept}
use Rattle.krml_ast.proofs.vars.Vars.cut.Goals as goal

pub returns : goal.returns
returns c = rw (← c.self.view_is, c.truncate.ensures.items) (kept c.args.len c.self.inside.items.items)
