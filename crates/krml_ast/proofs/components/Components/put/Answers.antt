use Rattle.krml_ast.proofs.ComponentsMore.{adds_by}
use Rattle.krml_ast.proofs.components.Components.put.Goals as goal

pub returns-clause-ok : goal.returns-clause-ok
returns-clause-ok c =
    adds_by c.self.inside.found c.insert.new.self c.args.self.now c.args.kind c.code.result c.args.k c.args.j c.args.n c.self.view_is c.code.ensures c.in_ok-insert.ensures.updates
