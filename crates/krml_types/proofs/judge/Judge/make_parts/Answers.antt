-- Where the fields of a struct are found.
use Rattle.std.proofs.Common.{ap, ◌∙◌}
use Rattle.krml_ast.specs.Names.{struct_named}
use Rattle.krml_types.proofs.InstanceNumbers.{make_parts_where}
use Rattle.krml_types.proofs.judge.Judge.make_parts.Goals as goal

pub returns-in-Some : goal.returns-in-Some
returns-in-Some c = λ a e.
    make_parts_where c.args.self.now.place.defs c.args.x.now c.in-Some.y.now _ c.struct_named.result c.is_none.result c.args.self.now.table c.args.k a
    (c.struct_named.ensures ∙ ap (λ ds. struct_named ds c.args.x.now) (c.names.ensures ∙ c.index.ensures)) c.is_none.ensures c.if-is_none.false (c.in-Some.ensures a e) (cc) e
