use Rattle.std.proofs.Common.{List, map, take}
use Rattle.krml_syntax.specs.declared.tree.Ty.{Ty}
use Rattle.krml_syntax.specs.declared.tree.Ty.TheVariants as ty
use Rattle.krml_syntax.specs.Types.{type_at}
use Rattle.krml_intern.specs.Labels.{labelled}
use Rattle.krml_intern.specs.Table.{Means, AllMean, AreKnown, Grows}
use Rattle.krml_intern.proofs.type_table.TypeTable.+put_at.Given as goal

abbrev pub invariant-named_at-loop-a : goal.invariant-named_at-loop-a
invariant-named_at-loop-a l =
    Grows l.fn.self l.self × AreKnown l.self l.args
    × ((all : List Ty) → AllMean l.fn.self l.args all → Means l.self l.f (ty.Named l.x (map (type_at l.vars all) (map (labelled l.labels) (take l.a-index l.types)))))
