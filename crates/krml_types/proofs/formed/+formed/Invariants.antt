use Rattle.std.proofs.Common.{◌≡◌, take, drop}
use Rattle.krml_ast.specs.Names.{type_named}
use Rattle.krml_types.specs.Types.{is_flat, are_arguments_by}
use Rattle.krml_types.proofs.formed.+formed.Given as goal

abbrev pub invariant-are_arguments_before-loop-a : goal.invariant-are_arguments_before-loop-a
invariant-are_arguments_before-loop-a l = are_arguments_by (type_named (take l.k l.index)) (is_flat l.index) l.tvars (drop l.a-index l.args)
    ≡ are_arguments_by (type_named (take l.initial.k l.initial.index)) (is_flat l.initial.index) l.initial.tvars l.initial.args
