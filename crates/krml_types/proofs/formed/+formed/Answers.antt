use Rattle.std.proofs.Common.{rules, take, sym}
use Rattle.krml_ast.specs.Names.{type_named}
use Rattle.krml_types.specs.Types.{is_flat}
use Rattle.krml_types.proofs.Decided.{type_bool, type_unit, type_int, type_buf, type_var, type_name}
use Rattle.krml_types.proofs.formed.+formed.Goals as goal

pub is_type_before-returns-in-Bool : goal.is_type_before-returns-in-Bool
is_type_before-returns-in-Bool t c = sym (type_bool (type_named (take c.args.k c.args.index.now)) (is_flat c.args.index.now) c.args.tvars.now c.args.a.now c.in-Bool.is)

pub is_type_before-returns-in-Unit : goal.is_type_before-returns-in-Unit
is_type_before-returns-in-Unit t c = sym (type_unit (type_named (take c.args.k c.args.index.now)) (is_flat c.args.index.now) c.args.tvars.now c.args.a.now c.in-Unit.is)

pub is_type_before-returns-in-Int : goal.is_type_before-returns-in-Int
is_type_before-returns-in-Int t c = sym (type_int (type_named (take c.args.k c.args.index.now)) (is_flat c.args.index.now) c.args.tvars.now c.args.a.now c.in-Int.field-0 c.in-Int.is)

pub is_type_before-returns-then-is_type_before : goal.is_type_before-returns-then-is_type_before
is_type_before-returns-then-is_type_before t c = rw (type_buf (type_named (take c.args.k c.args.index.now)) (is_flat c.args.index.now) c.args.tvars.now c.args.a.now c.in-Buf.b c.in-Buf.is) (search rules)

pub is_type_before-returns-else-is_type_before : goal.is_type_before-returns-else-is_type_before
is_type_before-returns-else-is_type_before t c = rw (type_buf (type_named (take c.args.k c.args.index.now)) (is_flat c.args.index.now) c.args.tvars.now c.args.a.now c.in-Buf.b c.in-Buf.is) (search rules)

pub is_type_before-returns-in-Var : goal.is_type_before-returns-in-Var
is_type_before-returns-in-Var t c = rw (type_var (type_named (take c.args.k c.args.index.now)) (is_flat c.args.index.now) c.args.tvars.now c.args.a.now c.in-Var.x c.in-Var.is) (search rules)

pub is_type_before-returns-then-takes : goal.is_type_before-returns-then-takes
is_type_before-returns-then-takes t c = rw (type_name (type_named (take c.args.k c.args.index.now)) (is_flat c.args.index.now) c.args.tvars.now c.args.a.now c.in-Named.x c.in-Named.args c.in-Named.is) (search rules)

pub is_type_before-returns-else-takes : goal.is_type_before-returns-else-takes
is_type_before-returns-else-takes t c = rw (type_name (type_named (take c.args.k c.args.index.now)) (is_flat c.args.index.now) c.args.tvars.now c.args.a.now c.in-Named.x c.in-Named.args c.in-Named.is) (search rules)
