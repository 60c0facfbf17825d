-- The type of a field.
use Rattle.std.proofs.Common.{sym, ap, ◌∙◌, refl}
use Rattle.krml_ast.specs.Names.{struct_named}
use Rattle.krml_types.proofs.InstanceNumbers.{is_at, no_struct, no_field, field_gives}
use Rattle.krml_types.proofs.judge.Judge.field_type.Goals as goal

pub returns-in_default-struct_named-clause-value : goal.returns-in_default-struct_named-clause-value
returns-in_default-struct_named-clause-value c = λ a e.
    no_struct c.args.self.now.place.defs c.in-Some.x.now c.args.y.now a
    (ap (λ ds. struct_named ds c.in-Some.x.now) (sym (c.names.ensures ∙ c.index.ensures)) ∙ sym c.in_default-struct_named.ensures) (c.in-Some.ensures a e)

pub returns-in_default-place_in-clause-value : goal.returns-in_default-place_in-clause-value
returns-in_default-place_in-clause-value c = λ a e.
    let d = c.in-Some-struct_named.def in
    no_field c.args.self.now.place.defs c.in-Some.x.now c.args.y.now (d.vars.now, d.fields.now) a
    (ap (λ ds. struct_named ds c.in-Some.x.now) (sym (c.names.ensures ∙ c.index.ensures)) ∙ sym c.in-Some-struct_named.ensures)
    (c.in-Some.ensures a e) (c.in_default-place_in.ensures)

pub component-requires : goal.component-requires
component-requires c = is_at c.args.self.now.table c.args.k c.in-Some.x.now c.requires.type (c.in-Some.ensures c.requires.type c.requires.is) c.requires.is

pub returns-clause-value : goal.returns-clause-value
returns-clause-value c = λ a e.
    let d = c.in-Some-struct_named.def in
    field_gives c.args.self.now.place.defs c.args.self.now.place.defs c.in-Some.x.now c.args.y.now (d.vars.now, d.fields.now) c.args.self.now.table c.component.new.self.table c.args.k c.in-Some-place_in.j a
    c.component.result
    (ap (λ ds. struct_named ds c.in-Some.x.now) (sym (c.names.ensures ∙ c.index.ensures)) ∙ sym c.in-Some-struct_named.ensures)
    (c.in-Some.ensures a e) (c.in-Some-place_in.ensures) e refl c.component.ensures.value
