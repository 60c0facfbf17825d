-- The type of a field.
use Rattle.std.proofs.Common.{◌≡◌, IfOk, sym, ap, ◌∙◌, subst}
use Rattle.krml_cstar.specs.Translation.{type_or_unit, field_in}
use Rattle.krml_cstar.proofs.Codes.{field_type_is}
use Rattle.krml_cstar.proofs.emitter.Emitter.field_type.Goals as goal

pub returns-in_default-struct_named : goal.returns-in_default-struct_named
returns-in_default-struct_named c = rw (c.in-Named.is) (subst (λ z. IfOk c.new-in_default-struct_named.result (λ r. r ≡ z))
    (ap (λ o. field_in o c.args.y.now) c.in_default-struct_named.ensures
    ∙ sym (field_type_is c.args.self.now.defs.now c.args.y.now c.in-Named.x c.in-Named.field-1))
    c.new-in_default-struct_named.ensures)

pub returns-in-Some-field_named : goal.returns-in-Some-field_named
returns-in-Some-field_named c = rw (c.in-Named.is) (subst (λ z. IfOk c.copied.result (λ r. r ≡ z))
    (ap type_or_unit c.in-Some-field_named.ensures ∙ ap (λ o. field_in o c.args.y.now) c.in-Some.ensures
    ∙ sym (field_type_is c.args.self.now.defs.now c.args.y.now c.in-Named.x c.in-Named.field-1))
    c.copied.ensures)

pub returns-in-None : goal.returns-in-None
returns-in-None c = rw (c.in-Named.is) (subst (λ z. IfOk c.new-in-None.result (λ r. r ≡ z))
    (ap type_or_unit c.in-None.ensures ∙ ap (λ o. field_in o c.args.y.now) c.in-Some.ensures
    ∙ sym (field_type_is c.args.self.now.defs.now c.args.y.now c.in-Named.x c.in-Named.field-1))
    c.new-in-None.ensures)
