use Rattle.std.proofs.Common.{rules, ◌+◌, ◌<◌, ◌^◌, sym, ap, ◌∙◌, subst, arith}
use Rattle.std.specs.Int.{next_multiple_of}
use Rattle.krml_syntax.specs.declared.tree.Ty.{out-Ty}
use Rattle.krml_syntax.specs.declared.tree.Ty.TheVariants as ty
use Rattle.krml_layout.specs.declared.layout.TypeLayout.{TypeLayout}
use Rattle.krml_layout.proofs.Lookups.{found_is}
use Rattle.krml_layout.proofs.Members.{sound_aligned, known_named, field_fits, arg_fits, args_fit}
use Rattle.krml_layout.proofs.known.+known.Goals as goal

pub among-returns-in-Some : goal.among-returns-in-Some
among-returns-in-Some t c =
    c.def_layout.ensures ∙ found_is c.args.defs.now c.args.x.now c.in-Some.before.now c.in-Some.def.now c.requires c.in-Some.ensures.found

pub type_layout-returns-in-Named : goal.type_layout-returns-in-Named
type_layout-returns-in-Named t c =
    c.named.ensures
    ∙ sym (known_named c.args.known.now c.args.a.now c.in-Named.x c.in-Named.field-1
    (ap out-Ty c.in-Named.is ∙ ty.outs-Named c.in-Named.x c.in-Named.field-1))

pub of_fields-with_member-layout-requires-clause-aligned : goal.of_fields-with_member-layout-requires-clause-aligned
of_fields-with_member-layout-requires-clause-aligned t c =
    subst (λ (z : TypeLayout). 0 < z.align) (sym c.type_layout.ensures)
    (sound_aligned c.args.known.now c.requires.sound c.field-item.result.ty)

pub of_fields-with_member-layout-requires-clause-fits : goal.of_fields-with_member-layout-requires-clause-fits
of_fields-with_member-layout-requires-clause-fits t c =
    let f = field_fits c.args.known.now c.loop-field.layout c.args.fields.now c.loop-field.field-index c.field-item.result _ (search rules)
    (search rules) c.loop-field.invariant c.requires.fits in
    subst (λ (z : TypeLayout). next_multiple_of c.loop-field.layout.size z.align + z.size < 2 ^ 32) (sym c.type_layout.ensures)
    (omega (arith, f))

pub with_args-with_member-layout-requires-clause-aligned : goal.with_args-with_member-layout-requires-clause-aligned
with_args-with_member-layout-requires-clause-aligned t c =
    subst (λ (z : TypeLayout). 0 < z.align) (sym c.type_layout.ensures) (sound_aligned c.args.known.now c.requires.sound c.a-item.result)

pub with_args-with_member-layout-requires-clause-fits : goal.with_args-with_member-layout-requires-clause-fits
with_args-with_member-layout-requires-clause-fits t c =
    let f = arg_fits c.args.known.now c.loop-a.layout c.args.args.now c.loop-a.a-index c.a-item.result _ (search rules)
    (search rules) c.loop-a.invariant c.requires.fits in
    subst (λ (z : TypeLayout). next_multiple_of c.loop-a.layout.size z.align + z.size < 2 ^ 32) (sym c.type_layout.ensures)
    (omega (arith, f))

pub of_cons-with_args-layout-requires : goal.of_cons-with_args-layout-requires
of_cons-with_args-layout-requires t c =
    let f = args_fit c.args.known.now c.loop-con.layout c.args.cons.now c.loop-con.con-index c.con-item.result _ (search rules)
    (search rules) c.loop-con.invariant c.requires.fits in
    (search (rules, arith), (c.requires.sound, rw c.as_slice.ensures f))
