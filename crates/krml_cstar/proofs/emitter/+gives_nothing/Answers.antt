-- Whether a call gives nothing.
use Rattle.std.proofs.Common.{◌≡◌, sym, ap, ◌∙◌}
use Rattle.krml_cstar.specs.Types.{is_unit}
use Rattle.krml_cstar.specs.Translation.{result_of}
use Rattle.krml_cstar.proofs.Codes.{call_unit, no_function_unit}
use Rattle.krml_cstar.proofs.emitter.+gives_nothing.Goals as goal

pub returns-in-Some : goal.returns-in-Some
returns-in-Some t c = rw (c.in-Call.is) (c.is_unit.ensures ∙ ap (λ o. is_unit (result_of o)) c.in-Some.ensures
    ∙ sym (call_unit c.args.defs.now c.in-Call.f c.in-Call.field-1 c.in-Call.field-2))

pub returns-in-None : goal.returns-in-None
returns-in-None t c = rw (c.in-Call.is) (sym (no_function_unit c.args.defs.now) ∙ ap (λ o. is_unit (result_of o)) c.in-None.ensures
    ∙ sym (call_unit c.args.defs.now c.in-Call.f c.in-Call.field-1 c.in-Call.field-2))
