use Rattle.std.proofs.Common.{◌≡◌, ◌∙◌, ap, ap₂, true}
use Rattle.std.proofs.lemmas.Result.{IfOk-weaker}
use Rattle.clap.specs.Words.{app_of, with_rule}
use Rattle.clap.specs.Simple.{app_of_fields, on_top}
use Rattle.krml_command.specs.Line.{bare}
use Rattle.krml_command.proofs.line.line.Goals as goal

pub returns : goal.returns
returns c =
    let bare_is : app_of c.disable_help_flag.result ≡ bare = ap app_of_fields c.disable_help_flag.ensures
    ∙ ap (λ f. app_of_fields (record f { disable_help_flag = true })) c.no_binary_name.ensures
    ∙ ap (on_top (λ s. record s { no_binary_name = true; disable_help_flag = true })) c.new.ensures.app in
    let one = c.in_ok-arg.ensures.shape c.option.ensures.local ∙ ap₂ with_rule bare_is c.option.ensures.rule in
    let two = c.in_ok-arg-2.ensures.shape c.option-2.ensures.local ∙ ap₂ with_rule one c.option-2.ensures.rule in
    let three = c.in_ok-arg-3.ensures.shape c.option-3.ensures.local ∙ ap₂ with_rule two c.option-3.ensures.rule in
    let four = c.in_ok-arg-4.ensures.shape c.option-4.ensures.local ∙ ap₂ with_rule three c.option-4.ensures.rule in
    let five = c.in_ok-arg-5.ensures.shape c.trace.ensures.local ∙ ap₂ with_rule four c.trace.ensures.rule in
    let six = c.in_ok-arg-6.ensures.shape c.command.ensures.local ∙ ap₂ with_rule five c.command.ensures.rule in
    IfOk-weaker c.arg-7.result _ _ (λ r adds. adds.shape c.rest.ensures.local ∙ ap₂ with_rule six c.rest.ensures.rule) c.arg-7.ensures
