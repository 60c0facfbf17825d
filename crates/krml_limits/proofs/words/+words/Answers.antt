use Rattle.std.proofs.Common.{sym, ap, ◌∙◌}
use Rattle.std.specs.List.{flat_map}
use Rattle.krml_syntax.specs.Limits.{first_above, word_lengths}
use Rattle.krml_syntax.proofs.Limits.{words_of_list}
use Rattle.krml_limits.proofs.Above.{loop_finds, loop_goes}
use Rattle.krml_limits.proofs.words.+words.Goals as goal

pub long_word-returns-in-List : goal.long_word-returns-in-List
long_word-returns-in-List t c =
    c.long_word_of.ensures ∙ ap (λ fs. first_above c.args.limit (flat_map word_lengths fs)) c.as_slice-in-List.ensures
    ∙ sym (ap (λ f. first_above c.args.limit (word_lengths f)) c.in-List.is ∙ ap (first_above c.args.limit) (words_of_list c.in-List.forms))

pub long_word_of-returns-in-Some : goal.long_word_of-returns-in-Some
long_word_of-returns-in-Some t c =
    loop_finds word_lengths c.args.limit c.args.forms.now c.loop-form.form-index c.form-item.result c.in-Some.length c.loop-form-test.true c.form-item.is c.loop-form.invariant c.in-Some.ensures

pub long_word_of-loop-form-preserved : goal.long_word_of-loop-form-preserved
long_word_of-loop-form-preserved t c =
    loop_goes word_lengths c.args.limit c.args.forms.now c.loop-form.form-index c.form-item.result c.loop-form-test.true c.form-item.is c.loop-form.invariant c.in_default.ensures
