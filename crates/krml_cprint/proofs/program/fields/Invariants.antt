use Rattle.std.proofs.Common.{◌≡◌, ◌++◌, drop}
use Rattle.std.specs.List.{flat_map}
use Rattle.krml_ctree.specs.Text.{as_text, ended, declarator}
use Rattle.krml_cprint.proofs.program.fields.Given as goal

abbrev pub invariant-loop-field : goal.invariant-loop-field
invariant-loop-field l = l.out.items ++ flat_map (λ f. ended as_text 1 (declarator as_text f)) (drop l.field-index l.all) ≡ l.initial.out.items ++ flat_map (λ f. ended as_text 1 (declarator as_text f)) l.all
