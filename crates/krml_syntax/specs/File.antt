-- What a text spells.
use Rattle.std.specs.Prelude.{◌≡◌, ℕ, ◌≤◌, List, length, None}
use Rattle.krml_trace.specs.Limits.{max_text, max_levels}
use Rattle.krml_forms.specs.declared.form.Form.{Form}
use Rattle.krml_forms.specs.Levels.{AllWithin}
use Rattle.krml_forms.specs.Text.{HasForms}
use Rattle.krml_syntax.specs.declared.tree.SourceFile.{SourceFile}
use Rattle.krml_syntax.specs.Limits.{first_excess}
use Rattle.krml_syntax.specs.Spelling.{SpellsDefs}

-- A text spells a file within the limits.
pub record SpellsFile (text : List ℕ) (file : SourceFile) : Type 0 where
  pub forms : List Form
  pub short : length text ≤ max_text
  pub has : HasForms text forms
  pub levels : AllWithin max_levels forms
  pub spelled : SpellsDefs forms file.defs
  pub limits : first_excess forms file.defs ≡ None
