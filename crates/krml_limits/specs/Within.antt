-- A file within the limits.
use Rattle.std.specs.Prelude.{◌≤◌, List}
use Rattle.std.specs.List.{AllByRecursion}
use Rattle.krml_forms.specs.declared.form.Form.{Form}
use Rattle.krml_syntax.specs.declared.limit.LimitKind.{LimitKind}
use Rattle.krml_syntax.specs.declared.tree.Def.{Def}
use Rattle.krml_syntax.specs.Limits.{limit_of, counts}

-- Each count of each kind is at most the limit of the kind.
abbrev pub IsWithin : List Form → List Def → Type 0
IsWithin fs defs = (kind : LimitKind) → AllByRecursion (λ n. n ≤ limit_of kind) (counts kind fs defs)
